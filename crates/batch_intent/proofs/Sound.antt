-- An intent with nothing wrong is spelled.
use Rattle.std.proofs.Common.{◌≡◌, inl, inr, ℕ, zero, suc, ◌+◌, ◌-◌, ◌<◌, ◌≤◌, ◌==◌, nat_le, nat_lt, Bool, true, false, cond, not, ◌&&◌, ◌||◌, T, List, [], ◌∷◌, ◌++◌, length, refl, sym, ap, subst, ◌∙◌, arith, length-append, Option, Some, None, is_some}
use Rattle.std.specs.List.{flat_map, list_all}
use Rattle.std.proofs.lemmas.Bool.{cases_lt, eqb-true, leb-true}
use Rattle.std.proofs.lemmas.Bool.Decides.{nat_tests}
use Rattle.std.proofs.lemmas.List.{append-nil, get_or_append_left, get_or-append_right}
use Rattle.std.proofs.lemmas.List.Concat.{flat_map-append}
use Rattle.station.specs.Bytes.{byte}
use Rattle.station.proofs.Ranges.{byte-slice_range, length-slice_range}
use Rattle.batch_intent.specs.declared.places.TheConstants.{INTENT_SIZE}
use Rattle.map_model.specs.Store.{Update, bind, unbind}
use Rattle.map_model.specs.Items.{are_distinct}
use Rattle.map_model.specs.ItemWords.{has_item}
use Rattle.batch_intent.specs.declared.intent.TheConstants.{MOST_ITEMS}
use Rattle.batch_intent.specs.Spelling.{item_bytes, intent_bytes, fits_item, Spells, key_field, value_field, item_at, after_item, items_in, items_from, place_from}
use Rattle.key_slot.specs.Format.{key_room, value_room}
use Rattle.batch_intent.specs.IntentReasons.{is_kind, is_item, is_wrong_item, first_wrong, wrong_place}
use Rattle.batch_intent.proofs.Buffers.{fields_written}
use Rattle.batch_intent.proofs.ItemsRead.{place_next, items_next, length-items_from, key_of-item_at}
use Rattle.batch_intent.proofs.Kept.{distinct_more, all_more}

-- Tests.

true_of : (b : Bool) → T b → b ≡ true
true_of true h = refl
true_of false h = absurd h

told : (b : Bool) → b ≡ true → T b
told b e = subst T (sym e) tt

both : (a b : Bool) → (a && b) ≡ true → (a ≡ true) × (b ≡ true)
both true b e = (refl, e)
both false b e = absurd (cc)

three : (x y z : Bool) → x ≡ true → y ≡ true → z ≡ true → T (x && (y && z))
three x y z p q r = told (x && (y && z)) (λ t. p t && (q t && r t))

neither : (a b : Bool) → (not a || b) ≡ false → (a ≡ true) × (b ≡ false)
neither true b e = (refl, e)
neither false b e = absurd (cc)

-- what was found of an item
pub record IsSpelled (format : ℕ) (bytes : List ℕ) (p : ℕ) (u : Update) : Type 0 where
  pub size : p + length (item_bytes u) ≡ after_item bytes p
  pub spelled : (k : ℕ) → k < length (item_bytes u) → byte bytes (p + k) ≡ byte (item_bytes u) k
  pub fits : T (fits_item format u)

module _ (format : ℕ) (bytes : List ℕ) (p : ℕ) (long : length bytes ≡ INTENT_SIZE) (within : after_item bytes p ≤ INTENT_SIZE)
    (some : nat_le 1 (byte bytes (p + 1)) ≡ true) (key_most : nat_le (byte bytes (p + 1)) (key_room format) ≡ true) (value_most : nat_le (byte bytes (p + 2)) (value_room format) ≡ true) where
  key_size : length (key_field bytes p) ≡ byte bytes (p + 1)
  key_size = length-slice_range bytes (p + 3) (p + 3 + byte bytes (p + 1)) (omega arith) (omega (arith, within, long)) ∙ omega arith

  value_size : length (value_field bytes p) ≡ byte bytes (p + 2)
  value_size = length-slice_range bytes (p + 3 + byte bytes (p + 1)) (p + 3 + byte bytes (p + 1) + byte bytes (p + 2)) (omega arith) (omega (arith, within, long)) ∙ omega arith

  key_there : (k : ℕ) → k < length (key_field bytes p) → byte bytes (p + 3 + k) ≡ byte (key_field bytes p) k
  key_there k lt = sym (byte-slice_range bytes (p + 3) (p + 3 + byte bytes (p + 1)) k (omega (arith, lt, key_size)))

  value_there : (k : ℕ) → k < length (value_field bytes p) → byte bytes (p + 3 + length (key_field bytes p) + k) ≡ byte (value_field bytes p) k
  value_there k lt =
      let e : p + 3 + length (key_field bytes p) + k ≡ p + 3 + byte bytes (p + 1) + k = omega (arith, key_size) in
      ap (byte bytes) e ∙ sym (byte-slice_range bytes (p + 3 + byte bytes (p + 1)) (p + 3 + byte bytes (p + 1) + byte bytes (p + 2)) k (omega (arith, lt, value_size)))

  -- the head of an item with these sizes
  head_there : (x y z : ℕ) → byte bytes p ≡ x → byte bytes (p + 1) ≡ y → byte bytes (p + 2) ≡ z → (k : ℕ) → k < 3 → byte bytes (p + k) ≡ byte (x ∷ y ∷ z ∷ []) k
  head_there x y z a b c zero lt = let e : p + 0 ≡ p = omega arith in ap (byte bytes) e ∙ a
  head_there x y z a b c (suc zero) lt = b
  head_there x y z a b c (suc (suc zero)) lt = c
  head_there x y z a b c (suc (suc (suc k))) lt = absurd (omega arith)

  bind_spelled : byte bytes p ≡ 1 → IsSpelled format bytes p (bind (key_field bytes p) (value_field bytes p))
  bind_spelled kind =
      let key = key_field bytes p in
      let value = value_field bytes p in
      record {
        size = omega (arith, key_size, value_size, length-append key value);
        spelled = λ k lt. fields_written 1 (length key) (length value) key value p bytes bytes bytes bytes (head_there 1 (length key) (length value) kind (sym key_size) (sym value_size)) (λ i out. refl) key_there (λ i out. refl) value_there (λ i out. refl) k (omega (arith, lt, length-append key value));
        fits = three (nat_le 1 (length key)) (nat_le (length key) (key_room format)) (nat_le (length value) (value_room format)) (ap (nat_le 1) key_size ∙ some) (ap (λ (n : ℕ). nat_le n (key_room format)) key_size ∙ key_most) (ap (λ (n : ℕ). nat_le n (value_room format)) value_size ∙ value_most);
      }

  unbind_spelled : byte bytes p ≡ 2 → byte bytes (p + 2) ≡ 0 → IsSpelled format bytes p (unbind (key_field bytes p))
  unbind_spelled kind none =
      let key = key_field bytes p in
      let nil : key ++ [] ≡ key = append-nil key in
      record {
        size = omega (arith, key_size, none);
        spelled = λ k lt. fields_written 2 (length key) 0 key [] p bytes bytes bytes bytes (head_there 2 (length key) 0 kind (sym key_size) none) (λ i out. refl) key_there (λ i out. refl) (λ i less. absurd (omega arith)) (λ i out. refl) k (omega (arith, lt)) ∙ ap (λ (b : List ℕ). byte (2 ∷ length key ∷ 0 ∷ b) k) nil;
        fits = three (nat_le 1 (length key)) (nat_le (length key) (key_room format)) (nat_le 0 (value_room format)) (ap (nat_le 1) key_size ∙ some) (ap (λ (n : ℕ). nat_le n (key_room format)) key_size ∙ key_most) (zero_le (value_room format));
      }
    where
      zero_le : (n : ℕ) → nat_le 0 n ≡ true
      zero_le n = grind (arith, nat_tests)

  by_kind : (b : Bool) → (byte bytes p == 1) ≡ b → is_kind (byte bytes p) (byte bytes (p + 2)) ≡ true → IsSpelled format bytes p (cond b (bind (key_field bytes p) (value_field bytes p)) (unbind (key_field bytes p)))
  by_kind true e kind = bind_spelled (eqb-true (byte bytes p) 1 e)
  by_kind false e kind =
      let other : ((byte bytes p == 2) && (byte bytes (p + 2) == 0)) ≡ true = sym (ap (λ (c : Bool). c || ((byte bytes p == 2) && (byte bytes (p + 2) == 0))) e) ∙ kind in
      let parts = both (byte bytes p == 2) (byte bytes (p + 2) == 0) other in
      unbind_spelled (eqb-true (byte bytes p) 2 parts.0) (eqb-true (byte bytes (p + 2)) 0 parts.1)

-- an item that was validated is spelled there
pub item_spelled : (format : ℕ) (bytes : List ℕ) (p : ℕ) → length bytes ≡ INTENT_SIZE → is_item format bytes p ≡ true → IsSpelled format bytes p (item_at bytes p) × (after_item bytes p ≤ INTENT_SIZE)
item_spelled format bytes p long is =
    let a = both (is_kind (byte bytes p) (byte bytes (p + 2))) (nat_le 1 (byte bytes (p + 1)) && (nat_le (byte bytes (p + 1)) (key_room format) && (nat_le (byte bytes (p + 2)) (value_room format) && nat_le (after_item bytes p) INTENT_SIZE))) is in
    let b = both (nat_le 1 (byte bytes (p + 1))) (nat_le (byte bytes (p + 1)) (key_room format) && (nat_le (byte bytes (p + 2)) (value_room format) && nat_le (after_item bytes p) INTENT_SIZE)) a.1 in
    let c = both (nat_le (byte bytes (p + 1)) (key_room format)) (nat_le (byte bytes (p + 2)) (value_room format) && nat_le (after_item bytes p) INTENT_SIZE) b.1 in
    let d = both (nat_le (byte bytes (p + 2)) (value_room format)) (nat_le (after_item bytes p) INTENT_SIZE) c.1 in
    let within : after_item bytes p ≤ INTENT_SIZE = leb-true (after_item bytes p) INTENT_SIZE d.1 in
    (by_kind format bytes p long within b.0 c.0 d.0 (byte bytes p == 1) refl a.0, within)

-- Items in a row.

-- the first n items, with nothing wrong
pub record AllRight (format : ℕ) (bytes : List ℕ) (items : List Update) (place : ℕ) : Type 0 where
  pub within : place ≤ INTENT_SIZE
  pub size : length (flat_map item_bytes items) + 1 ≡ place
  pub spelled : (k : ℕ) → k < length (flat_map item_bytes items) → byte bytes (suc k) ≡ byte (flat_map item_bytes items) k
  pub distinct : are_distinct items ≡ true
  pub fit : T (list_all (fits_item format) items)

more_right : (format : ℕ) (bytes : List ℕ) (items : List Update) (p : ℕ) → length bytes ≡ INTENT_SIZE → AllRight format bytes items p → is_item format bytes p ≡ true → has_item (key_field bytes p) items ≡ false → AllRight format bytes (items ++ item_at bytes p ∷ []) (after_item bytes p)
more_right format bytes items p long all is other =
    let u = item_at bytes p in
    let found = item_spelled format bytes p long is in
    let flat : flat_map item_bytes (items ++ u ∷ []) ≡ flat_map item_bytes items ++ item_bytes u = flat_map-append item_bytes items (u ∷ []) ∙ ap (λ (b : List ℕ). flat_map item_bytes items ++ b) (append-nil (item_bytes u)) in
    let size = ap length flat ∙ length-append (flat_map item_bytes items) (item_bytes u) in
    record {
      within = found.1;
      size = omega (arith, size, all.size, found.0.size);
      spelled = λ k lt. elim (cases_lt k (length (flat_map item_bytes items))) [
        | inl low ↦ all.spelled k low ∙ sym (ap (λ (b : List ℕ). byte b k) flat ∙ get_or_append_left (flat_map item_bytes items) (item_bytes u) 0 k low)
        | inr high ↦
            let e : suc k ≡ p + (k - length (flat_map item_bytes items)) = omega (arith, high, all.size) in
            ap (byte bytes) e ∙ found.0.spelled (k - length (flat_map item_bytes items)) (omega (arith, lt, size, high))
            ∙ sym (ap (λ (b : List ℕ). byte b k) flat ∙ get_or-append_right (flat_map item_bytes items) (item_bytes u) (length (flat_map item_bytes items)) k 0 refl high)
      ];
      distinct = distinct_more items u all.distinct (ap (λ (q : List ℕ). has_item q items) (key_of-item_at bytes p) ∙ other);
      fit = all_more (fits_item format) items u all.fit found.0.fits;
    }

none_and : (before : Option ℕ) (w : Bool) (place : ℕ) → cond (is_some before) before (cond w (Some place) None) ≡ None → (before ≡ None) × (w ≡ false)
none_and None true place e = absurd (cc)
none_and None false place e = (refl, refl)
none_and (Some x) w place e = absurd (cc)

module _ (format : ℕ) (bytes : List ℕ) (long : length bytes ≡ INTENT_SIZE) where
  all_right : (n : ℕ) → first_wrong format bytes n ≡ None → AllRight format bytes (items_from bytes n 1) (place_from bytes n 1)
  unfolding first_wrong
  all_right zero none = record { within = omega arith; size = omega arith; spelled = λ k lt. absurd (omega arith); distinct = refl; fit = tt }
  all_right (suc n) none =
      let parts = none_and (first_wrong format bytes n) (is_wrong_item format bytes n) (place_from bytes n 1) none in
      let right = neither (is_item format bytes (place_from bytes n 1)) (has_item (key_field bytes (place_from bytes n 1)) (items_from bytes n 1)) parts.1 in
      let more = more_right format bytes (items_from bytes n 1) (place_from bytes n 1) long (all_right n parts.0) right.0 right.1 in
      subst (λ (us : List Update). AllRight format bytes us (place_from bytes (suc n) 1)) (sym (items_next bytes n 1))
      (subst (AllRight format bytes (items_from bytes n 1 ++ item_at bytes (place_from bytes n 1) ∷ [])) (sym (place_next bytes n 1)) more)

  counted_none : (b : Bool) (x : Option ℕ) → cond b (Some 0) x ≡ None → (b ≡ false) × (x ≡ None)
  counted_none true x e = absurd (cc)
  counted_none false x e = (refl, e)

  few_some : (n : ℕ) → ((n == 0) || nat_lt MOST_ITEMS n) ≡ false → (1 ≤ n) × (n ≤ MOST_ITEMS)
  few_some n e = (grind (arith, nat_tests, e), grind (arith, nat_tests, e))

  pub spells_of_none : wrong_place format bytes ≡ None → Spells format (items_in bytes) bytes
  unfolding items_in
  spells_of_none none =
      let parts = counted_none ((byte bytes 0 == 0) || nat_lt MOST_ITEMS (byte bytes 0)) (first_wrong format bytes (byte bytes 0)) none in
      let few = few_some (byte bytes 0) parts.0 in
      let items = items_from bytes (byte bytes 0) 1 in
      let count : length items ≡ byte bytes 0 = length-items_from bytes (byte bytes 0) 1 in
      let all = all_right (byte bytes 0) parts.1 in
      record {
        some = omega (arith, few.0, count);
        intent = record { most = omega (arith, few.1, count); distinct = all.distinct; size = omega (arith, all.size, all.within) };
        fit = all.fit;
        spelled = first_or_later items count all;
      }
    where
      first_or_later : (items : List Update) → length items ≡ byte bytes 0 → AllRight format bytes items (place_from bytes (byte bytes 0) 1) → (k : ℕ) → k < length (intent_bytes items) → byte bytes k ≡ byte (intent_bytes items) k
      first_or_later items count all zero lt = sym count
      first_or_later items count all (suc k) lt = all.spelled k (omega arith)
