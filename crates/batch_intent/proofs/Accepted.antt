-- An intent that is spelled has nothing wrong.
use Rattle.std.proofs.Common.{◌≡◌, ℕ, zero, suc, ◌+◌, ◌<◌, ◌≤◌, nat_le, Bool, true, false, not, ◌&&◌, ◌||◌, T, List, [], ◌∷◌, ◌++◌, length, take, drop, get_or, refl, sym, ap, ◌∙◌, arith, length-append, None}
use Rattle.std.specs.List.{flat_map}
use Rattle.std.proofs.lemmas.Bool.Decides.{nat_tests}
use Rattle.std.proofs.lemmas.List.{take-append-drop, length-take-le, get_or_append_left}
use Rattle.std.proofs.lemmas.List.Concat.{flat_map-append, get_or-flat_map}
use Rattle.std.proofs.lemmas.List.Folds.{length-flat_map-take}
use Rattle.station.specs.Bytes.{byte}
use Rattle.batch_intent.specs.declared.places.TheConstants.{INTENT_SIZE}
use Rattle.map_model.specs.Store.{Update, bind, unbind, key_of}
use Rattle.map_model.specs.ItemWords.{has_item}
use Rattle.map_model.proofs.Resuming.{none_before}
use Rattle.batch_intent.specs.Spelling.{item_bytes, fits_item, Spells, key_field, item_at, after_item, items_from, place_from}
use Rattle.key_slot.specs.Format.{key_room, value_room}
use Rattle.batch_intent.specs.IntentReasons.{is_kind, is_item, is_wrong_item, first_wrong, wrong_place}
use Rattle.batch_intent.proofs.ItemsRead.{reads_item, reads_from, reads_intent, key_of-item_at, ReadsAs}
use Rattle.batch_intent.proofs.Kept.{all_at}
use Rattle.batch_intent.proofs.Validated.{none_next, counted}

-- the first n items
pub take_from : (bytes : List ℕ) (n m p : ℕ) → n ≤ m → items_from bytes n p ≡ take n (items_from bytes m p)
take_from bytes zero m p le = refl
take_from bytes (suc n) zero p le = absurd (omega arith)
take_from bytes (suc n) (suc m) p le = ap (λ (us : List Update). item_at bytes p ∷ us) (take_from bytes n m (after_item bytes p) (omega arith))

-- an item of the format, by its bytes
five : (x y z w : Bool) → T (x && (y && z)) → w ≡ true → (x && (y && (z && w))) ≡ true
five true true true w h e = e
five true true false w h e = absurd h
five true false z w h e = absurd h
five false y z w h e = absurd h

item_is : (format : ℕ) (u : Update) (bytes : List ℕ) (p : ℕ) → T (fits_item format u) → ((k : ℕ) → k < length (item_bytes u) → byte bytes (p + k) ≡ byte (item_bytes u) k) → nat_le (after_item bytes p) INTENT_SIZE ≡ true → is_item format bytes p ≡ true
item_is format (bind key value) bytes p fits is room =
    let e : p ≡ p + 0 = omega arith in
    let kind : byte bytes p ≡ 1 = ap (byte bytes) e ∙ is 0 (omega arith) in
    let a : byte bytes (p + 1) ≡ length key = is 1 (omega arith) in
    let b : byte bytes (p + 2) ≡ length value = is 2 (omega arith) in
    (λ t. is_kind (kind t) (b t) && (nat_le 1 (a t) && (nat_le (a t) (key_room format) && (nat_le (b t) (value_room format) && nat_le (after_item bytes p) INTENT_SIZE))))
    ∙ five (nat_le 1 (length key)) (nat_le (length key) (key_room format)) (nat_le (length value) (value_room format)) (nat_le (after_item bytes p) INTENT_SIZE) fits room
item_is format (unbind key) bytes p fits is room =
    let e : p ≡ p + 0 = omega arith in
    let kind : byte bytes p ≡ 2 = ap (byte bytes) e ∙ is 0 (omega arith) in
    let a : byte bytes (p + 1) ≡ length key = is 1 (omega arith) in
    let b : byte bytes (p + 2) ≡ 0 = is 2 (omega arith) in
    (λ t. is_kind (kind t) (b t) && (nat_le 1 (a t) && (nat_le (a t) (key_room format) && (nat_le (b t) (value_room format) && nat_le (after_item bytes p) INTENT_SIZE))))
    ∙ five (nat_le 1 (length key)) (nat_le (length key) (key_room format)) (nat_le 0 (value_room format)) (nat_le (after_item bytes p) INTENT_SIZE) fits room

module _ (format : ℕ) (items : List Update) (area : List ℕ) (size : length area ≡ INTENT_SIZE) (spells : Spells format items area) where
  reads : ReadsAs items area
  reads = reads_intent items area (omega (arith, size, spells.intent.size)) spells.spelled

  -- a byte behind the number of items
  inner : (k : ℕ) → k < length (flat_map item_bytes items) → byte area (1 + k) ≡ byte (flat_map item_bytes items) k
  inner k lt = let e : 1 + k ≡ suc k = omega arith in ap (byte area) e ∙ spells.spelled (suc k) (omega arith)

  abbrev front : ℕ → List ℕ
  front n = flat_map item_bytes (take n items)

  parted : (n : ℕ) → flat_map item_bytes items ≡ front n ++ flat_map item_bytes (drop n items)
  parted n = ap (flat_map item_bytes) (sym (take-append-drop n items)) ∙ flat_map-append item_bytes (take n items) (drop n items)

  -- where item n stands
  place_is : (n : ℕ) → n ≤ length items → place_from area n 1 ≡ 1 + length (front n)
  place_is n le =
      let count : length (take n items) ≡ n = length-take-le n items le in
      let whole = ap length (parted n) in
      let parts = length-append (front n) (flat_map item_bytes (drop n items)) in
      ap (λ (m : ℕ). place_from area m 1) (sym count)
      ∙ (reads_from (take n items) area 1 (omega (arith, whole, parts, size, spells.intent.size)) (λ k lt.
      inner k (omega (arith, lt, whole, parts)) ∙ ap (λ (b : List ℕ). byte b k) (parted n) ∙ get_or_append_left (front n) (flat_map item_bytes (drop n items)) 0 k lt)).1

  -- the bytes there
  there : (n : ℕ) (d : Update) → n < length items → (k : ℕ) → k < length (item_bytes (get_or items n d)) → byte area (place_from area n 1 + k) ≡ byte (item_bytes (get_or items n d)) k
  there n d lt k small =
      let e : place_from area n 1 + k ≡ 1 + (length (front n) + k) = omega (arith, place_is n (omega (arith, lt))) in
      ap (byte area) e
      ∙ inner (length (front n) + k) (omega (arith, small, length-flat_map-take item_bytes items n d lt))
      ∙ get_or-flat_map item_bytes items n k d 0 lt small

  -- and the item
  item_is_there : (n : ℕ) (d : Update) → n < length items → (item_at area (place_from area n 1) ≡ get_or items n d) × (after_item area (place_from area n 1) ≤ INTENT_SIZE)
  item_is_there n d lt =
      let room : place_from area n 1 + length (item_bytes (get_or items n d)) ≤ INTENT_SIZE =
      omega (arith, place_is n (omega (arith, lt)), length-flat_map-take item_bytes items n d lt, spells.intent.size) in
      let both = reads_item (get_or items n d) area (place_from area n 1) (omega (arith, room, size)) (there n d lt) in
      (both.0, omega (arith, both.1, room))

  right_at : (n : ℕ) → n < length items → is_wrong_item format area n ≡ false
  right_at n lt =
      let d : Update = unbind [] in
      let is = item_is_there n d lt in
      let item : is_item format area (place_from area n 1) ≡ true = item_is format (get_or items n d) area (place_from area n 1) (all_at (fits_item format) items n d lt spells.fit) (there n d lt) (le_true (after_item area (place_from area n 1)) INTENT_SIZE is.1) in
      let key : key_field area (place_from area n 1) ≡ key_of (get_or items n d) = sym (key_of-item_at area (place_from area n 1)) ∙ ap key_of is.0 in
      let before : items_from area n 1 ≡ take n items = take_from area n (byte area 0) 1 (omega (arith, reads.count, lt)) ∙ ap (take n) reads.items in
      (λ t. not (item t) || has_item (key t) (before t)) ∙ none_before items n d lt spells.intent.distinct
    where
      le_true : (m n : ℕ) → m ≤ n → nat_le m n ≡ true
      le_true m n le = grind (arith, nat_tests)

  none_to : (n : ℕ) → n ≤ length items → first_wrong format area n ≡ None
  unfolding first_wrong
  none_to zero le = refl
  none_to (suc n) le = none_next format area n (none_to n (omega arith)) (right_at n (omega arith))

  pub nothing_wrong : wrong_place format area ≡ None
  nothing_wrong =
      counted format area (λ e. omega (arith, e, reads.count, spells.some)) (omega (arith, reads.count, spells.intent.most))
      ∙ none_to (byte area 0) (omega (arith, reads.count))
