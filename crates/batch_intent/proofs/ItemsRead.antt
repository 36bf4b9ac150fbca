-- Items are read as they are spelled.
use Rattle.std.proofs.Common.{◌≡◌, ℕ, zero, suc, ◌+◌, ◌<◌, ◌≤◌, ◌==◌, Bool, true, false, cond, ◌||◌, List, [], ◌∷◌, ◌++◌, length, get_or, refl, ap, ◌∙◌, arith, length-append}
use Rattle.std.proofs.lemmas.List.{get_or_append_left, get_or-append-add}
use Rattle.std.specs.Prelude.{slice_range}
use Rattle.std.specs.Str.{bytes_eq}
use Rattle.std.specs.List.{flat_map}
use Rattle.station.specs.Bytes.{byte}
use Rattle.map_model.specs.Store.{Update, bind, unbind, key_of}
use Rattle.map_model.specs.ItemWords.{has_item}
use Rattle.batch_intent.specs.Spelling.{item_bytes, intent_bytes, key_field, value_field, item_at, after_item, items_from, place_from}
use Rattle.batch_intent.proofs.Buffers.{range_is}

-- Places.

pub place_next : (bytes : List ℕ) (n p : ℕ) → place_from bytes (suc n) p ≡ after_item bytes (place_from bytes n p)
place_next bytes zero p = refl
place_next bytes (suc n) p = place_next bytes n (after_item bytes p)

pub items_next : (bytes : List ℕ) (n p : ℕ) → items_from bytes (suc n) p ≡ items_from bytes n p ++ item_at bytes (place_from bytes n p) ∷ []
items_next bytes zero p = refl
items_next bytes (suc n) p = ap (λ (us : List Update). item_at bytes p ∷ us) (items_next bytes n (after_item bytes p))

pub length-items_from : (bytes : List ℕ) (n p : ℕ) → length (items_from bytes n p) ≡ n
length-items_from bytes zero p = refl
length-items_from bytes (suc n) p = omega (arith, length-items_from bytes n (after_item bytes p))

pub place_above : (bytes : List ℕ) (n p : ℕ) → p ≤ place_from bytes n p
place_above bytes zero p = omega arith
place_above bytes (suc n) p = omega (arith, place_above bytes n (after_item bytes p))

pub place_rises : (bytes : List ℕ) (i n p : ℕ) → i ≤ n → place_from bytes i p ≤ place_from bytes n p
place_rises bytes zero n p le = place_above bytes n p
place_rises bytes (suc i) zero p le = absurd (omega arith)
place_rises bytes (suc i) (suc n) p le = place_rises bytes i n (after_item bytes p) (omega arith)

pub item_from : (bytes : List ℕ) (n p i : ℕ) (d : Update) → i < n → get_or (items_from bytes n p) i d ≡ item_at bytes (place_from bytes i p)
item_from bytes zero p i d lt = absurd (omega arith)
item_from bytes (suc n) p zero d lt = refl
item_from bytes (suc n) p (suc i) d lt = item_from bytes n (after_item bytes p) i d (omega arith)

-- Keys.

keyed : (b : Bool) (k v : List ℕ) → key_of (cond b (bind k v) (unbind k)) ≡ k
keyed true k v = refl
keyed false k v = refl

pub key_of-item_at : (bytes : List ℕ) (p : ℕ) → key_of (item_at bytes p) ≡ key_field bytes p
key_of-item_at bytes p = keyed (byte bytes p == 1) (key_field bytes p) (value_field bytes p)

either : (a b : Bool) → a ≡ true → (a || b) ≡ true
either a b e = ap (λ (c : Bool). c || b) e

or_true : (a : Bool) → (a || true) ≡ true
or_true true = refl
or_true false = refl

pub has_item-append : (q : List ℕ) (us vs : List Update) → has_item q (us ++ vs) ≡ (has_item q us || has_item q vs)
has_item-append q [] vs = refl
has_item-append q (u ∷ us) vs = ap (λ (b : Bool). bytes_eq q (key_of u) || b) (has_item-append q us vs) ∙ grouped (bytes_eq q (key_of u)) (has_item q us) (has_item q vs)
  where
    grouped : (a b c : Bool) → (a || (b || c)) ≡ ((a || b) || c)
    grouped true b c = refl
    grouped false b c = refl

pub has_item-one : (q : List ℕ) (u : Update) → has_item q (u ∷ []) ≡ bytes_eq q (key_of u)
has_item-one q u = no_more (bytes_eq q (key_of u))
  where
    no_more : (b : Bool) → (b || false) ≡ b
    no_more true = refl
    no_more false = refl

-- a key that item i has is found
pub found_from : (q bytes : List ℕ) (n p i : ℕ) → i < n → bytes_eq q (key_field bytes (place_from bytes i p)) ≡ true → has_item q (items_from bytes n p) ≡ true
found_from q bytes zero p i lt is = absurd (omega arith)
found_from q bytes (suc n) p zero lt is = either (bytes_eq q (key_of (item_at bytes p))) (has_item q (items_from bytes n (after_item bytes p))) (ap (bytes_eq q) (key_of-item_at bytes p) ∙ is)
found_from q bytes (suc n) p (suc i) lt is =
    ap (λ (b : Bool). bytes_eq q (key_of (item_at bytes p)) || b) (found_from q bytes n (after_item bytes p) i (omega arith) is) ∙ or_true (bytes_eq q (key_of (item_at bytes p)))

-- a key that isn't among the first n, nor that of the next one, isn't among the first n + 1
pub missed_next : (q bytes : List ℕ) (n p : ℕ) → has_item q (items_from bytes n p) ≡ false → bytes_eq q (key_field bytes (place_from bytes n p)) ≡ false → has_item q (items_from bytes (suc n) p) ≡ false
missed_next q bytes n p none other =
    ap (has_item q) (items_next bytes n p)
    ∙ has_item-append q (items_from bytes n p) (item_at bytes (place_from bytes n p) ∷ [])
    ∙ ap (λ (b : Bool). b || has_item q (item_at bytes (place_from bytes n p) ∷ [])) none
    ∙ has_item-one q (item_at bytes (place_from bytes n p))
    ∙ ap (bytes_eq q) (key_of-item_at bytes (place_from bytes n p))
    ∙ other

-- One item.

module _ (u : Update) (bytes : List ℕ) (p : ℕ) (within : p + length (item_bytes u) ≤ length bytes) (is : (k : ℕ) → k < length (item_bytes u) → byte bytes (p + k) ≡ byte (item_bytes u) k) where
  at_place : (k n : ℕ) → n ≡ p + k → k < length (item_bytes u) → byte bytes n ≡ byte (item_bytes u) k
  at_place k n e lt = ap (byte bytes) e ∙ is k lt

reads_bind : (key value bytes : List ℕ) (p : ℕ) → p + length (item_bytes (bind key value)) ≤ length bytes → ((k : ℕ) → k < length (item_bytes (bind key value)) → byte bytes (p + k) ≡ byte (item_bytes (bind key value)) k)
    → (item_at bytes p ≡ bind key value) × (after_item bytes p ≡ p + length (item_bytes (bind key value)))
reads_bind key value bytes p within is =
    let at = at_place (bind key value) bytes p within is in
    let size = length-append key value in
    let kind : byte bytes p ≡ 1 = at 0 p (omega arith) (omega arith) in
    let a : byte bytes (p + 1) ≡ length key = at 1 (p + 1) refl (omega arith) in
    let b : byte bytes (p + 2) ≡ length value = at 2 (p + 2) refl (omega arith) in
    let key_is : key_field bytes p ≡ key =
    ap (λ (n : ℕ). slice_range bytes (p + 3) (p + 3 + n)) a
    ∙ range_is bytes key (p + 3) (omega (arith, within, size)) (λ k lt. at (suc (suc (suc k))) (p + 3 + k) (omega arith) (omega (arith, lt, size)) ∙ get_or_append_left key value 0 k lt) in
    let value_is : value_field bytes p ≡ value =
    (λ t. slice_range bytes (p + 3 + a t) (p + 3 + a t + b t))
    ∙ range_is bytes value (p + 3 + length key) (omega (arith, within, size)) (λ k lt. at (suc (suc (suc (length key + k)))) (p + 3 + length key + k) (omega arith) (omega (arith, lt, size)) ∙ get_or-append-add key value k 0) in
    (ap (λ (n : ℕ). cond (n == 1) (bind (key_field bytes p) (value_field bytes p)) (unbind (key_field bytes p))) kind ∙ (λ t. bind (key_is t) (value_is t)), omega (arith, a, b, size))

reads_unbind : (key bytes : List ℕ) (p : ℕ) → p + length (item_bytes (unbind key)) ≤ length bytes → ((k : ℕ) → k < length (item_bytes (unbind key)) → byte bytes (p + k) ≡ byte (item_bytes (unbind key)) k)
    → (item_at bytes p ≡ unbind key) × (after_item bytes p ≡ p + length (item_bytes (unbind key)))
reads_unbind key bytes p within is =
    let at = at_place (unbind key) bytes p within is in
    let kind : byte bytes p ≡ 2 = at 0 p (omega arith) (omega arith) in
    let a : byte bytes (p + 1) ≡ length key = at 1 (p + 1) refl (omega arith) in
    let b : byte bytes (p + 2) ≡ 0 = at 2 (p + 2) refl (omega arith) in
    let key_is : key_field bytes p ≡ key =
    ap (λ (n : ℕ). slice_range bytes (p + 3) (p + 3 + n)) a
    ∙ range_is bytes key (p + 3) (omega (arith, within)) (λ k lt. at (suc (suc (suc k))) (p + 3 + k) (omega arith) (omega (arith, lt))) in
    (ap (λ (n : ℕ). cond (n == 1) (bind (key_field bytes p) (value_field bytes p)) (unbind (key_field bytes p))) kind ∙ ap unbind key_is, omega (arith, a, b))

pub reads_item : (u : Update) (bytes : List ℕ) (p : ℕ) → p + length (item_bytes u) ≤ length bytes → ((k : ℕ) → k < length (item_bytes u) → byte bytes (p + k) ≡ byte (item_bytes u) k)
    → (item_at bytes p ≡ u) × (after_item bytes p ≡ p + length (item_bytes u))
reads_item (bind key value) bytes p within is = reads_bind key value bytes p within is
reads_item (unbind key) bytes p within is = reads_unbind key bytes p within is

-- Items in a row.

pub reads_from : (us : List Update) (bytes : List ℕ) (p : ℕ) → p + length (flat_map item_bytes us) ≤ length bytes → ((k : ℕ) → k < length (flat_map item_bytes us) → byte bytes (p + k) ≡ byte (flat_map item_bytes us) k)
    → (items_from bytes (length us) p ≡ us) × (place_from bytes (length us) p ≡ p + length (flat_map item_bytes us))
reads_from [] bytes p within is = (refl, omega arith)
reads_from (u ∷ us) bytes p within is =
    let size = length-append (item_bytes u) (flat_map item_bytes us) in
    let first = reads_item u bytes p (omega (arith, within, size)) (λ k lt. is k (omega (arith, lt, size)) ∙ get_or_append_left (item_bytes u) (flat_map item_bytes us) 0 k lt) in
    let rest = reads_from us bytes (p + length (item_bytes u)) (omega (arith, within, size)) (λ k lt.
    let e : p + length (item_bytes u) + k ≡ p + (length (item_bytes u) + k) = omega arith in
    ap (byte bytes) e ∙ is (length (item_bytes u) + k) (omega (arith, lt, size)) ∙ get_or-append-add (item_bytes u) (flat_map item_bytes us) k 0) in (
      (λ t. first.0 t ∷ items_from bytes (length us) (first.1 t)) ∙ ap (λ (vs : List Update). u ∷ vs) rest.0,
      ap (place_from bytes (length us)) first.1 ∙ rest.1 ∙ omega (arith, size),
    )

-- what an intent's spelling reads as
pub record ReadsAs (us : List Update) (bytes : List ℕ) : Type 0 where
  pub count : byte bytes 0 ≡ length us
  pub items : items_from bytes (byte bytes 0) 1 ≡ us
  pub end : place_from bytes (byte bytes 0) 1 ≡ length (intent_bytes us)

pub reads_intent : (us : List Update) (bytes : List ℕ) → length (intent_bytes us) ≤ length bytes → ((k : ℕ) → k < length (intent_bytes us) → byte bytes k ≡ byte (intent_bytes us) k) → ReadsAs us bytes
reads_intent us bytes within is =
    let count : byte bytes 0 ≡ length us = is 0 (omega arith) in
    let both = reads_from us bytes 1 (omega arith) (λ k lt. let e : 1 + k ≡ suc k = omega arith in ap (byte bytes) e ∙ is (suc k) (omega arith)) in
    record {
      count = count;
      items = ap (λ (n : ℕ). items_from bytes n 1) count ∙ both.0;
      end = ap (λ (n : ℕ). place_from bytes n 1) count ∙ both.1 ∙ omega arith;
    }

-- an item that lies before the end has its bytes there
pub room_at : (bytes : List ℕ) (n i limit : ℕ) → i < n → place_from bytes n 1 ≤ limit → after_item bytes (place_from bytes i 1) ≤ limit
room_at bytes n i limit lt within = omega (arith, within, place_next bytes i 1, place_rises bytes (suc i) n 1 (omega arith))
