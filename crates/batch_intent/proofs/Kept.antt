-- What an intent keeps, read and pushed.
use Rattle.std.proofs.Common.{◌≡◌, inl, inr, ℕ, zero, suc, ◌+◌, ◌-◌, ◌<◌, ◌≤◌, Bool, true, false, cond, not, ◌&&◌, ◌||◌, T, List, [], ◌∷◌, ◌++◌, length, get_or, replicate, refl, sym, ap, subst, ◌∙◌, arith, length-append, slice_set, nat_le, nat_lt, Some, None}
use Rattle.std.proofs.lemmas.Bool.Decides.{nat_tests}
use Rattle.std.specs.List.{flat_map, list_all}
use Rattle.std.specs.Str.{bytes_eq}
use Rattle.std.specs.Cmp.Lexicographic.{nat_list_eq_equiv}
use Rattle.std.proofs.lemmas.Bool.{cases_lt}
use Rattle.std.proofs.lemmas.List.{get_or_append_left, get_or-append_right, get_or_past, get_or-replicate, length-replicate, get_or-set_same, get_or-set_other, length-set, ext_get_or}
use Rattle.std.proofs.lemmas.List.Concat.{flat_map-append}
use Rattle.station.specs.Bytes.{byte, InRange, SameBut}
use Rattle.key_slot.specs.Padded.{padded}
use Rattle.key_slot.specs.declared.sizes.TheConstants.{MAX_KEY_LEN, MAX_VALUE_LEN}
use Rattle.batch_intent.specs.declared.places.TheConstants.{INTENT_SIZE}
use Rattle.map_model.specs.Store.{Update, unbind, key_of}
use Rattle.map_model.specs.Items.{are_distinct}
use Rattle.map_model.specs.ItemWords.{has_item}
use Rattle.batch_intent.specs.declared.intent.IntentFault.TheVariants.{TooMany, Repeated, TooLong}
use Rattle.batch_intent.specs.declared.intent.TheConstants.{MOST_ITEMS}
use Rattle.batch_intent.specs.Pushing.{push_fault}
use Rattle.batch_intent.specs.Spelling.{item_bytes, intent_bytes, has_sizes, items_in, item_at, items_from, place_from}
use Rattle.batch_intent.specs.Keeping.{KeepsBy}
use Rattle.batch_intent.proofs.ItemsRead.{ReadsAs, reads_intent, item_from, place_rises}

-- No items.

pub no_items : items_in (replicate INTENT_SIZE 0) ≡ []
unfolding items_in
no_items = refl

pub none_kept : KeepsBy (items_in (replicate INTENT_SIZE 0)) (replicate INTENT_SIZE 0) 1
unfolding items_in
none_kept = record {
  intent = record { most = omega arith; distinct = refl; size = omega arith };
  sizes = tt;
  spelled = refl;
  end_is = refl;
}

-- Zeros behind bytes.

pub byte-padded : (n : ℕ) (bytes : List ℕ) (k : ℕ) → byte (padded n bytes) k ≡ byte bytes k
byte-padded n bytes k = elim (cases_lt k (length bytes)) [
  | inl inner ↦ get_or_append_left bytes (replicate (n - length bytes) 0) 0 k inner
  | inr outer ↦
      get_or-append_right bytes (replicate (n - length bytes) 0) (length bytes) k 0 refl outer
      ∙ zeros (n - length bytes) (k - length bytes)
      ∙ sym (get_or_past bytes k 0 outer)
]
  where
    zeros : (m i : ℕ) → byte (replicate m 0) i ≡ 0
    zeros m i = elim (cases_lt i m) [
      | inl inner ↦ get_or-replicate m i 0 0 inner
      | inr outer ↦ get_or_past (replicate m 0) i 0 (omega (arith, outer, length-replicate {A = ℕ} m 0))
    ]

pub length-padded : (n : ℕ) (bytes : List ℕ) → length bytes ≤ n → length (padded n bytes) ≡ n
length-padded n bytes fits = omega (arith, length-append bytes (replicate (n - length bytes) 0), length-replicate {A = ℕ} (n - length bytes) 0)

-- what is kept reads as the items
pub kept_reads : (items : List Update) (bytes : List ℕ) (end : ℕ) → KeepsBy items bytes end → ReadsAs items bytes
kept_reads items bytes end is =
    reads_intent items bytes (omega (arith, is.intent.size, ap length is.spelled, length-padded INTENT_SIZE (intent_bytes items) is.intent.size))
    (λ k lt. ap (λ (b : List ℕ). byte b k) is.spelled ∙ byte-padded INTENT_SIZE (intent_bytes items) k)

-- One item more.

-- its spelling
pub spelling_more : (us : List Update) (u : Update) → intent_bytes (us ++ u ∷ []) ≡ (length us + 1) ∷ (flat_map item_bytes us ++ item_bytes u)
spelling_more us u t = (count t) ∷ (rest t)
  where
    count : length (us ++ u ∷ []) ≡ length us + 1
    count = length-append us (u ∷ [])

    one : flat_map item_bytes (u ∷ []) ≡ item_bytes u
    one = nothing_more (item_bytes u)
      where
        nothing_more : (xs : List ℕ) → xs ++ [] ≡ xs
        nothing_more [] = refl
        nothing_more (x ∷ xs) = ap (λ (ys : List ℕ). x ∷ ys) (nothing_more xs)

    rest : flat_map item_bytes (us ++ u ∷ []) ≡ flat_map item_bytes us ++ item_bytes u
    rest = flat_map-append item_bytes us (u ∷ []) ∙ ap (λ (ys : List ℕ). flat_map item_bytes us ++ ys) one

pub size_more : (us : List Update) (u : Update) → length (intent_bytes (us ++ u ∷ [])) ≡ length (intent_bytes us) + length (item_bytes u)
size_more us u = ap length (spelling_more us u) ∙ omega (arith, length-append (flat_map item_bytes us) (item_bytes u))

-- its bytes, where they were written behind the others
module _ (us : List Update) (u : Update) (old w : List ℕ) (end : ℕ)
    (end_is : end ≡ length (intent_bytes us))
    (fits : length (intent_bytes us) + length (item_bytes u) ≤ INTENT_SIZE)
    (old_is : old ≡ padded INTENT_SIZE (intent_bytes us))
    (long : length w ≡ INTENT_SIZE)
    (written : (k : ℕ) → k < length (item_bytes u) → byte w (end + k) ≡ byte (item_bytes u) k)
    (rest : SameBut (InRange end (length (item_bytes u))) old w) where
  old_byte : (k : ℕ) → byte old k ≡ byte (intent_bytes us) k
  old_byte k = ap (λ (b : List ℕ). byte b k) old_is ∙ byte-padded INTENT_SIZE (intent_bytes us) k

  abbrev next : List ℕ
  next = (length us + 1) ∷ (flat_map item_bytes us ++ item_bytes u)

  -- behind the number of items
  w_byte : (k : ℕ) → byte w (suc k) ≡ byte (flat_map item_bytes us ++ item_bytes u) k
  w_byte k = elim (cases_lt k (length (flat_map item_bytes us))) [
    | inl inner ↦ rest (suc k) (λ r. omega (arith, r.0, inner, end_is)) ∙ old_byte (suc k) ∙ sym (get_or_append_left (flat_map item_bytes us) (item_bytes u) 0 k inner)
    | inr outer ↦ elim (cases_lt (k - length (flat_map item_bytes us)) (length (item_bytes u))) [
      | inl there ↦
          let e : suc k ≡ end + (k - length (flat_map item_bytes us)) = omega (arith, outer, end_is) in
          ap (byte w) e ∙ written (k - length (flat_map item_bytes us)) there ∙ sym (get_or-append_right (flat_map item_bytes us) (item_bytes u) (length (flat_map item_bytes us)) k 0 refl outer)
      | inr behind ↦
          rest (suc k) (λ r. omega (arith, r.1, behind, outer, end_is)) ∙ old_byte (suc k) ∙ get_or_past (intent_bytes us) (suc k) 0 (omega arith)
          ∙ sym (get_or_past (flat_map item_bytes us ++ item_bytes u) k 0 (omega (arith, length-append (flat_map item_bytes us) (item_bytes u), outer, behind)))
    ]
  ]

  set_byte : (k : ℕ) → byte (slice_set w 0 (byte old 0 + 1)) k ≡ byte next k
  set_byte zero = get_or-set_same w 0 (byte old 0 + 1) 0 (omega (arith, long)) ∙ ap (λ (n : ℕ). n + 1) (old_byte 0)
  set_byte (suc k) = get_or-set_other w 0 (suc k) (byte old 0 + 1) 0 (λ e. omega (arith, e)) ∙ w_byte k

  pub pushed_bytes : slice_set w 0 (byte old 0 + 1) ≡ padded INTENT_SIZE (intent_bytes (us ++ u ∷ []))
  pushed_bytes =
      let size = length-set w 0 (byte old 0 + 1) in
      let room : length (intent_bytes (us ++ u ∷ [])) ≤ INTENT_SIZE = omega (arith, fits, size_more us u) in
      ext_get_or 0 (slice_set w 0 (byte old 0 + 1)) (padded INTENT_SIZE (intent_bytes (us ++ u ∷ []))) (size ∙ long ∙ sym (length-padded INTENT_SIZE (intent_bytes (us ++ u ∷ [])) room)) (λ k lt.
      set_byte k ∙ ap (λ (b : List ℕ). byte b k) (sym (spelling_more us u)) ∙ sym (byte-padded INTENT_SIZE (intent_bytes (us ++ u ∷ [])) k))

-- Distinct items.

both : (a b : Bool) → a ≡ true → b ≡ true → (a && b) ≡ true
both a b p q = (λ t. p t && q t)

first_of : (a b : Bool) → (a && b) ≡ true → a ≡ true
first_of true b e = refl
first_of false b e = absurd (cc)

second_of : (a b : Bool) → (a && b) ≡ true → b ≡ true
second_of true b e = e
second_of false b e = absurd (cc)

neither : (a b : Bool) → (a || b) ≡ false → (a ≡ false) × (b ≡ false)
neither true b e = absurd (cc)
neither false b e = (refl, e)

-- a key that wasn't there, behind items
missing_more : (q : List ℕ) (us : List Update) (u : Update) → has_item q us ≡ false → bytes_eq q (key_of u) ≡ false → has_item q (us ++ u ∷ []) ≡ false
missing_more q [] u none other = ap (λ (b : Bool). b || false) other
missing_more q (v ∷ us) u none other =
    let parts = neither (bytes_eq q (key_of v)) (has_item q us) none in
    ap (λ (b : Bool). b || has_item q (us ++ u ∷ [])) parts.0 ∙ missing_more q us u parts.1 other

untrue : (a : Bool) → not a ≡ true → a ≡ false
untrue true e = absurd (cc)
untrue false e = refl

pub distinct_more : (us : List Update) (u : Update) → are_distinct us ≡ true → has_item (key_of u) us ≡ false → are_distinct (us ++ u ∷ []) ≡ true
distinct_more [] u distinct none = refl
distinct_more (v ∷ us) u distinct none =
    let parts = neither (bytes_eq (key_of u) (key_of v)) (has_item (key_of u) us) none in
    let alone = untrue (has_item (key_of v) us) (first_of (not (has_item (key_of v) us)) (are_distinct us) distinct) in
    ap (λ (b : Bool). not b && are_distinct (us ++ u ∷ [])) (missing_more (key_of v) us u alone (nat_list_eq_equiv.symm (key_of v) (key_of u) ∙ parts.0))
    ∙ distinct_more us u (second_of (not (has_item (key_of v) us)) (are_distinct us) distinct) parts.1

pub all_more : (p : Update → Bool) (us : List Update) (u : Update) → T (list_all p us) → T (p u) → T (list_all p (us ++ u ∷ []))
all_more p [] u all one = second p [] u one
  where
    second : (p : Update → Bool) (us : List Update) (u : Update) → T (p u) → T (list_all p (u ∷ []))
    second p us u one = elim (p u) as (λ b. T b → T (b && true)) [ true ↦ λ h. tt | false ↦ λ h. h ] one
all_more p (v ∷ us) u all one = joined (p v) (list_all p us) (list_all p (us ++ u ∷ [])) all (λ h. all_more p us u h one)
  where
    joined : (a b c : Bool) → T (a && b) → (T b → T c) → T (a && c)
    joined true b c h next = next h
    joined false b c h next = h

-- what is kept behind a push
pub pushed_kept : (u : Update) (old w : List ℕ) (end : ℕ) → KeepsBy (items_in old) old end → length (items_in old) < MOST_ITEMS → has_item (key_of u) (items_in old) ≡ false → T (has_sizes MAX_KEY_LEN MAX_VALUE_LEN u)
    → length (intent_bytes (items_in old)) + length (item_bytes u) ≤ INTENT_SIZE → length w ≡ INTENT_SIZE
    → ((k : ℕ) → k < length (item_bytes u) → byte w (end + k) ≡ byte (item_bytes u) k) → SameBut (InRange end (length (item_bytes u))) old w
    → (items_in (slice_set w 0 (byte old 0 + 1)) ≡ items_in old ++ u ∷ []) × KeepsBy (items_in (slice_set w 0 (byte old 0 + 1))) (slice_set w 0 (byte old 0 + 1)) (end + length (item_bytes u))
unfolding items_in
pushed_kept u old w end is few other sizes fits long written rest =
    let us = items_in old in
    let new = slice_set w 0 (byte old 0 + 1) in
    let bytes = pushed_bytes us u old w end is.end_is fits is.spelled long written rest in
    let kept : KeepsBy (us ++ u ∷ []) new (end + length (item_bytes u)) = record {
      intent = record { most = omega (arith, few, length-append us (u ∷ [])); distinct = distinct_more us u is.intent.distinct other; size = omega (arith, fits, size_more us u) };
      sizes = all_more (has_sizes MAX_KEY_LEN MAX_VALUE_LEN) us u is.sizes sizes;
      spelled = bytes;
      end_is = omega (arith, is.end_is, size_more us u);
    } in
    let reads : items_from new (byte new 0) 1 ≡ us ++ u ∷ [] = (kept_reads (us ++ u ∷ []) new (end + length (item_bytes u)) kept).items in
    (reads, subst (λ (vs : List Update). KeepsBy vs new (end + length (item_bytes u))) (sym reads) kept)

-- What a push answers, and what an item is.

pub no_fault : (us : List Update) (u : Update) → length us < MOST_ITEMS → has_item (key_of u) us ≡ false → length (intent_bytes us) + length (item_bytes u) ≤ INTENT_SIZE → push_fault us u ≡ None
no_fault us u few other fits =
    let size = size_more us u in
    let room : length (intent_bytes (us ++ u ∷ [])) ≤ INTENT_SIZE = omega (arith, size, fits) in
    by_tests (nat_le MOST_ITEMS (length us)) (has_item (key_of u) us) (nat_lt INTENT_SIZE (length (intent_bytes (us ++ u ∷ [])))) (leb-less MOST_ITEMS (length us) few) other (ltb-not INTENT_SIZE (length (intent_bytes (us ++ u ∷ []))) room)
  where
    by_tests : (a b c : Bool) → a ≡ false → b ≡ false → c ≡ false → cond a (Some TooMany) (cond b (Some Repeated) (cond c (Some TooLong) None)) ≡ None
    by_tests a b c p q r t = cond (p t) (Some TooMany) (cond (q t) (Some Repeated) (cond (r t) (Some TooLong) None))

    leb-less : (m n : ℕ) → n < m → nat_le m n ≡ false
    leb-less m n lt = grind (arith, nat_tests)

    ltb-not : (m n : ℕ) → n ≤ m → nat_lt m n ≡ false
    ltb-not m n le = grind (arith, nat_tests)

pub all_at : (p : Update → Bool) (us : List Update) (i : ℕ) (d : Update) → i < length us → T (list_all p us) → T (p (get_or us i d))
all_at p [] i d lt all = absurd (omega arith)
all_at p (u ∷ us) zero d lt all = front (p u) (list_all p us) all
  where
    front : (a b : Bool) → T (a && b) → T a
    front true b h = tt
    front false b h = h
all_at p (u ∷ us) (suc i) d lt all = all_at p us i d (omega arith) (back (p u) (list_all p us) all)
  where
    back : (a b : Bool) → T (a && b) → T b
    back true b h = h
    back false b h = absurd h

module _ (items : List Update) (bytes : List ℕ) (end : ℕ) (is : KeepsBy items bytes end) where
  reads : ReadsAs items bytes
  reads = kept_reads items bytes end is

  -- the place of an item, with all its bytes
  pub kept_place : (i : ℕ) → i < length items → place_from bytes (suc i) 1 ≤ INTENT_SIZE
  kept_place i lt = omega (arith, place_rises bytes (suc i) (byte bytes 0) 1 (omega (arith, reads.count, lt)), reads.end, is.intent.size)

  -- the item there
  pub kept_item : (i : ℕ) (d : Update) → i < length items → item_at bytes (place_from bytes i 1) ≡ get_or items i d
  kept_item i d lt = sym (item_from bytes (byte bytes 0) 1 i d (omega (arith, reads.count, lt))) ∙ ap (λ (us : List Update). get_or us i d) reads.items

  -- its sizes
  pub kept_sizes : (i : ℕ) → i < length items → T (has_sizes MAX_KEY_LEN MAX_VALUE_LEN (item_at bytes (place_from bytes i 1)))
  kept_sizes i lt = subst (λ (u : Update). T (has_sizes MAX_KEY_LEN MAX_VALUE_LEN u)) (sym (kept_item i (unbind []) lt)) (all_at (has_sizes MAX_KEY_LEN MAX_VALUE_LEN) items i (unbind []) lt is.sizes)
