-- The counts of segments while moves are made, place by place.
use Rattle.std.proofs.Common.{◌≡◌, ◌≢◌, inl, inr, ℕ, zero, suc, ◌+◌, ◌-◌, ◌*◌, ◌/◌, ◌≤◌, ◌<◌, min, max, List, [], ◌∷◌, ◌++◌, length, drop, get_or, get_or-drop, slice_set, refl, sym, ap, ◌∙◌, arith}
use Rattle.std.proofs.lemmas.Bool.{cases_eq, cases_lt}
use Rattle.std.proofs.lemmas.List.{ext_get_or, length-append, length-drop, length-set, get_or_append_left, get_or-append_right, get_or-set_same, get_or-set_other}
use Rattle.std.proofs.lemmas.List.FromFn.{length-map-range_with_len, get_or-map-range_with_len}
use Rattle.density_rule.specs.Spread.{share, shares}
use Rattle.density_rule.proofs.Shares.{length-shares, get_or-shares}
use Rattle.spread_plan.specs.declared.Move.{Move}
use Rattle.density_rule.specs.declared.TheConstants.{SEGMENT_RECORDS}
use Rattle.spread_plan.specs.Moves.{counts_moved}
use Rattle.spread_plan.specs.Plans.{full_counts}
use Rattle.spread_plan.specs.States.{packing_counts, IsPacking, less_first, spreading_counts, IsSpreading}

-- The counts of packed records.

pub length-full : (n m : ℕ) → length (full_counts n m) ≡ m
length-full n m = length-map-range_with_len (λ i. min SEGMENT_RECORDS (n - i * SEGMENT_RECORDS)) 0 m

pub full_at : (n m i : ℕ) → i < m → get_or (full_counts n m) i 0 ≡ min SEGMENT_RECORDS (n - i * SEGMENT_RECORDS)
full_at n m i lt = get_or-map-range_with_len (λ j. min SEGMENT_RECORDS (n - j * SEGMENT_RECORDS)) 0 m i i 0 lt (omega arith)

-- before and behind them
before_at : (n m : ℕ) (rest : List ℕ) (i : ℕ) → i < m → get_or (full_counts n m ++ rest) i 0 ≡ min SEGMENT_RECORDS (n - i * SEGMENT_RECORDS)
before_at n m rest i lt = get_or_append_left (full_counts n m) rest 0 i (omega (arith, lt, length-full n m)) ∙ full_at n m i lt

behind_at : (n m : ℕ) (rest : List ℕ) (i : ℕ) → m ≤ i → get_or (full_counts n m ++ rest) i 0 ≡ get_or rest (i - m) 0
behind_at n m rest i le = get_or-append_right (full_counts n m) rest m i 0 (length-full n m) le

-- the counts after a move, at each place
module _ (m : Move) (counts : List ℕ) (from_in : m.from < length counts) (to_in : m.to < length counts) (apart : m.from ≢ m.to) where
  abbrev added : List ℕ
  added = slice_set counts m.to (get_or counts m.to 0 + m.count)

  pub length-moved : length (counts_moved m counts) ≡ length counts
  length-moved = length-set added m.from (get_or counts m.from 0 - m.count) ∙ length-set counts m.to (get_or counts m.to 0 + m.count)

  pub moved_from : get_or (counts_moved m counts) m.from 0 ≡ get_or counts m.from 0 - m.count
  moved_from = get_or-set_same added m.from (get_or counts m.from 0 - m.count) 0 (omega (arith, from_in, length-set counts m.to (get_or counts m.to 0 + m.count)))

  pub moved_to : get_or (counts_moved m counts) m.to 0 ≡ get_or counts m.to 0 + m.count
  moved_to = get_or-set_other added m.from m.to (get_or counts m.from 0 - m.count) 0 (λ e. apart (sym e)) ∙ get_or-set_same counts m.to (get_or counts m.to 0 + m.count) 0 to_in

  pub moved_other : (i : ℕ) → i ≢ m.from → i ≢ m.to → get_or (counts_moved m counts) i 0 ≡ get_or counts i 0
  moved_other i not_from not_to = get_or-set_other added m.from i (get_or counts m.from 0 - m.count) 0 not_from ∙ get_or-set_other counts m.to i (get_or counts m.to 0 + m.count) 0 not_to

  -- counts that are those, place by place
  pub moved_by : (next : List ℕ) → length next ≡ length counts → get_or next m.from 0 ≡ get_or counts m.from 0 - m.count → get_or next m.to 0 ≡ get_or counts m.to 0 + m.count → ((i : ℕ) → i ≢ m.from → i ≢ m.to → get_or next i 0 ≡ get_or counts i 0) → next ≡ counts_moved m counts
  moved_by next size at_from at_to at_other = ext_get_or 0 next (counts_moved m counts) (size ∙ sym length-moved) (λ i lt. elim (cases_eq i m.from) [
    | inl is_from ↦ ap (λ (k : ℕ). get_or next k 0) is_from ∙ at_from ∙ sym moved_from ∙ ap (λ (k : ℕ). get_or (counts_moved m counts) k 0) (sym is_from)
    | inr not_from ↦ elim (cases_eq i m.to) [
      | inl is_to ↦ ap (λ (k : ℕ). get_or next k 0) is_to ∙ at_to ∙ sym moved_to ∙ ap (λ (k : ℕ). get_or (counts_moved m counts) k 0) (sym is_to)
      | inr not_to ↦ at_other i not_from not_to ∙ sym (moved_other i not_from not_to)
    ]
  ])

-- A pack.

pub length-packing : (rest : List ℕ) (segments records next : ℕ) → length (packing_counts rest segments records next) ≡ segments + length rest
length-packing rest zero records next = omega arith
length-packing rest (suc s) records next = length-append (full_counts next s) ((records - next) ∷ rest) ∙ omega (arith, length-full next s)

-- a segment below the source, the source, and one that was not looked at
pub packed_at : (rest : List ℕ) (segments records next i : ℕ) → i + 1 < segments → get_or (packing_counts rest segments records next) i 0 ≡ min SEGMENT_RECORDS (next - i * SEGMENT_RECORDS)
packed_at rest zero records next i lt = absurd (omega (arith, lt))
packed_at rest (suc s) records next i lt = before_at next s ((records - next) ∷ rest) i (omega (arith, lt))

pub source_at : (rest : List ℕ) (segments records next i : ℕ) → i + 1 ≡ segments → get_or (packing_counts rest segments records next) i 0 ≡ records - next
source_at rest zero records next i is = absurd (omega (arith, is))
source_at rest (suc s) records next i is =
    let here : i - s ≡ 0 = omega (arith, is) in
    behind_at next s ((records - next) ∷ rest) i (omega (arith, is)) ∙ ap (λ (k : ℕ). get_or ((records - next) ∷ rest) k 0) here

pub rest_at : (rest : List ℕ) (segments records next i : ℕ) → segments ≤ i → get_or (packing_counts rest segments records next) i 0 ≡ get_or rest (i - segments) 0
rest_at rest zero records next i le = let here : i ≡ i - 0 = omega arith in ap (λ (k : ℕ). get_or rest k 0) here
rest_at rest (suc s) records next i le =
    let there : i - s ≡ suc (i - suc s) = omega (arith, le) in
    behind_at next s ((records - next) ∷ rest) i (omega (arith, le)) ∙ ap (λ (k : ℕ). get_or ((records - next) ∷ rest) k 0) there

-- the counts stay where a pack goes on to the next segment
pub counts_on : (rest : List ℕ) (count segments records next end : ℕ) → IsPacking (count ∷ rest) segments records next end → next ≡ end → packing_counts rest (segments + 1) (records + count) records ≡ packing_counts (count ∷ rest) segments records next
counts_on rest count segments records next end is done =
    let size : length (packing_counts rest (segments + 1) (records + count) records) ≡ length (packing_counts (count ∷ rest) segments records next) =
    length-packing rest (segments + 1) (records + count) records ∙ omega (arith, length-packing (count ∷ rest) segments records next) in
    ext_get_or 0 (packing_counts rest (segments + 1) (records + count) records) (packing_counts (count ∷ rest) segments records next) size (λ i lt. elim (cases_lt i segments) [
      | inl below ↦
          packed_at rest (segments + 1) (records + count) records i (omega (arith, below)) ∙ elim (cases_lt (i + 1) segments) [
            | inl low ↦ omega (arith, low, done, is.end_is) ∙ sym (packed_at (count ∷ rest) segments records next i low)
            | inr le ↦ omega (arith, le, below, done, is.end_is, is.records_fit) ∙ sym (source_at (count ∷ rest) segments records next i (omega (arith, le, below)))
          ]
      | inr le ↦ elim (cases_eq i segments) [
        | inl here ↦
            let none : i - segments ≡ 0 = omega (arith, here) in
            source_at rest (segments + 1) (records + count) records i (omega (arith, here)) ∙ omega arith ∙ sym (rest_at (count ∷ rest) segments records next i le ∙ ap (λ (k : ℕ). get_or (count ∷ rest) k 0) none)
        | inr other ↦
            let there : i - segments ≡ suc (i - (segments + 1)) = omega (arith, le, other) in
            rest_at rest (segments + 1) (records + count) records i (omega (arith, le, other)) ∙ sym (rest_at (count ∷ rest) segments records next i le ∙ ap (λ (k : ℕ). get_or (count ∷ rest) k 0) there)
      ]
    ])

-- they follow the move that a pack gives
module _ (rest : List ℕ) (segments records next end : ℕ) (is : IsPacking rest segments records next end) (some : next < end) (stop : ℕ) (stop_is : stop ≡ min end ((next / SEGMENT_RECORDS + 1) * SEGMENT_RECORDS)) where
  abbrev given : Move
  given = record { from = segments - 1; to = next / SEGMENT_RECORDS; count = stop - next }

  there_are : 1 ≤ segments
  there_are = omega (arith, some, is.end_is)

  lower : next / SEGMENT_RECORDS < segments - 1
  lower = omega (arith, some, is.end_is)

  pub packing_moved : packing_counts rest segments records stop ≡ counts_moved given (packing_counts rest segments records next)
  packing_moved =
      let counts = packing_counts rest segments records next in
      let after = packing_counts rest segments records stop in
      let size = length-packing rest segments records next in
      let to = next / SEGMENT_RECORDS in
      let source : segments - 1 + 1 ≡ segments = omega (arith, there_are) in
      moved_by given counts (omega (arith, size, there_are)) (omega (arith, size, lower)) (λ e. omega (arith, e, lower)) after (length-packing rest segments records stop ∙ sym size)
      (source_at rest segments records stop (segments - 1) source ∙ omega (arith, source_at rest segments records next (segments - 1) source, stop_is))
      (packed_at rest segments records stop to (omega (arith, lower)) ∙ omega (arith, packed_at rest segments records next to (omega (arith, lower)), stop_is, some))
      (λ i not_from not_to. elim (cases_lt (i + 1) segments) [
        | inl low ↦ packed_at rest segments records stop i low ∙ omega (arith, not_to, stop_is, some) ∙ sym (packed_at rest segments records next i low)
        | inr le ↦ rest_at rest segments records stop i (omega (arith, le, not_from)) ∙ sym (rest_at rest segments records next i (omega (arith, le, not_from)))
      ])

-- A spread.

length-less : (n : ℕ) (counts : List ℕ) → length (less_first n counts) ≡ length counts
length-less n [] = refl
length-less n (count ∷ counts) = refl

less_at : (n : ℕ) (counts : List ℕ) (i : ℕ) → 0 < i → get_or (less_first n counts) i 0 ≡ get_or counts i 0
less_at n [] i pos = refl
less_at n (count ∷ counts) zero pos = absurd (omega (arith, pos))
less_at n (count ∷ counts) (suc i) pos = refl

less_here : (n : ℕ) (counts : List ℕ) → get_or (less_first n counts) 0 0 ≡ get_or counts 0 0 - n
less_here n [] = omega arith
less_here n (count ∷ counts) = refl

module _ (n m to start end : ℕ) where
  pub length-spreading : to ≤ m → length (spreading_counts n m to start end) ≡ m
  length-spreading le =
      omega (arith, le, length-append (full_counts end to) (less_first (end - start) (drop to (shares n m))), length-full end to, length-less (end - start) (drop to (shares n m)), length-drop to (shares n m), length-shares n m)

  pub low_at : (i : ℕ) → i < to → get_or (spreading_counts n m to start end) i 0 ≡ min SEGMENT_RECORDS (end - i * SEGMENT_RECORDS)
  low_at i lt = before_at end to (less_first (end - start) (drop to (shares n m))) i lt

  pub target_at : get_or (spreading_counts n m to start end) to 0 ≡ get_or (shares n m) to 0 - (end - start)
  target_at =
      let none : to - to ≡ 0 = omega arith in
      let here : to + 0 ≡ to = omega arith in
      behind_at end to (less_first (end - start) (drop to (shares n m))) to (omega arith) ∙ ap (λ (k : ℕ). get_or (less_first (end - start) (drop to (shares n m))) k 0) none
      ∙ less_here (end - start) (drop to (shares n m)) ∙ ap (λ (k : ℕ). k - (end - start)) (get_or-drop to (shares n m) 0 0 ∙ ap (λ (k : ℕ). get_or (shares n m) k 0) here)

  pub high_at : (i : ℕ) → to < i → get_or (spreading_counts n m to start end) i 0 ≡ get_or (shares n m) i 0
  high_at i lt =
      let here : to + (i - to) ≡ i = omega (arith, lt) in
      behind_at end to (less_first (end - start) (drop to (shares n m))) i (omega (arith, lt)) ∙ less_at (end - start) (drop to (shares n m)) (i - to) (omega (arith, lt))
      ∙ get_or-drop to (shares n m) (i - to) 0 ∙ ap (λ (k : ℕ). get_or (shares n m) k 0) here

-- before a spread all records are packed
pub spread_packed : (n m : ℕ) → spreading_counts n m m n n ≡ full_counts n m
spread_packed n m =
    ext_get_or 0 (spreading_counts n m m n n) (full_counts n m) (length-spreading n m m n n (omega arith) ∙ sym (length-full n m)) (λ i lt.
    let within : i < m = omega (arith, lt, length-spreading n m m n n (omega arith)) in
    low_at n m m n n i within ∙ sym (full_at n m i within))

-- the counts stay where a spread goes on to the next segment
module _ (n m to start end : ℕ) (is : IsSpreading n m to start end) (done : start ≡ end) (some : 0 < to) (first stop : ℕ) (share_is : first + share n m (to - 1) ≡ start) (stop_is : stop ≡ min start ((to - 1) * SEGMENT_RECORDS)) (low : first ≤ stop) where
  pub counts_spread_on : spreading_counts n m (to - 1) first stop ≡ spreading_counts n m to start end
  counts_spread_on =
      let one = spreading_counts n m (to - 1) first stop in
      let two = spreading_counts n m to start end in
      let long = length-spreading n m (to - 1) first stop (omega (arith, is.to_is)) in
      ext_get_or 0 one two (long ∙ sym (length-spreading n m to start end is.to_is)) (λ i lt. elim (cases_lt i (to - 1)) [
        | inl below ↦ low_at n m (to - 1) first stop i below ∙ omega (arith, below, stop_is, done) ∙ sym (low_at n m to start end i (omega (arith, below)))
        | inr le ↦ elim (cases_eq i (to - 1)) [
          | inl here ↦
              let given : get_or (shares n m) (to - 1) 0 ≡ share n m (to - 1) = get_or-shares n m (to - 1) (omega (arith, is.to_is, some)) in
              ap (λ (k : ℕ). get_or one k 0) here ∙ target_at n m (to - 1) first stop ∙ omega (arith, given, share_is, stop_is, done, is.left, low) ∙ sym (low_at n m to start end (to - 1) (omega (arith, some)))
              ∙ ap (λ (k : ℕ). get_or two k 0) (sym here)
          | inr other ↦
              high_at n m (to - 1) first stop i (omega (arith, le, other)) ∙ elim (cases_eq i to) [
                | inl at ↦ ap (λ (k : ℕ). get_or (shares n m) k 0) at ∙ omega (arith, done) ∙ sym (target_at n m to start end) ∙ ap (λ (k : ℕ). get_or two k 0) (sym at)
                | inr above ↦ sym (high_at n m to start end i (omega (arith, le, other, above)))
              ]
        ]
      ])

-- they follow the move that a spread gives
module _ (n m to start end : ℕ) (is : IsSpreading n m to start end) (some : start < end) (from first : ℕ) (from_is : from ≡ (end - 1) / SEGMENT_RECORDS) (first_is : first ≡ max start (from * SEGMENT_RECORDS)) where
  abbrev gives : Move
  gives = record { from = from; to = to; count = end - first }

  from_low : from < to
  from_low = omega (arith, from_is, some, is.left)

  -- the target is one of the segments
  target_in : to < m
  target_in = elim (cases_lt to m) [
    | inl lt ↦ lt
    | inr le ↦ let none : get_or (shares n m) to 0 ≡ 0 = past (shares n m) to (omega (arith, le, length-shares n m)) in absurd (omega (arith, none, is.within, some))
  ]
    where
      past : (xs : List ℕ) (i : ℕ) → length xs ≤ i → get_or xs i 0 ≡ 0
      past [] i le = refl
      past (x ∷ xs) zero le = absurd (omega (arith, le))
      past (x ∷ xs) (suc i) le = past xs i (omega (arith, le))

  pub spreading_moved : spreading_counts n m to start first ≡ counts_moved gives (spreading_counts n m to start end)
  spreading_moved =
      let counts = spreading_counts n m to start end in
      let size = length-spreading n m to start end is.to_is in
      moved_by gives counts (omega (arith, size, from_low, target_in)) (omega (arith, size, target_in)) (λ e. omega (arith, e, from_low)) (spreading_counts n m to start first) (length-spreading n m to start first is.to_is ∙ sym size)
      (low_at n m to start first from from_low ∙ omega (arith, low_at n m to start end from from_low, from_is, first_is, some))
      (target_at n m to start first ∙ omega (arith, target_at n m to start end, is.within, first_is, from_is, some))
      (λ i not_from not_to. elim (cases_lt i to) [
        | inl lt ↦ low_at n m to start first i lt ∙ omega (arith, not_from, from_is, first_is, some) ∙ sym (low_at n m to start end i lt)
        | inr le ↦ high_at n m to start first i (omega (arith, le, not_to)) ∙ sym (high_at n m to start end i (omega (arith, le, not_to)))
      ])
