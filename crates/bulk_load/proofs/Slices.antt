-- Runs of records, and those of the first `rest` packed records that a segment has.
use Rattle.std.proofs.Common.{◌≡◌, ◌≢◌, ◌⊎◌, inl, inr, ℕ, ◌+◌, ◌-◌, ◌*◌, ◌<◌, ◌≤◌, min, List, [], ◌++◌, length, take, drop, slice_range, sym, ap, ◌∙◌, arith}
use Rattle.std.proofs.lemmas.Bool.{cases_lt}
use Rattle.std.proofs.lemmas.List.{take_all, take-take, take-append-drop, drop-append-le, drop-drop, length-take-le, length-drop}
use Rattle.std.proofs.lemmas.List.Edits.{length-between}
use Rattle.std.proofs.lemmas.Slice.{between_is}
use Rattle.key_slot.specs.Record.{Record}
use Rattle.key_slot.specs.declared.sizes.TheConstants.{SEGMENT_SLOTS}
use Rattle.bulk_load.specs.Packing.{packed_at}
use Rattle.bulk_load.specs.Spreading.{packed_count, left_at}

take_next : (a b : ℕ) (rs : List Record) → a ≤ b → take a rs ++ slice_range rs a b ≡ take b rs
take_next a b rs le =
    let front = take-take a b rs le in
    ap (λ (t : List Record). take a rs ++ t) (between_is rs a b) ∙ ap (λ (t : List Record). t ++ drop a (take b rs)) (sym front) ∙ take-append-drop a (take b rs)

-- two runs side by side
pub slices_join : (rs : List Record) (a b c : ℕ) → a ≤ b → b ≤ c → b ≤ length rs → slice_range rs a b ++ slice_range rs b c ≡ slice_range rs a c
slices_join rs a b c le up inside =
    ap (λ (t : List Record). t ++ slice_range rs b c) (between_is rs a b)
    ∙ sym (drop-append-le a (take b rs) (slice_range rs b c) (omega (arith, le, length-take-le b rs inside)))
    ∙ ap (drop a) (take_next b c rs up) ∙ sym (between_is rs a c)

-- the front of a run, and what is behind it
pub slice_front : (rs : List Record) (a b k : ℕ) → a + k ≤ b → take k (slice_range rs a b) ≡ slice_range rs a (a + k)
slice_front rs a b k le =
    let size : k ≡ a + k - a = omega arith in
    take-take k (b - a) (drop a rs) (omega (arith, le)) ∙ ap (λ (n : ℕ). take n (drop a rs)) size

pub slice_back : (rs : List Record) (a b k : ℕ) → drop k (slice_range rs a b) ≡ slice_range rs (a + k) b
slice_back rs a b k = ap (drop k) (between_is rs a b) ∙ drop-drop k a (take b rs) ∙ sym (between_is rs (a + k) b)

-- The records of a segment that are left.

module _ (rs : List Record) (rest : ℕ) where
  pub length-left_at : (i : ℕ) → rest ≤ length rs → length (left_at rs rest i) ≡ packed_count rest i
  length-left_at i inside = length-between rs (SEGMENT_SLOTS * i) (min rest (SEGMENT_SLOTS * i + SEGMENT_SLOTS)) (omega (arith, inside)) ∙ omega arith

  pub left_none : (i : ℕ) → rest ≤ SEGMENT_SLOTS * i → left_at rs rest i ≡ []
  left_none i past =
      let none : min rest (SEGMENT_SLOTS * i + SEGMENT_SLOTS) - SEGMENT_SLOTS * i ≡ 0 = omega (arith, past) in
      ap (λ (n : ℕ). take n (drop (SEGMENT_SLOTS * i) rs)) none

  -- of the last segment that has some
  pub left_last : (s : ℕ) → rest ≤ SEGMENT_SLOTS * s + SEGMENT_SLOTS → left_at rs rest s ≡ slice_range rs (SEGMENT_SLOTS * s) rest
  left_last s most =
      let end : min rest (SEGMENT_SLOTS * s + SEGMENT_SLOTS) ≡ rest = omega (arith, most) in
      ap (λ (e : ℕ). slice_range rs (SEGMENT_SLOTS * s) e) end

  -- where some of these are taken, the others stay
  pub left_other : (s n i : ℕ) → i ≢ s → n ≤ rest → SEGMENT_SLOTS * s ≤ rest - n → rest ≤ SEGMENT_SLOTS * s + SEGMENT_SLOTS → left_at rs (rest - n) i ≡ left_at rs rest i
  left_other s n i other some low high =
      ap (λ (k : ℕ). take k (drop (SEGMENT_SLOTS * i) rs)) (same (cases_lt i s))
    where
      same : (i < s) ⊎ (s ≤ i) → min (rest - n) (SEGMENT_SLOTS * i + SEGMENT_SLOTS) - SEGMENT_SLOTS * i ≡ min rest (SEGMENT_SLOTS * i + SEGMENT_SLOTS) - SEGMENT_SLOTS * i
      same (inl lt) = omega (arith, lt, low, some)
      same (inr le) = let more : s < i = omega (arith, le, other) in omega (arith, more, high)

  -- a segment that wasn't read has all its records
  pub left_whole : (u i : ℕ) → i < u → (rest ≡ length rs) ⊎ (SEGMENT_SLOTS * u ≤ rest) → left_at rs rest i ≡ packed_at rs i
  left_whole u i lt (inr whole) =
      let size : min rest (SEGMENT_SLOTS * i + SEGMENT_SLOTS) - SEGMENT_SLOTS * i ≡ SEGMENT_SLOTS = omega (arith, lt, whole) in
      ap (λ (k : ℕ). take k (drop (SEGMENT_SLOTS * i) rs)) size
  left_whole u i lt (inl all) = elim (cases_lt (length rs) (SEGMENT_SLOTS * i + SEGMENT_SLOTS)) [
    | inl short ↦
        let d = drop (SEGMENT_SLOTS * i) rs in
        let k = min rest (SEGMENT_SLOTS * i + SEGMENT_SLOTS) - SEGMENT_SLOTS * i in
        take_all k d (omega (arith, length-drop (SEGMENT_SLOTS * i) rs, all, short)) ∙ sym (take_all SEGMENT_SLOTS d (omega (arith, length-drop (SEGMENT_SLOTS * i) rs, short)))
    | inr long ↦
        let size : min rest (SEGMENT_SLOTS * i + SEGMENT_SLOTS) - SEGMENT_SLOTS * i ≡ SEGMENT_SLOTS = omega (arith, long, all) in
        ap (λ (k : ℕ). take k (drop (SEGMENT_SLOTS * i) rs)) size
  ]

-- no record
pub slice_none : (rs : List Record) (a : ℕ) → slice_range rs a a ≡ []
slice_none rs a = let none : a - a ≡ 0 = omega arith in ap (λ (n : ℕ). take n (drop a rs)) none
