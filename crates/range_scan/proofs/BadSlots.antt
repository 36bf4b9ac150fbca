-- A bad slot is one of a segment's.
use Rattle.std.proofs.Common.{◌≡◌, ℕ, zero, suc, ◌+◌, ◌<◌, Bool, true, false, cond, List, Some, arith}
use Rattle.std.specs.List.{find, range_with_len}
use Rattle.key_slot.specs.Segment.{first_bad_slot, is_bad_slot}
use Rattle.key_slot.specs.declared.sizes.TheConstants.{SEGMENT_SLOTS}

found_in : (p : ℕ → Bool) (a n found : ℕ) → find p (range_with_len a n) ≡ Some found → found < a + n
found_in p a zero found is = absurd cc
found_in p a (suc n) found is = by_test (p a) is (found_in p (a + 1) n found)
  where
    by_test : (b : Bool) → cond b (Some a) (find p (range_with_len (a + 1) n)) ≡ Some found → (find p (range_with_len (a + 1) n) ≡ Some found → found < a + 1 + n) → found < a + suc n
    by_test true e later = let same : a ≡ found = cc in omega (arith, same)
    by_test false e later = omega (arith, later e)

pub slot_within : (format : ℕ) (page : List ℕ) (slot : ℕ) → first_bad_slot format page ≡ Some slot → slot < SEGMENT_SLOTS
unfolding first_bad_slot
slot_within format page slot is = found_in (is_bad_slot format page) 0 SEGMENT_SLOTS slot is
