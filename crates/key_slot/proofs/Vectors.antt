-- Worked slots of both formats.
use Rattle.std.proofs.Common.{◌≡◌, true, false, [], ◌∷◌, ◌++◌, Some, refl}
use Rattle.std.specs.Prelude.{replicate}
use Rattle.key_slot.specs.Format.{narrow, wide, slot_size, segment_length}
use Rattle.key_slot.specs.Record.{Record, is_record}
use Rattle.key_slot.specs.Slot.{record_slot, slot_of}

-- the key a, bound to 1
abbrev pub short : Record
short = (97 ∷ [], 49 ∷ [])

-- a key of 40 bytes k, bound to 80 bytes v
abbrev pub long : Record
long = (replicate 40 107, replicate 80 118)

pub sizes : slot_size narrow ∷ slot_size wide ∷ segment_length narrow ∷ segment_length wide ∷ [] ≡ 64 ∷ 128 ∷ 4096 ∷ 8192 ∷ []
sizes = refl

pub short_narrow : record_slot narrow short ≡ (1 ∷ 1 ∷ 1 ∷ 0 ∷ 0 ∷ 0 ∷ 0 ∷ 0 ∷ []) ++ ((97 ∷ replicate 23 0) ++ (49 ∷ replicate 31 0))
unfolding record_slot
short_narrow = refl

pub short_wide : record_slot wide short ≡ (1 ∷ 1 ∷ 1 ∷ 0 ∷ 0 ∷ 0 ∷ 0 ∷ 0 ∷ []) ++ ((97 ∷ replicate 39 0) ++ (49 ∷ replicate 79 0))
unfolding record_slot
short_wide = refl

pub long_wide : record_slot wide long ≡ (1 ∷ 40 ∷ 80 ∷ 0 ∷ 0 ∷ 0 ∷ 0 ∷ 0 ∷ []) ++ (replicate 40 107 ++ replicate 80 118)
unfolding record_slot
long_wide = refl

-- it is too long for format 1
pub long_not_narrow : is_record narrow long ≡ false
long_not_narrow = refl

pub long_fits_wide : is_record wide long ≡ true
long_fits_wide = refl

pub short_read : slot_of narrow (record_slot narrow short) ≡ Some (Some short)
unfolding record_slot slot_of
short_read = refl

pub long_read : slot_of wide (record_slot wide long) ≡ Some (Some long)
unfolding record_slot slot_of
long_read = refl
