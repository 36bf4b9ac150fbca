-- Records in frames: the slots of a segment's frames spell a list of records, and empty slots behind it.
use Rattle.std.specs.Prelude.{◌≡◌, ℕ, zero, suc, ◌+◌, ◌*◌, ◌/◌, ◌<◌, ◌≤◌, List, [], ◌∷◌, T, length, get_or}
use Rattle.std.specs.List.{list_all}
use Rattle.key_slot.specs.Record.{Record, is_record}
use Rattle.key_slot.specs.Slot.{empty_slot, record_slot}
use Rattle.key_slot.specs.declared.sizes.TheConstants.{SEGMENT_SLOTS}
use Rattle.raw_slots.specs.SlotGroups.{groups}
use Rattle.map_model.specs.Array.{Array, segment_at}

-- the slots of a format, each of which is that many slots of the frames
abbrev pub grouped : ℕ → List (List ℕ) → List (List ℕ)
grouped format slots = groups format (length slots / format) slots

-- slot j of a segment of these records
abbrev pub slot_in : ℕ → List Record → ℕ → List ℕ
slot_in format [] j = empty_slot format
slot_in format (r ∷ rows) zero = record_slot format r
slot_in format (r ∷ rows) (suc j) = slot_in format rows j

-- segment f of the slots of a format holds these records
pub record HoldsRows (format : ℕ) (rows : List Record) (f : ℕ) (slots : List (List ℕ)) : Type 0 where
  -- there are at most 64 of them, each one that a slot of the format can hold
  pub most : length rows ≤ SEGMENT_SLOTS
  pub records : T (list_all (is_record format) rows)
  -- their slots come first, in order, and all others are empty
  pub slots_are : (j : ℕ) → j < SEGMENT_SLOTS → get_or slots (SEGMENT_SLOTS * f + j) [] ≡ slot_in format rows j

-- the first segments hold these lists
pub record HoldsLists (format : ℕ) (lists : Array) (slots : List (List ℕ)) : Type 0 where
  pub room : SEGMENT_SLOTS * length lists ≤ length slots
  pub each : (f : ℕ) → f < length lists → HoldsRows format (segment_at lists f) f slots
