-- Reading the slots of a segment one by one.
use Rattle.std.specs.Prelude.{◌≡◌, ℕ, zero, suc, ◌+◌, ◌<◌, ◌≤◌, Bool, List, [], length, slice_get, slice_index_or, Option, Some, is_none}
use Rattle.key_slot.specs.Record.{Bytes, Record, IsAscending}
use Rattle.key_slot.specs.Slot.{slot_of}
use Rattle.key_slot.specs.Segment.{is_bad_behind}
use Rattle.key_slot.specs.declared.sizes.TheConstants.{SEGMENT_SLOTS}
use Rattle.segment.specs.HeldSlots.{held_rows}

-- whether slot i is bad, if the slots before it hold these rows and nothing behind them
abbrev pub is_bad_next : List Record → ℕ → Option (Option Record) → Bool
is_bad_next rows zero read = is_none read
is_bad_next rows (suc i) read = is_bad_behind (Some (slice_get rows i)) read

-- the rows with what slot i holds
pub record HoldsNext (old : List Record) (i : ℕ) (read : Option (Option Record)) (new : List Record) : Type 0 where
  pub most : length new ≤ i + 1
  pub before : (j : ℕ) → j < i → slice_get new j ≡ slice_get old j
  pub here : read ≡ Some (slice_get new i)

-- the slots hold `count` rows, in ascending order, and nothing behind them
pub record AreRows (f count : ℕ) (slots : List Bytes) : Type 0 where
  pub most : count ≤ SEGMENT_SLOTS
  pub ascending : IsAscending (held_rows f count slots)
  pub each : (i : ℕ) → i < SEGMENT_SLOTS → slot_of f (slice_index_or slots i []) ≡ Some (slice_get (held_rows f count slots) i)
