-- The slots of a segment, in one of the formats, and the rows that they hold.
use Rattle.std.specs.Prelude.{ℕ, ◌/◌, ◌==◌, if◌then◌else◌, List, length}
use Rattle.std.specs.Simd.{first_chunks}
use Rattle.key_slot.specs.Record.{Record}
use Rattle.key_slot.specs.Format.{narrow, wide, slot_size, segment_length}
use Rattle.segment.specs.HeldSlots.{held_rows, IsHeld}
use Rattle.segment.specs.declared.formats.Slots.{Slots}
use Rattle.segment.specs.declared.formats.Slots.TheVariants.{Narrow, Wide}

-- the records in the first len of them
abbrev pub rows_in : ℕ → Slots → List Record
rows_in len (Narrow slots) = held_rows narrow len slots
rows_in len (Wide slots) = held_rows wide len slots

-- the slots are those of the first len records
abbrev pub KeepsRows : ℕ → Slots → Type 0
KeepsRows len (Narrow slots) = IsHeld narrow len slots
KeepsRows len (Wide slots) = IsHeld wide len slots

-- the slots of a segment's bytes, in the format of their length
abbrev pub slots_from : List ℕ → Slots
slots_from bytes = if length bytes == segment_length narrow then Narrow (first_chunks (slot_size narrow) (length bytes / slot_size narrow) bytes) else Wide (first_chunks (slot_size wide) (length bytes / slot_size wide) bytes)
