-- The whole fields of a slot, and the row that they hold.
use Rattle.std.specs.Prelude.{ℕ, take}
use Rattle.key_slot.specs.Format.{narrow, wide, key_room, value_room}
use Rattle.key_slot.specs.Padded.{IsPadded}
use Rattle.key_slot.specs.Record.{Record}
use Rattle.segment.specs.declared.slot.Fields.{Fields}
use Rattle.segment.specs.declared.slot.Slot.{Slot}
use Rattle.segment.specs.declared.slot.Slot.TheVariants.{Narrow, Wide}

-- the fields of a slot of a format, with zeros behind the key and the value
pub record AreFields (f : ℕ) (fields : Fields) : Type 0 where
  pub key : IsPadded (key_room f) fields.key_len fields.key.now
  pub value : IsPadded (value_room f) fields.value_len fields.value.now

-- the key and the value
abbrev pub row_of_fields : Fields → Record
row_of_fields fields = (take fields.key_len fields.key.now, take fields.value_len fields.value.now)

-- a slot has the fields of its format
abbrev pub IsWhole : Slot → Type 0
IsWhole (Narrow fields) = AreFields narrow fields
IsWhole (Wide fields) = AreFields wide fields

-- the row of a slot
abbrev pub row_in : Slot → Record
row_in (Narrow fields) = row_of_fields fields
row_in (Wide fields) = row_of_fields fields
