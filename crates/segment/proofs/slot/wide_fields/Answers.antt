-- The fields, as the coder leaves them.
use Rattle.key_slot.specs.Format.{wide}
use Rattle.key_slot.specs.Slot.{fields_of}
use Rattle.key_slot.proofs.SlotBytes.{tests_of_slot, key_padded, value_padded, fields_there}
use Rattle.segment.proofs.slot.wide_fields.Goals as goal

pub returns-clause-fields : goal.returns-clause-fields
returns-clause-fields c =
    let bytes = c.args.slot.now in
    let t = tests_of_slot wide (fields_of wide bytes) bytes c.requires in
    record { key = key_padded wide bytes c.told-slot t; value = value_padded wide bytes c.told-slot t }

pub returns-clause-row : goal.returns-clause-row
returns-clause-row c = fields_there wide c.args.slot.now (tests_of_slot wide (fields_of wide c.args.slot.now) c.args.slot.now c.requires)
