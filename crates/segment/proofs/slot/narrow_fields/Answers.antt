-- The fields, as the coder leaves them.
use Rattle.key_slot.specs.Format.{narrow}
use Rattle.key_slot.specs.Slot.{fields_of}
use Rattle.key_slot.proofs.SlotBytes.{tests_of_slot, key_padded, value_padded, fields_there}
use Rattle.segment.proofs.slot.narrow_fields.Goals as goal

pub returns-clause-fields : goal.returns-clause-fields
returns-clause-fields c =
    let bytes = c.args.slot.now in
    let t = tests_of_slot narrow (fields_of narrow bytes) bytes c.requires in
    record { key = key_padded narrow bytes c.told-slot t; value = value_padded narrow bytes c.told-slot t }

pub returns-clause-row : goal.returns-clause-row
returns-clause-row c = fields_there narrow c.args.slot.now (tests_of_slot narrow (fields_of narrow c.args.slot.now) c.args.slot.now c.requires)
