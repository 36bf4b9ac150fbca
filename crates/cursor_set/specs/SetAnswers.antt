-- What a set of cursors answers.
use Rattle.std.specs.Prelude.{nat_lt, if◌then◌else◌, Option, Some, None}
use Rattle.std.specs.Option.{option_map_or}
use Rattle.std.specs.FinMap.{contains_key, insert, remove, get, len}
use Rattle.key_slot.specs.Record.{Bytes, Record}
use Rattle.key_slot.specs.Row.{record_of}
use Rattle.map_model.specs.Cursors.{Cursor, Cursors, most_cursors}
use Rattle.cursor_set.specs.declared.answers.Opened.{Opened}
use Rattle.cursor_set.specs.declared.answers.Opened.TheVariants as opened
use Rattle.cursor_set.specs.declared.answers.Step.{Step}
use Rattle.cursor_set.specs.declared.answers.Step.TheVariants as step

-- what an opening answers
abbrev pub opening : Cursors → Bytes → Opened
opening k name = if contains_key k name then opened.Taken else (if nat_lt (len k) most_cursors then opened.Opened else opened.NoRoom)

-- what a step says: that there is no cursor, that it is at its end, or its next record
abbrev pub told_by : Step → Option (Option Record)
told_by (step.Row row) = Some (Some (record_of row))
told_by step.End = Some None
told_by step.NoCursor = None

-- the cursors once one gave a record, or came to its end
abbrev pub moved : Cursors → Bytes → Cursor → Option Record → Cursors
moved k name at given = option_map_or (λ r. insert k name (record at { past = Some r.0 })) given (remove k name)

-- the cursors once the cursor of a name, if there is one, gave a record
abbrev pub given_by : Cursors → Bytes → Option Cursor → Record → Cursors
given_by k name None r = k
given_by k name (Some at) r = insert k name (record at { past = Some r.0 })

-- the cursors after a step of the cursor of a name, by what it answered
abbrev pub after_answer : Cursors → Bytes → Step → Cursors
after_answer k name (step.Row row) = given_by k name (get k name) (record_of row)
after_answer k name step.End = remove k name
after_answer k name step.NoCursor = k
