-- A cursor that gave a record, and the cursors then.
use Rattle.std.specs.Prelude.{Option, Some}
use Rattle.std.specs.Option.{option_map_or}
use Rattle.key_slot.specs.Record.{Bytes, Record}
use Rattle.map_model.specs.Cursors.{Cursor, Cursors}
use Rattle.cursor_set.specs.SetAnswers.{moved}

-- it keeps the record's key
abbrev pub behind : Record → Cursor → Cursor
behind r at = record at { past = Some r.0 }

-- the cursors after a step of the one of a name, where there is one, by what it gives
abbrev pub moved_if : (Cursor → Option Record) → Cursors → Bytes → Option Cursor → Cursors
moved_if gives k name held = option_map_or (λ at. moved k name at (gives at)) held k
