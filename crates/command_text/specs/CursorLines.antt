-- What is asked of cursors: the lines that answer it, and the cursors behind it.
use Rattle.std.specs.Prelude.{nat_lt, if◌then◌else◌, Option, Some, None}
use Rattle.std.specs.FinMap.{contains_key, remove, len}
use Rattle.key_slot.specs.Record.{Bytes, Record}
use Rattle.map_model.specs.Cursors.{Cursors, most_cursors, after_open, onward, back, after_step}
use Rattle.map_model.specs.Store.{Map}
use Rattle.command_text.specs.Answers.{row_line}
use Rattle.command_text.specs.declared.command.Command.{Command}
use Rattle.command_text.specs.declared.command.Command.TheVariants as command
use Rattle.command_text.specs.declared.reply.Reply.{Reply}
use Rattle.command_text.specs.declared.reply.Reply.TheVariants as reply

-- the line that answers an opening
abbrev pub open_line : Cursors → Bytes → Reply
open_line k name = if contains_key k name then reply.CursorOpen else (if nat_lt (len k) most_cursors then reply.Opened else reply.NoRoom)

-- the line that answers what a cursor gives, going on or going back
abbrev pub next_line : Option (Option Record) → Reply
next_line None = reply.NoCursor
next_line (Some None) = reply.CursorEnd
next_line (Some (Some r)) = row_line r

-- the line that answers a closing
abbrev pub close_line : Cursors → Bytes → Reply
close_line k name = if contains_key k name then reply.Closed else reply.NoCursor

-- the cursors after a command, which finds this map
abbrev pub cursors_after : Map → Cursors → Command → Cursors
cursors_after m k (command.Open name low high) = after_open k name low high
cursors_after m k (command.Next name) = after_step onward m k name
cursors_after m k (command.Prev name) = after_step back m k name
cursors_after m k (command.Close name) = remove k name
cursors_after m k _ = k
