-- The room that a slot of a format f has for keys and values.
use Rattle.std.specs.Prelude.{ℕ, nat_lt, if◌then◌else◌, List, length}
use Rattle.key_slot.specs.Format.{key_room, value_room}
use Rattle.command_text.specs.declared.command.Command.{Command}
use Rattle.command_text.specs.declared.command.Command.TheVariants.{OversizedKey, OversizedValue}

-- a command, unless a slot has no room for this key
abbrev pub with_key : ℕ → List ℕ → Command → Command
with_key f key command = if nat_lt (key_room f) (length key) then OversizedKey else command

-- a command, unless it has none for this value
abbrev pub with_value : ℕ → List ℕ → Command → Command
with_value f value command = if nat_lt (value_room f) (length value) then OversizedValue else command
