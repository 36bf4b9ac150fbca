-- What the steps inside the reading of a line do, in a file of a slot format f.
use Rattle.std.specs.Prelude.{ℕ, List, Option, Some, None}
use Rattle.key_slot.specs.Record.{Bytes}
use Rattle.command_text.specs.Command.{with_bound}
use Rattle.command_text.specs.ByName.{key_then, number_then}
use Rattle.command_text.specs.declared.command.Command.{Command}
use Rattle.command_text.specs.declared.command.Command.TheVariants as command
use Rattle.command_text.specs.declared.parse.Keyed.{Keyed}
use Rattle.command_text.specs.declared.parse.Keyed.TheVariants as keyed

-- the command of one key and nothing else
abbrev pub of_key : Keyed → Bytes → Command
of_key keyed.Remove key = command.Remove key
of_key keyed.Get key = command.Get key
of_key keyed.Next key = command.Next key
of_key keyed.Prev key = command.Prev key
of_key keyed.Close key = command.Close key

-- what follows if a bound was read, or the refusal
abbrev pub on_bound : (Option (List ℕ) → Command) → Option (Option (List ℕ)) → Command
on_bound next (Some bound) = next bound
on_bound next None = command.OversizedKey

-- a range between two bounds, with a limit
abbrev pub bounded : ℕ → List ℕ → List ℕ → Option ℕ → Command
bounded f low high limit = with_bound f low (λ from. with_bound f high (λ to. number_then limit (λ n. command.Range from to n)))

-- a probe of a key, with a block size
abbrev pub probed : ℕ → List ℕ → Option ℕ → Command
probed f word block = key_then f word (λ key. number_then block (λ n. command.Probe key n))

-- a cursor of this name between two bounds
abbrev pub opened_between : ℕ → List ℕ → List ℕ → List ℕ → Command
opened_between f name low high = with_bound f low (λ from. with_bound f high (λ to. command.Open name from to))

-- and of the name that a word is
abbrev pub named_between : ℕ → List ℕ → List ℕ → List ℕ → Command
named_between f name low high = key_then f name (λ n. opened_between f n low high)
