-- The items so far were taken, unless a key was repeated.
use Rattle.command_text.specs.Words.{words}
use Rattle.command_text.proofs.BatchTaking.{Taken}
use Rattle.command_text.proofs.batch.read_items.Given as goal

abbrev pub invariant-loop-i : goal.invariant-loop-i
invariant-loop-i l = Taken l.format (words l.rest) (words l.left) l._i l.intent l.repeated
