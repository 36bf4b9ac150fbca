-- The items so far have an item's form, and the intent has room for their spelling.
use Rattle.command_text.specs.Words.{words}
use Rattle.command_text.proofs.BatchReading.{Counted}
use Rattle.command_text.proofs.batch.has_form.Given as goal

abbrev pub invariant-loop-i : goal.invariant-loop-i
invariant-loop-i l = Counted (words l.rest) (words l.left) l._i l.size
