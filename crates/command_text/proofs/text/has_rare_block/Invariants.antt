-- No byte so far is escaped.
use Rattle.std.proofs.Common.{ℕ, ◌-◌, ◌<◌, get_or, IsTrue}
use Rattle.command_text.specs.Printed.{is_escaped}
use Rattle.command_text.proofs.text.has_rare_block.Given as goal

abbrev pub invariant-loop-first : goal.invariant-loop-first
invariant-loop-first l = (i : ℕ) → i < l.first → ¬ IsTrue (is_escaped (get_or l.bytes i 0))

abbrev pub decreases-loop-first : goal.decreases-loop-first
decreases-loop-first l = l.last - l.first
