use Rattle.std.proofs.Common.{Some, None}
use Rattle.window_tally.specs.TallyPlaces.{Fills}
use Rattle.window_tally.proofs.tree.write_rests.Given as goal

abbrev pub invariant-loop-i : goal.invariant-loop-i
invariant-loop-i l = Fills None (λ _. Some 0) l.first l.i l.initial.marks l.marks
