use Rattle.std.proofs.Common.{Some, None}
use Rattle.window_tally.specs.TallyPlaces.{FillsBelow}
use Rattle.window_tally.proofs.tree.rest_inside.Given as goal

abbrev pub invariant-loop-h : goal.invariant-loop-h
invariant-loop-h l = FillsBelow None (λ _ _. Some 0) l.height l.window.height l.window.number l.h l.initial.marks l.marks
