use Rattle.window_tally.specs.TallyPlaces.{FillsBelow, part_of}
use Rattle.window_tally.proofs.tree.share_out.Given as goal

abbrev pub invariant-loop-h : goal.invariant-loop-h
invariant-loop-h l = FillsBelow 0 (part_of l.records l.window.height) l.height l.window.height l.window.number l.h l.initial.counts l.counts
