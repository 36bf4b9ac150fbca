use Rattle.std.proofs.Common.{◌≡◌}
use Rattle.density_rule.specs.CountUpdates.{counts_after, is_broken, greatest_below}
use Rattle.window_tally.specs.Choice.{adds}
use Rattle.window_tally.specs.TallyPlaces.{leaves_of}
use Rattle.window_tally.proofs.tree.highest_broken.Given as goal

abbrev pub invariant-loop-h : goal.invariant-loop-h
invariant-loop-h l = l.broken ≡ greatest_below (is_broken l.height (counts_after (adds l.change) (leaves_of l.height l.counts) l.segment) l.segment) l.h
