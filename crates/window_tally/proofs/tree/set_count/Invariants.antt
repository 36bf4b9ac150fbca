use Rattle.std.proofs.Common.{◌/◌, ◌^◌, set}
use Rattle.density_rule.specs.Windows.{count_in}
use Rattle.window_tally.specs.TallyPlaces.{leaves_of}
use Rattle.window_tally.proofs.PathLaws.{WritesPath}
use Rattle.window_tally.proofs.tree.set_count.Given as goal

abbrev pub invariant-loop-h : goal.invariant-loop-h
invariant-loop-h l = WritesPath 0 (λ h. count_in (set (leaves_of l.height l.initial.counts) l.segment l.count) h (l.segment / 2 ^ h)) l.height l.segment l.h l.initial.counts l.counts
