use Rattle.std.proofs.Common.{◌/◌, ◌^◌, get_or, None}
use Rattle.std.specs.Option.{option_map}
use Rattle.density_rule.specs.Marks.{one_more}
use Rattle.window_tally.specs.TallyPlaces.{place}
use Rattle.window_tally.proofs.PathLaws.{WritesPath}
use Rattle.window_tally.proofs.tree.count_update.Given as goal

abbrev pub invariant-loop-h : goal.invariant-loop-h
invariant-loop-h l = WritesPath None (λ h. option_map one_more (get_or l.initial.marks (place l.height h (l.segment / 2 ^ h)) None)) l.height l.segment l.h l.initial.marks l.marks
