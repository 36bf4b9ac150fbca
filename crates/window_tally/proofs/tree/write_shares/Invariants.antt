use Rattle.std.proofs.Common.{◌^◌}
use Rattle.density_rule.specs.Spread.{share}
use Rattle.window_tally.specs.TallyPlaces.{Fills}
use Rattle.window_tally.proofs.tree.write_shares.Given as goal

abbrev pub invariant-loop-i : goal.invariant-loop-i
invariant-loop-i l = Fills 0 (share l.records (2 ^ l.levels)) l.first l.i l.initial.counts l.counts
