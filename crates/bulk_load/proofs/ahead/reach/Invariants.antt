use Rattle.std.proofs.Common.{◌-◌}
use Rattle.std.specs.Prelude.{Ok}
use Rattle.bulk_load.specs.Ahead.{ReadsAhead}
use Rattle.bulk_load.proofs.ahead.reach.Given as goal

abbrev pub invariant-loop-ahead : goal.invariant-loop-ahead
invariant-loop-ahead g l = record {
  on : ReadsAhead {T = Unit {0}} l.place (Ok tt) l.fn.ahead l.ahead (g.S.Station.view l.fn.station) (g.S.Station.view l.station);
}

-- each segment is read once
abbrev pub decreases-loop-ahead : goal.decreases-loop-ahead
decreases-loop-ahead g l = l.ahead.reader.end - l.ahead.reader.next
