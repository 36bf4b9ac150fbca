use Rattle.std.proofs.Common.{◌≡◌, ◌-◌, ◌+◌, ◌≤◌, take}
use Rattle.std.specs.FinMap.{entries}
use Rattle.station.specs.Bytes.{Same}
use Rattle.station.specs.View.{Told}
use Rattle.station.specs.Steps.{Steps}
use Rattle.map_model.specs.Image.{map_of}
use Rattle.map_model.specs.Array.{cut, rows}
use Rattle.range_scan.specs.Checking.{LieAbove}
use Rattle.range_scan.specs.SeekReads.{IsNear, NoneAhead}
use Rattle.range_scan.specs.Walk.{after_walk}
use Rattle.range_scan.proofs.ahead.first_ahead_in.Given as goal

abbrev pub invariant-loop-page : goal.invariant-loop-page
invariant-loop-page g l = record {
  near : IsNear l.region.layout.now l.region.number l.region.tally.now.height l.fn.first l.reader;
  above : Told (g.S.Station.view l.fn.station) → LieAbove l.reader (cut l.region.tally.now.counts (entries (map_of (g.S.Station.view l.fn.station).held)));
  none : Told (g.S.Station.view l.fn.station) → NoneAhead l.look.start.now l.look.past.now l.look.high.now (rows (take l.reader.next (cut l.region.tally.now.counts (entries (map_of (g.S.Station.view l.fn.station).held)))));
  -- the second segment always has such a record
  early : Told (g.S.Station.view l.fn.station) → l.reader.next ≤ l.fn.first + 1;
  steps : Steps Same (g.S.Station.view l.fn.station) (g.S.Station.view l.station);
  reads : (g.S.Station.view l.station).travel ≡ after_walk l.region.layout.now l.region.number l.fn.first l.reader.next (g.S.Station.view l.fn.station).travel;
  calls : (g.S.Station.view l.station).calls ≤ (g.S.Station.view l.fn.station).calls + (l.reader.next - l.fn.first);
}

abbrev pub decreases-loop-page : goal.decreases-loop-page
decreases-loop-page g l = l.reader.end - l.reader.next
