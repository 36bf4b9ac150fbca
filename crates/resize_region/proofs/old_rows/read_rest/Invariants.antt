use Rattle.std.proofs.Common.{◌≡◌, ◌+◌, ◌-◌, ◌≤◌}
use Rattle.station.specs.Bytes.{Same}
use Rattle.station.specs.View.{Told, EachHeld}
use Rattle.station.specs.Steps.{Steps}
use Rattle.header_gate.specs.Places.{file_length}
use Rattle.map_model.specs.Image.{array_of}
use Rattle.range_scan.specs.Walk.{after_walk}
use Rattle.resize_region.specs.Shares.{StandsBare}
use Rattle.resize_region.specs.OldRows.{IsAmongRows, IsInOrder, rows_left}
use Rattle.resize_region.proofs.old_rows.read_rest.Given as goal

abbrev pub invariant-loop : goal.invariant-loop
invariant-loop g l = record {
  among : IsAmongRows l.place l.tally l.rows;
  none : rows_left l.tally.counts l.rows ≡ 0;
  order : Told (g.S.Station.view l.fn.station) → IsInOrder (array_of (g.S.Station.view l.fn.station).held) l.rows;
  steps : Steps Same (g.S.Station.view l.fn.station) (g.S.Station.view l.station);
  reads : (g.S.Station.view l.station).travel ≡ after_walk l.place.layout l.place.region l.fn.rows.reader.next l.rows.reader.next (g.S.Station.view l.fn.station).travel;
  calls : (g.S.Station.view l.station).calls ≤ (g.S.Station.view l.fn.station).calls + (l.rows.reader.next - l.fn.rows.reader.next);
  onward : l.fn.rows.reader.next ≤ l.rows.reader.next;
  reach : file_length l.place.layout ≤ (g.S.Station.view l.station).fixed.reach;
  stands : EachHeld (StandsBare l.place l.tally) (g.S.Station.view l.station);
}

abbrev pub decreases-loop : goal.decreases-loop
decreases-loop g l = l.rows.reader.end - l.rows.reader.next
