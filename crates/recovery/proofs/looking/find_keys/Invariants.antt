use Rattle.std.proofs.Common.{◌≡◌, ◌+◌, ◌*◌, ◌≤◌, length}
use Rattle.station.specs.Bytes.{Same}
use Rattle.station.specs.View.{Told}
use Rattle.station.specs.Steps.{Steps}
use Rattle.header_gate.specs.Places.{segment_size}
use Rattle.range_scan.specs.RegionReading.{page_in}
use Rattle.recovery.specs.Intents.{AreThere}
use Rattle.recovery.proofs.Lookups.{in_front}
use Rattle.recovery.proofs.looking.find_keys.Given as goal

abbrev pub invariant-loop-segment : goal.invariant-loop-segment
invariant-loop-segment g l = record {
  pages : length l.page ≡ 8192;
  found : Told (g.S.Station.view l.fn.station) → AreThere l.intent l.there (in_front l.parts.place.layout.format (page_in l.parts.place.layout l.parts.place.region (g.S.Station.view l.fn.station).held) l.segment);
  steps : Steps Same (g.S.Station.view l.fn.station) (g.S.Station.view l.station);
  unwritten : (g.S.Station.view l.station).travel.written ≡ (g.S.Station.view l.fn.station).travel.written;
  reads : (g.S.Station.view l.station).travel.read ≤ (g.S.Station.view l.fn.station).travel.read + segment_size l.parts.place.layout * l.segment;
  calls : (g.S.Station.view l.station).calls ≤ (g.S.Station.view l.fn.station).calls + l.segment;
}
