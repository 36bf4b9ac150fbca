use Rattle.std.proofs.Common.{◌≡◌, ◌-◌, ◌^◌, ◌≤◌, length}
use Rattle.station.specs.Bytes.{Same}
use Rattle.station.specs.View.{Told}
use Rattle.station.specs.Steps.{Steps}
use Rattle.map_model.specs.Image.{array_of}
use Rattle.pma_store.specs.Looked.{AreLoaded, HasLooked, ReadsOnce}
use Rattle.pma_store.specs.Once.{AreUsed}
use Rattle.pma_store.proofs.batch_scan.BatchScan.look_over.Given as goal

abbrev pub invariant-loop-segment : goal.invariant-loop-segment
invariant-loop-segment g l = record {
  steps : Steps Same (g.S.Station.view l.fn.station) (g.S.Station.view l.station);
  unwritten : (g.S.Station.view l.station).travel.written ≡ (g.S.Station.view l.fn.station).travel.written;
  upto : l.from ≤ 2 ^ l.search.tally.now.height;
  loaded : AreLoaded l.search.place.now.layout.format l.frames l.self l.from;
  looked : Told (g.S.Station.view l.fn.station) → HasLooked l.search.place.now.layout.format (array_of (g.S.Station.view l.fn.station).held) l.search.segments.now l.search.intent.now l.frames l.self l.from;
  used : Told (g.S.Station.view l.fn.station) → AreUsed l.search.place.now.layout (array_of (g.S.Station.view l.fn.station).held) l.search.intent.now l.frames l.self.whole;
  reads : (reads : ReadsOnce l.search.place.now l.search.segments.now l.from (g.S.Station.view l.fn.station) (g.S.Station.view l.station)) × (l.self.count ≤ length reads.read);
  journal : l.frames.journal ≡ l.search.place.now.layout.journal;
  turn : l.frames.turn ≡ l.fn.frames.turn;
}

abbrev pub decreases-loop-segment : goal.decreases-loop-segment
decreases-loop-segment g l = 2 ^ l.search.tally.now.height - l.from
