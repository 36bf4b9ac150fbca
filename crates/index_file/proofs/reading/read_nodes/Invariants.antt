use Rattle.std.proofs.Common.{◌≡◌, ◌-◌, ◌*◌, ◌^◌, ◌≤◌, ◌+◌, ℕ}
use Rattle.station.specs.Bytes.{Same}
use Rattle.station.specs.View.{Told}
use Rattle.station.specs.Steps.{Steps}
use Rattle.index_file.specs.Area.{node_place}
use Rattle.index_file.specs.IndexReading.{HasIndex, after_part}
use Rattle.index_file.specs.Writing.{AreNodesOf}
use Rattle.segment_frames.specs.SegmentParts.{InParts}
use Rattle.index_file.proofs.reading.read_nodes.Given as goal

abbrev pub invariant-loop-first : goal.invariant-loop-first
invariant-loop-first g l = record {
  within : l.first ≤ 2 ^ l.h - 1;
  height : l.index.height ≡ l.fn.index.height;
  hmax : l.index.hmax ≡ l.fn.index.hmax;
  file : HasIndex l.layout (g.S.Station.view l.station);
  steps : Steps Same (g.S.Station.view l.fn.station) (g.S.Station.view l.station);
  taken : Told (g.S.Station.view l.fn.station) → AreNodesOf l.layout.format l.layout l.h l.index.fences l.first (g.S.Station.view l.fn.station).held;
  travel : (g.S.Station.view l.station).travel ≡ after_part (node_place l.layout 0) (64 * l.first) (g.S.Station.view l.fn.station).travel;
  calls : (made : ℕ) × InParts 64 (2 ^ l.h - 1) l.first made × ((g.S.Station.view l.station).calls ≤ (g.S.Station.view l.fn.station).calls + made);
}

abbrev pub decreases-loop-first : goal.decreases-loop-first
decreases-loop-first g l = 2 ^ l.h - 1 - l.first
