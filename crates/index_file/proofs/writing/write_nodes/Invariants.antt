use Rattle.std.proofs.Common.{◌≡◌, ◌+◌, ◌-◌, ◌*◌, ◌^◌, ◌≤◌, ℕ, length}
use Rattle.station.specs.Bytes.{Touched}
use Rattle.station.specs.View.{Told, EachHeld}
use Rattle.station.specs.Steps.{Steps}
use Rattle.header_gate.specs.Places.{file_length}
use Rattle.index_file.specs.Clean.{IsAreaPlace}
use Rattle.key_slot.specs.Format.{wide}
use Rattle.index_file.specs.IndexReading.{HasIndex}
use Rattle.index_file.specs.Writing.{AreNodesOf}
use Rattle.segment_frames.specs.SegmentParts.{InParts}
use Rattle.index_file.proofs.writing.write_nodes.Given as goal

abbrev pub invariant-loop-first : goal.invariant-loop-first
invariant-loop-first g l = record {
  within : l.first ≤ 2 ^ l.h - 1;
  file : HasIndex l.layout (g.S.Station.view l.station);
  steps : Steps (Touched (IsAreaPlace l.layout)) (g.S.Station.view l.fn.station) (g.S.Station.view l.station);
  size : EachHeld (λ image. length image ≡ file_length l.layout) (g.S.Station.view l.station);
  written : Told (g.S.Station.view l.fn.station) → AreNodesOf wide l.layout l.h l.index.fences l.first (g.S.Station.view l.station).held;
  cost : (g.S.Station.view l.station).travel.written ≤ (g.S.Station.view l.fn.station).travel.written + 64 * l.first;
  no_reads : (g.S.Station.view l.station).travel.read ≡ (g.S.Station.view l.fn.station).travel.read;
  calls : (made : ℕ) × InParts 64 (2 ^ l.h - 1) l.first made × ((g.S.Station.view l.station).calls ≤ (g.S.Station.view l.fn.station).calls + made);
}

abbrev pub decreases-loop-first : goal.decreases-loop-first
decreases-loop-first g l = 2 ^ l.h - 1 - l.first
