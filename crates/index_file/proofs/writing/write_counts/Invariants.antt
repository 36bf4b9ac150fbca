use Rattle.std.proofs.Common.{◌≡◌, ◌+◌, ◌-◌, ◌*◌, ◌^◌, ◌≤◌, ℕ, length}
use Rattle.station.specs.Bytes.{Touched}
use Rattle.station.specs.View.{Told, EachHeld}
use Rattle.station.specs.Steps.{Steps}
use Rattle.header_gate.specs.Places.{file_length}
use Rattle.index_file.specs.Area.{count_place}
use Rattle.index_file.specs.IndexReading.{HasIndex}
use Rattle.index_file.specs.Writing.{AreCountsOf}
use Rattle.segment_frames.specs.SegmentParts.{InParts}
use Rattle.index_file.proofs.writing.write_counts.Given as goal

abbrev pub invariant-loop-first : goal.invariant-loop-first
invariant-loop-first g l = record {
  within : l.first ≤ 2 ^ l.tally.height;
  file : HasIndex l.layout (g.S.Station.view l.station);
  steps : Steps (Touched (λ k. count_place l.layout 0 ≤ k)) (g.S.Station.view l.fn.station) (g.S.Station.view l.station);
  size : EachHeld (λ image. length image ≡ file_length l.layout) (g.S.Station.view l.station);
  written : Told (g.S.Station.view l.fn.station) → AreCountsOf l.layout l.tally.counts l.first (g.S.Station.view l.station).held;
  cost : (g.S.Station.view l.station).travel.written ≤ (g.S.Station.view l.fn.station).travel.written + 4 * l.first;
  no_reads : (g.S.Station.view l.station).travel.read ≡ (g.S.Station.view l.fn.station).travel.read;
  calls : (made : ℕ) × InParts 1024 (2 ^ l.tally.height) l.first made × ((g.S.Station.view l.station).calls ≤ (g.S.Station.view l.fn.station).calls + made);
}

abbrev pub decreases-loop-first : goal.decreases-loop-first
decreases-loop-first g l = 2 ^ l.tally.height - l.first
