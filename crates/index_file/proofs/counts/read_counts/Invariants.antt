use Rattle.std.proofs.Common.{◌≡◌, ◌-◌, ◌*◌, ◌^◌, ◌≤◌, ◌+◌, ℕ}
use Rattle.station.specs.Bytes.{Same}
use Rattle.station.specs.View.{Told}
use Rattle.station.specs.Steps.{Steps}
use Rattle.window_tally.specs.TallyView.{IsTally}
use Rattle.index_file.specs.Area.{count_place}
use Rattle.index_file.specs.IndexReading.{HasIndex, after_part}
use Rattle.index_file.specs.IndexCounts.{AreCounted}
use Rattle.segment_frames.specs.SegmentParts.{InParts}
use Rattle.index_file.proofs.counts.read_counts.Given as goal

abbrev pub invariant-loop-first : goal.invariant-loop-first
invariant-loop-first g l = record {
  within : l.first ≤ 2 ^ l.fn.tally.height;
  kept : l.tally ≡ record l.fn.tally { counts = l.tally.counts };
  is_tally : IsTally l.tally;
  file : HasIndex l.layout (g.S.Station.view l.station);
  steps : Steps Same (g.S.Station.view l.fn.station) (g.S.Station.view l.station);
  counted : Told (g.S.Station.view l.fn.station) → AreCounted l.layout l.fn.tally.height l.first l.tally.counts (g.S.Station.view l.fn.station).held;
  travel : (g.S.Station.view l.station).travel ≡ after_part (count_place l.layout 0) (4 * l.first) (g.S.Station.view l.fn.station).travel;
  calls : (made : ℕ) × InParts 1024 (2 ^ l.fn.tally.height) l.first made × ((g.S.Station.view l.station).calls ≤ (g.S.Station.view l.fn.station).calls + made);
}

abbrev pub decreases-loop-first : goal.decreases-loop-first
decreases-loop-first g l = 2 ^ l.fn.tally.height - l.first
