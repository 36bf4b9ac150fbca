use Rattle.std.proofs.Common.{◌≡◌, ◌+◌, ◌-◌, ◌*◌, ◌/◌, ◌<◌, ◌≤◌, ℕ, [], drop}
use Rattle.station.specs.View.{Told, EachHeld}
use Rattle.station.specs.Steps.{Steps}
use Rattle.header_gate.specs.Places.{file_length, segment_size}
use Rattle.key_slot.specs.Format.{wide}
use Rattle.map_model.specs.Array.{rows, segment_at, spread_over}
use Rattle.map_model.specs.Image.{array_of}
use Rattle.map_model.specs.Regions.{Spares}
use Rattle.resize_region.specs.Shares.{StandsBare}
use Rattle.resize_region.specs.Spare.{HasWritten}
use Rattle.resize_region.specs.OldRows.{IsAmongRows, IsInOrder, rows_left, rows_ahead}
use Rattle.resize_region.specs.Shares.{HasShares, share_in}
use Rattle.resize_region.specs.Source.{Walks}
use Rattle.resize_region.specs.Upgraded.{widened, in_wide}
use Rattle.segment_frames.specs.Lists.{most_segments}
use Rattle.segment_frames.specs.SegmentParts.{InParts}
use Rattle.resize_region.proofs.widening.write_wide.Given as goal

abbrev pub invariant-loop-t : goal.invariant-loop-t
invariant-loop-t g l = record {
  steps : Steps (Spares l.place.layout l.place.region) (g.S.Station.view l.fn.station) (g.S.Station.view l.station);
  reach : file_length l.place.layout ≤ (g.S.Station.view l.station).fixed.reach;
  stands : EachHeld (StandsBare l.place l.tally) (g.S.Station.view l.station);
  array : Told (g.S.Station.view l.fn.station) → array_of (g.S.Station.view l.station).held ≡ array_of (g.S.Station.view l.fn.station).held;
  below : l.f < l.all;
  within : l.f ≤ l.t;
  upto : l.t ≤ l.spread.segments;
  flushed : l.t ≡ l.spread.segments → l.f ≡ 0;
  journal : l.frames.journal ≡ l.fn.frames.journal;
  turn : l.frames.turn ≡ l.fn.frames.turn;
  shares : HasShares wide l.frames;
  empty : (i : ℕ) → l.f ≤ i → i < l.all → share_in wide i l.frames ≡ [];
  kept : Told (g.S.Station.view l.fn.station) → (i : ℕ) → i < l.f → share_in wide i l.frames ≡ segment_at (spread_over l.spread.segments (rows (array_of (g.S.Station.view l.fn.station).held))) (l.t - l.f + i);
  among : IsAmongRows l.place l.tally l.rows;
  order : Told (g.S.Station.view l.fn.station) → IsInOrder (array_of (g.S.Station.view l.fn.station).held) l.rows;
  coming : l.t * l.spread.records / l.spread.segments + rows_left l.tally.counts l.rows ≡ l.spread.records;
  rest : Told (g.S.Station.view l.fn.station) → rows_ahead (array_of (g.S.Station.view l.fn.station).held) l.rows ≡ drop (l.t * l.spread.records / l.spread.segments) (rows (array_of (g.S.Station.view l.fn.station).held));
  written : Told (g.S.Station.view l.fn.station) → HasWritten (in_wide l.place) (spread_over l.spread.segments (rows (array_of (g.S.Station.view l.fn.station).held))) (l.t - l.f) (g.S.Station.view l.station).held;
  cost : (g.S.Station.view l.station).travel.written ≤ (g.S.Station.view l.fn.station).travel.written + segment_size (widened l.place.layout) * (l.t - l.f);
  calls : (made : ℕ) × InParts (most_segments (widened l.place.layout)) l.spread.segments (l.t - l.f) made × ((g.S.Station.view l.station).calls ≤ (g.S.Station.view l.fn.station).calls + (l.rows.reader.next + made));
  reads : Walks l.place 0 l.rows.reader.next (g.S.Station.view l.fn.station).travel (g.S.Station.view l.station).travel;
}

abbrev pub decreases-loop-t : goal.decreases-loop-t
decreases-loop-t g l = l.spread.segments - l.t
