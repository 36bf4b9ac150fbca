use Rattle.std.proofs.Common.{◌≡◌, ◌≢◌, ℕ, ◌+◌, ◌-◌, ◌<◌, ◌≤◌, ◌++◌, length}
use Rattle.station.specs.Bytes.{Same}
use Rattle.station.specs.View.{Told, EachHeld}
use Rattle.station.specs.Steps.{Steps}
use Rattle.header_gate.specs.Places.{file_length}
use Rattle.key_slot.specs.Format.{wide}
use Rattle.map_model.specs.Image.{array_of}
use Rattle.range_scan.specs.Walk.{after_walk}
use Rattle.resize_region.specs.Shares.{StandsBare}
use Rattle.resize_region.specs.OldRows.{IsAmongRows, IsInOrder, rows_left, rows_ahead}
use Rattle.resize_region.specs.Shares.{places, HasShares, share_in}
use Rattle.resize_region.proofs.old_rows.gather.Given as goal

abbrev pub invariant-loop-have : goal.invariant-loop-have
invariant-loop-have g l = record {
  within : l.have ≤ l.wanted.records;
  shares : HasShares wide l.frames;
  filled : length (share_in wide l.wanted.f l.frames) ≡ l.have;
  others : (i : ℕ) → i ≢ l.wanted.f → i < places wide l.fn.frames → share_in wide i l.frames ≡ share_in wide i l.fn.frames;
  rest : l.frames ≡ record l.fn.frames { slots = l.frames.slots };
  among : IsAmongRows l.place l.tally l.rows;
  left : l.have + rows_left l.tally.counts l.rows ≡ rows_left l.tally.counts l.fn.rows;
  order : Told (g.S.Station.view l.fn.station) → IsInOrder (array_of (g.S.Station.view l.fn.station).held) l.rows;
  same : Told (g.S.Station.view l.fn.station) → share_in wide l.wanted.f l.frames ++ rows_ahead (array_of (g.S.Station.view l.fn.station).held) l.rows ≡ rows_ahead (array_of (g.S.Station.view l.fn.station).held) l.fn.rows;
  steps : Steps Same (g.S.Station.view l.fn.station) (g.S.Station.view l.station);
  reads : (g.S.Station.view l.station).travel ≡ after_walk l.place.layout l.place.region l.fn.rows.reader.next l.rows.reader.next (g.S.Station.view l.fn.station).travel;
  calls : (g.S.Station.view l.station).calls ≤ (g.S.Station.view l.fn.station).calls + (l.rows.reader.next - l.fn.rows.reader.next);
  onward : l.fn.rows.reader.next ≤ l.rows.reader.next;
  reach : file_length l.place.layout ≤ (g.S.Station.view l.station).fixed.reach;
  stands : EachHeld (StandsBare l.place l.tally) (g.S.Station.view l.station);
}

-- each segment is read once, and each record taken once
abbrev pub decreases-loop-have : goal.decreases-loop-have
decreases-loop-have g l = (l.rows.reader.end - l.rows.reader.next) + (l.wanted.records - l.have)
