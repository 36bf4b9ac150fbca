use Rattle.std.proofs.Common.{◌≡◌, ◌-◌, ℕ, ◌+◌, ◌*◌, ◌/◌, ◌<◌, ◌≤◌, List, []}
use Rattle.station.specs.Bytes.{Same}
use Rattle.station.specs.View.{Told}
use Rattle.station.specs.Steps.{Steps}
use Rattle.header_gate.specs.Places.{segment_size}
use Rattle.key_slot.specs.Record.{Record}
use Rattle.map_model.specs.Array.{segment_at, spread_over}
use Rattle.resize_region.specs.Shares.{share_in}
use Rattle.bulk_load.specs.Packing.{CanFill}
use Rattle.bulk_load.specs.Spreading.{IsPacked, ArePacked, used_by}
use Rattle.segment_frames.specs.SegmentParts.{GoesInParts}
use Rattle.bulk_load.proofs.spreading.fill_places.Given as goal

abbrev pub invariant-loop-f : goal.invariant-loop-f
invariant-loop-f g l = record {
  within : l.f ≤ l.part.count;
  packed : IsPacked l.place.layout.format l.part.records l.frames l.packed;
  room : l.packed.room ≡ l.fn.packed.room;
  unread : l.packed.unread ≤ l.fn.packed.unread;
  rest : l.packed.rest ≡ (l.part.low + l.f) * l.part.records / l.part.segments;
  empty : (i : ℕ) → i < l.f → share_in l.place.layout.format (l.fn.packed.room + i) l.frames ≡ [];
  slots : l.frames ≡ record l.fn.frames { slots = l.frames.slots };
  steps : Steps Same (g.S.Station.view l.fn.station) (g.S.Station.view l.station);
  unwritten : (g.S.Station.view l.station).travel.written ≡ (g.S.Station.view l.fn.station).travel.written;
  read : (g.S.Station.view l.station).travel.read + segment_size l.place.layout * l.packed.unread ≤ (g.S.Station.view l.fn.station).travel.read + segment_size l.place.layout * l.fn.packed.unread;
  calls : GoesInParts l.fn.packed.room (used_by l.part.records) (used_by l.part.records - l.fn.packed.unread) (used_by l.part.records - l.packed.unread) (g.S.Station.view l.fn.station).calls (g.S.Station.view l.station).calls;
  can : CanFill l.place l.frames (g.S.Station.view l.station);
  are : Told (g.S.Station.view l.fn.station) → (rows : List Record) → ArePacked l.place l.part.records rows l.fn.packed l.fn.frames (g.S.Station.view l.fn.station).held → ArePacked l.place l.part.records rows l.packed l.frames (g.S.Station.view l.station).held;
  filled : Told (g.S.Station.view l.fn.station) → (rows : List Record) → ArePacked l.place l.part.records rows l.fn.packed l.fn.frames (g.S.Station.view l.fn.station).held →
      (i : ℕ) → l.f ≤ i → i < l.part.count → share_in l.place.layout.format (l.fn.packed.room + i) l.frames ≡ segment_at (spread_over l.part.segments rows) (l.part.low + i);
}

abbrev pub decreases-loop-f : goal.decreases-loop-f
decreases-loop-f g l = l.f
