use Rattle.std.proofs.Common.{◌≡◌, ◌-◌, ℕ, ◌+◌, ◌*◌, ◌/◌, ◌<◌, ◌≤◌, List, [], length}
use Rattle.station.specs.View.{Told}
use Rattle.station.specs.Steps.{Steps}
use Rattle.header_gate.specs.Places.{segment_size}
use Rattle.key_slot.specs.Record.{Record}
use Rattle.key_slot.specs.Segment.{IsSegment}
use Rattle.map_model.specs.Array.{segment_at, spread_over}
use Rattle.map_model.specs.Regions.{Spares}
use Rattle.resize_region.specs.Spare.{spare_bytes}
use Rattle.resize_region.specs.Shares.{share_in}
use Rattle.bulk_load.specs.Packing.{CanFill, AreRows, HasPacked}
use Rattle.bulk_load.specs.Spreading.{used_by, IsPacked, ArePacked}
use Rattle.resize_region.proofs.CopyCalls.{CopyCalls}
use Rattle.bulk_load.proofs.spreading.spread_spare.Given as goal

abbrev pub invariant-loop-end : goal.invariant-loop-end
invariant-loop-end g l = record {
  upto : l.end ≤ l.segments;
  packed : IsPacked l.place.layout.format l.records l.frames l.packed;
  halves : l.packed.room + l.room ≡ l.all;
  rest : l.packed.rest ≡ l.end * l.records / l.segments;
  empty : (i : ℕ) → i < l.room → share_in l.place.layout.format (l.packed.room + i) l.frames ≡ [];
  steps : Steps (Spares l.place.layout l.place.region) (g.S.Station.view l.fn.station) (g.S.Station.view l.station);
  can : CanFill l.place l.frames (g.S.Station.view l.station);
  journal : l.frames.journal ≡ l.fn.frames.journal;
  turn : l.frames.turn ≡ l.fn.frames.turn;
  cost : (g.S.Station.view l.station).travel.written + segment_size l.place.layout * l.end ≤ (g.S.Station.view l.fn.station).travel.written + segment_size l.place.layout * l.segments;
  read : (g.S.Station.view l.station).travel.read + segment_size l.place.layout * l.packed.unread ≤ (g.S.Station.view l.fn.station).travel.read + segment_size l.place.layout * used_by l.records;
  calls : CopyCalls (l.all - l.room) (used_by l.records) (used_by l.records - l.packed.unread) l.room l.segments (l.segments - l.end) (g.S.Station.view l.fn.station).calls (g.S.Station.view l.station).calls;
  are : Told (g.S.Station.view l.fn.station) → (rows : List Record) → AreRows l.place.layout.format rows → length rows ≡ l.records → HasPacked l.place rows (used_by l.records) (g.S.Station.view l.fn.station).held →
      ArePacked l.place l.records rows l.packed l.frames (g.S.Station.view l.station).held;
  written : Told (g.S.Station.view l.fn.station) → (rows : List Record) → AreRows l.place.layout.format rows → length rows ≡ l.records → HasPacked l.place rows (used_by l.records) (g.S.Station.view l.fn.station).held →
      (i : ℕ) → l.end ≤ i → i < l.segments → IsSegment l.place.layout.format (segment_at (spread_over l.segments rows) i) (spare_bytes l.place i (g.S.Station.view l.station).held);
}

abbrev pub decreases-loop-end : goal.decreases-loop-end
decreases-loop-end g l = l.end
