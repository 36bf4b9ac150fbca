use Rattle.std.proofs.Common.{◌≡◌, ◌≢◌, ℕ, ◌+◌, ◌-◌, ◌*◌, ◌<◌, ◌≤◌, List, length, slice_range}
use Rattle.station.specs.Bytes.{Same}
use Rattle.station.specs.View.{Told}
use Rattle.station.specs.Steps.{Steps}
use Rattle.header_gate.specs.Places.{segment_size}
use Rattle.key_slot.specs.Record.{Record}
use Rattle.resize_region.specs.Shares.{places, share_in}
use Rattle.bulk_load.specs.Packing.{CanFill}
use Rattle.bulk_load.specs.Spreading.{IsPacked, ArePacked, used_by}
use Rattle.segment_frames.specs.SegmentParts.{GoesInParts}
use Rattle.bulk_load.proofs.spreading.fill_share.Given as goal

abbrev pub invariant-loop-have : goal.invariant-loop-have
invariant-loop-have g l = record {
  within : l.have ≤ l.to.size;
  packed : IsPacked l.place.layout.format l.records l.frames l.packed;
  room : l.packed.room ≡ l.fn.packed.room;
  unread : l.packed.unread ≤ l.fn.packed.unread;
  rest : l.packed.rest + l.have ≡ l.fn.packed.rest;
  filled : length (share_in l.place.layout.format l.to.index l.frames) ≡ l.have;
  others : (i : ℕ) → l.fn.packed.room ≤ i → i < places l.place.layout.format l.fn.frames → i ≢ l.to.index → share_in l.place.layout.format i l.frames ≡ share_in l.place.layout.format i l.fn.frames;
  slots : l.frames ≡ record l.fn.frames { slots = l.frames.slots };
  steps : Steps Same (g.S.Station.view l.fn.station) (g.S.Station.view l.station);
  unwritten : (g.S.Station.view l.station).travel.written ≡ (g.S.Station.view l.fn.station).travel.written;
  read : (g.S.Station.view l.station).travel.read + segment_size l.place.layout * l.packed.unread ≤ (g.S.Station.view l.fn.station).travel.read + segment_size l.place.layout * l.fn.packed.unread;
  calls : GoesInParts l.fn.packed.room (used_by l.records) (used_by l.records - l.fn.packed.unread) (used_by l.records - l.packed.unread) (g.S.Station.view l.fn.station).calls (g.S.Station.view l.station).calls;
  can : CanFill l.place l.frames (g.S.Station.view l.station);
  are : Told (g.S.Station.view l.fn.station) → (rows : List Record) → ArePacked l.place l.records rows l.fn.packed l.fn.frames (g.S.Station.view l.fn.station).held → ArePacked l.place l.records rows l.packed l.frames (g.S.Station.view l.station).held;
  share : Told (g.S.Station.view l.fn.station) → (rows : List Record) → ArePacked l.place l.records rows l.fn.packed l.fn.frames (g.S.Station.view l.fn.station).held →
      share_in l.place.layout.format l.to.index l.frames ≡ slice_range rows l.packed.rest l.fn.packed.rest;
}

-- each segment is read once, and each record moved once
abbrev pub decreases-loop-have : goal.decreases-loop-have
decreases-loop-have g l = l.packed.unread + (l.to.size - l.have)
