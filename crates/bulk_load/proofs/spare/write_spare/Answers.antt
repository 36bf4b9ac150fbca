use Rattle.std.proofs.Common.{arith, ◌≡◌, inl, refl, ℕ, ◌+◌, ◌-◌, ◌*◌, ◌<◌, ◌≤◌, length, subst, ◌∙◌}
use Rattle.station.specs.Bytes.{Blurred, Written, InRange, Touched}
use Rattle.station.specs.Steps.{Steps}
use Rattle.station.proofs.Composition.{within, weaken}
use Rattle.key_slot.specs.declared.sizes.TheConstants.{SEGMENT_SLOTS}
use Rattle.header_gate.specs.Places.{file_length, segment_size, segment_place}
use Rattle.resize_region.specs.Shares.{places, share_in}
use Rattle.resize_region.specs.Spare.{spare_bytes}
use Rattle.resize_region.proofs.ShareFrames.{share_holds, room_of, places_room}
use Rattle.resize_region.proofs.SettledLaws.{spelled, spare_run}
use Rattle.resize_region.proofs.SpareLaws.{spare_long, run_within}
use Rattle.bulk_load.proofs.SpareReads.{run_written, spare_same}
use Rattle.bulk_load.proofs.spare.write_spare.Goals as goal
use Rattle.bulk_load.proofs.spare.write_spare.Goals.{After-write_at}

room : (g : _) (c : After-write_at g) → SEGMENT_SLOTS * c.args.place.now.layout.format * c.args.f + SEGMENT_SLOTS * c.args.place.now.layout.format * c.args.count ≤ length c.args.frames.now.slots
room g c = omega (arith, c.requires.shares.held.frames.frames, places_room c.args.place.now.layout.format c.args.frames.now (c.args.f + c.args.count) c.requires.room)

-- nothing is touched but the run
touches : (g : _) (c : After-write_at g) → Steps (Touched (InRange (segment_place c.args.place.now.layout (1 - c.args.place.now.region) c.args.segment) (segment_size c.args.place.now.layout * c.args.count))) (g.S.Station.view c.args.station.now) (g.S.Station.view c.write_at.new.self)
touches g c =
    let l = c.args.place.now.layout in
    let a = g.S.Station.view c.args.station.now in
    let b = g.S.Station.view c.write_at.new.self in
    let at = segment_place l (1 - c.args.place.now.region) c.args.segment in
    let n : length c.bytes-slots.result.now ≡ segment_size l * c.args.count = c.bytes-slots.ensures.len ∙ omega arith in
    let steps = subst (λ (k : ℕ). Steps (Blurred at k) a b) n (subst (λ (p : ℕ). Steps (Blurred p (length c.bytes-slots.result.now)) a b) c.segment_at-pos.ensures c.write_at.ensures.steps) in
    within at (segment_size l * c.args.count) (λ image left. omega (arith, (c.requires.can.live image left).size, run_within l (1 - c.args.place.now.region) c.args.segment c.args.count c.requires.can.layout.format (omega arith) c.requires.some c.requires.inside)) steps

pub bytes-slots-requires : goal.bytes-slots-requires
bytes-slots-requires g c = omega (arith, c.requires.shares.held.frames.frames, places_room c.args.place.now.layout.format c.args.frames.now (c.args.f + c.args.count) c.requires.room)

pub write_at-requires : goal.write_at-requires
write_at-requires g c =
    omega (
      arith,
      c.segment_at-pos.ensures,
      c.bytes-slots.ensures.len,
      c.requires.can.reach,
      run_within c.args.place.now.layout (1 - c.args.place.now.region) c.args.segment c.args.count c.requires.can.layout.format (omega arith) c.requires.some c.requires.inside,
    )

pub returns-in-Ok-clause-written : goal.returns-in-Ok-clause-written
returns-in-Ok-clause-written g c told i lt fits =
    let at = (goal.at.returns-in-Ok-clause-written g c).After-write_at in
    let a = g.S.Station.view c.args.station.now in
    let b = g.S.Station.view c.write_at.new.self in
    let place = c.args.place.now in
    let l = place.layout in
    let row = c.args.frames.now in
    let before = (c.requires.can.live a.held (inl (told, refl))).size in
    let size : length b.held ≡ file_length l = ((touches g at).held told).size ∙ before in
    let low : c.args.f + i < places l.format row = omega (arith, lt, c.requires.room) in
    spelled l.format (share_in l.format (c.args.f + i) row) (c.args.f + i) row.slots c.requires.can.layout.format.least (share_holds l.format row (c.args.f + i) c.requires.shares low) (room_of l.format row (c.args.f + i) c.requires.can.layout.format.least c.requires.shares.held.frames low) fits
    (spare_bytes place (c.args.segment + i) b.held)
    (run_written l (1 - place.region) c.args.f c.args.segment c.args.count i row.slots c.bytes-slots.result.now a.held b.held c.requires.can.layout.format (omega arith) c.requires.inside (room g at) lt
    c.bytes-slots.ensures.slots c.bytes-slots.ensures.len (subst (λ (p : ℕ). Written p c.bytes-slots.result.now a.held b.held) c.segment_at-pos.ensures (c.in-Ok.ensures.written told)) before)
    (spare_long place (c.args.segment + i) b.held c.requires.can.layout.format size (omega (arith, c.requires.inside, lt)))

pub returns-in-Ok-clause-others : goal.returns-in-Ok-clause-others
returns-in-Ok-clause-others g c told i lt apart =
    let at = (goal.at.returns-in-Ok-clause-others g c).After-write_at in
    let a = g.S.Station.view c.args.station.now in
    let b = g.S.Station.view c.write_at.new.self in
    spare_same c.args.place.now c.args.segment c.args.count i a.held b.held c.requires.can.layout.format (c.requires.can.live a.held (inl (told, refl))).size lt apart ((touches g at).held told)

pub returns-in-Ok-clause-steps : goal.returns-in-Ok-clause-steps
returns-in-Ok-clause-steps g c =
    let at = (goal.at.returns-in-Ok-clause-steps g c).After-write_at in
    weaken (touches g at) (λ d i left step. spare_run c.args.place.now c.args.segment c.args.count d i c.requires.can.layout.format (c.requires.can.live d left).region_is c.requires.inside step)

pub returns-in-Err-clause-others : goal.returns-in-Err-clause-others
returns-in-Err-clause-others g c told i lt apart =
    let at = (goal.at.returns-in-Err-clause-others g c).After-write_at in
    let a = g.S.Station.view c.args.station.now in
    let b = g.S.Station.view c.write_at.new.self in
    spare_same c.args.place.now c.args.segment c.args.count i a.held b.held c.requires.can.layout.format (c.requires.can.live a.held (inl (told, refl))).size lt apart ((touches g at).held told)

pub returns-in-Err-clause-steps : goal.returns-in-Err-clause-steps
returns-in-Err-clause-steps g c =
    let at = (goal.at.returns-in-Err-clause-steps g c).After-write_at in
    weaken (touches g at) (λ d i left step. spare_run c.args.place.now c.args.segment c.args.count d i c.requires.can.layout.format (c.requires.can.live d left).region_is c.requires.inside step)
