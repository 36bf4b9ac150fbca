use Rattle.std.proofs.Common.{arith, inl, inr, refl, ℕ, ◌+◌, ◌-◌, ◌*◌, ◌≤◌, [], length, subst, ◌∙◌}
use Rattle.station.specs.Bytes.{Filled}
use Rattle.key_slot.specs.declared.sizes.TheConstants.{SEGMENT_SLOTS}
use Rattle.key_slot.proofs.SegmentLaws.{times_split}
use Rattle.header_gate.proofs.PagedSegments.{segment_within}
use Rattle.raw_slots.specs.Slots.{slots_in}
use Rattle.raw_slots.proofs.Runs.{length-written}
use Rattle.raw_slots.proofs.SlotLists.{length-slots_in}
use Rattle.segment_frames.proofs.Slots.{splice_outside}
use Rattle.resize_region.proofs.ShareFrames.{places_room}
use Rattle.bulk_load.proofs.SpareReads.{run_read}
use Rattle.bulk_load.proofs.spare.read_spare.Goals as goal
use Rattle.bulk_load.proofs.spare.read_spare.Goals.{After-bytes_mut-slots}

room : (g : _) (c : After-bytes_mut-slots g) → SEGMENT_SLOTS * c.args.place.now.layout.format * c.args.count ≤ length c.args.frames.now.slots
room g c = omega (arith, c.requires.frames.frames, places_room c.args.place.now.layout.format c.args.frames.now c.args.count c.requires.room)

pub bytes_mut-slots-requires : goal.bytes_mut-slots-requires
bytes_mut-slots-requires g c = omega (arith, c.requires.frames.frames, places_room c.args.place.now.layout.format c.args.frames.now c.args.count c.requires.room)

pub read_at-requires : goal.read_at-requires
read_at-requires g c =
    let l = c.args.place.now.layout in
    let last = c.args.segment + (c.args.count - 1) in
    omega (
      arith,
      c.segment_at-pos.ensures,
      c.bytes_mut-slots.ensures.len,
      c.requires.can.reach,
      segment_within l (1 - c.args.place.now.region) last c.requires.can.layout.format (omega arith) (omega (arith, c.requires.some, c.requires.inside)),
      times_split l.format 1 c.args.count c.requires.some,
    )

pub returns-in-Ok-clause-read : goal.returns-in-Ok-clause-read
returns-in-Ok-clause-read g c told i lt =
    let at = (goal.at.returns-in-Ok-clause-read g c).After-bytes_mut-slots in
    let a = g.S.Station.view c.args.station.now in
    let b = c.args.frames.now in
    run_read c.args.place.now.layout (1 - c.args.place.now.region) a.held b.slots c.args.segment c.args.count c.read_at.new.buf c.requires.can.layout.format (c.read_at.auto.buf ∙ c.bytes_mut-slots.ensures.len) (room g at)
    (subst (λ (k : ℕ). Filled k a.held c.read_at.new.buf) c.segment_at-pos.ensures (c.in-Ok.ensures.filled told)) (omega arith) c.requires.inside (c.requires.can.live a.held (inl (told, refl))).size i lt

pub returns-in-Ok-clause-behind : goal.returns-in-Ok-clause-behind
returns-in-Ok-clause-behind g c p le =
    let at = (goal.at.returns-in-Ok-clause-behind g c).After-bytes_mut-slots in
    splice_outside c.args.frames.now.slots 0 (SEGMENT_SLOTS * c.args.place.now.layout.format * c.args.count) (slots_in (SEGMENT_SLOTS * c.args.place.now.layout.format * c.args.count) c.read_at.new.buf) [] (omega (arith, room g at))
    (length-slots_in (SEGMENT_SLOTS * c.args.place.now.layout.format * c.args.count) c.read_at.new.buf) p (inr (omega (arith, le)))

pub returns-in-Ok-clause-frames : goal.returns-in-Ok-clause-frames
returns-in-Ok-clause-frames g c =
    let at = (goal.at.returns-in-Ok-clause-frames g c).After-bytes_mut-slots in
    let b = c.args.frames.now in
    let is = c.requires.frames in
    record {
      journal = is.journal;
      turn = is.turn;
      frames = length-written b.slots 0 (SEGMENT_SLOTS * c.args.place.now.layout.format * c.args.count) c.read_at.new.buf (omega (arith, room g at)) ∙ is.frames;
      few = is.few;
      ascends = is.ascends;
      small = is.small;
    }

pub returns-in-Err-clause-behind : goal.returns-in-Err-clause-behind
returns-in-Err-clause-behind g c p le =
    let at = (goal.at.returns-in-Err-clause-behind g c).After-bytes_mut-slots in
    splice_outside c.args.frames.now.slots 0 (SEGMENT_SLOTS * c.args.place.now.layout.format * c.args.count) (slots_in (SEGMENT_SLOTS * c.args.place.now.layout.format * c.args.count) c.read_at.new.buf) [] (omega (arith, room g at))
    (length-slots_in (SEGMENT_SLOTS * c.args.place.now.layout.format * c.args.count) c.read_at.new.buf) p (inr (omega (arith, le)))

pub returns-in-Err-clause-frames : goal.returns-in-Err-clause-frames
returns-in-Err-clause-frames g c =
    let at = (goal.at.returns-in-Err-clause-frames g c).After-bytes_mut-slots in
    let b = c.args.frames.now in
    let is = c.requires.frames in
    record {
      journal = is.journal;
      turn = is.turn;
      frames = length-written b.slots 0 (SEGMENT_SLOTS * c.args.place.now.layout.format * c.args.count) c.read_at.new.buf (omega (arith, room g at)) ∙ is.frames;
      few = is.few;
      ascends = is.ascends;
      small = is.small;
    }
