use Rattle.std.proofs.Common.{arith, ◌≡◌, inl, inr, refl, ℕ, ◌+◌, ◌-◌, ◌*◌, ◌/◌, ◌<◌, ◌≤◌, List, sym, ap, subst, ◌∙◌}
use Rattle.std.proofs.lemmas.Bool.{cases_lt}
use Rattle.std.proofs.lemmas.Result.{err_from_is_err_and}
use Rattle.std.proofs.Math.Nat.{mul-div_cancel_left}
use Rattle.station.proofs.Composition.{told_on}
use Rattle.header_gate.specs.Places.{segment_size}
use Rattle.key_slot.specs.Record.{Record}
use Rattle.key_slot.specs.Segment.{FitsSegment, IsSegment}
use Rattle.key_slot.proofs.SegmentLaws.{times_up}
use Rattle.map_model.specs.Array.{segment_at, spread_over}
use Rattle.redo_journal.specs.Frames.{Batch}
use Rattle.segment_frames.specs.Lists.{most_segments}
use Rattle.resize_region.specs.Spare.{spare_bytes}
use Rattle.resize_region.specs.Shares.{places, share_in}
use Rattle.bulk_load.proofs.Calls.{same_spares, none_spares, spares_on, fill_on, fill_same}
use Rattle.bulk_load.proofs.PackLaws.{few_segments}
use Rattle.bulk_load.proofs.SpreadLaws.{begins_early, spread_fits, spent, packed_beside, are_beside, packed_first, are_first}
use Rattle.segment_frames.specs.SegmentParts.{parts, GoesInParts}
use Rattle.resize_region.proofs.CopyCalls.{copy_none, copy_read, copy_written, copy_few, halves}
use Rattle.resize_region.specs.Source.{copy_calls}
use Rattle.bulk_load.specs.Packing.{room_in}
use Rattle.bulk_load.specs.Spreading.{used_by}
use Rattle.bulk_load.proofs.spreading.spread_spare.Goals as goal
use Rattle.bulk_load.proofs.spreading.spread_spare.Goals.{After-room_of-all, After-min-count, In_ok-fill_places, In_ok-write_spare}

-- the places are those of the journal
known : (g : _) (c : After-room_of-all g) → places c.args.place.now.layout.format c.args.frames.now ≡ most_segments c.args.place.now.layout
known g c = ap (λ (j : ℕ). j / c.args.place.now.layout.format) c.requires.can.journal

pub used_by-requires : goal.used_by-requires
used_by-requires g c = omega (arith, c.requires.room, c.requires.inside, few_segments c.args.place.now.layout c.requires.can.layout)

pub loop-end-init : goal.loop-end-init
loop-end-init g c =
    let at = (goal.at.loop-end-init g c).After-room_of-all in
    let l = c.args.place.now.layout in
    let half : c.room_of-all.result / 2 ≤ places l.format c.args.frames.now = omega (arith, c.room_of-all.ensures.few, known g at) in
    record {
      upto = omega arith;
      packed = packed_first l c.args.records c.args.frames.now (record { room = c.room_of-all.result / 2; rest = c.args.records; unread = c.used_by.result }) c.requires.shares (omega (arith, c.room_of-all.ensures.some)) half refl c.used_by.ensures c.requires.empty;
      halves = omega arith;
      rest = sym (mul-div_cancel_left c.args.records c.requires.some);
      empty = λ i lt. c.requires.empty (c.room_of-all.result / 2 + i) (omega (arith, lt, c.room_of-all.ensures.few, known g at));
      steps = none_spares c.args.place.now (g.S.Station.view c.args.station.now) c.requires.can.live;
      can = c.requires.can;
      journal = refl;
      turn = refl;
      cost = omega arith;
      read = omega (arith, ap (λ (n : ℕ). segment_size l * n) c.used_by.ensures);
      calls = copy_none _ _ _ _ _ _ _;
      are = λ told rows are long packed. are_first c.args.place.now c.args.records rows c.args.frames.now (record { room = c.room_of-all.result / 2; rest = c.args.records; unread = c.used_by.result }) (g.S.Station.view c.args.station.now).held are long half refl c.used_by.ensures packed c.requires.empty;
      written = λ told rows are long packed i le lt. absurd (omega (arith, le, lt));
    }

-- the segments that are next
count_some : (g : _) (c : After-min-count g) → 1 ≤ c.min-count.result
count_some g c = omega (arith, c.min-count.ensures, c.loop-end-test.true, c.room_of-all.ensures.some)

next : (g : _) (c : After-min-count g) → c.loop-end.end - c.min-count.result + c.min-count.result ≡ c.loop-end.end
next g c = omega (arith, c.min-count.ensures)

wide : (g : _) (c : After-min-count g) → places c.args.place.now.layout.format c.loop-end.frames ≡ most_segments c.args.place.now.layout
wide g c = ap (λ (j : ℕ). j / c.args.place.now.layout.format) c.loop-end.invariant.can.journal

pub fill_places-requires-clause-fits : goal.fill_places-requires-clause-fits
fill_places-requires-clause-fits g c = omega (arith, c.requires.room, c.requires.inside)

pub fill_places-requires-clause-inside : goal.fill_places-requires-clause-inside
fill_places-requires-clause-inside g c = omega (arith, next g (goal.at.fill_places-requires-clause-inside g c).After-min-count, c.loop-end.invariant.upto)

pub fill_places-requires-clause-rest : goal.fill_places-requires-clause-rest
fill_places-requires-clause-rest g c = c.loop-end.invariant.rest ∙ ap (λ (k : ℕ). k * c.args.records / c.args.segments) (sym (next g (goal.at.fill_places-requires-clause-rest g c).After-min-count))

pub fill_places-requires-clause-frames : goal.fill_places-requires-clause-frames
fill_places-requires-clause-frames g c = omega (arith, c.min-count.ensures, c.loop-end.invariant.halves, c.room_of-all.ensures.few, wide g (goal.at.fill_places-requires-clause-frames g c).After-min-count)

pub fill_places-requires-clause-empty : goal.fill_places-requires-clause-empty
fill_places-requires-clause-empty g c i lt = c.loop-end.invariant.empty i (omega (arith, lt, c.min-count.ensures))

pub write_spare-requires-clause-can : goal.write_spare-requires-clause-can
write_spare-requires-clause-can g c =
    let done = c.in_ok-fill_places.ensures.reads in
    fill_same c.args.place.now c.loop-end.frames c.fill_places.new.frames c.loop-end.invariant.can (ap (λ (b : Batch). b.journal) done.rest) done.steps

pub write_spare-requires-clause-shares : goal.write_spare-requires-clause-shares
write_spare-requires-clause-shares g c = c.in_ok-fill_places.ensures.reads.packed.shares

-- after the filling
filled_wide : (g : _) (c : In_ok-fill_places g) → places c.args.place.now.layout.format c.fill_places.new.frames ≡ most_segments c.args.place.now.layout
filled_wide g c = ap (λ (j : ℕ). j / c.args.place.now.layout.format) (ap (λ (b : Batch). b.journal) c.in_ok-fill_places.ensures.reads.rest ∙ c.loop-end.invariant.can.journal)

pub write_spare-requires-clause-room : goal.write_spare-requires-clause-room
write_spare-requires-clause-room g c =
    omega (arith, c.min-count.ensures, c.loop-end.invariant.halves, c.in_ok-fill_places.ensures.reads.room, c.room_of-all.ensures.few, filled_wide g (goal.at.write_spare-requires-clause-room g c).In_ok-fill_places)

pub write_spare-requires-clause-some : goal.write_spare-requires-clause-some
write_spare-requires-clause-some g c = count_some g (goal.at.write_spare-requires-clause-some g c).After-min-count

pub write_spare-requires-clause-inside : goal.write_spare-requires-clause-inside
write_spare-requires-clause-inside g c = omega (arith, next g (goal.at.write_spare-requires-clause-inside g c).After-min-count, c.loop-end.invariant.upto, c.requires.inside)

pub clear_places-requires-clause-shares : goal.clear_places-requires-clause-shares
clear_places-requires-clause-shares g c = c.in_ok-fill_places.ensures.reads.packed.shares

pub clear_places-requires-clause-room : goal.clear_places-requires-clause-room
clear_places-requires-clause-room g c =
    omega (arith, c.loop-end.invariant.halves, c.in_ok-fill_places.ensures.reads.room, c.room_of-all.ensures.few, filled_wide g (goal.at.clear_places-requires-clause-room g c).In_ok-fill_places)

-- A disk call failed, or a segment is damaged.

pub returns-in_err-fill_places-clause-steps : goal.returns-in_err-fill_places-clause-steps
returns-in_err-fill_places-clause-steps g c = spares_on c.args.place.now c.loop-end.invariant.steps (same_spares c.args.place.now c.loop-end.invariant.can.live c.in_err-fill_places.ensures.reads.steps)

pub returns-in_err-fill_places-clause-damaged : goal.returns-in_err-fill_places-clause-damaged
returns-in_err-fill_places-clause-damaged g c =
    let p = err_from_is_err_and c.from_residual.result c.from_residual.ensures.1 in
    let inv = c.loop-end.invariant in
    rw (p.1, p.2) (λ told rows are long packed. c.in_err-fill_places.ensures.reads.damaged (told_on inv.steps.frame told) rows (inv.are told rows are long packed))

pub returns-in_err-write_spare-clause-steps : goal.returns-in_err-write_spare-clause-steps
returns-in_err-write_spare-clause-steps g c =
    spares_on c.args.place.now (spares_on c.args.place.now c.loop-end.invariant.steps (same_spares c.args.place.now c.loop-end.invariant.can.live c.in_ok-fill_places.ensures.reads.steps)) c.write_spare.ensures.steps

pub returns-in_err-write_spare-clause-cost : goal.returns-in_err-write_spare-clause-cost
returns-in_err-write_spare-clause-cost g c =
    let size = segment_size c.args.place.now.layout in
    omega (arith, c.write_spare.ensures.cost, c.in_ok-fill_places.ensures.reads.unwritten, c.loop-end.invariant.cost, times_up size c.min-count.result c.loop-end.end (omega (arith, c.min-count.ensures)))

-- The next segments are written.

pub loop-end-preserved : goal.loop-end-preserved
loop-end-preserved g c =
    let at = (goal.at.loop-end-preserved g c).After-min-count in
    let inv = c.loop-end.invariant in
    let fill = c.in_ok-fill_places.ensures in
    let write = c.in_ok-write_spare.ensures in
    let clear = c.clear_places.ensures in
    let place = c.args.place.now in
    let format = place.layout.format in
    let n = c.min-count.result in
    let low = c.loop-end.end - n in
    let s = c.fill_places.new.packed in
    let middle = fill_same place c.loop-end.frames c.fill_places.new.frames inv.can (ap (λ (b : Batch). b.journal) fill.reads.rest) fill.reads.steps in
    let same_places : places format c.clear_places.new.frames ≡ places format c.fill_places.new.frames = ap (λ (b : Batch). places format b) clear.rest in
    let pos : 0 < c.args.segments = c.requires.some in
    let few : s.unread ≤ low = omega (arith, fill.reads.packed.few, fill.rest, begins_early c.args.records c.args.segments low pos c.requires.room) in
    record {
      upto = omega (arith, inv.upto);
      packed = packed_beside format c.args.records c.fill_places.new.frames c.clear_places.new.frames s fill.reads.packed clear.shares same_places (λ i lt. clear.others i lt);
      halves = ap (λ (r : ℕ). r + (c.room_of-all.result - c.room_of-all.result / 2)) fill.reads.room ∙ inv.halves;
      rest = fill.rest;
      empty = λ i lt. clear.empty i lt;
      steps = spares_on place (spares_on place inv.steps (same_spares place inv.can.live fill.reads.steps)) c.write_spare.ensures.steps;
      can = fill_on place c.fill_places.new.frames c.clear_places.new.frames middle (ap (λ (b : Batch). b.journal) clear.rest) c.write_spare.ensures.steps;
      journal = ap (λ (b : Batch). b.journal) clear.rest ∙ ap (λ (b : Batch). b.journal) fill.reads.rest ∙ inv.journal;
      turn = ap (λ (b : Batch). b.turn) clear.rest ∙ ap (λ (b : Batch). b.turn) fill.reads.rest ∙ inv.turn;
      cost = spent (segment_size place.layout) low n c.loop-end.end (g.S.Station.view c.loop-end.station).travel.written (g.S.Station.view c.write_spare.new.station).travel.written ((g.S.Station.view c.args.station.now).travel.written + segment_size place.layout * c.args.segments) (next g at)
          (omega (arith, c.write_spare.ensures.cost, fill.reads.unwritten)) inv.cost;
      read = omega (arith, inv.read, fill.reads.read, c.write_spare.ensures.no_reads);
      calls =
          let half : c.loop-end.packed.room ≡ c.room_of-all.result - (c.room_of-all.result - c.room_of-all.result / 2) = omega (arith, inv.halves) in
          copy_written _ _ _ _ c.args.segments (c.args.segments - c.loop-end.end) (c.args.segments - low) _ _ _ (omega (arith, c.room_of-all.ensures.some))
          (copy_read _ _ _ _ _ _ _ _ _ _ inv.calls (subst (λ (room : ℕ). GoesInParts room (used_by c.args.records) (used_by c.args.records - c.loop-end.packed.unread) (used_by c.args.records - s.unread) (g.S.Station.view c.loop-end.station).calls (g.S.Station.view c.fill_places.new.station).calls) half fill.calls))
          (omega (arith, c.loop-end-test.true, inv.upto)) (λ more. omega (arith, more, c.min-count.ensures, inv.upto)) c.write_spare.ensures.calls;
      are = λ told rows are long packed.
          let told_l = told_on inv.steps.frame told in
          let told_m = told_on fill.reads.steps.frame told_l in
          let now = fill.reads.are told_l rows (inv.are told rows are long packed) in
          are_beside place c.args.records rows s c.fill_places.new.frames c.clear_places.new.frames (g.S.Station.view c.fill_places.new.station).held (g.S.Station.view c.write_spare.new.station).held now (λ i lt. clear.others i lt)
          (λ i lt. c.write_spare.ensures.others told_m i (omega (arith, lt, few, inv.upto, c.requires.inside, next g at)) (inl (omega (arith, lt, few))));
      written = λ told rows are long packed i le lt.
          let told_l = told_on inv.steps.frame told in
          let told_m = told_on fill.reads.steps.frame told_l in
          elim (cases_lt i c.loop-end.end) [
            | inl low_i ↦
                let k = i - low in
                let k_lt : k < n = omega (arith, le, low_i, next g at) in
                let at_i : low + k ≡ i = omega (arith, le) in
                let share = fill.filled told_l rows (inv.are told rows are long packed) k k_lt in
                let share_s : share_in format (s.room + k) c.fill_places.new.frames ≡ segment_at (spread_over c.args.segments rows) (low + k) = ap (λ (r : ℕ). share_in format (r + k) c.fill_places.new.frames) fill.reads.room ∙ share in
                let fits = spread_fits format c.args.records c.args.segments (low + k) rows are long pos (omega (arith, at_i, lt)) c.requires.room in
                subst (λ (j : ℕ). IsSegment format (segment_at (spread_over c.args.segments rows) j) (spare_bytes place j (g.S.Station.view c.write_spare.new.station).held)) at_i
                (subst (λ (r : List Record). IsSegment format r (spare_bytes place (low + k) (g.S.Station.view c.write_spare.new.station).held)) share_s
                (write.written told_m k k_lt (subst (FitsSegment format) (sym share_s) fits)))
            | inr high ↦
                subst (IsSegment format (segment_at (spread_over c.args.segments rows) i)) (sym (c.write_spare.ensures.others told_m i (omega (arith, lt, c.requires.inside)) (inr (omega (arith, high, next g at)))))
                (subst (λ (file : List ℕ). IsSegment format (segment_at (spread_over c.args.segments rows) i) (spare_bytes place i file)) (sym (fill.reads.steps.held told_l)) (inv.written told rows are long packed i high lt))
          ];
    }

pub returns-clause-spread : goal.returns-clause-spread
returns-clause-spread g c told rows are long packed i lt = c.loop-end.invariant.written told rows are long packed i (omega (arith, c.loop-end-test.false)) lt

pub returns-clause-calls : goal.returns-clause-calls
returns-clause-calls g c =
    let all = c.room_of-all.result in
    let used = used_by c.args.records in
    let same = c.room_of-all.ensures.room in
    omega (arith, copy_few _ _ _ _ _ _ _ _ c.loop-end.invariant.calls, ap (λ (n : ℕ). parts (n - (all - all / 2)) used) same, halves (room_in c.args.place.now.layout) all used c.args.segments same)

-- The calls, where one failed.

-- those of the parts, with the room that is used
all_calls : (g : _) (c : After-room_of-all g) (now : ℕ) → now ≤ (g.S.Station.view c.args.station.now).calls + (parts (c.room_of-all.result - (c.room_of-all.result - c.room_of-all.result / 2)) (used_by c.args.records) + parts (c.room_of-all.result - c.room_of-all.result / 2) c.args.segments)
    → now ≤ (g.S.Station.view c.args.station.now).calls + copy_calls (room_in c.args.place.now.layout) (used_by c.args.records) c.args.segments
all_calls g c now most =
    let all = c.room_of-all.result in
    let used = used_by c.args.records in
    let same = c.room_of-all.ensures.room in
    omega (arith, most, ap (λ (n : ℕ). parts (n - (all - all / 2)) used) same, halves (room_in c.args.place.now.layout) all used c.args.segments same)

pub returns-in_err-fill_places-clause-calls : goal.returns-in_err-fill_places-clause-calls
returns-in_err-fill_places-clause-calls g c =
    let inv = c.loop-end.invariant in
    let all = c.room_of-all.result in
    let last = c.fill_places.ensures.tried in
    let half : c.loop-end.packed.room ≡ all - (all - all / 2) = omega (arith, inv.halves) in
    all_calls g (goal.at.returns-in_err-fill_places-clause-calls g c).After-room_of-all (g.S.Station.view c.fill_places.new.station).calls
    (copy_few _ _ _ _ _ _ _ _ (copy_read _ _ _ _ _ _ _ _ _ _ inv.calls (subst (λ (room : ℕ). GoesInParts room (used_by c.args.records) (used_by c.args.records - c.loop-end.packed.unread) last.0 (g.S.Station.view c.loop-end.station).calls (g.S.Station.view c.fill_places.new.station).calls) half last.1)))

pub returns-in_err-write_spare-clause-calls : goal.returns-in_err-write_spare-clause-calls
returns-in_err-write_spare-clause-calls g c =
    let inv = c.loop-end.invariant in
    let fill = c.in_ok-fill_places.ensures in
    let all = c.room_of-all.result in
    let n = c.min-count.result in
    let low = c.loop-end.end - n in
    let half : c.loop-end.packed.room ≡ all - (all - all / 2) = omega (arith, inv.halves) in
    all_calls g (goal.at.returns-in_err-write_spare-clause-calls g c).After-room_of-all (g.S.Station.view c.write_spare.new.station).calls
    (copy_few _ _ _ _ _ _ _ _
    (copy_written _ _ _ _ c.args.segments (c.args.segments - c.loop-end.end) (c.args.segments - low) _ _ _ (omega (arith, c.room_of-all.ensures.some))
    (copy_read _ _ _ _ _ _ _ _ _ _ inv.calls (subst (λ (room : ℕ). GoesInParts room (used_by c.args.records) (used_by c.args.records - c.loop-end.packed.unread) (used_by c.args.records - c.fill_places.new.packed.unread) (g.S.Station.view c.loop-end.station).calls (g.S.Station.view c.fill_places.new.station).calls) half fill.calls))
    (omega (arith, c.loop-end-test.true, inv.upto)) (λ more. omega (arith, more, c.min-count.ensures, inv.upto)) c.write_spare.ensures.calls))

-- What is read.

pub returns-clause-read_bytes : goal.returns-clause-read_bytes
returns-clause-read_bytes g c = omega (arith, c.loop-end.invariant.read)

pub returns-in_err-fill_places-clause-read_bytes : goal.returns-in_err-fill_places-clause-read_bytes
returns-in_err-fill_places-clause-read_bytes g c = omega (arith, c.loop-end.invariant.read, c.fill_places.ensures.reads.most_read)

pub returns-in_err-write_spare-clause-read_bytes : goal.returns-in_err-write_spare-clause-read_bytes
returns-in_err-write_spare-clause-read_bytes g c = omega (arith, c.loop-end.invariant.read, c.in_ok-fill_places.ensures.reads.read, c.write_spare.ensures.no_reads)
