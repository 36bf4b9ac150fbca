use Rattle.std.proofs.Common.{subst, arith, ◌≡◌, refl, ℕ, ◌-◌, ◌*◌, ◌≤◌, List, ◌++◌, length, slice_range, sym, ap, ◌∙◌}
use Rattle.std.proofs.lemmas.Result.{err_from_is_err_and}
use Rattle.station.proofs.Composition.{no_steps, same_on, told_on}
use Rattle.header_gate.specs.Places.{segment_size}
use Rattle.key_slot.specs.Record.{Record}
use Rattle.redo_journal.specs.Frames.{Batch}
use Rattle.resize_region.specs.Shares.{places}
use Rattle.resize_region.proofs.OldRowLaws.{never_failed}
use Rattle.bulk_load.specs.declared.packed.Packed.{Packed}
use Rattle.bulk_load.proofs.Calls.{fill_same}
use Rattle.bulk_load.proofs.PackedLaws as laws
use Rattle.bulk_load.proofs.Slices.{slices_join, slice_none}
use Rattle.segment_frames.specs.SegmentParts.{GoesInParts}
use Rattle.segment_frames.proofs.PartLaws.{parts_still, parts_on}
use Rattle.bulk_load.specs.Spreading.{used_by}
use Rattle.bulk_load.proofs.spreading.fill_share.Goals as goal

pub loop-have-init : goal.loop-have-init
loop-have-init g c = record {
  within = omega arith;
  packed = c.requires.packed;
  room = refl;
  unread = omega arith;
  rest = omega arith;
  filled = ap length c.requires.none;
  others = λ i le lt other. refl;
  slots = refl;
  steps = no_steps (g.S.Station.view c.args.station.now);
  unwritten = refl;
  read = omega arith;
  calls = parts_still _ _ _ _;
  can = c.requires.can;
  are = λ told rows are. are;
  share = λ told rows are. c.requires.none ∙ sym (slice_none rows c.args.packed.now.rest);
}

-- More segments are read.

pub read_packed-requires-clause-some : goal.read_packed-requires-clause-some
read_packed-requires-clause-some g c = omega (arith, c.loop-have.invariant.rest, c.loop-have-test.true, c.requires.enough)

pub returns-in_err-read_packed-clause-reads : goal.returns-in_err-read_packed-clause-reads
returns-in_err-read_packed-clause-reads g c =
    let p = err_from_is_err_and c.from_residual.result c.from_residual.ensures.1 in
    let inv = c.loop-have.invariant in
    laws.packed_on_err c.args.place.now c.args.records c.args.packed.now c.loop-have.packed c.read_packed.new.packed c.args.frames.now c.loop-have.frames c.read_packed.new.frames
    (g.S.Station.view c.args.station.now) (g.S.Station.view c.loop-have.station) (g.S.Station.view c.read_packed.new.station) inv.are inv.room inv.unread inv.slots inv.steps inv.unwritten inv.read
    c.from_residual.result c.in_err-read_packed.field-0.0 (rw p.2 at p.1) c.in_err-read_packed.ensures.reads

pub loop-have-preserved-in-Continue-1 : goal.loop-have-preserved-in-Continue-1
loop-have-preserved-in-Continue-1 g c =
    let inv = c.loop-have.invariant in
    let done = c.in_ok-read_packed.ensures in
    let format = c.args.place.now.layout.format in
    let wide : places format c.loop-have.frames ≡ places format c.args.frames.now = ap (λ (b : Batch). places format b) inv.slots in
    record {
      within = inv.within;
      packed = done.reads.packed;
      room = done.reads.room ∙ inv.room;
      unread = omega (arith, done.reads.unread, inv.unread);
      rest = omega (arith, done.same, inv.rest);
      filled = ap length (done.others c.args.to.index (omega (arith, c.requires.behind, inv.room)) (omega (arith, c.requires.frame, wide))) ∙ inv.filled;
      others = λ i le lt other. done.others i (omega (arith, le, inv.room)) (omega (arith, lt, wide)) ∙ inv.others i le lt other;
      slots = done.reads.rest ∙ ap (λ (x : Batch). record x { slots = c.read_packed.new.frames.slots }) inv.slots;
      steps = same_on inv.steps done.reads.steps;
      unwritten = done.reads.unwritten ∙ inv.unwritten;
      read = omega (arith, done.reads.read, inv.read);
      calls = parts_on _ _ _ _ _ _ _ _ inv.calls (subst (λ (room : ℕ). GoesInParts room (used_by c.args.records) (used_by c.args.records - c.loop-have.packed.unread) (used_by c.args.records - c.read_packed.new.packed.unread) (g.S.Station.view c.loop-have.station).calls (g.S.Station.view c.read_packed.new.station).calls) inv.room done.calls);
      can = fill_same c.args.place.now c.loop-have.frames c.read_packed.new.frames inv.can (ap (λ (b : Batch). b.journal) done.reads.rest) done.reads.steps;
      are = λ told rows are. done.reads.are (told_on inv.steps.frame told) rows (inv.are told rows are);
      share = λ told rows are.
          done.others c.args.to.index (omega (arith, c.requires.behind, inv.room)) (omega (arith, c.requires.frame, wide)) ∙ inv.share told rows are
          ∙ ap (λ (k : ℕ). slice_range rows k c.args.packed.now.rest) (sym done.same);
    }

-- Records are taken.

pub loop-have-preserved : goal.loop-have-preserved
loop-have-preserved g c =
    let inv = c.loop-have.invariant in
    let done = c.take_last-have.ensures in
    let format = c.args.place.now.layout.format in
    let s = c.loop-have.packed in
    let n = c.take_last-have.result in
    let t = c.take_last-have.new.packed in
    let rest : t.rest ≡ s.rest - n = ap (λ (x : Packed). x.rest) done.rest in
    let room : t.room ≡ s.room = ap (λ (x : Packed). x.room) done.rest in
    let unread : t.unread ≡ s.unread = ap (λ (x : Packed). x.unread) done.rest in
    record {
      within = omega (arith, done.most);
      packed = done.packed c.args.records inv.packed;
      room = room ∙ inv.room;
      unread = omega (arith, unread, inv.unread);
      rest = omega (arith, rest, inv.rest, done.taken);
      filled = done.long;
      others = λ i le lt other. done.others i (omega (arith, le, inv.room)) other ∙ inv.others i le lt other;
      slots = done.frames ∙ ap (λ (x : Batch). record x { slots = c.take_last-have.new.frames.slots }) inv.slots;
      steps = inv.steps;
      unwritten = inv.unwritten;
      read = omega (arith, inv.read, ap (λ (k : ℕ). segment_size c.args.place.now.layout * k) unread);
      calls = subst (λ (n : ℕ). GoesInParts c.args.packed.now.room (used_by c.args.records) (used_by c.args.records - c.args.packed.now.unread) (used_by c.args.records - n) (g.S.Station.view c.args.station.now).calls (g.S.Station.view c.loop-have.station).calls) (sym unread) inv.calls;
      can = record { layout = inv.can.layout; region = inv.can.region; reach = inv.can.reach; journal = ap (λ (b : Batch). b.journal) done.frames ∙ inv.can.journal; live = inv.can.live };
      are = λ told rows are.
          let before = inv.are told rows are in
          record {
            are_rows = before.are_rows;
            count = before.count;
            unread = λ i lt. before.unread i (omega (arith, lt, unread));
            held = done.held rows (omega (arith, before.count, inv.packed.within)) before.held;
          };
      share = λ told rows are.
          let before = inv.are told rows are in
          let inside : s.rest ≤ length rows = omega (arith, before.count, inv.packed.within) in
          done.share rows inside before.held ∙ ap (λ (l : List Record). slice_range rows t.rest s.rest ++ l) (inv.share told rows are)
          ∙ slices_join rows t.rest s.rest c.args.packed.now.rest (omega (arith, rest)) (omega (arith, inv.rest)) inside;
    }

-- The share is whole.

pub returns-clause-reads : goal.returns-clause-reads
returns-clause-reads g c =
    let inv = c.loop-have.invariant in
    record {
      packed = inv.packed;
      are = inv.are;
      room = inv.room;
      unread = inv.unread;
      rest = inv.slots;
      steps = inv.steps;
      unwritten = inv.unwritten;
      read = inv.read;
      most_read = omega (arith, inv.read);
      damaged = tt;
      cause = tt;
      failed = λ is. absurd (never_failed {T = Unit {0}} tt is);
    }

pub returns-clause-rest : goal.returns-clause-rest
returns-clause-rest g c = omega (arith, c.loop-have.invariant.rest, c.loop-have.invariant.within, c.loop-have-test.false)

pub returns-clause-filled : goal.returns-clause-filled
returns-clause-filled g c told rows are = c.loop-have.invariant.share told rows are

pub returns-clause-others : goal.returns-clause-others
returns-clause-others g c i le lt other = c.loop-have.invariant.others i le lt other

pub returns-clause-calls : goal.returns-clause-calls
returns-clause-calls g c = c.loop-have.invariant.calls

-- The calls, whatever was answered.

pub returns-in_err-read_packed-clause-tried : goal.returns-in_err-read_packed-clause-tried
returns-in_err-read_packed-clause-tried g c =
    let inv = c.loop-have.invariant in
    let last = c.read_packed.ensures.tried in (
      last.0,
      parts_on _ _ _ _ _ _ _ _ inv.calls (subst (λ (room : ℕ). GoesInParts room (used_by c.args.records) (used_by c.args.records - c.loop-have.packed.unread) last.0 (g.S.Station.view c.loop-have.station).calls (g.S.Station.view c.read_packed.new.station).calls) inv.room last.1),
    )

pub returns-clause-tried : goal.returns-clause-tried
returns-clause-tried g c = (used_by c.args.records - c.loop-have.packed.unread, c.loop-have.invariant.calls)
