use Rattle.std.proofs.Common.{subst, arith, ◌≡◌, inl, inr, refl, ℕ, ◌+◌, ◌-◌, ◌*◌, ◌/◌, ◌<◌, sym, ap, ◌∙◌}
use Rattle.std.proofs.lemmas.Bool.{cases_eq}
use Rattle.std.proofs.lemmas.Result.{err_from_is_err_and}
use Rattle.station.proofs.Composition.{no_steps, same_on, told_on}
use Rattle.map_model.specs.Array.{segment_at, spread_over}
use Rattle.redo_journal.specs.Frames.{Batch}
use Rattle.spread_plan.proofs.Spreads.{share-le}
use Rattle.resize_region.specs.Shares.{places, share_in}
use Rattle.resize_region.proofs.OldRowLaws.{never_failed}
use Rattle.bulk_load.proofs.Calls.{fill_same}
use Rattle.bulk_load.proofs.PackedLaws as laws
use Rattle.bulk_load.proofs.SpreadLaws.{share_ends, share_run}
use Rattle.segment_frames.specs.SegmentParts.{GoesInParts}
use Rattle.segment_frames.proofs.PartLaws.{parts_still, parts_on}
use Rattle.bulk_load.specs.Spreading.{used_by}
use Rattle.bulk_load.proofs.spreading.fill_places.Goals as goal
use Rattle.bulk_load.proofs.spreading.fill_places.Goals.{After-share-size, In_ok-fill_share}

pub loop-f-init : goal.loop-f-init
loop-f-init g c = record {
  within = omega arith;
  packed = c.requires.packed;
  room = refl;
  unread = omega arith;
  rest = c.requires.rest;
  empty = c.requires.empty;
  slots = refl;
  steps = no_steps (g.S.Station.view c.args.station.now);
  unwritten = refl;
  read = omega arith;
  calls = parts_still _ _ _ _;
  can = c.requires.can;
  are = λ told rows are. are;
  filled = λ told rows are i le lt. absurd (omega (arith, le, lt));
}

-- the next share, and where it ends
some : (g : _) (c : After-share-size g) → 0 < c.args.part.segments
some g c = omega (arith, c.requires.inside, c.loop-f.invariant.within, c.loop-f-test.true)

ends : (g : _) (c : After-share-size g) → c.share-size.result + (c.args.part.low + (c.loop-f.f - 1)) * c.args.part.records / c.args.part.segments ≡ c.loop-f.packed.rest
ends g c =
    let t = c.args.part.low + (c.loop-f.f - 1) in
    let next : t + 1 ≡ c.args.part.low + c.loop-f.f = omega (arith, c.loop-f-test.true) in
    ap (λ (k : ℕ). k + t * c.args.part.records / c.args.part.segments) c.share-size.ensures ∙ share_ends c.args.part.records c.args.part.segments t (some g c)
    ∙ ap (λ (k : ℕ). k * c.args.part.records / c.args.part.segments) next ∙ sym c.loop-f.invariant.rest

wide : (g : _) (c : After-share-size g) → places c.args.place.now.layout.format c.loop-f.frames ≡ places c.args.place.now.layout.format c.args.frames.now
wide g c = ap (λ (b : Batch). places c.args.place.now.layout.format b) c.loop-f.invariant.slots

pub fill_share-requires-clause-frame : goal.fill_share-requires-clause-frame
fill_share-requires-clause-frame g c =
    omega (arith, c.loop-f.invariant.room, c.loop-f.invariant.within, c.loop-f-test.true, c.requires.frames, wide g (goal.at.fill_share-requires-clause-frame g c).After-share-size)

pub fill_share-requires-clause-none : goal.fill_share-requires-clause-none
fill_share-requires-clause-none g c =
    ap (λ (r : ℕ). share_in c.args.place.now.layout.format (r + (c.loop-f.f - 1)) c.loop-f.frames) c.loop-f.invariant.room ∙ c.loop-f.invariant.empty (c.loop-f.f - 1) (omega (arith, c.loop-f-test.true))

pub fill_share-requires-clause-few : goal.fill_share-requires-clause-few
fill_share-requires-clause-few g c =
    omega (arith, c.share-size.ensures, share-le c.args.part.records c.args.part.segments (c.args.part.low + (c.loop-f.f - 1)) (some g (goal.at.fill_share-requires-clause-few g c).After-share-size) c.requires.room)

pub fill_share-requires-clause-enough : goal.fill_share-requires-clause-enough
fill_share-requires-clause-enough g c = omega (arith, ends g (goal.at.fill_share-requires-clause-enough g c).After-share-size)

pub returns-in_err-fill_share-clause-reads : goal.returns-in_err-fill_share-clause-reads
returns-in_err-fill_share-clause-reads g c =
    let p = err_from_is_err_and c.from_residual.result c.from_residual.ensures.1 in
    let inv = c.loop-f.invariant in
    laws.packed_on_err c.args.place.now c.args.part.records c.args.packed.now c.loop-f.packed c.fill_share.new.packed c.args.frames.now c.loop-f.frames c.fill_share.new.frames
    (g.S.Station.view c.args.station.now) (g.S.Station.view c.loop-f.station) (g.S.Station.view c.fill_share.new.station) inv.are inv.room inv.unread inv.slots inv.steps inv.unwritten inv.read
    c.from_residual.result c.in_err-fill_share.field-0.0 (rw p.2 at p.1) c.in_err-fill_share.ensures.reads

pub loop-f-preserved : goal.loop-f-preserved
loop-f-preserved g c =
    let at = (goal.at.loop-f-preserved g c).After-share-size in
    let inv = c.loop-f.invariant in
    let done = c.in_ok-fill_share.ensures in
    let format = c.args.place.now.layout.format in
    let f = c.loop-f.f - 1 in
    let rest : c.fill_share.new.packed.rest ≡ (c.args.part.low + f) * c.args.part.records / c.args.part.segments = omega (arith, done.rest, ends g at) in
    let next : c.args.part.low + f + 1 ≡ c.args.part.low + c.loop-f.f = omega (arith, c.loop-f-test.true) in
    record {
      within = omega (arith, inv.within);
      packed = done.reads.packed;
      room = done.reads.room ∙ inv.room;
      unread = omega (arith, done.reads.unread, inv.unread);
      rest = rest;
      empty = λ i lt.
          done.others (c.args.packed.now.room + i) (omega (arith, inv.room)) (omega (arith, wide g at, c.requires.frames, inv.within, lt)) (λ e. omega (arith, e, inv.room, lt))
          ∙ inv.empty i (omega (arith, lt));
      slots = done.reads.rest ∙ ap (λ (x : Batch). record x { slots = c.fill_share.new.frames.slots }) inv.slots;
      steps = same_on inv.steps done.reads.steps;
      unwritten = done.reads.unwritten ∙ inv.unwritten;
      read = omega (arith, done.reads.read, inv.read);
      calls = parts_on _ _ _ _ _ _ _ _ inv.calls (subst (λ (room : ℕ). GoesInParts room (used_by c.args.part.records) (used_by c.args.part.records - c.loop-f.packed.unread) (used_by c.args.part.records - c.fill_share.new.packed.unread) (g.S.Station.view c.loop-f.station).calls (g.S.Station.view c.fill_share.new.station).calls) inv.room done.calls);
      can = fill_same c.args.place.now c.loop-f.frames c.fill_share.new.frames inv.can (ap (λ (b : Batch). b.journal) done.reads.rest) done.reads.steps;
      are = λ told rows are. done.reads.are (told_on inv.steps.frame told) rows (inv.are told rows are);
      filled = λ told rows are i le lt. elim (cases_eq i f) [
        | inl e ↦
            ap (λ (k : ℕ). share_in format (c.args.packed.now.room + k) c.fill_share.new.frames) e ∙ ap (λ (r : ℕ). share_in format (r + f) c.fill_share.new.frames) (sym inv.room)
            ∙ done.filled (told_on inv.steps.frame told) rows (inv.are told rows are)
            ∙ share_run c.args.part.records c.args.part.segments (c.args.part.low + f) c.fill_share.new.packed.rest c.loop-f.packed.rest rows (omega (arith, e, lt, c.requires.inside)) are.count rest
            (inv.rest ∙ ap (λ (k : ℕ). k * c.args.part.records / c.args.part.segments) (sym next))
            ∙ ap (λ (k : ℕ). segment_at (spread_over c.args.part.segments rows) (c.args.part.low + k)) (sym e)
        | inr other ↦
            done.others (c.args.packed.now.room + i) (omega (arith, inv.room)) (omega (arith, wide g at, c.requires.frames, lt)) (λ e. other (omega (arith, e, inv.room)))
            ∙ inv.filled told rows are i (omega (arith, le, other)) lt
      ];
    }

pub returns-clause-reads : goal.returns-clause-reads
returns-clause-reads g c =
    let inv = c.loop-f.invariant in
    record {
      packed = inv.packed;
      are = inv.are;
      room = inv.room;
      unread = inv.unread;
      rest = inv.slots;
      steps = inv.steps;
      unwritten = inv.unwritten;
      read = inv.read;
      most_read = omega (arith, inv.read);
      damaged = tt;
      cause = tt;
      failed = λ is. absurd (never_failed {T = Unit {0}} tt is);
    }

pub returns-clause-rest : goal.returns-clause-rest
returns-clause-rest g c = let none : c.args.part.low + c.loop-f.f ≡ c.args.part.low = omega (arith, c.loop-f-test.false) in c.loop-f.invariant.rest ∙ ap (λ (k : ℕ). k * c.args.part.records / c.args.part.segments) none

pub returns-clause-filled : goal.returns-clause-filled
returns-clause-filled g c told rows are i lt = c.loop-f.invariant.filled told rows are i (omega (arith, c.loop-f-test.false)) lt

pub returns-clause-calls : goal.returns-clause-calls
returns-clause-calls g c = c.loop-f.invariant.calls

-- The calls, whatever was answered.

pub returns-in_err-fill_share-clause-tried : goal.returns-in_err-fill_share-clause-tried
returns-in_err-fill_share-clause-tried g c =
    let inv = c.loop-f.invariant in
    let last = c.fill_share.ensures.tried in (
      last.0,
      parts_on _ _ _ _ _ _ _ _ inv.calls (subst (λ (room : ℕ). GoesInParts room (used_by c.args.part.records) (used_by c.args.part.records - c.loop-f.packed.unread) last.0 (g.S.Station.view c.loop-f.station).calls (g.S.Station.view c.fill_share.new.station).calls) inv.room last.1),
    )

pub returns-clause-tried : goal.returns-clause-tried
returns-clause-tried g c = (used_by c.args.part.records - c.loop-f.packed.unread, c.loop-f.invariant.calls)
