use Rattle.std.proofs.Common.{arith, ◌≡◌, inl, inr, refl, ℕ, ◌+◌, ◌-◌, ◌*◌, ◌/◌, ◌<◌, ◌≤◌, List, [], ◌++◌, length, drop, sum, sym, ap, subst, ◌∙◌}
use Rattle.std.proofs.lemmas.Bool.{cases_lt}
use Rattle.std.proofs.lemmas.Result.{err_from_is_err_and}
use Rattle.std.proofs.Math.Nat.{mul-div_cancel_left}
use Rattle.station.specs.View.{Told, EachHeld, Fixed}
use Rattle.station.specs.declared.travel.Travel.{Travel}
use Rattle.station.proofs.Composition.{no_steps, weaken, each_on, same_on, told_on, told_back, andthen}
use Rattle.density_rule.specs.Spread.{share}
use Rattle.header_gate.specs.Places.{segment_size}
use Rattle.key_slot.specs.Format.{wide}
use Rattle.key_slot.specs.Record.{Record}
use Rattle.key_slot.specs.Segment.{FitsSegment, IsSegment}
use Rattle.key_slot.specs.declared.sizes.TheConstants.{SEGMENT_SLOTS}
use Rattle.key_slot.proofs.SegmentLaws.{times_up}
use Rattle.map_model.specs.Array.{Array, rows, segment_at, spread_over}
use Rattle.map_model.specs.Image.{array_of}
use Rattle.map_model.specs.Regions.{Spares}
use Rattle.map_model.proofs.Spreading.{sum-counts}
use Rattle.redo_journal.specs.Frames.{Batch}
use Rattle.range_scan.proofs.Walks.{walk_written}
use Rattle.resize_region.specs.Shares.{StandsBare}
use Rattle.spread_plan.proofs.Spreads.{share-le}
use Rattle.resize_region.specs.Spare.{spare_bytes}
use Rattle.resize_region.specs.OldRows.{IsInOrder, rows_ahead}
use Rattle.resize_region.specs.Shares.{places, share_in}
use Rattle.resize_region.specs.Source.{Walks}
use Rattle.resize_region.specs.Upgraded.{widened, in_wide}
use Rattle.resize_region.proofs.FreeRuns.{free_same, free_on}
use Rattle.resize_region.proofs.OldRowLaws.{ahead_start, never_failed}
use Rattle.resize_region.proofs.ResizeLaws.{has_counts}
use Rattle.resize_region.proofs.SettledLaws.{array_kept, stands_kept, share_fits}
use Rattle.resize_region.proofs.ShareParts.{up, top, share_part, share_rest, length-share}
use Rattle.resize_region.proofs.SourceLaws.{at_place}
use Rattle.resize_region.proofs.WalkLaws.{walks_none, walks_on, walks_beside}
use Rattle.resize_region.proofs.WideLaws.{wide_layout, wide_length, wide_fits}
use Rattle.resize_region.proofs.WritingLaws.{spent, on, total, writes_err, writes_failed}
use Rattle.segment_frames.specs.Lists.{most_segments}
use Rattle.segment_frames.specs.SegmentParts.{InParts}
use Rattle.segment_frames.proofs.PartLaws.{parts_none, parts_more}
use Rattle.resize_region.proofs.widening.write_wide.Goals as goal
use Rattle.resize_region.proofs.widening.write_wide.Goals.{After-gather, In_ok-gather}

pub loop-t-init : goal.loop-t-init
loop-t-init g c =
    let place = c.args.place.now in
    let can = c.requires.can in
    let counts = c.args.tally.now.counts in
    let none : 0 ≡ 0 * c.args.spread.records / c.args.spread.segments = omega arith in
    let start = c.requires.start in
    record {
      steps = weaken (no_steps (g.S.Station.view c.args.station.now)) (λ d i left same. subst (Spares place.layout place.region d) (sym same) (subst (λ (region : ℕ). Spares place.layout region d d) (can.stands d left).stands.settled.region_is (free_same place.layout d)));
      reach = can.reach;
      stands = can.stands;
      array = λ told. refl;
      below = omega (arith, can.layout.least);
      within = omega arith;
      upto = omega arith;
      flushed = λ _. refl;
      journal = c.start_shares.ensures.journal;
      turn = c.start_shares.ensures.turn;
      shares = c.start_shares.ensures.shares;
      empty = λ i low lt. c.start_shares.ensures.empty i lt;
      kept = λ told i lt. absurd (omega (arith, lt));
      among = c.requires.among;
      order = c.requires.order;
      coming = omega (arith, none, c.requires.records, ap length c.requires.none, ap (λ (n : ℕ). sum (drop n counts)) start);
      rest = λ told. ahead_start (array_of (g.S.Station.view c.args.station.now).held) c.args.rows.now (0 * c.args.spread.records / c.args.spread.segments) c.requires.none c.requires.start none;
      written = λ told i lt. absurd (omega (arith, lt));
      cost = omega arith;
      calls = (0, parts_none _ _ _, omega arith);
      reads =
          let t = (g.S.Station.view c.args.station.now).travel in
          subst (λ (n : ℕ). Walks place 0 n t t) (sym start) (walks_none place t);
    }

-- What is read.

walked : (g : _) (c : After-gather g) → Walks c.args.place.now 0 c.gather.new.rows.reader.next (g.S.Station.view c.args.station.now).travel (g.S.Station.view c.gather.new.station).travel
walked g c =
    walks_on c.args.place.now 0 c.loop-t.rows.reader.next c.gather.new.rows.reader.next (g.S.Station.view c.args.station.now).travel (g.S.Station.view c.loop-t.station).travel (g.S.Station.view c.gather.new.station).travel (omega arith)
    c.gather.ensures.reads.onward c.loop-t.invariant.reads c.gather.ensures.reads.reads

unwritten : (g : _) (c : After-gather g) → (g.S.Station.view c.gather.new.station).travel.written ≡ (g.S.Station.view c.loop-t.station).travel.written
unwritten g c =
    let place = c.args.place.now in
    ap (λ (t : Travel). t.written) c.gather.ensures.reads.reads ∙ walk_written place.layout place.region c.loop-t.rows.reader.next c.gather.new.rows.reader.next (g.S.Station.view c.loop-t.station).travel

-- the calls with it, and with a part that is written
called : (g : _) (c : After-gather g) → (made : ℕ) × InParts (most_segments (widened c.args.place.now.layout)) c.args.spread.segments (c.loop-t.t - c.loop-t.f) made × ((g.S.Station.view c.gather.new.station).calls ≤ (g.S.Station.view c.args.station.now).calls + (c.gather.new.rows.reader.next + made))
called g c =
    let is = c.loop-t.invariant.calls in
    (is.0, is.1, omega (arith, is.2, c.gather.ensures.reads.calls, c.gather.ensures.reads.onward))

parted : (g : _) (c : After-gather g) {now : ℕ} → now ≤ (g.S.Station.view c.gather.new.station).calls + 1 → (c.loop-t.t + 1 < c.args.spread.segments → most_segments (widened c.args.place.now.layout) ≤ c.loop-t.f + 1)
    → (made : ℕ) × InParts (most_segments (widened c.args.place.now.layout)) c.args.spread.segments (c.loop-t.t + 1 - 0) made × (now ≤ (g.S.Station.view c.args.station.now).calls + (c.gather.new.rows.reader.next + made))
parted g c one full =
    let is = called g c in (
      is.0 + 1,
      parts_more (most_segments (widened c.args.place.now.layout)) c.args.spread.segments (c.loop-t.t - c.loop-t.f) (c.loop-t.t + 1 - 0) is.0 (omega (arith, c.requires.can.layout.least)) is.1 (omega (arith, c.loop-t-test.true)) (λ more. omega (arith, full (omega (arith, more)), c.loop-t.invariant.within)),
      omega (arith, is.2, one),
    )

-- the file after it
stands : (g : _) (c : After-gather g) → EachHeld (StandsBare c.args.place.now c.args.tally.now) (g.S.Station.view c.gather.new.station)
stands g c =
    let Stands = StandsBare c.args.place.now c.args.tally.now in
    each_on Stands Stands c.gather.ensures.reads.steps c.loop-t.invariant.stands (λ d i is step. subst Stands (sym step) is)

pub gather-requires-clause-frame : goal.gather-requires-clause-frame
gather-requires-clause-frame g c = omega (arith, c.loop-t.invariant.below, c.loop-t.invariant.journal, c.requires.can.journal)

pub gather-requires-clause-few : goal.gather-requires-clause-few
gather-requires-clause-few g c = omega (arith, c.share.ensures, share-le c.args.spread.records c.args.spread.segments c.loop-t.t c.requires.can.some (omega (arith, c.requires.records, c.requires.can.room)))

pub gather-requires-clause-enough : goal.gather-requires-clause-enough
gather-requires-clause-enough g c =
    let n = c.args.spread.records in
    let m = c.args.spread.segments in
    omega (arith, c.share.ensures, c.loop-t.invariant.coming, up n m c.loop-t.t c.requires.can.some c.loop-t-test.true, top n m c.loop-t.t c.requires.can.some c.loop-t-test.true)

pub gather-requires-clause-order : goal.gather-requires-clause-order
gather-requires-clause-order g c told =
    let inv = c.loop-t.invariant in
    let before = told_back inv.steps.frame told in
    subst (λ (a : Array). IsInOrder a c.loop-t.rows) (sym (inv.array before)) (inv.order before)

pub returns-in_err-gather-clause-writes : goal.returns-in_err-gather-clause-writes
returns-in_err-gather-clause-writes g c =
    let p = err_from_is_err_and c.from_residual.result c.from_residual.ensures.1 in
    let at = (goal.at.returns-in_err-gather-clause-writes g c).After-gather in
    let inv = c.loop-t.invariant in
    let read = c.in_err-gather.ensures.reads in
    writes_err c.args.place.now c.args.tally.now c.args.spread.segments c.args.frames.now c.gather.new.frames (g.S.Station.view c.args.station.now) (g.S.Station.view c.loop-t.station) (g.S.Station.view c.gather.new.station)
    c.from_residual.result c.in_err-gather.field-0.0 (rw p.2 at p.1) (same_on inv.steps read.steps) (ap (λ (b : Batch). b.journal) c.gather.ensures.rest ∙ inv.journal) (ap (λ (b : Batch). b.turn) c.gather.ensures.rest ∙ inv.turn)
    (omega (arith, inv.cost, unwritten g at, times_up (segment_size (widened c.args.place.now.layout)) (c.loop-t.t - c.loop-t.f) c.args.spread.segments (omega (arith, c.loop-t-test.true))))
    (λ told. read.damaged (told_on inv.steps.frame told))
    (inr (read.cause.0, omega (arith, read.cause.1, read.upto), read.cause.2, subst (λ (n : ℕ). Walks c.args.place.now 0 n (g.S.Station.view c.args.station.now).travel (g.S.Station.view c.gather.new.station).travel) read.cause.1 (walked g at)))
    inv.steps.frame.disk_faults read.failed

pub returns-in_err-gather-clause-reads : goal.returns-in_err-gather-clause-reads
returns-in_err-gather-clause-reads g c = walked g (goal.at.returns-in_err-gather-clause-reads g c).After-gather

size : (g : _) (c : In_ok-gather g) → length (share_in wide c.loop-t.f c.gather.new.frames) ≡ share c.args.spread.records c.args.spread.segments c.loop-t.t
size g c = c.in_ok-gather.ensures.filled ∙ c.share.ensures

pub overflow_add-t : goal.overflow_add-t
overflow_add-t g c = omega (arith, c.loop-t-test.true)

pub write_places-requires-clause-shares : goal.write_places-requires-clause-shares
write_places-requires-clause-shares g c = c.in_ok-gather.ensures.shares

pub clear_shares-requires-clause-shares : goal.clear_shares-requires-clause-shares
clear_shares-requires-clause-shares g c = c.in_ok-gather.ensures.shares

pub write_places-requires-clause-reach : goal.write_places-requires-clause-reach
write_places-requires-clause-reach g c = omega (arith, c.loop-t.invariant.reach, ap (λ (f : Fixed). f.reach) c.gather.ensures.reads.steps.frame.fixed, wide_length c.args.place.now.layout)

pub write_places-requires-clause-layout : goal.write_places-requires-clause-layout
write_places-requires-clause-layout g c = wide_layout c.args.place.now.layout c.requires.can.layout c.requires.can.limit

pub write_places-requires-clause-live : goal.write_places-requires-clause-live
write_places-requires-clause-live g c image left = at_place c.args.place.now image (stands g (goal.at.write_places-requires-clause-live g c).After-gather image left).stands.settled

pub returns-in_err-write_places-clause-writes : goal.returns-in_err-write_places-clause-writes
returns-in_err-write_places-clause-writes g c =
    let p = err_from_is_err_and c.from_residual-in_err-write_places.result c.from_residual-in_err-write_places.ensures.1 in
    let at = (goal.at.returns-in_err-write_places-clause-writes g c).After-gather in
    let inv = c.loop-t.invariant in
    let place = c.args.place.now in
    let n = segment_size (widened place.layout) in
    let read = c.gather.ensures.reads in
    let steps = same_on inv.steps read.steps in
    let one : (g.S.Station.view c.gather.new.station).travel.written ≤ (g.S.Station.view c.args.station.now).travel.written + n * (c.loop-t.t - c.loop-t.f) = omega (arith, inv.cost, unwritten g at) in
    writes_failed place c.args.tally.now c.args.spread.segments c.args.frames.now c.gather.new.frames (g.S.Station.view c.args.station.now) (g.S.Station.view c.gather.new.station) (g.S.Station.view c.write_places.new.station)
    c.from_residual-in_err-write_places.result c.in_err-write_places.field-0.0 (rw p.2 at p.1)
    (andthen steps c.write_places.ensures.steps (λ d i left step. step) (λ d e i left first mid second. free_on place.layout place.region d e i first second))
    (ap (λ (b : Batch). b.journal) c.gather.ensures.rest ∙ inv.journal) (ap (λ (b : Batch). b.turn) c.gather.ensures.rest ∙ inv.turn)
    (total n (g.S.Station.view c.args.station.now).travel.written (g.S.Station.view c.gather.new.station).travel.written (g.S.Station.view c.write_places.new.station).travel.written c.loop-t.t c.loop-t.f c.args.spread.segments one c.write_places.ensures.writes.cost inv.within c.loop-t-test.true)
    c.in_err-write_places.ensures.fault steps.frame.disk_faults c.in_err-write_places.ensures.failed

pub returns-in_err-write_places-clause-reads : goal.returns-in_err-write_places-clause-reads
returns-in_err-write_places-clause-reads g c =
    walks_beside c.args.place.now 0 c.gather.new.rows.reader.next (g.S.Station.view c.args.station.now).travel (g.S.Station.view c.gather.new.station).travel (g.S.Station.view c.write_places.new.station).travel
    (walked g (goal.at.returns-in_err-write_places-clause-reads g c).After-gather) c.write_places.ensures.writes.no_reads

-- The records.

many : (g : _) (c : In_ok-gather g) → Told (g.S.Station.view c.args.station.now) → length (rows (array_of (g.S.Station.view c.args.station.now).held)) ≡ c.args.spread.records
many g c told =
    let a = g.S.Station.view c.args.station.now in
    sym (sum-counts (array_of a.held)) ∙ ap sum (has_counts c.args.place.now c.args.tally.now a.held (c.requires.can.stands a.held (inl (told, refl))).stands (c.requires.can.stands a.held (inl (told, refl))).bare).counts_are ∙ sym c.requires.records

whole : (g : _) (c : In_ok-gather g) → Told (g.S.Station.view c.args.station.now) → share_in wide c.loop-t.f c.gather.new.frames ++ rows_ahead (array_of (g.S.Station.view c.args.station.now).held) c.gather.new.rows
    ≡ drop (c.loop-t.t * c.args.spread.records / c.args.spread.segments) (rows (array_of (g.S.Station.view c.args.station.now).held))
whole g c told =
    let inv = c.loop-t.invariant in
    subst (λ (a : Array). share_in wide c.loop-t.f c.gather.new.frames ++ rows_ahead a c.gather.new.rows ≡ rows_ahead a c.loop-t.rows) (inv.array told) (c.in_ok-gather.ensures.same (told_on inv.steps.frame told)) ∙ inv.rest told

-- the share is the next segment
next_share : (g : _) (c : In_ok-gather g) → Told (g.S.Station.view c.args.station.now) → share_in wide c.loop-t.f c.gather.new.frames ≡ segment_at (spread_over c.args.spread.segments (rows (array_of (g.S.Station.view c.args.station.now).held))) c.loop-t.t
next_share g c told =
    let a = g.S.Station.view c.args.station.now in
    share_part c.args.spread.records c.args.spread.segments c.loop-t.t c.requires.can.some c.loop-t-test.true (rows (array_of a.held)) (share_in wide c.loop-t.f c.gather.new.frames) (rows_ahead (array_of a.held) c.gather.new.rows) (many g c told) (size g c) (whole g c told)

-- the places of the shares, with the new one
kept : (g : _) (c : In_ok-gather g) → Told (g.S.Station.view c.args.station.now) → (i : ℕ) → i < c.loop-t.f + 1
    → share_in wide i c.gather.new.frames ≡ segment_at (spread_over c.args.spread.segments (rows (array_of (g.S.Station.view c.args.station.now).held))) (c.loop-t.t + 1 - (c.loop-t.f + 1) + i)
kept g c told i lt =
    let new = spread_over c.args.spread.segments (rows (array_of (g.S.Station.view c.args.station.now).held)) in
    let f = c.loop-t.f in
    let t = c.loop-t.t in
    let inv = c.loop-t.invariant in
    elim (cases_lt i f) [
      | inl before ↦
          let at : t - f + i ≡ t + 1 - (f + 1) + i = omega arith in
          c.gather.ensures.others i (λ e. omega (arith, before, e)) (omega (arith, before, inv.below, inv.journal, c.requires.can.journal)) ∙ inv.kept told i before ∙ ap (segment_at new) at
      | inr le ↦
          let same : f ≡ i = omega (arith, lt, le) in
          let at : t ≡ t + 1 - (f + 1) + i = omega (arith, inv.within, same) in
          ap (λ (k : ℕ). share_in wide k c.gather.new.frames) (sym same) ∙ next_share g c told ∙ ap (segment_at new) at
    ]

empty : (g : _) (c : In_ok-gather g) (i : ℕ) → c.loop-t.f + 1 ≤ i → i < c.args.place.now.layout.journal / 2 → share_in wide i c.gather.new.frames ≡ []
empty g c i le lt = c.gather.ensures.others i (λ e. omega (arith, le, e)) (omega (arith, lt, c.loop-t.invariant.journal, c.requires.can.journal)) ∙ c.loop-t.invariant.empty i (omega (arith, le)) lt

rest : (g : _) (c : In_ok-gather g) → Told (g.S.Station.view c.args.station.now) → rows_ahead (array_of (g.S.Station.view c.args.station.now).held) c.gather.new.rows
    ≡ drop ((c.loop-t.t + 1) * c.args.spread.records / c.args.spread.segments) (rows (array_of (g.S.Station.view c.args.station.now).held))
rest g c told =
    let a = g.S.Station.view c.args.station.now in
    share_rest c.args.spread.records c.args.spread.segments c.loop-t.t c.requires.can.some c.loop-t-test.true (rows (array_of a.held)) (share_in wide c.loop-t.f c.gather.new.frames) (rows_ahead (array_of a.held) c.gather.new.rows) (many g c told) (size g c) (whole g c told)

order : (g : _) (c : In_ok-gather g) → Told (g.S.Station.view c.args.station.now) → IsInOrder (array_of (g.S.Station.view c.args.station.now).held) c.gather.new.rows
order g c told =
    let inv = c.loop-t.invariant in
    subst (λ (a : Array). IsInOrder a c.gather.new.rows) (inv.array told) (c.in_ok-gather.ensures.order (told_on inv.steps.frame told))

-- what stood in the other region stays while a share is gathered
written : (g : _) (c : In_ok-gather g) → Told (g.S.Station.view c.args.station.now) → (i : ℕ) → i < c.loop-t.t + 1 - (c.loop-t.f + 1)
    → IsSegment wide (segment_at (spread_over c.args.spread.segments (rows (array_of (g.S.Station.view c.args.station.now).held))) i) (spare_bytes (in_wide c.args.place.now) i (g.S.Station.view c.gather.new.station).held)
written g c told i lt =
    let a = g.S.Station.view c.args.station.now in
    subst (IsSegment wide (segment_at (spread_over c.args.spread.segments (rows (array_of a.held))) i)) (ap (spare_bytes (in_wide c.args.place.now) i) (sym (c.gather.ensures.reads.steps.held (told_on c.loop-t.invariant.steps.frame told)))) (c.loop-t.invariant.written told i (omega (arith, lt)))

fits : (g : _) (c : In_ok-gather g) → Told (g.S.Station.view c.args.station.now) → (i : ℕ) → i < c.loop-t.f + 1 → FitsSegment wide (share_in wide i c.gather.new.frames)
fits g c told i lt =
    let a = g.S.Station.view c.args.station.now in
    let n = c.args.spread.records in
    let m = c.args.spread.segments in
    let some = c.requires.can.some in
    let k = c.loop-t.t + 1 - (c.loop-t.f + 1) + i in
    let few : share n m k ≤ SEGMENT_SLOTS = share-le n m k some (omega (arith, c.requires.records, c.requires.can.room)) in
    let rs = rows (array_of a.held) in
    let inside : k < m = omega (arith, c.loop-t-test.true, c.loop-t.invariant.within, lt) in
    let long : length (segment_at (spread_over m rs) k) ≤ SEGMENT_SLOTS = omega (arith, length-share n m k some inside rs (many g c told), few) in
    let own = share_fits c.args.place.now a.held (c.requires.can.stands a.held (inl (told, refl))).stands.settled m k some long in
    subst (FitsSegment wide) (sym (kept g c told i lt)) (wide_fits (segment_at (spread_over m rs) k) (subst (λ (f : ℕ). FitsSegment f (segment_at (spread_over m rs) k)) c.requires.can.narrow_is own))

pub loop-t-preserved-then-not-fits_more : goal.loop-t-preserved-then-not-fits_more
loop-t-preserved-then-not-fits_more g c =
    let at = (goal.at.loop-t-preserved-then-not-fits_more g c).In_ok-gather in
    let after = (goal.at.loop-t-preserved-then-not-fits_more g c).After-gather in
    let inv = c.loop-t.invariant in
    let place = c.args.place.now in
    let t = c.args.tally.now in
    let n = c.args.spread.records in
    let m = c.args.spread.segments in
    let k = c.loop-t.t in
    let f = c.loop-t.f in
    let lt = c.loop-t-test.true in
    let some = c.requires.can.some in
    let a = g.S.Station.view c.args.station.now in
    let before = g.S.Station.view c.gather.new.station in
    let w = g.S.Station.view c.write_places.new.station in
    let read = c.gather.ensures.reads in
    let Stands = StandsBare place t in
    let all : places wide c.gather.new.frames ≡ place.layout.journal / 2 = ap (λ (b : Batch). b.journal / 2) c.gather.ensures.rest ∙ ap (λ (j : ℕ). j / 2) (inv.journal ∙ c.requires.can.journal) in
    record {
      steps = andthen (same_on inv.steps read.steps) c.write_places.ensures.steps (λ d i left step. step) (λ d e i left first mid second. free_on place.layout place.region d e i first second);
      reach = omega (arith, inv.reach, ap (λ (x : Fixed). x.reach) read.steps.frame.fixed, ap (λ (x : Fixed). x.reach) c.write_places.ensures.steps.frame.fixed);
      stands = each_on Stands Stands c.write_places.ensures.steps (stands g after) (λ d i is step. stands_kept place t d i is step);
      array = λ told.
          let told_l = told_on inv.steps.frame told in
          let told_f = told_on read.steps.frame told_l in
          array_kept place before.held w.held (stands g after before.held (inl (told_f, refl))).stands.settled (stands g after before.held (inl (told_f, refl))).bare (c.write_places.ensures.steps.held told_f)
          ∙ ap array_of (read.steps.held told_l) ∙ inv.array told;
      below = omega (arith, c.requires.can.layout.least);
      within = omega arith;
      upto = omega (arith, lt);
      flushed = λ e. refl;
      journal = ap (λ (x : Batch). x.journal) c.clear_shares.ensures.rest ∙ ap (λ (x : Batch). x.journal) c.gather.ensures.rest ∙ inv.journal;
      turn = ap (λ (x : Batch). x.turn) c.clear_shares.ensures.rest ∙ ap (λ (x : Batch). x.turn) c.gather.ensures.rest ∙ inv.turn;
      shares = c.clear_shares.ensures.shares;
      empty = λ i le lt_i. elim (cases_lt i (f + 1)) [
        | inl in_run ↦ c.clear_shares.ensures.empty i in_run
        | inr past ↦ c.clear_shares.ensures.others i past (omega (arith, lt_i, all)) ∙ empty g at i past lt_i
      ];
      kept = λ told i none. absurd (omega (arith, none));
      among = c.in_ok-gather.ensures.among;
      order = λ told. order g at told;
      coming = omega (arith, c.in_ok-gather.ensures.left, inv.coming, c.share.ensures, up n m k some lt);
      rest = λ told. rest g at told;
      written = λ told i low.
          let told_f = told_on read.steps.frame (told_on inv.steps.frame told) in
          let first = k + 1 - (f + 1) in
          let lists = spread_over m (rows (array_of a.held)) in
          elim (cases_lt i first) [
            | inl done ↦ subst (IsSegment wide (segment_at lists i)) (sym (c.write_places.ensures.others told_f i done)) (written g at told i done)
            | inr le ↦
                let j = i - first in
                let in_run : j < f + 1 = omega (arith, low, le, inv.within) in
                let there : first + j ≡ i = omega (arith, le) in
                subst (λ (q : ℕ). IsSegment wide (segment_at lists q) (spare_bytes (in_wide place) q w.held)) there
                (subst (λ (rs : List Record). IsSegment wide rs (spare_bytes (in_wide place) (first + j) w.held)) (kept g at told j in_run) (c.in_ok-write_places.ensures.written told_f j in_run (fits g at told j in_run)))
          ];
      cost = omega (arith, inv.cost, unwritten g after, c.write_places.ensures.writes.cost, spent (segment_size (widened place.layout)) k f inv.within);
      calls = parted g after c.write_places.ensures.writes.calls (λ more. omega (arith, c.fits_more.ensures.full c.if-not-fits_more.true more));
      reads = walks_beside place 0 c.gather.new.rows.reader.next a.travel before.travel w.travel (walked g after) c.write_places.ensures.writes.no_reads;
    }

pub loop-t-preserved : goal.loop-t-preserved
loop-t-preserved g c =
    let at = (goal.at.loop-t-preserved g c).In_ok-gather in
    let after = (goal.at.loop-t-preserved g c).After-gather in
    let inv = c.loop-t.invariant in
    let place = c.args.place.now in
    let n = c.args.spread.records in
    let m = c.args.spread.segments in
    let k = c.loop-t.t in
    let f = c.loop-t.f in
    let lt = c.loop-t-test.true in
    let read = c.gather.ensures.reads in
    record {
      steps = same_on inv.steps read.steps;
      reach = omega (arith, inv.reach, ap (λ (x : Fixed). x.reach) read.steps.frame.fixed);
      stands = stands g after;
      array = λ told. ap array_of (read.steps.held (told_on inv.steps.frame told)) ∙ inv.array told;
      below = c.fits_more.ensures.room c.if-not-fits_more.false;
      within = omega (arith, inv.within);
      upto = omega (arith, lt);
      flushed = λ e. absurd (omega (arith, e, c.fits_more.ensures.more c.if-not-fits_more.false));
      journal = ap (λ (x : Batch). x.journal) c.gather.ensures.rest ∙ inv.journal;
      turn = ap (λ (x : Batch). x.turn) c.gather.ensures.rest ∙ inv.turn;
      shares = c.in_ok-gather.ensures.shares;
      empty = λ i le lt_i. empty g at i le lt_i;
      kept = λ told i low. kept g at told i low;
      among = c.in_ok-gather.ensures.among;
      order = λ told. order g at told;
      coming = omega (arith, c.in_ok-gather.ensures.left, inv.coming, c.share.ensures, up n m k c.requires.can.some lt);
      rest = λ told. rest g at told;
      written = λ told i low. written g at told i low;
      cost = omega (arith, inv.cost, unwritten g after, on (segment_size (widened place.layout)) k f);
      calls =
          let is = called g after in
          let same : k - f ≡ k + 1 - (f + 1) = omega arith in
          (is.0, subst (λ (n : ℕ). InParts (most_segments (widened place.layout)) m n is.0) same is.1, is.2);
      reads = walked g after;
    }

pub returns-clause-done : goal.returns-clause-done
returns-clause-done g c =
    let n = c.args.spread.records in
    let m = c.args.spread.segments in
    let end : c.loop-t.t ≡ m = omega (arith, c.loop-t-test.false, c.loop-t.invariant.upto) in
    omega (arith, c.loop-t.invariant.coming, ap (λ (t : ℕ). t * n / m) end, mul-div_cancel_left n c.requires.can.some)

pub returns-clause-writes : goal.returns-clause-writes
returns-clause-writes g c =
    let inv = c.loop-t.invariant in
    let end : c.loop-t.t ≡ c.args.spread.segments = omega (arith, c.loop-t-test.false, inv.upto) in
    record {
      steps = inv.steps;
      written = λ told i lt. inv.written told i (omega (arith, lt, inv.flushed end, end));
      journal = inv.journal;
      turn = inv.turn;
      cost = omega (arith, inv.cost, times_up (segment_size (widened c.args.place.now.layout)) (c.loop-t.t - c.loop-t.f) c.args.spread.segments (omega (arith, inv.upto)));
      damaged = tt;
      cause = tt;
      failed = λ is. absurd (never_failed {T = Unit {0}} tt is);
    }

pub returns-in_err-gather-clause-calls : goal.returns-in_err-gather-clause-calls
returns-in_err-gather-clause-calls g c = let is = called g (goal.at.returns-in_err-gather-clause-calls g c).After-gather in omega (arith, is.2, is.1.few)

pub returns-in_err-write_places-clause-calls : goal.returns-in_err-write_places-clause-calls
returns-in_err-write_places-clause-calls g c =
    let is = parted g (goal.at.returns-in_err-write_places-clause-calls g c).After-gather c.write_places.ensures.writes.calls (λ more. omega (arith, c.fits_more.ensures.full c.if-not-fits_more.true more)) in
    omega (arith, is.2, is.1.few)

pub returns-clause-calls : goal.returns-clause-calls
returns-clause-calls g c = let is = c.loop-t.invariant.calls in omega (arith, is.2, is.1.few)
