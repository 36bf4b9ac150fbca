use Rattle.std.proofs.Common.{◌≤◌, ◌+◌, arith, ◌≡◌, inl, refl, ℕ, ◌-◌, ◌^◌, List, length, sum, sym, ap, subst, ◌∙◌}
use Rattle.std.proofs.lemmas.Nat.{pow_pos}
use Rattle.std.proofs.lemmas.Result.{err_from_is_err_and}
use Rattle.std.proofs.Math.Pow.{pow_mono}
use Rattle.station.specs.View.{Told, MayHold}
use Rattle.station.specs.Steps.{Steps}
use Rattle.station.proofs.Composition.{andthen, weaken, told_of, told_on, told_back, only_held, each_held}
use Rattle.density_rule.specs.Bounds.{IsInBounds}
use Rattle.density_rule.specs.Spread.{resized_counts}
use Rattle.header_gate.specs.Flip.{Flips, Flipped}
use Rattle.header_gate.specs.Places.{height_limit}
use Rattle.key_slot.specs.Format.{wide}
use Rattle.map_model.specs.Array.{rows, counts_of, resized, spread_over}
use Rattle.map_model.specs.Image.{array_of}
use Rattle.map_model.specs.Regions.{Spares}
use Rattle.map_model.specs.Standing.{StandsWith}
use Rattle.map_model.proofs.Spreading.{sum-counts}
use Rattle.segment_frames.specs.FrameStanding.{IsSettledAt}
use Rattle.resize_region.specs.Spare.{HasWritten}
use Rattle.resize_region.specs.Upgraded.{MayWiden, Upgrades, widened, in_wide, upgraded_height}
use Rattle.resize_region.proofs.OldRowLaws.{rose_on, failed_as, never_failed}
use Rattle.resize_region.proofs.ResizeLaws.{has_counts, spare_by, array_wide, stands_wide, flips_widen, bare_of, bare_wide, rests_new}
use Rattle.resize_region.proofs.UpgradeLaws.{upgraded_low, upgraded_room, upgraded_bounds, own_bounds, spreads_err}
use Rattle.resize_region.proofs.WalkLaws.{walks_beside}
use Rattle.segment_frames.specs.Lists.{most_segments}
use Rattle.segment_frames.specs.SegmentParts.{parts}
use Rattle.resize_region.proofs.upgrading.widen.Goals as goal
use Rattle.resize_region.proofs.upgrading.widen.Goals.{After-segments_at, After-copy_wide, In_ok-copy_wide}

-- the new height
tall : (g : _) (c : After-segments_at g) → c.min-height.result ≡ upgraded_height c.args.place.now.layout c.args.tally.now.height
tall g c = omega (arith, c.min-height.ensures, c.height.ensures.height)

-- and its segments
wide_count : (g : _) (c : After-segments_at g) → c.segments_at.result ≡ 2 ^ upgraded_height c.args.place.now.layout c.args.tally.now.height
wide_count g c = c.segments_at.ensures ∙ ap (λ (h : ℕ). 2 ^ h) (tall g c)

-- the calls that write them
called : (g : _) (c : After-segments_at g) (now before : ℕ) → now ≤ before + (2 ^ c.args.tally.now.height + parts (most_segments (widened c.args.place.now.layout)) c.segments_at.result)
    → now ≤ before + (2 ^ c.args.tally.now.height + parts (most_segments (widened c.args.place.now.layout)) (2 ^ upgraded_height c.args.place.now.layout c.args.tally.now.height))
called g c now before few = omega (arith, few, ap (parts (most_segments (widened c.args.place.now.layout))) (wide_count g c))

pub copy_wide-requires-clause-can : goal.copy_wide-requires-clause-can
copy_wide-requires-clause-can g c =
    let at = (goal.at.copy_wide-requires-clause-can g c).After-segments_at in
    let l = c.args.place.now.layout in
    let t = c.args.tally.now in
    let h = upgraded_height l t.height in
    record {
      layout = c.requires.can.layout;
      narrow_is = c.requires.narrow;
      limit = c.requires.limit;
      region = c.requires.can.region;
      reach = c.requires.can.reach;
      journal = c.requires.can.journal;
      stands = λ image left. record { stands = c.requires.can.stands image left; bare = bare_of c.args.place.now (g.met.S.Station.lawful c.args.station.now) c.requires.can.nothing c.requires.can.bare image left };
      some = omega (arith, wide_count g at, pow_pos h);
      room = omega (arith, wide_count g at, upgraded_room l t c.height.ensures.tally (omega (arith, c.requires.records, c.requires.few)));
      fits = omega (arith, wide_count g at, pow_mono {i = h} {j = height_limit (widened l)} (upgraded_low l t.height));
    }

spare : (g : _) (c : After-copy_wide g) (d i : List ℕ) → MayHold (g.S.Station.view c.args.station.now) d → Spares c.args.place.now.layout c.args.place.now.region d i → Upgrades c.args.place.now (upgraded_height c.args.place.now.layout c.args.tally.now.height) d i
spare g c d i left step = spare_by MayWiden c.args.place.now (upgraded_height c.args.place.now.layout c.args.tally.now.height) d i (λ l. inl refl) (c.requires.can.stands d left).settled (bare_of c.args.place.now (g.met.S.Station.lawful c.args.station.now) c.requires.can.nothing c.requires.can.bare d left) step

-- The file before the copy, and after it.

settled : (g : _) (c : In_ok-copy_wide g) → Told (g.S.Station.view c.args.station.now) → IsSettledAt c.args.place.now (g.S.Station.view c.args.station.now).held
settled g c told = (c.requires.can.stands (g.S.Station.view c.args.station.now).held (inl (told, refl))).settled

counts : (g : _) (c : In_ok-copy_wide g) → Told (g.S.Station.view c.args.station.now) → counts_of (array_of (g.S.Station.view c.args.station.now).held) ≡ c.args.tally.now.counts
counts g c told = (has_counts c.args.place.now c.args.tally.now (g.S.Station.view c.args.station.now).held (c.requires.can.stands (g.S.Station.view c.args.station.now).held (inl (told, refl))) (c.requires.can.bare told)).counts_are

bounds : (g : _) (c : In_ok-copy_wide g) → Told (g.S.Station.view c.args.station.now)
    → IsInBounds (upgraded_height c.args.place.now.layout c.args.tally.now.height) (upgraded_height c.args.place.now.layout c.args.tally.now.height) (length (rows (array_of (g.S.Station.view c.args.station.now).held)))
bounds g c told =
    let a = g.S.Station.view c.args.station.now in
    let total : length (rows (array_of a.held)) ≡ sum c.args.tally.now.counts = sym (sum-counts (array_of a.held)) ∙ ap sum (counts g c told) in
    upgraded_bounds c.args.place.now.layout c.args.tally.now.height (length (rows (array_of a.held))) c.requires.height
    (own_bounds c.args.place.now c.args.tally.now a.held (c.requires.can.stands a.held (inl (told, refl)))) (omega (arith, total, c.requires.records, c.requires.few))

copied : (g : _) (c : In_ok-copy_wide g) → Told (g.S.Station.view c.args.station.now)
    → HasWritten (in_wide c.args.place.now) (resized (array_of (g.S.Station.view c.args.station.now).held) (upgraded_height c.args.place.now.layout c.args.tally.now.height)) (2 ^ upgraded_height c.args.place.now.layout c.args.tally.now.height) (g.S.Station.view c.copy_wide.new.station).held
copied g c told =
    let a = g.S.Station.view c.args.station.now in
    let b = g.S.Station.view c.copy_wide.new.station in
    let size : c.segments_at.result ≡ 2 ^ upgraded_height c.args.place.now.layout c.args.tally.now.height = c.segments_at.ensures ∙ ap (λ (h : ℕ). 2 ^ h) (omega (arith, c.min-height.ensures, c.height.ensures.height)) in
    subst (λ (m : ℕ). HasWritten (in_wide c.args.place.now) (spread_over m (rows (array_of a.held))) m b.held) size (c.in_ok-copy_wide.ensures.writes.written told)

-- what a flip then makes of an image of the entry
both : (g : _) (c : In_ok-copy_wide g) (d e i : List ℕ) → MayHold (g.S.Station.view c.args.station.now) d → Spares c.args.place.now.layout c.args.place.now.region d e
    → Flips (1 - c.args.place.now.region) c.min-height.result wide (g.S.Station.view c.copy_wide.new.station).held e i → Upgrades c.args.place.now (upgraded_height c.args.place.now.layout c.args.tally.now.height) d i
both g c d e i left one two =
    let a = g.S.Station.view c.args.station.now in
    let b = g.S.Station.view c.copy_wide.new.station in
    let place = c.args.place.now in
    let h = upgraded_height place.layout c.args.tally.now.height in
    let told = told_of (g.met.S.Station.lawful c.args.station.now) d left in
    let same : d ≡ a.held = only_held a c.requires.can.nothing d left in
    let height_is : c.min-height.result ≡ h = omega (arith, c.min-height.ensures, c.height.ensures.height) in
    subst (λ (x : List ℕ). Upgrades place h x i) (sym same)
    (flips_widen place h a.held b.held c.requires.can.region (settled g c told) (c.requires.can.bare told) (c.copy_wide.ensures.writes.steps.held told) (upgraded_low place.layout c.args.tally.now.height) c.requires.can.layout.hmax c.requires.limit (bounds g c told) (copied g c told) i e
    (subst (λ (x : List ℕ). Spares place.layout place.region x e) same one) (subst (λ (k : ℕ). Flips (1 - place.region) k wide b.held e i) height_is two))

pub returns-in_err-copy_wide-clause-spread : goal.returns-in_err-copy_wide-clause-spread
returns-in_err-copy_wide-clause-spread g c =
    let p = err_from_is_err_and c.from_residual.result c.from_residual.ensures.1 in
    let after = (goal.at.returns-in_err-copy_wide-clause-spread g c).After-copy_wide in
    let at = (goal.at.returns-in_err-copy_wide-clause-spread g c).After-segments_at in
    let fault = c.in_err-copy_wide.field-0.0 in
    let wrote = c.in_err-copy_wide.ensures.writes in
    spreads_err c.args.place.now c.args.place.now c.args.tally.now (g.S.Station.view c.args.station.now) (g.S.Station.view c.copy_wide.new.station) c.from_residual.result fault (rw p.2 at p.1)
    (weaken wrote.steps (λ d i left step. spare g after d i left step)) refl (omega (arith, wrote.cost, wide_count g at)) c.copy_wide.ensures.reads (omega (arith, called g at _ _ c.copy_wide.ensures.calls)) wrote.damaged wrote.cause
    (λ is. wrote.failed (failed_as fault is))

pub returns-in_err-make_live-clause-spread : goal.returns-in_err-make_live-clause-spread
returns-in_err-make_live-clause-spread g c =
    let p = err_from_is_err_and c.from_residual-in_err-make_live.result c.from_residual-in_err-make_live.ensures.1 in
    let after = (goal.at.returns-in_err-make_live-clause-spread g c).After-copy_wide in
    let at = (goal.at.returns-in_err-make_live-clause-spread g c).After-segments_at in
    let in_ok = (goal.at.returns-in_err-make_live-clause-spread g c).In_ok-copy_wide in
    let a = g.S.Station.view c.args.station.now in
    let b = g.S.Station.view c.copy_wide.new.station in
    let n = g.S.Station.view c.make_live.new.station in
    let fault = c.in_err-make_live.field-0.0 in
    let wrote = c.copy_wide.ensures.writes in
    let read = c.copy_wide.ensures.reads in
    spreads_err c.args.place.now c.args.place.now c.args.tally.now a n c.from_residual-in_err-make_live.result fault (rw p.2 at p.1)
    (andthen wrote.steps c.make_live.ensures.steps (λ d i left step. spare g after d i left step) (λ d e i left one mid two. both g in_ok d e i left one two)) refl
    (omega (arith, wrote.cost, c.make_live.ensures.cost, wide_count g at))
    (read.0, read.1, walks_beside c.args.place.now 0 read.0 a.travel b.travel n.travel read.2 c.make_live.ensures.no_reads)
    (omega (arith, called g at _ _ c.copy_wide.ensures.calls, c.make_live.ensures.calls))
    (λ told. c.in_err-make_live.ensures.fault) (inl c.in_err-make_live.ensures.fault)
    (λ is. rose_on a b n.disk_faults wrote.steps.frame.disk_faults (c.in_err-make_live.ensures.failed (failed_as fault is)))

-- the flip, by the new height
flipped : (g : _) (c : In_ok-copy_wide g) (n : List ℕ) → Flipped (1 - c.args.place.now.region) c.min-height.result wide (g.S.Station.view c.copy_wide.new.station).held n → Flipped (1 - c.args.place.now.region) (upgraded_height c.args.place.now.layout c.args.tally.now.height) wide (g.S.Station.view c.copy_wide.new.station).held n
flipped g c n flip =
    let height_is : c.min-height.result ≡ upgraded_height c.args.place.now.layout c.args.tally.now.height = omega (arith, c.min-height.ensures, c.height.ensures.height) in
    subst (λ (k : ℕ). Flipped (1 - c.args.place.now.region) k wide (g.S.Station.view c.copy_wide.new.station).held n) height_is flip

pub returns-clause-spread : goal.returns-clause-spread
returns-clause-spread g c =
    let after = (goal.at.returns-clause-spread g c).After-copy_wide in
    let at = (goal.at.returns-clause-spread g c).After-segments_at in
    let in_ok = (goal.at.returns-clause-spread g c).In_ok-copy_wide in
    let place = c.args.place.now in
    let t = c.args.tally.now in
    let h = upgraded_height place.layout t.height in
    let a = g.S.Station.view c.args.station.now in
    let b = g.S.Station.view c.copy_wide.new.station in
    let n = g.S.Station.view c.make_live.new.station in
    let wrote = c.copy_wide.ensures.writes in
    let read = c.copy_wide.ensures.reads in
    let steps : Steps (Upgrades place h) a n = andthen wrote.steps c.make_live.ensures.steps (λ d i left step. spare g after d i left step) (λ d e i left one mid two. both g in_ok d e i left one two) in
    let bare = λ (told : Told a).
    bare_wide place h a.held b.held c.requires.can.region (settled g in_ok told) (c.requires.can.bare told) (wrote.steps.held told) (upgraded_low place.layout t.height) c.requires.can.layout.hmax c.requires.limit (bounds g in_ok told) (copied g in_ok told) n.held
    (flipped g in_ok n.held (c.in_ok-make_live.ensures.flipped (told_on wrote.steps.frame told))) in
    record {
      steps = steps;
      rests = λ turn rests. rests_new place.layout (widened place.layout) turn (g.met.S.Station.lawful c.make_live.new.station) c.in_ok-make_live.ensures.settled steps.frame refl (λ told. (steps.held told).gate_is) bare rests;
      settled = c.in_ok-make_live.ensures.settled;
      array = λ told.
          array_wide place h a.held b.held c.requires.can.region (settled g in_ok told) (c.requires.can.bare told) (wrote.steps.held told) (upgraded_low place.layout t.height) c.requires.can.layout.hmax c.requires.limit (bounds g in_ok told) (copied g in_ok told) n.held
          (flipped g in_ok n.held (c.in_ok-make_live.ensures.flipped (told_on wrote.steps.frame told)));
      stands = each_held n (StandsWith (widened place.layout) (1 - place.region) h (resized_counts t.counts h)) (g.met.S.Station.lawful c.make_live.new.station) c.in_ok-make_live.ensures.settled (λ told_n.
          let told_b = told_back c.make_live.ensures.steps.frame told_n in
          let told = told_back wrote.steps.frame told_b in
          stands_wide place h a.held b.held c.requires.can.region (settled g in_ok told) (c.requires.can.bare told) (wrote.steps.held told) (upgraded_low place.layout t.height) c.requires.can.layout.hmax c.requires.limit (bounds g in_ok told) (copied g in_ok told) n.held
          (flipped g in_ok n.held (c.in_ok-make_live.ensures.flipped told_b)) t.counts (counts g in_ok told));
      place_is = refl;
      place_kept = tt;
      cost = omega (arith, wrote.cost, c.make_live.ensures.cost, wide_count g at);
      reads = (read.0, read.1, walks_beside place 0 read.0 a.travel b.travel n.travel read.2 c.make_live.ensures.no_reads);
      calls = omega (arith, called g at _ _ c.copy_wide.ensures.calls, c.make_live.ensures.calls);
      whole = walks_beside place 0 (2 ^ t.height) a.travel b.travel n.travel c.in_ok-copy_wide.ensures.whole c.make_live.ensures.no_reads;
      damaged = tt;
      cause = tt;
      failed = λ is. absurd (never_failed {T = Unit {0}} tt is);
    }
