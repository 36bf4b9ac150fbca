use Rattle.std.proofs.Common.{arith, ◌≡◌, inl, refl, ℕ, ◌+◌, ◌-◌, ◌*◌, ◌^◌, ◌<◌, ◌≤◌, List, length, sum, slice_range, sym, ap, subst, ◌∙◌}
use Rattle.std.specs.FinMap.{from_sorted}
use Rattle.std.proofs.lemmas.Result.{err_from_is_err_and}
use Rattle.station.specs.View.{MayHold}
use Rattle.station.proofs.Composition.{andthen, weaken, no_steps, told_of, told_on, told_back, only_held, each_held, each_on}
use Rattle.header_gate.specs.Flip.{Flips}
use Rattle.key_slot.specs.Record.{Record}
use Rattle.map_model.specs.Image.{Represents}
use Rattle.map_model.proofs.Spreading.{counts-spread_over}
use Rattle.segment_frames.specs.FrameStanding.{IsSettledAt, StandsFor}
use Rattle.map_model.specs.Regions.{Spares}
use Rattle.redo_journal.specs.Rest.{RestsAt}
use Rattle.station.specs.Steps.{Steps}
use Rattle.resize_region.specs.Shares.{StandsBare}
use Rattle.resize_region.proofs.ResizeLaws.{leaves_all, bare_of, rests_new}
use Rattle.resize_region.proofs.SettledLaws.{stands_kept}
use Rattle.bulk_load.specs.Loads.{most_records, TextFor, Loads}
use Rattle.bulk_load.proofs.LoadLaws.{tall_limit, bare_new, spare_loads, loads_same, flips_load, represents, array_new, settled_new, enough, at_of, no_records_fault, file_fault, file_no_damage}
use Rattle.bulk_load.specs.LoadFaults.{IsNoDisk, load_fault_of}
use Rattle.bulk_load.proofs.CauseLaws.{file_shown}
use Rattle.bulk_load.proofs.ReadLaws.{takes_none}
use Rattle.std.proofs.Math.Pow.{pow_pos}
use Rattle.density_rule.specs.Windows.{IsBalanced}
use Rattle.header_gate.specs.Header.{live_copy}
use Rattle.bulk_load.proofs.BalanceLaws.{balanced_spread}
use Rattle.bulk_load.proofs.loading.load_rows.Goals as goal
use Rattle.bulk_load.proofs.loading.load_rows.Goals.{After-count-records, In_ok-loaded}

-- the records, by the tally
records_are : (g : _) (c : After-count-records g) → c.count-records.result ≡ sum c.args.tally.now.counts
records_are g c =
    let t = c.args.tally.now in
    c.count-records.ensures ∙ ap (λ (h : ℕ). sum (slice_range t.counts (0 * 2 ^ h) ((0 + 1) * 2 ^ h))) c.height.ensures.height ∙ ap sum (leaves_all t c.height.ensures.tally)

abbrev Text : (g : _) (c : In_ok-loaded g) → List Record → Type 0
Text g c = TextFor c.args.place.now.layout c.args.reader.now (g.I.Source.view c.args.source.now)

-- what a flip then makes of an image of the entry
both : (g : _) (c : In_ok-loaded g) (d e i : List ℕ) → MayHold (g.S.Station.view c.args.station.now) d → Spares c.args.place.now.layout c.args.place.now.region d e
    → Flips (1 - c.args.place.now.region) c.in_ok-loaded.loaded.height c.args.place.now.layout.format (g.S.Station.view c.write_text.new.station).held e i → Loads c.args.place.now (Text g c) d i
both g c d e i left one two =
    let a = g.S.Station.view c.args.station.now in
    let b = g.S.Station.view c.write_text.new.station in
    let place = c.args.place.now in
    let told = told_of (g.met.S.Station.lawful c.args.station.now) d left in
    let same : d ≡ a.held = only_held a c.requires.nothing d left in
    let w = c.in_ok-loaded.ensures.written in
    subst (λ (x : List ℕ). Loads place (Text g c) x i) (sym same)
    (flips_load place c.in_ok-loaded.loaded.height w.0 a.held b.held c.requires.region (c.requires.stands a.held (inl (told, refl))).settled (c.requires.bare told) (c.write_text.ensures.steps.held told) c.requires.layout w.1.limit
    w.1.are_rows w.1.least (w.1.written (told_on c.write_text.ensures.steps.frame told)) (Text g c) w.1.text i e (subst (λ (x : List ℕ). Spares place.layout place.region x e) same one) two)

-- The store holds records.

pub returns-then-records-gt0-clause-steps : goal.returns-then-records-gt0-clause-steps
returns-then-records-gt0-clause-steps g c =
    let T = TextFor c.args.place.now.layout c.args.reader.now (g.I.Source.view c.args.source.now) in
    weaken (no_steps (g.S.Station.view c.args.station.now)) (λ d i left same. subst (λ (x : List ℕ). Loads c.args.place.now T d x) (sym same) (loads_same c.args.place.now T d (c.requires.stands d left).settled (bare_of c.args.place.now (g.met.S.Station.lawful c.args.station.now) c.requires.nothing c.requires.bare d left)))

pub returns-then-records-gt0-clause-fault : goal.returns-then-records-gt0-clause-fault
returns-then-records-gt0-clause-fault g c =
    let at = (goal.at.returns-then-records-gt0-clause-fault g c).After-count-records in
    (records_are g at, omega (arith, c.if-records-gt0.true, records_are g at), refl)

pub returns-then-records-gt0-clause-kept : goal.returns-then-records-gt0-clause-kept
returns-then-records-gt0-clause-kept g c no_disk = c.requires.stands

-- The text wasn't read, or not written.

pub write_text-requires-clause-can : goal.write_text-requires-clause-can
write_text-requires-clause-can g c = record {
  layout = c.requires.layout;
  region = c.requires.region;
  reach = c.requires.reach;
  journal = c.requires.journal;
  live = λ image left. at_of c.args.place.now c.args.tally.now image (c.requires.stands image left);
}

pub returns-in_err-loaded-clause-steps : goal.returns-in_err-loaded-clause-steps
returns-in_err-loaded-clause-steps g c =
    weaken c.write_text.ensures.steps (λ d i left step. spare_loads c.args.place.now (TextFor c.args.place.now.layout c.args.reader.now (g.I.Source.view c.args.source.now)) d i (c.requires.stands d left).settled (bare_of c.args.place.now (g.met.S.Station.lawful c.args.station.now) c.requires.nothing c.requires.bare d left) step)

pub returns-in_err-loaded-clause-kept : goal.returns-in_err-loaded-clause-kept
returns-in_err-loaded-clause-kept g c =
    let p = err_from_is_err_and c.from_residual.result c.from_residual.ensures.1 in
    let Stands = StandsFor c.args.place.now c.args.tally.now in
    rw (p.1, p.2) (λ no_disk. each_on (StandsBare c.args.place.now c.args.tally.now) Stands c.write_text.ensures.steps (λ d left. record { stands = c.requires.stands d left; bare = bare_of c.args.place.now (g.met.S.Station.lawful c.args.station.now) c.requires.nothing c.requires.bare d left }) (λ d i is step. (stands_kept c.args.place.now c.args.tally.now d i is step).stands))

pub returns-in_err-loaded-clause-fault : goal.returns-in_err-loaded-clause-fault
returns-in_err-loaded-clause-fault g c =
    let p = err_from_is_err_and c.from_residual.result c.from_residual.ensures.1 in
    let at = (goal.at.returns-in_err-loaded-clause-fault g c).After-count-records in
    rw (p.1, p.2) (no_records_fault c.args.place.now.layout.format (most_records c.args.place.now.layout) (sum c.args.tally.now.counts) c.args.reader.now (g.I.Source.view c.args.source.now) (g.I.Source.view c.write_text.new.source) c.in_err-loaded.field-0.0
    (omega (arith, c.if-records-gt0.false, records_are g at)) c.in_err-loaded.ensures.fault)

-- All was written, and a flip follows.

pub make_live-requires-clause-other : goal.make_live-requires-clause-other
make_live-requires-clause-other g c =
    let place = c.args.place.now in
    each_on (StandsFor place c.args.tally.now) (λ image. live_copy image ≡ 1 - (1 - place.region)) c.write_text.ensures.steps c.requires.stands (λ d i is step. omega (arith, step.live_is, c.requires.region))

pub returns-clause-steps : goal.returns-clause-steps
returns-clause-steps g c =
    let at = (goal.at.returns-clause-steps g c).In_ok-loaded in
    andthen c.write_text.ensures.steps c.make_live.ensures.steps (λ d i left step. spare_loads c.args.place.now (Text g at) d i (c.requires.stands d left).settled (bare_of c.args.place.now (g.met.S.Station.lawful c.args.station.now) c.requires.nothing c.requires.bare d left) step) (λ d e i left one mid two. both g at d e i left one two)

pub returns-in_err-make_live-clause-steps : goal.returns-in_err-make_live-clause-steps
returns-in_err-make_live-clause-steps g c =
    let at = (goal.at.returns-in_err-make_live-clause-steps g c).In_ok-loaded in
    andthen c.write_text.ensures.steps c.make_live.ensures.steps (λ d i left step. spare_loads c.args.place.now (Text g at) d i (c.requires.stands d left).settled (bare_of c.args.place.now (g.met.S.Station.lawful c.args.station.now) c.requires.nothing c.requires.bare d left) step) (λ d e i left one mid two. both g at d e i left one two)

pub returns-in_err-make_live-clause-fault : goal.returns-in_err-make_live-clause-fault
returns-in_err-make_live-clause-fault g c =
    let p = err_from_is_err_and c.from_residual-in_err-make_live.result c.from_residual-in_err-make_live.ensures.1 in
    let at = (goal.at.returns-in_err-make_live-clause-fault g c).After-count-records in
    rw (p.1, p.2) (no_records_fault c.args.place.now.layout.format (most_records c.args.place.now.layout) (sum c.args.tally.now.counts) c.args.reader.now (g.I.Source.view c.args.source.now) (g.I.Source.view c.write_text.new.source) (load_fault_of c.in_err-make_live.field-0.0)
    (omega (arith, c.if-records-gt0.false, records_are g at)) (file_fault c.args.place.now.layout.format (most_records c.args.place.now.layout) c.args.reader.now (g.I.Source.view c.args.source.now) (g.I.Source.view c.write_text.new.source) c.in_err-make_live.field-0.0))

pub returns-in_err-make_live-clause-kept : goal.returns-in_err-make_live-clause-kept
returns-in_err-make_live-clause-kept g c =
    let p = err_from_is_err_and c.from_residual-in_err-make_live.result c.from_residual-in_err-make_live.ensures.1 in
    rw (p.1, p.2) (λ no_disk. let disk = ap load_fault_of c.in_err-make_live.ensures.fault in absurd (subst IsNoDisk disk no_disk))

pub returns-in_err-make_live-clause-damaged : goal.returns-in_err-make_live-clause-damaged
returns-in_err-make_live-clause-damaged g c =
    let p = err_from_is_err_and c.from_residual-in_err-make_live.result c.from_residual-in_err-make_live.ensures.1 in
    rw (p.1, p.2) (λ told. file_no_damage c.in_err-make_live.field-0.0 c.in_err-make_live.ensures.fault)

pub returns-clause-loaded : goal.returns-clause-loaded
returns-clause-loaded g c =
    let at = (goal.at.returns-clause-loaded g c).In_ok-loaded in
    let place = c.args.place.now in
    let loaded = c.in_ok-loaded.loaded in
    let a = g.S.Station.view c.args.station.now in
    let b = g.S.Station.view c.write_text.new.station in
    let n = g.S.Station.view c.make_live.new.station in
    let w = c.in_ok-loaded.ensures.written in
    let lawful = g.met.S.Station.lawful c.make_live.new.station in
    let counts = counts-spread_over (2 ^ loaded.height) w.0 (pow_pos loaded.height) in (
      w.0,
      record {
        text = w.1.text;
        count = w.1.count;
        least = w.1.least;
        array = λ told_n.
            let told_b = told_back c.make_live.ensures.steps.frame told_n in
            let told = told_back c.write_text.ensures.steps.frame told_b in
            array_new place loaded.height w.0 a.held b.held c.requires.region (c.requires.stands a.held (inl (told, refl))).settled (c.requires.bare told) (c.write_text.ensures.steps.held told) c.requires.layout w.1.limit w.1.are_rows w.1.least (w.1.written told_b) n.held (c.in_ok-make_live.ensures.flipped told_b);
        balanced = subst (IsBalanced loaded.height) (sym counts) (balanced_spread (length w.0) loaded.height (omega (arith, w.1.limit, tall_limit place.layout c.requires.layout)) (enough (length w.0) loaded.height (omega (arith, w.1.limit, tall_limit place.layout c.requires.layout)) w.1.least) w.1.least.holds);
        represents = each_held n (λ image. Represents image (from_sorted w.0) loaded.height) lawful c.in_ok-make_live.ensures.settled (λ told_n.
            let told_b = told_back c.make_live.ensures.steps.frame told_n in
            let told = told_back c.write_text.ensures.steps.frame told_b in
            represents place loaded.height w.0 a.held b.held c.requires.region (c.requires.stands a.held (inl (told, refl))).settled (c.requires.bare told) (c.write_text.ensures.steps.held told) c.requires.layout w.1.limit w.1.are_rows w.1.least (w.1.written told_b) n.held (c.in_ok-make_live.ensures.flipped told_b));
        settled = each_held n (IsSettledAt (record place { region = 1 - place.region })) lawful c.in_ok-make_live.ensures.settled (λ told_n.
            let told_b = told_back c.make_live.ensures.steps.frame told_n in
            let told = told_back c.write_text.ensures.steps.frame told_b in
            settled_new place loaded.height w.0 a.held b.held c.requires.region (c.requires.stands a.held (inl (told, refl))).settled (c.requires.bare told) (c.write_text.ensures.steps.held told) c.requires.layout w.1.limit w.1.are_rows w.1.least (w.1.written told_b) n.held (c.in_ok-make_live.ensures.flipped told_b));
      },
    )

pub returns-clause-rests : goal.returns-clause-rests
returns-clause-rests g c =
    let at = (goal.at.returns-clause-rests g c).In_ok-loaded in
    let place = c.args.place.now in
    let loaded = c.in_ok-loaded.loaded in
    let a = g.S.Station.view c.args.station.now in
    let b = g.S.Station.view c.write_text.new.station in
    let n = g.S.Station.view c.make_live.new.station in
    let w = c.in_ok-loaded.ensures.written in
    let steps : Steps (Loads place (Text g at)) a n = andthen c.write_text.ensures.steps c.make_live.ensures.steps (λ d i left step. spare_loads place (Text g at) d i (c.requires.stands d left).settled (bare_of c.args.place.now (g.met.S.Station.lawful c.args.station.now) c.requires.nothing c.requires.bare d left) step) (λ d e i left one mid two. both g at d e i left one two) in
    subst (λ (turn : ℕ). RestsAt place.layout turn n) (sym c.write_text.ensures.turn)
    (rests_new place.layout place.layout c.args.frames.now.turn (g.met.S.Station.lawful c.make_live.new.station) c.in_ok-make_live.ensures.settled steps.frame refl (λ told. (steps.held told).gate_is) (λ told.
    let told_b = told_on c.write_text.ensures.steps.frame told in
    bare_new place loaded.height w.0 a.held b.held c.requires.region (c.requires.stands a.held (inl (told, refl))).settled (c.requires.bare told) (c.write_text.ensures.steps.held told) c.requires.layout w.1.limit w.1.are_rows w.1.least (w.1.written told_b) n.held (c.in_ok-make_live.ensures.flipped told_b)) c.requires.rests)

-- What shows the damage.

pub returns-in_err-loaded-clause-shown : goal.returns-in_err-loaded-clause-shown
returns-in_err-loaded-clause-shown g c =
    let p = err_from_is_err_and c.from_residual.result c.from_residual.ensures.1 in rw (p.1, p.2) c.in_err-loaded.ensures.shown

pub returns-in_err-make_live-clause-shown : goal.returns-in_err-make_live-clause-shown
returns-in_err-make_live-clause-shown g c =
    let p = err_from_is_err_and c.from_residual-in_err-make_live.result c.from_residual-in_err-make_live.ensures.1 in
    rw (p.1, p.2) (file_shown c.args.place.now.layout.format 0 c.write_text.new.frames c.in_err-make_live.field-0.0 (inl c.in_err-make_live.ensures.fault))

-- Where it holds records, no call is made.

no_records : (g : _) (c : After-count-records g) → c.count-records.result ≤ 0 → 0 < sum c.args.tally.now.counts → ⊥
no_records g c none some = omega (arith, records_are g c, none, some)

pub returns-in_err-loaded-clause-untouched : goal.returns-in_err-loaded-clause-untouched
returns-in_err-loaded-clause-untouched g c some = absurd (no_records g (goal.at.returns-in_err-loaded-clause-untouched g c).After-count-records (omega (arith, c.if-records-gt0.false)) some)

pub returns-clause-untouched : goal.returns-clause-untouched
returns-clause-untouched g c some = absurd (no_records g (goal.at.returns-clause-untouched g c).After-count-records (omega (arith, c.if-records-gt0.false)) some)

pub returns-in_err-make_live-clause-untouched : goal.returns-in_err-make_live-clause-untouched
returns-in_err-make_live-clause-untouched g c some = absurd (no_records g (goal.at.returns-in_err-make_live-clause-untouched g c).After-count-records (omega (arith, c.if-records-gt0.false)) some)

pub returns-then-records-gt0-clause-untouched : goal.returns-then-records-gt0-clause-untouched
returns-then-records-gt0-clause-untouched g c some = (refl, refl)

pub returns-then-records-gt0-clause-takes : goal.returns-then-records-gt0-clause-takes
returns-then-records-gt0-clause-takes g c told = takes_none c.args.reader.now.room (g.I.Source.view c.args.source.now)
