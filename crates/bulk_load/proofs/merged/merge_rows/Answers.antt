use Rattle.std.proofs.Common.{arith, ◌≡◌, inl, refl, ℕ, ◌-◌, ◌*◌, ◌^◌, ◌≤◌, List, length, sym, ap, subst, sum}
use Rattle.std.specs.FinMap.{from_sorted}
use Rattle.std.proofs.lemmas.Result.{err_from_is_err_and}
use Rattle.station.specs.View.{MayHold}
use Rattle.station.proofs.Composition.{andthen, weaken, told_of, told_on, told_back, only_held, each_held, each_on}
use Rattle.header_gate.specs.Flip.{Flips}
use Rattle.key_slot.specs.Record.{Record}
use Rattle.map_model.specs.Image.{Represents}
use Rattle.map_model.proofs.Spreading.{counts-spread_over}
use Rattle.segment_frames.specs.FrameStanding.{IsSettledAt, StandsFor}
use Rattle.map_model.specs.Regions.{Spares}
use Rattle.redo_journal.specs.Rest.{RestsAt}
use Rattle.station.specs.Steps.{Steps}
use Rattle.resize_region.specs.Shares.{StandsBare}
use Rattle.resize_region.proofs.ResizeLaws.{bare_of, rests_new}
use Rattle.resize_region.proofs.SettledLaws.{stands_kept}
use Rattle.bulk_load.specs.Loads.{most_records, Loads}
use Rattle.bulk_load.proofs.LoadLaws.{tall_limit, bare_new, spare_loads, flips_load, represents, array_new, settled_new, enough, at_of}
use Rattle.bulk_load.specs.LoadFaults.{IsNoDisk, load_fault_of}
use Rattle.bulk_load.specs.MergeCauses.{IsMergeDamage, IsMergeFault, IsTextFault, IsLastSeen}
use Rattle.station.specs.declared.travel.Travel.{Travel}
use Rattle.header_gate.specs.Places.{segment_size}
use Rattle.bulk_load.specs.Spreading.{used_by}
use Rattle.bulk_load.specs.MergeUpdates.{MergeTo, ReadsBeside, counts_by}
use Rattle.std.proofs.Math.Pow.{pow_pos}
use Rattle.density_rule.specs.Windows.{IsBalanced}
use Rattle.header_gate.specs.Header.{live_copy}
use Rattle.bulk_load.proofs.BalanceLaws.{balanced_spread}
use Rattle.bulk_load.proofs.merged.merge_rows.Goals as goal
use Rattle.bulk_load.proofs.merged.merge_rows.Goals.{In_ok-merged, After-make_live}

abbrev Text : (g : _) (c : In_ok-merged g) → List Record → Type 0
Text g c = MergeTo c.args.place.now.layout c.args.reader.now (g.I.Source.view c.args.source.now) (g.S.Station.view c.args.station.now)

-- what a flip then makes of an image of the entry
both : (g : _) (c : In_ok-merged g) (d e i : List ℕ) → MayHold (g.S.Station.view c.args.station.now) d → Spares c.args.place.now.layout c.args.place.now.region d e
    → Flips (1 - c.args.place.now.region) c.in_ok-merged.merged.height c.args.place.now.layout.format (g.S.Station.view c.write_merged.new.station).held e i → Loads c.args.place.now (Text g c) d i
both g c d e i left one two =
    let a = g.S.Station.view c.args.station.now in
    let b = g.S.Station.view c.write_merged.new.station in
    let place = c.args.place.now in
    let told = told_of (g.met.S.Station.lawful c.args.station.now) d left in
    let same : d ≡ a.held = only_held a c.requires.nothing d left in
    let w = c.in_ok-merged.ensures.written in
    subst (λ (x : List ℕ). Loads place (Text g c) x i) (sym same)
    (flips_load place c.in_ok-merged.merged.height w.0 a.held b.held c.requires.region (c.requires.stands a.held (inl (told, refl))).settled (c.requires.bare told) (c.write_merged.ensures.steps.held told) c.requires.layout w.1.limit
    w.1.are_rows w.1.least (w.1.written (told_on c.write_merged.ensures.steps.frame told)) (Text g c) (counts_by c.in_ok-merged.merged, w.1.text) i e (subst (λ (x : List ℕ). Spares place.layout place.region x e) same one) two)

-- The text wasn't read, or not written.

pub write_merged-requires-clause-can : goal.write_merged-requires-clause-can
write_merged-requires-clause-can g c = record {
  layout = c.requires.layout;
  region = c.requires.region;
  reach = c.requires.reach;
  journal = c.requires.journal;
  live = λ image left. at_of c.args.place.now c.args.tally.now image (c.requires.stands image left);
}

pub returns-in_err-merged-clause-steps : goal.returns-in_err-merged-clause-steps
returns-in_err-merged-clause-steps g c =
    weaken c.write_merged.ensures.steps (λ d i left step. spare_loads c.args.place.now (MergeTo c.args.place.now.layout c.args.reader.now (g.I.Source.view c.args.source.now) (g.S.Station.view c.args.station.now)) d i (c.requires.stands d left).settled (bare_of c.args.place.now (g.met.S.Station.lawful c.args.station.now) c.requires.nothing c.requires.bare d left) step)

pub returns-in_err-merged-clause-kept : goal.returns-in_err-merged-clause-kept
returns-in_err-merged-clause-kept g c =
    let p = err_from_is_err_and c.from_residual.result c.from_residual.ensures.1 in
    let Stands = StandsFor c.args.place.now c.args.tally.now in
    rw (p.1, p.2) (λ no_disk. each_on (StandsBare c.args.place.now c.args.tally.now) Stands c.write_merged.ensures.steps (λ d left. record { stands = c.requires.stands d left; bare = bare_of c.args.place.now (g.met.S.Station.lawful c.args.station.now) c.requires.nothing c.requires.bare d left }) (λ d i is step. (stands_kept c.args.place.now c.args.tally.now d i is step).stands))

pub returns-in_err-merged-clause-fault : goal.returns-in_err-merged-clause-fault
returns-in_err-merged-clause-fault g c =
    let p = err_from_is_err_and c.from_residual.result c.from_residual.ensures.1 in
    rw (p.1, p.2) c.in_err-merged.ensures.fault

pub returns-in_err-merged-clause-text : goal.returns-in_err-merged-clause-text
returns-in_err-merged-clause-text g c =
    let p = err_from_is_err_and c.from_residual.result c.from_residual.ensures.1 in
    rw (p.1, p.2) c.in_err-merged.ensures.text

pub returns-in_err-merged-clause-last : goal.returns-in_err-merged-clause-last
returns-in_err-merged-clause-last g c =
    let p = err_from_is_err_and c.from_residual.result c.from_residual.ensures.1 in
    rw (p.1, p.2) c.in_err-merged.ensures.last

pub write_merged-requires-clause-stands : goal.write_merged-requires-clause-stands
write_merged-requires-clause-stands g c image left = record { stands = c.requires.stands image left; bare = bare_of c.args.place.now (g.met.S.Station.lawful c.args.station.now) c.requires.nothing c.requires.bare image left }

-- All was written, and a flip follows.

pub make_live-requires-clause-other : goal.make_live-requires-clause-other
make_live-requires-clause-other g c =
    let place = c.args.place.now in
    each_on (StandsFor place c.args.tally.now) (λ image. live_copy image ≡ 1 - (1 - place.region)) c.write_merged.ensures.steps c.requires.stands (λ d i is step. omega (arith, step.live_is, c.requires.region))

pub returns-clause-steps : goal.returns-clause-steps
returns-clause-steps g c =
    let at = (goal.at.returns-clause-steps g c).In_ok-merged in
    andthen c.write_merged.ensures.steps c.make_live.ensures.steps (λ d i left step. spare_loads c.args.place.now (Text g at) d i (c.requires.stands d left).settled (bare_of c.args.place.now (g.met.S.Station.lawful c.args.station.now) c.requires.nothing c.requires.bare d left) step) (λ d e i left one mid two. both g at d e i left one two)

pub returns-in_err-make_live-clause-steps : goal.returns-in_err-make_live-clause-steps
returns-in_err-make_live-clause-steps g c =
    let at = (goal.at.returns-in_err-make_live-clause-steps g c).In_ok-merged in
    andthen c.write_merged.ensures.steps c.make_live.ensures.steps (λ d i left step. spare_loads c.args.place.now (Text g at) d i (c.requires.stands d left).settled (bare_of c.args.place.now (g.met.S.Station.lawful c.args.station.now) c.requires.nothing c.requires.bare d left) step) (λ d e i left one mid two. both g at d e i left one two)

pub returns-in_err-make_live-clause-fault : goal.returns-in_err-make_live-clause-fault
returns-in_err-make_live-clause-fault g c =
    let p = err_from_is_err_and c.from_residual-in_err-make_live.result c.from_residual-in_err-make_live.ensures.1 in
    let disk = ap load_fault_of c.in_err-make_live.ensures.fault in
    rw (p.1, p.2) (subst (IsMergeFault c.args.place.now.layout.format (most_records c.args.place.now.layout) (g.S.Station.view c.args.station.now) c.args.reader.now (g.I.Source.view c.args.source.now) (g.I.Source.view c.write_merged.new.source)) (sym disk) (record {}))

pub returns-in_err-make_live-clause-text : goal.returns-in_err-make_live-clause-text
returns-in_err-make_live-clause-text g c =
    let p = err_from_is_err_and c.from_residual-in_err-make_live.result c.from_residual-in_err-make_live.ensures.1 in
    let disk = ap load_fault_of c.in_err-make_live.ensures.fault in
    rw (p.1, p.2) (subst (IsTextFault c.args.place.now.layout.format (most_records c.args.place.now.layout) (sum c.args.tally.now.counts) c.args.reader.now (g.I.Source.view c.args.source.now) (g.I.Source.view c.write_merged.new.source)) (sym disk) (record {}))

pub returns-in_err-make_live-clause-last : goal.returns-in_err-make_live-clause-last
returns-in_err-make_live-clause-last g c =
    let p = err_from_is_err_and c.from_residual-in_err-make_live.result c.from_residual-in_err-make_live.ensures.1 in
    let disk = ap load_fault_of c.in_err-make_live.ensures.fault in
    rw (p.1, p.2) (subst (IsLastSeen c.args.place.now c.args.tally.now c.write_merged.new.frames (g.S.Station.view c.args.station.now).travel (g.S.Station.view c.make_live.new.station).travel) (sym disk) (record {}))

pub returns-in_err-make_live-clause-kept : goal.returns-in_err-make_live-clause-kept
returns-in_err-make_live-clause-kept g c =
    let p = err_from_is_err_and c.from_residual-in_err-make_live.result c.from_residual-in_err-make_live.ensures.1 in
    rw (p.1, p.2) (λ no_disk. let disk = ap load_fault_of c.in_err-make_live.ensures.fault in absurd (subst IsNoDisk disk no_disk))

pub returns-clause-merged : goal.returns-clause-merged
returns-clause-merged g c =
    let at = (goal.at.returns-clause-merged g c).In_ok-merged in
    let place = c.args.place.now in
    let merged = c.in_ok-merged.merged in
    let a = g.S.Station.view c.args.station.now in
    let b = g.S.Station.view c.write_merged.new.station in
    let n = g.S.Station.view c.make_live.new.station in
    let w = c.in_ok-merged.ensures.written in
    let lawful = g.met.S.Station.lawful c.make_live.new.station in
    let counts = counts-spread_over (2 ^ merged.height) w.0 (pow_pos merged.height) in (
      w.0,
      record {
        text = w.1.text;
        count = w.1.count;
        least = w.1.least;
        array = λ told_n.
            let told_b = told_back c.make_live.ensures.steps.frame told_n in
            let told = told_back c.write_merged.ensures.steps.frame told_b in
            array_new place merged.height w.0 a.held b.held c.requires.region (c.requires.stands a.held (inl (told, refl))).settled (c.requires.bare told) (c.write_merged.ensures.steps.held told) c.requires.layout w.1.limit w.1.are_rows w.1.least (w.1.written told_b) n.held (c.in_ok-make_live.ensures.flipped told_b);
        balanced = subst (IsBalanced merged.height) (sym counts) (balanced_spread (length w.0) merged.height (omega (arith, w.1.limit, tall_limit place.layout c.requires.layout)) (enough (length w.0) merged.height (omega (arith, w.1.limit, tall_limit place.layout c.requires.layout)) w.1.least) w.1.least.holds);
        represents = each_held n (λ image. Represents image (from_sorted w.0) merged.height) lawful c.in_ok-make_live.ensures.settled (λ told_n.
            let told_b = told_back c.make_live.ensures.steps.frame told_n in
            let told = told_back c.write_merged.ensures.steps.frame told_b in
            represents place merged.height w.0 a.held b.held c.requires.region (c.requires.stands a.held (inl (told, refl))).settled (c.requires.bare told) (c.write_merged.ensures.steps.held told) c.requires.layout w.1.limit w.1.are_rows w.1.least (w.1.written told_b) n.held (c.in_ok-make_live.ensures.flipped told_b));
        settled = each_held n (IsSettledAt (record place { region = 1 - place.region })) lawful c.in_ok-make_live.ensures.settled (λ told_n.
            let told_b = told_back c.make_live.ensures.steps.frame told_n in
            let told = told_back c.write_merged.ensures.steps.frame told_b in
            settled_new place merged.height w.0 a.held b.held c.requires.region (c.requires.stands a.held (inl (told, refl))).settled (c.requires.bare told) (c.write_merged.ensures.steps.held told) c.requires.layout w.1.limit w.1.are_rows w.1.least (w.1.written told_b) n.held (c.in_ok-make_live.ensures.flipped told_b));
      },
    )

pub returns-clause-rests : goal.returns-clause-rests
returns-clause-rests g c =
    let at = (goal.at.returns-clause-rests g c).In_ok-merged in
    let place = c.args.place.now in
    let merged = c.in_ok-merged.merged in
    let a = g.S.Station.view c.args.station.now in
    let b = g.S.Station.view c.write_merged.new.station in
    let n = g.S.Station.view c.make_live.new.station in
    let w = c.in_ok-merged.ensures.written in
    let steps : Steps (Loads place (Text g at)) a n = andthen c.write_merged.ensures.steps c.make_live.ensures.steps (λ d i left step. spare_loads place (Text g at) d i (c.requires.stands d left).settled (bare_of c.args.place.now (g.met.S.Station.lawful c.args.station.now) c.requires.nothing c.requires.bare d left) step) (λ d e i left one mid two. both g at d e i left one two) in
    subst (λ (turn : ℕ). RestsAt place.layout turn n) (sym c.write_merged.ensures.turn)
    (rests_new place.layout place.layout c.args.frames.now.turn (g.met.S.Station.lawful c.make_live.new.station) c.in_ok-make_live.ensures.settled steps.frame refl (λ told. (steps.held told).gate_is) (λ told.
    let told_b = told_on c.write_merged.ensures.steps.frame told in
    bare_new place merged.height w.0 a.held b.held c.requires.region (c.requires.stands a.held (inl (told, refl))).settled (c.requires.bare told) (c.write_merged.ensures.steps.held told) c.requires.layout w.1.limit w.1.are_rows w.1.least (w.1.written told_b) n.held (c.in_ok-make_live.ensures.flipped told_b)) c.requires.rests)

-- What shows the damage.

pub returns-in_err-merged-clause-shown : goal.returns-in_err-merged-clause-shown
returns-in_err-merged-clause-shown g c =
    let p = err_from_is_err_and c.from_residual.result c.from_residual.ensures.1 in rw (p.1, p.2) c.in_err-merged.ensures.shown

pub returns-in_err-make_live-clause-shown : goal.returns-in_err-make_live-clause-shown
returns-in_err-make_live-clause-shown g c =
    let p = err_from_is_err_and c.from_residual-in_err-make_live.result c.from_residual-in_err-make_live.ensures.1 in
    let disk = ap load_fault_of c.in_err-make_live.ensures.fault in
    rw (p.1, p.2) (subst (IsMergeDamage c.args.place.now.layout.format c.args.tally.now c.write_merged.new.frames) (sym disk) (record {}))

-- What is read.

still : (g : _) (c : After-make_live g) → (g.S.Station.view c.make_live.new.station).travel.read ≡ (g.S.Station.view c.write_merged.new.station).travel.read
still g c = ap (λ (t : Travel). t.read) c.make_live.ensures.no_reads

reads_all : (g : _) (c : After-make_live g) → (n : ℕ) × (n ≤ 2 ^ c.args.tally.now.height) × ReadsBeside c.args.place.now n (segment_size c.args.place.now.layout * used_by (most_records c.args.place.now.layout)) (g.S.Station.view c.args.station.now).travel (g.S.Station.view c.make_live.new.station).travel
reads_all g c =
    let reads = c.write_merged.ensures.reads in
    (reads.0, reads.1, record { between = reads.2.between; walks = reads.2.walks; bytes_are = omega (arith, reads.2.bytes_are, still g c) })

pub returns-clause-reads : goal.returns-clause-reads
returns-clause-reads g c = reads_all g (goal.at.returns-clause-reads g c).After-make_live

pub returns-in_err-make_live-clause-reads : goal.returns-in_err-make_live-clause-reads
returns-in_err-make_live-clause-reads g c = reads_all g (goal.at.returns-in_err-make_live-clause-reads g c).After-make_live

pub returns-clause-whole_reads : goal.returns-clause-whole_reads
returns-clause-whole_reads g c =
    let reads = c.in_ok-merged.ensures.whole_reads in
    record { between = reads.between; walks = reads.walks; bytes_are = omega (arith, reads.bytes_are, still g (goal.at.returns-clause-whole_reads g c).After-make_live) }
