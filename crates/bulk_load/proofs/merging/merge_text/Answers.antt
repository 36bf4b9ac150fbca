use Rattle.bulk_load.proofs.CopyLaws.{damage_on, never_disk}
use Rattle.std.proofs.lemmas.Result.{err_from_is_err_and}
use Rattle.density_rule.proofs.Totals.{total_all}
use Rattle.bulk_load.specs.declared.run.Found.{Found}
use Rattle.line_source.specs.LineReaderView.{rest}
use Rattle.line_source.specs.Lines.{raw_lines}
use Rattle.bulk_load.specs.MergeUpdates.{CountsText}
use Rattle.bulk_load.specs.Loads.{most_records}
use Rattle.bulk_load.specs.MergeCauses.{IsTextFault}
use Rattle.std.proofs.Common.{refl, ◌^◌, List, ◌++◌, ap, subst, ◌∙◌, sum, take, ℕ, arith, sym}
use Rattle.std.specs.FinMap.{entries}
use Rattle.station.proofs.Composition.{told_on}
use Rattle.key_slot.specs.Record.{Record}
use Rattle.map_model.specs.Image.{map_of}
use Rattle.window_tally.specs.TallyView.{TallyView}
use Rattle.resize_region.proofs.OldRowLaws.{rose_on}
use Rattle.bulk_load.specs.declared.run.MergeRun.{MergeRun}
use Rattle.bulk_load.specs.Amid.{IsLiveDamage, Tries, counts_in}
use Rattle.bulk_load.specs.MergeText.{front_rows, merged_rows}
use Rattle.bulk_load.specs.Packing.{IsTaken, HasPacked}
use Rattle.bulk_load.proofs.AloneLaws.{copy_text, counts_text}
use Rattle.bulk_load.proofs.AmidLaws.{goes_on, taking_inside, tries_on}
use Rattle.bulk_load.proofs.UpdateReading.{rest_fault}
use Rattle.bulk_load.proofs.AheadLaws.{none_left_over, none_at_hand}
use Rattle.bulk_load.proofs.merging.merge_text.Goals as goal
use Rattle.bulk_load.proofs.merging.merge_text.Goals.{After-copy_below}

pub copy_below-requires-clause-amid : goal.copy_below-requires-clause-amid
copy_below-requires-clause-amid g c = c.in_ok-merge_lines.ensures.between.amid

pub copy_below-requires-clause-below : goal.copy_below-requires-clause-below
copy_below-requires-clause-below g c = record {}

pub returns-clause-taking : goal.returns-clause-taking
returns-clause-taking g c = c.in_ok-copy_below.ensures.amid.taking

pub returns-clause-end : goal.returns-clause-end
returns-clause-end g c =
    let copies = c.in_ok-copy_below.ensures in
    let h = c.copy_below.new.run.ahead in
    none_left_over h copies.stops ∙ copies.amid.live.ahead.end_is ∙ ap (λ (t : TallyView). 2 ^ t.height) (copies.tally ∙ c.merge_lines.ensures.tally)

pub returns-clause-all : goal.returns-clause-all
returns-clause-all g c told =
    let place = c.args.place.now in
    let m = map_of (g.S.Station.view c.args.station.now).held in
    let read = c.in_ok-merge_lines.ensures.read told in
    let merged = read.merged in
    let b = g.S.Station.view c.merge_lines.new.station in
    let copies = c.in_ok-copy_below.ensures in
    let told_b = told_on c.in_ok-merge_lines.ensures.goes.steps.frame told in
    let front = front_rows read.edits (entries m) in
    let new = c.copy_below.new.run in
    record {
      rows = merged_rows read.edits (entries m);
      out = record {
        edits = read.edits;
        text = read.text;
        ascending = merged.ascending;
        rows_are = refl;
        found_is = ap (λ (s : MergeRun). counts_in s.found) copies.same ∙ merged.found;
      };
      taken = subst (λ (l : List Record). IsTaken place.layout new.taken c.copy_below.new.frames (front ++ l)) merged.left (copies.taken told_b front merged.taken);
      packed = subst (λ (l : List Record). HasPacked place (front ++ l) new.taken.written (g.S.Station.view c.copy_below.new.station).held) merged.left (copies.packed told_b front merged.taken merged.packed);
    }

pub returns-clause-goes : goal.returns-clause-goes
returns-clause-goes g c =
    let old = c.args.run.now in
    let mid = c.merge_lines.new.run in
    let new = c.copy_below.new.run in
    goes_on c.args.place.now old.taken.written mid.taken.written new.taken.written old.ahead.reader.next mid.ahead.reader.next new.ahead.reader.next c.args.frames.now c.merge_lines.new.frames c.copy_below.new.frames (g.S.Station.view c.args.station.now) (g.S.Station.view c.merge_lines.new.station) (g.S.Station.view c.copy_below.new.station)
    c.in_ok-merge_lines.ensures.goes c.in_ok-copy_below.ensures.goes

tried : (g : _) (c : After-copy_below g) → Tries c.args.place.now (2 ^ c.args.run.now.ahead.tally.now.height) c.args.run.now.taken.written c.args.run.now.ahead.reader.next c.args.frames.now c.copy_below.new.frames (g.S.Station.view c.args.station.now) (g.S.Station.view c.copy_below.new.station)
tried g c =
    let old = c.args.run.now in
    let mid = c.merge_lines.new.run in
    let place = c.args.place.now in
    let b = g.S.Station.view c.merge_lines.new.station in
    let z = g.S.Station.view c.copy_below.new.station in
    tries_on place (2 ^ old.ahead.tally.now.height) old.taken.written mid.taken.written old.ahead.reader.next mid.ahead.reader.next c.args.frames.now c.merge_lines.new.frames c.copy_below.new.frames (g.S.Station.view c.args.station.now) b z
    (taking_inside place mid.taken c.merge_lines.new.frames c.in_ok-merge_lines.ensures.between.amid.taking) c.in_ok-merge_lines.ensures.goes
    (subst (λ (t : TallyView). Tries place (2 ^ t.height) mid.taken.written mid.ahead.reader.next c.merge_lines.new.frames c.copy_below.new.frames b z) c.merge_lines.ensures.tally c.copy_below.ensures.tries)

pub returns-clause-tries : goal.returns-clause-tries
returns-clause-tries g c = tried g (goal.at.returns-clause-tries g c).After-copy_below

pub returns-in_err-copy_below-clause-tries : goal.returns-in_err-copy_below-clause-tries
returns-in_err-copy_below-clause-tries g c = tried g (goal.at.returns-in_err-copy_below-clause-tries g c).After-copy_below

pub returns-in_err-copy_below-clause-faulty : goal.returns-in_err-copy_below-clause-faulty
returns-in_err-copy_below-clause-faulty g c =
    let p = err_from_is_err_and c.from_residual-in_err-copy_below.result c.from_residual-in_err-copy_below.ensures.1 in
    rw (p.1, p.2) (rest_fault c.args.place.now c.args.reader.now (g.I.Source.view c.args.source.now) (g.S.Station.view c.args.station.now) c.merge_lines.new.run c.merge_lines.new.frames (g.S.Station.view c.merge_lines.new.station) c.in_ok-merge_lines.ensures.read
    (told_on c.in_ok-merge_lines.ensures.goes.steps.frame) (g.I.Source.view c.merge_lines.new.source) c.in_err-copy_below.field-0.0 c.in_err-copy_below.ensures.faulty)

pub returns-in_err-copy_below-clause-text : goal.returns-in_err-copy_below-clause-text
returns-in_err-copy_below-clause-text g c =
    let p = err_from_is_err_and c.from_residual-in_err-copy_below.result c.from_residual-in_err-copy_below.ensures.1 in
    let place = c.args.place.now in
    let lines = c.in_ok-merge_lines.ensures in
    rw (p.1, p.2) (subst (λ (t : TallyView). IsTextFault place.layout.format (most_records place.layout) (sum t.counts) c.args.reader.now (g.I.Source.view c.args.source.now) (g.I.Source.view c.merge_lines.new.source) c.in_err-copy_below.field-0.0) c.merge_lines.ensures.tally
    (copy_text place c.merge_lines.new.run (g.S.Station.view c.merge_lines.new.station) c.args.reader.now (g.I.Source.view c.args.source.now) (g.I.Source.view c.merge_lines.new.source) c.in_err-copy_below.field-0.0 c.in_err-copy_below.ensures.faulty c.in_err-copy_below.ensures.over lines.between.balance lines.alone))

-- all records of the segments were passed
pub returns-clause-count : goal.returns-clause-count
returns-clause-count g c =
    let copies = c.in_ok-copy_below.ensures in
    let old = c.merge_lines.new.run in
    let new = c.copy_below.new.run in
    let tally = copies.tally ∙ c.merge_lines.ensures.tally in
    let end = none_left_over new.ahead copies.stops ∙ copies.amid.live.ahead.end_is in
    omega (
      arith,
      copies.count,
      c.in_ok-merge_lines.ensures.between.balance,
      none_at_hand new.ahead copies.stops,
      ap (λ (n : ℕ). sum (take n new.ahead.tally.now.counts)) end,
      total_all new.ahead.tally.now.counts (2 ^ new.ahead.tally.now.height) (omega (arith, copies.amid.live.ahead.counts)),
      ap (λ (t : TallyView). sum t.counts) tally,
      ap (λ (s : MergeRun). s.found.removed) copies.same,
      ap (λ (s : MergeRun). s.found.stored) copies.same,
    )

pub returns-clause-counted : goal.returns-clause-counted
returns-clause-counted g c told =
    let lines = raw_lines (rest c.args.reader.now (g.I.Source.view c.args.source.now)) in
    let read = c.in_ok-merge_lines.ensures in
    subst (λ (f : Found). CountsText c.args.place.now.layout.format lines (counts_in f)) (sym (ap (λ (s : MergeRun). s.found) c.in_ok-copy_below.ensures.same)) (counts_text c.args.place.now.layout.format lines c.merge_lines.new.run read.between.counted (read.alone told))

pub returns-in_err-copy_below-clause-damage : goal.returns-in_err-copy_below-clause-damage
returns-in_err-copy_below-clause-damage g c =
    let p = err_from_is_err_and c.from_residual-in_err-copy_below.result c.from_residual-in_err-copy_below.ensures.1 in
    let place = c.args.place.now in
    let first = c.args.run.now in
    let run = c.merge_lines.new.run in
    let a = g.S.Station.view c.args.station.now in
    let z = g.S.Station.view c.copy_below.new.station in
    rw (p.1, p.2) (subst (λ (t : TallyView). IsLiveDamage place first.ahead.reader.next a.travel z.travel t c.in_err-copy_below.field-0.0) c.merge_lines.ensures.tally
    (damage_on place first.taken.written run.taken.written first.ahead.reader.next run.ahead.reader.next c.args.frames.now c.merge_lines.new.frames a (g.S.Station.view c.merge_lines.new.station) z run.ahead.tally.now c.in_err-copy_below.field-0.0 c.in_ok-merge_lines.ensures.goes c.in_err-copy_below.ensures.damage))

pub returns-in_err-merge_lines-clause-reading : goal.returns-in_err-merge_lines-clause-reading
returns-in_err-merge_lines-clause-reading g c =
    let p = err_from_is_err_and c.from_residual.result c.from_residual.ensures.1 in
    rw (p.1, p.2) c.in_err-merge_lines.ensures.reading

pub returns-in_err-copy_below-clause-reading : goal.returns-in_err-copy_below-clause-reading
returns-in_err-copy_below-clause-reading g c =
    let p = err_from_is_err_and c.from_residual-in_err-copy_below.result c.from_residual-in_err-copy_below.ensures.1 in
    let reading = c.in_ok-merge_lines.ensures.reading in
    rw (p.1, p.2) (record {
      whole = tt;
      takes = reading.takes;
      failed = λ is. rose_on (g.S.Station.view c.args.station.now) (g.S.Station.view c.merge_lines.new.station) (g.S.Station.view c.copy_below.new.station).disk_faults c.in_ok-merge_lines.ensures.goes.steps.frame.disk_faults (c.in_err-copy_below.ensures.failed is);
      went = reading.went;
    })

pub returns-clause-reading : goal.returns-clause-reading
returns-clause-reading g c =
    let reading = c.in_ok-merge_lines.ensures.reading in
    record { whole = reading.whole; takes = reading.takes; failed = λ is. absurd (never_disk tt is); went = reading.went }
