use Rattle.bulk_load.specs.declared.fault.LoadFault.{LoadFault}
use Rattle.bulk_load.proofs.CopyLaws.{damage_on, disk_is, never_disk}
use Rattle.bulk_load.specs.MergeCauses.{IsTextFault}
use Rattle.std.proofs.Common.{arith, ◌≡◌, inr, refl, ℕ, ◌+◌, ◌^◌, ◌<◌, ◌≤◌, List, [], ◌∷◌, ◌++◌, length, Option, Ok, Err, sym, ap, subst, ◌∙◌, sum}
use Rattle.std.specs.Prelude.{IsSome, IfSome}
use Rattle.std.specs.FinMap.{entries}
use Rattle.std.proofs.lemmas.List.{length-append}
use Rattle.std.proofs.lemmas.Result.{err_from_is_err_and}
use Rattle.station.proofs.Composition.{told_on}
use Rattle.line_source.specs.Progress.{GivesAll}
use Rattle.line_source.specs.SourceView.{SourceTold}
use Rattle.line_source.specs.declared.reader.LineStep.TheVariants.{End}
use Rattle.line_source.proofs.Progress.{given-none}
use Rattle.map_model.specs.Image.{map_of}
use Rattle.window_tally.specs.TallyView.{TallyView}
use Rattle.command_text.specs.declared.merge.MergeLine.{MergeLine}
use Rattle.resize_region.proofs.OldRowLaws.{rose_on}
use Rattle.bulk_load.specs.Amid.{FitsMergeLine, IsLiveDamage, Tries}
use Rattle.bulk_load.specs.Loads.{most_records}
use Rattle.bulk_load.specs.MergeLines.{merging, reads}
use Rattle.bulk_load.specs.MergeUpdates.{GivesUpdate, IsNextUpdate}
use Rattle.line_source.specs.Lines.{raw_lines}
use Rattle.line_source.specs.LineReaderView.{rest}
use Rattle.bulk_load.proofs.AloneLaws.{end_text, line_text, reading_text, text_more}
use Rattle.bulk_load.proofs.AmidLaws.{goes_none, goes_on, goes_tries, taking_inside, tries_on}
use Rattle.bulk_load.proofs.ReadLaws.{takes_given, takes_last}
use Rattle.bulk_load.proofs.UpdateReading.{line_fault, no_damage, read_more, reading_fault}
use Rattle.bulk_load.proofs.merging.merge_lines.Goals as goal
use Rattle.bulk_load.proofs.merging.merge_lines.Goals.{After-take_line, In_default}

-- the line that is taken
turn : (g : _) (c : After-take_line g) → GivesUpdate c.args.place.now.layout.format c.args.reader.now (g.I.Source.view c.args.source.now) c.loop-line.invariant.given c.in-Some.line c.next_line.new.reader (g.I.Source.view c.next_line.new.source)
turn g c =
    subst (λ (o : Option MergeLine). IsNextUpdate c.args.place.now.layout.format (Ok o) c.args.reader.now (g.I.Source.view c.args.source.now) c.loop-line.invariant.given c.next_line.new.reader (g.I.Source.view c.next_line.new.source)) c.in-Some.is
    (c.in_ok-line.ensures.next c.args.reader.now (g.I.Source.view c.args.source.now) c.loop-line.invariant.given c.loop-line.invariant.reading)

-- each line given lowers what may come
falls : (g : _) (c : After-take_line g) → c.next_line.new.reader.room + length c.next_line.new.reader.held < c.loop-line.reader.room + length c.loop-line.reader.held
falls g c = c.in_ok-line.ensures.falls (subst IsSome (sym c.in-Some.is) refl)

pub loop-line-init : goal.loop-line-init
loop-line-init g c =
    let run = c.args.run.now in
    let a = g.S.Station.view c.args.station.now in
    record {
      given = [];
      reading = given-none c.args.reader.now (g.I.Source.view c.args.source.now) c.requires.starts.unread.fresh;
      read = λ told. record { edits = []; text = λ _. ap (reads []) (sym c.requires.starts.going); merged = c.requires.starts.start told };
      alone = λ told. record { edits = []; text = ap (reads []) (sym c.requires.starts.going); has = c.requires.starts.alone };
      between = c.requires.starts.between;
      small = omega (arith, c.room-most.ensures, c.room-most.type_inv);
      counted = refl;
      bound = omega (arith, ap (λ (l : List ℕ). length l) c.requires.starts.unread.begun);
      tally = refl;
      goes = goes_none c.args.place.now run.taken.written run.ahead.reader.next c.args.frames.now a c.requires.starts.between.amid.can.live;
    }

pub take_line-requires-clause-fits : goal.take_line-requires-clause-fits
take_line-requires-clause-fits g c = subst (λ (o : Option MergeLine). IfSome o (FitsMergeLine c.args.place.now.layout.format)) c.in-Some.is c.in_ok-line.ensures.fits

pub loop-line-preserved : goal.loop-line-preserved
loop-line-preserved g c =
    let at = (goal.at.loop-line-preserved g c).After-take_line in
    let here = c.loop-line.invariant in
    let gives = turn g at in
    let place = c.args.place.now in
    let run = c.loop-line.run in
    let new = c.take_line.new.run in
    let takes = c.in_ok-take_line.ensures in
    let a = g.S.Station.view c.args.station.now in
    let b = g.S.Station.view c.loop-line.station in
    let z = g.S.Station.view c.take_line.new.station in
    record {
      given = here.given ++ gives.raw ∷ [];
      reading = gives.more;
      read = λ told_a.
          let read = here.read told_a in
          let line = takes.takes (told_on here.goes.steps.frame told_a) (map_of a.held) read.edits read.merged in
          record {
            edits = line.now;
            text = λ told. read_more place c.args.reader.now (g.I.Source.view c.args.source.now) here.given a run c.loop-line.frames b here.read (c.loop-line.lines + 1) c.in-Some.line c.next_line.new.reader (g.I.Source.view c.next_line.new.source) gives (omega (arith, here.counted)) told told_a ∙ line.after;
            merged = line.merged;
          };
      alone = λ told.
          let read = here.alone told in
          let line = takes.alone read.edits read.has in
          record {
            edits = line.now;
            text = text_more place.layout.format c.args.reader.now (g.I.Source.view c.args.source.now) here.given run here.alone (most_records place.layout) (sum run.ahead.tally.now.counts) (c.loop-line.lines + 1) c.in-Some.line c.next_line.new.reader (g.I.Source.view c.next_line.new.source) gives (omega (arith, here.counted)) told ∙ line.after;
            has = line.has;
          };
      between = takes.between;
      small = here.small;
      counted = omega (arith, here.counted, length-append here.given (gives.raw ∷ []));
      bound = omega (arith, here.bound, falls g at);
      tally = takes.tally ∙ here.tally;
      goes = goes_on place c.args.run.now.taken.written run.taken.written new.taken.written c.args.run.now.ahead.reader.next run.ahead.reader.next new.ahead.reader.next c.args.frames.now c.loop-line.frames c.take_line.new.frames a b z here.goes takes.goes;
    }

-- A read failed, or all bytes were taken.

pub returns-in_err-line-clause-faulty : goal.returns-in_err-line-clause-faulty
returns-in_err-line-clause-faulty g c =
    let p = err_from_is_err_and c.from_residual.result c.from_residual.ensures.1 in
    let here = c.loop-line.invariant in
    rw (p.1, p.2) (reading_fault c.args.place.now c.args.reader.now (g.I.Source.view c.args.source.now) here.given (g.S.Station.view c.args.station.now) c.loop-line.run c.loop-line.frames (g.S.Station.view c.loop-line.station) here.read c.next_line.new.reader (g.I.Source.view c.next_line.new.source) c.in_err-line.field-0.0
    (c.in_err-line.ensures.next c.args.reader.now (g.I.Source.view c.args.source.now) here.given here.reading))

pub returns-in_err-line-clause-text : goal.returns-in_err-line-clause-text
returns-in_err-line-clause-text g c =
    let p = err_from_is_err_and c.from_residual.result c.from_residual.ensures.1 in
    let here = c.loop-line.invariant in
    rw (p.1, p.2) (reading_text c.args.place.now.layout.format c.args.reader.now (g.I.Source.view c.args.source.now) here.given c.loop-line.run here.alone (most_records c.args.place.now.layout) (sum c.args.run.now.ahead.tally.now.counts) c.next_line.new.reader (g.I.Source.view c.next_line.new.source) c.in_err-line.field-0.0
    (c.in_err-line.ensures.next c.args.reader.now (g.I.Source.view c.args.source.now) here.given here.reading))

pub returns-in_err-line-clause-damage : goal.returns-in_err-line-clause-damage
returns-in_err-line-clause-damage g c =
    let p = err_from_is_err_and c.from_residual.result c.from_residual.ensures.1 in
    let here = c.loop-line.invariant in
    rw (p.1, p.2) (no_damage c.args.place.now c.args.run.now.ahead.reader.next (g.S.Station.view c.args.station.now).travel (g.S.Station.view c.loop-line.station).travel c.args.run.now.ahead.tally.now c.args.place.now.layout.format c.args.reader.now (g.I.Source.view c.args.source.now) here.given c.next_line.new.reader (g.I.Source.view c.next_line.new.source) c.in_err-line.field-0.0
    (c.in_err-line.ensures.next c.args.reader.now (g.I.Source.view c.args.source.now) here.given here.reading))

pub returns-in_err-line-clause-tries : goal.returns-in_err-line-clause-tries
returns-in_err-line-clause-tries g c =
    let here = c.loop-line.invariant in
    let amid = here.between.amid in
    let run = c.loop-line.run in
    let first = c.args.run.now in
    goes_tries c.args.place.now (2 ^ first.ahead.tally.now.height) first.taken.written run.taken.written first.ahead.reader.next run.ahead.reader.next c.args.frames.now c.loop-line.frames (g.S.Station.view c.args.station.now) (g.S.Station.view c.loop-line.station) (taking_inside c.args.place.now run.taken c.loop-line.frames amid.taking)
    (omega (arith, amid.taking.place.behind, amid.taking.few)) (omega (arith, amid.live.ahead.within, amid.live.ahead.end_is, ap (λ (t : TallyView). 2 ^ t.height) here.tally)) here.goes

-- A line is at fault.

pub returns-in_err-take_line-clause-faulty : goal.returns-in_err-take_line-clause-faulty
returns-in_err-take_line-clause-faulty g c =
    let p = err_from_is_err_and c.from_residual-in_err-take_line.result c.from_residual-in_err-take_line.ensures.1 in
    let at = (goal.at.returns-in_err-take_line-clause-faulty g c).After-take_line in
    let here = c.loop-line.invariant in
    let a = g.S.Station.view c.args.station.now in
    rw (p.1, p.2) (line_fault c.args.place.now c.args.reader.now (g.I.Source.view c.args.source.now) here.given a c.loop-line.run c.loop-line.frames (g.S.Station.view c.loop-line.station) here.read (c.loop-line.lines + 1) c.in-Some.line c.next_line.new.reader (g.I.Source.view c.next_line.new.source)
    (turn g at) (omega (arith, here.counted)) (g.I.Source.view c.next_line.new.source) c.in_err-take_line.field-0.0
    (λ told. c.in_err-take_line.ensures.faulty (told_on here.goes.steps.frame told) (map_of a.held) (here.read told).edits (here.read told).merged) c.in_err-take_line.ensures.stops)

pub returns-in_err-take_line-clause-text : goal.returns-in_err-take_line-clause-text
returns-in_err-take_line-clause-text g c =
    let p = err_from_is_err_and c.from_residual-in_err-take_line.result c.from_residual-in_err-take_line.ensures.1 in
    let at = (goal.at.returns-in_err-take_line-clause-text g c).After-take_line in
    let here = c.loop-line.invariant in
    let s0 = g.I.Source.view c.args.source.now in
    let s = g.I.Source.view c.next_line.new.source in
    let most = most_records c.args.place.now.layout in
    rw (p.1, p.2) (subst (λ (t : TallyView). IsTextFault c.args.place.now.layout.format most (sum t.counts) c.args.reader.now s0 s c.in_err-take_line.field-0.0) here.tally
    (line_text c.args.place.now.layout.format c.args.reader.now s0 here.given c.loop-line.run here.alone most (sum c.loop-line.run.ahead.tally.now.counts) (c.loop-line.lines + 1) c.in-Some.line c.next_line.new.reader s
    (turn g at) (omega (arith, here.counted)) s c.in_err-take_line.field-0.0 c.in_err-take_line.ensures.due c.in_err-take_line.ensures.stops))

pub returns-in_err-take_line-clause-damage : goal.returns-in_err-take_line-clause-damage
returns-in_err-take_line-clause-damage g c =
    let p = err_from_is_err_and c.from_residual-in_err-take_line.result c.from_residual-in_err-take_line.ensures.1 in
    let place = c.args.place.now in
    let first = c.args.run.now in
    let run = c.loop-line.run in
    let a = g.S.Station.view c.args.station.now in
    let z = g.S.Station.view c.take_line.new.station in
    rw (p.1, p.2) (subst (λ (t : TallyView). IsLiveDamage place first.ahead.reader.next a.travel z.travel t c.in_err-take_line.field-0.0) c.loop-line.invariant.tally
    (damage_on place first.taken.written run.taken.written first.ahead.reader.next run.ahead.reader.next c.args.frames.now c.loop-line.frames a (g.S.Station.view c.loop-line.station) z run.ahead.tally.now c.in_err-take_line.field-0.0 c.loop-line.invariant.goes c.in_err-take_line.ensures.damage))

pub returns-in_err-take_line-clause-tries : goal.returns-in_err-take_line-clause-tries
returns-in_err-take_line-clause-tries g c =
    let here = c.loop-line.invariant in
    let place = c.args.place.now in
    let run = c.loop-line.run in
    let first = c.args.run.now in
    let tall = ap (λ (t : TallyView). 2 ^ t.height) here.tally in
    let a = g.S.Station.view c.args.station.now in
    let b = g.S.Station.view c.loop-line.station in
    let z = g.S.Station.view c.take_line.new.station in
    tries_on place (2 ^ first.ahead.tally.now.height) first.taken.written run.taken.written first.ahead.reader.next run.ahead.reader.next c.args.frames.now c.loop-line.frames c.take_line.new.frames a b z (taking_inside place run.taken c.loop-line.frames here.between.amid.taking) here.goes
    (subst (λ (n : ℕ). Tries place n run.taken.written run.ahead.reader.next c.loop-line.frames c.take_line.new.frames b z) tall c.take_line.ensures.tries)

-- The end of the text.

all : (g : _) (c : In_default g) → SourceTold (g.I.Source.view c.args.source.now) → GivesAll End c.args.reader.now (g.I.Source.view c.args.source.now) c.loop-line.invariant.given (g.I.Source.view c.next_line.new.source)
all g c =
    subst (λ (o : Option MergeLine). IsNextUpdate c.args.place.now.layout.format (Ok o) c.args.reader.now (g.I.Source.view c.args.source.now) c.loop-line.invariant.given c.next_line.new.reader (g.I.Source.view c.next_line.new.source)) c.in_default.is
    (c.in_ok-line.ensures.next c.args.reader.now (g.I.Source.view c.args.source.now) c.loop-line.invariant.given c.loop-line.invariant.reading)

pub returns-then-run-clause-read : goal.returns-then-run-clause-read
returns-then-run-clause-read g c told_a =
    let read = c.loop-line.invariant.read told_a in
    record {
      edits = read.edits;
      text = λ told. ap (merging c.args.place.now.layout.format (most_records c.args.place.now.layout) (entries (map_of (g.S.Station.view c.args.station.now).held))) (all g (goal.at.returns-then-run-clause-read g c).In_default told).0 ∙ read.text told ∙ ap (reads read.edits) c.if-run.true;
      merged = read.merged;
    }

pub returns-then-run-clause-alone : goal.returns-then-run-clause-alone
returns-then-run-clause-alone g c told =
    let read = c.loop-line.invariant.alone told in
    record {
      edits = read.edits;
      text = ap (merging c.args.place.now.layout.format (2 ^ 32) []) (all g (goal.at.returns-then-run-clause-alone g c).In_default told).0 ∙ read.text ∙ ap (reads read.edits) c.if-run.true;
      has = read.has;
    }

pub returns-then-run-clause-tries : goal.returns-then-run-clause-tries
returns-then-run-clause-tries g c =
    let here = c.loop-line.invariant in
    let amid = here.between.amid in
    let run = c.loop-line.run in
    let first = c.args.run.now in
    goes_tries c.args.place.now (2 ^ first.ahead.tally.now.height) first.taken.written run.taken.written first.ahead.reader.next run.ahead.reader.next c.args.frames.now c.loop-line.frames (g.S.Station.view c.args.station.now) (g.S.Station.view c.loop-line.station) (taking_inside c.args.place.now run.taken c.loop-line.frames amid.taking)
    (omega (arith, amid.taking.place.behind, amid.taking.few)) (omega (arith, amid.live.ahead.within, amid.live.ahead.end_is, ap (λ (t : TallyView). 2 ^ t.height) here.tally)) here.goes

pub returns-else-run-clause-faulty : goal.returns-else-run-clause-faulty
returns-else-run-clause-faulty g c told told_a =
    let here = c.loop-line.invariant in
    let read = here.read told_a in
    let end = all g (goal.at.returns-else-run-clause-faulty g c).In_default told in
    let less : c.loop-line.lines + 1 ≤ c.args.reader.now.room = omega (arith, here.bound, here.reading.taken told, (end.1 c.requires.starts.unread.going).1) in
    let number : c.saturating_add.result ≡ c.loop-line.lines + 1 = omega (arith, c.saturating_add.ensures, less, here.small) in
    inr (
      read.edits,
      ap (merging c.args.place.now.layout.format (most_records c.args.place.now.layout) (entries (map_of (g.S.Station.view c.args.station.now).held))) end.0 ∙ read.text told ∙ ap (reads read.edits) c.if-run.false,
      number ∙ omega (arith, here.counted, ap (λ (l : List (List ℕ)). length l) end.0),
    )

pub returns-else-run-clause-text : goal.returns-else-run-clause-text
returns-else-run-clause-text g c told =
    let here = c.loop-line.invariant in
    let read = here.alone told in
    let end = all g (goal.at.returns-else-run-clause-text g c).In_default told in
    let less : c.loop-line.lines + 1 ≤ c.args.reader.now.room = omega (arith, here.bound, here.reading.taken told, (end.1 c.requires.starts.unread.going).1) in
    let number : c.saturating_add.result ≡ c.loop-line.lines + 1 = omega (arith, c.saturating_add.ensures, less, here.small) in
    end_text c.args.place.now.layout.format (raw_lines (rest c.args.reader.now (g.I.Source.view c.args.source.now))) read.edits c.saturating_add.result
    (ap (merging c.args.place.now.layout.format (2 ^ 32) []) end.0 ∙ read.text ∙ ap (reads read.edits) c.if-run.false) (number ∙ omega (arith, here.counted, ap (λ (l : List (List ℕ)). length l) end.0))

pub returns-else-run-clause-tries : goal.returns-else-run-clause-tries
returns-else-run-clause-tries g c =
    let here = c.loop-line.invariant in
    let amid = here.between.amid in
    let run = c.loop-line.run in
    let first = c.args.run.now in
    goes_tries c.args.place.now (2 ^ first.ahead.tally.now.height) first.taken.written run.taken.written first.ahead.reader.next run.ahead.reader.next c.args.frames.now c.loop-line.frames (g.S.Station.view c.args.station.now) (g.S.Station.view c.loop-line.station) (taking_inside c.args.place.now run.taken c.loop-line.frames amid.taking)
    (omega (arith, amid.taking.place.behind, amid.taking.few)) (omega (arith, amid.live.ahead.within, amid.live.ahead.end_is, ap (λ (t : TallyView). 2 ^ t.height) here.tally)) here.goes

pub returns-in_err-line-clause-reading : goal.returns-in_err-line-clause-reading
returns-in_err-line-clause-reading g c =
    let p = err_from_is_err_and c.from_residual.result c.from_residual.ensures.1 in
    let here = c.loop-line.invariant in
    rw (p.1, p.2) (record {
      whole = tt;
      takes = takes_last c.args.reader.now (g.I.Source.view c.args.source.now) here.given c.loop-line.reader (g.I.Source.view c.loop-line.source) c.next_line.new.reader (g.I.Source.view c.next_line.new.source) here.reading c.next_line.ensures.takes;
      failed = λ is. absurd (subst (λ (f : LoadFault). IsNextUpdate c.args.place.now.layout.format (Err f) c.args.reader.now (g.I.Source.view c.args.source.now) here.given c.next_line.new.reader (g.I.Source.view c.next_line.new.source)) (disk_is {T = Unit {0}} c.in_err-line.field-0.0 is) (c.in_err-line.ensures.next c.args.reader.now (g.I.Source.view c.args.source.now) here.given here.reading));
      went = record { tells = c.next_line.ensures.went.tells ∙ here.reading.went.tells; faults = omega (arith, here.reading.went.faults, c.next_line.ensures.went.faults) };
    })

pub returns-in_err-take_line-clause-reading : goal.returns-in_err-take_line-clause-reading
returns-in_err-take_line-clause-reading g c =
    let p = err_from_is_err_and c.from_residual-in_err-take_line.result c.from_residual-in_err-take_line.ensures.1 in
    let here = c.loop-line.invariant in
    let next = turn g (goal.at.returns-in_err-take_line-clause-reading g c).After-take_line in
    rw (p.1, p.2) (record {
      whole = tt;
      takes = takes_given c.args.reader.now (g.I.Source.view c.args.source.now) (here.given ++ next.raw ∷ []) c.next_line.new.reader (g.I.Source.view c.next_line.new.source) next.more;
      failed = λ is. rose_on (g.S.Station.view c.args.station.now) (g.S.Station.view c.loop-line.station) (g.S.Station.view c.take_line.new.station).disk_faults here.goes.steps.frame.disk_faults (c.in_err-take_line.ensures.failed is);
      went = next.more.went;
    })

pub returns-then-run-clause-reading : goal.returns-then-run-clause-reading
returns-then-run-clause-reading g c =
    let here = c.loop-line.invariant in
    record {
      whole = λ told. (all g (goal.at.returns-then-run-clause-reading g c).In_default told).1 c.requires.starts.unread.going;
      takes = takes_last c.args.reader.now (g.I.Source.view c.args.source.now) here.given c.loop-line.reader (g.I.Source.view c.loop-line.source) c.next_line.new.reader (g.I.Source.view c.next_line.new.source) here.reading c.next_line.ensures.takes;
      failed = λ is. absurd (never_disk tt is);
      went = record { tells = c.next_line.ensures.went.tells ∙ here.reading.went.tells; faults = omega (arith, here.reading.went.faults, c.next_line.ensures.went.faults) };
    }

pub returns-else-run-clause-reading : goal.returns-else-run-clause-reading
returns-else-run-clause-reading g c =
    let here = c.loop-line.invariant in
    record {
      whole = tt;
      takes = takes_last c.args.reader.now (g.I.Source.view c.args.source.now) here.given c.loop-line.reader (g.I.Source.view c.loop-line.source) c.next_line.new.reader (g.I.Source.view c.next_line.new.source) here.reading c.next_line.ensures.takes;
      failed = λ is. absurd cc;
      went = record { tells = c.next_line.ensures.went.tells ∙ here.reading.went.tells; faults = omega (arith, here.reading.went.faults, c.next_line.ensures.went.faults) };
    }
