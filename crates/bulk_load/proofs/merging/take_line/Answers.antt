use Rattle.std.proofs.Common.{true, refl, sym, ap, subst, ◌∙◌}
use Rattle.std.specs.Prelude.{Ok}
use Rattle.map_model.specs.Store.{bind, unbind}
use Rattle.command_text.specs.declared.merge.MergeLine.{MergeLine}
use Rattle.command_text.specs.declared.merge.MergeLine.TheVariants.{Bind, Remove}
use Rattle.bulk_load.specs.Amid.{TakesUpdate}
use Rattle.bulk_load.specs.MergeLines.{after_merge_line}
use Rattle.bulk_load.proofs.AloneLaws.{edit_wrong}
use Rattle.bulk_load.proofs.TakenLines.{bad_refused, end_refused, line_ended, line_refused, line_skipped}
use Rattle.bulk_load.proofs.merging.take_line.Goals as goal

pub returns-in-Nothing : goal.returns-in-Nothing
returns-in-Nothing g c =
    let a = g.S.Station.view c.args.station.now in
    subst (λ (line : MergeLine). TakesUpdate {X = Unit {0}} c.args.place.now c.args.number line (Ok tt) c.args.run.now c.args.run.now c.args.frames.now c.args.frames.now a a) (sym c.in-Nothing.is) (line_skipped c.args.place.now c.args.run.now c.args.frames.now a c.requires.between c.args.number)

pub returns-in-Bad : goal.returns-in-Bad
returns-in-Bad g c =
    let a = g.S.Station.view c.args.station.now in
    let place = c.args.place.now in
    line_refused place c.args.run.now c.args.frames.now a c.requires.between c.args.number c.args.line.now (λ most rows edits has.
    ap (after_merge_line most rows c.args.number edits c.args.run.now.taken.ended) c.in-Bad.is ∙ bad_refused place c.args.run.now c.args.frames.now a c.requires.between c.args.number most rows edits)

pub returns-then-not-goes_on : goal.returns-then-not-goes_on
returns-then-not-goes_on g c =
    let a = g.S.Station.view c.args.station.now in
    let place = c.args.place.now in
    let old = c.args.run.now in
    let row = c.in-Bind.row in
    line_refused place old c.args.frames.now a c.requires.between c.args.number c.args.line.now (λ most rows edits has.
    ap (after_merge_line most rows c.args.number edits old.taken.ended) c.in-Bind.is
    ∙ edit_wrong edits old has (bind row.key row.value) most rows c.args.number (Bind row) refl refl (sym c.goes_on.ensures ∙ c.if-not-goes_on.true))

pub returns-then-not-goes_on-2 : goal.returns-then-not-goes_on-2
returns-then-not-goes_on-2 g c =
    let a = g.S.Station.view c.args.station.now in
    let place = c.args.place.now in
    let old = c.args.run.now in
    line_refused place old c.args.frames.now a c.requires.between c.args.number c.args.line.now (λ most rows edits has.
    ap (after_merge_line most rows c.args.number edits old.taken.ended) c.in-Remove.is
    ∙ edit_wrong edits old has (unbind c.in-Remove.key) most rows c.args.number (Remove c.in-Remove.key) refl refl (sym c.goes_on-in-Remove.ensures ∙ c.if-not-goes_on-2.true))

pub returns-else-not-goes_on : goal.returns-else-not-goes_on
returns-else-not-goes_on g c =
    subst (λ (line : MergeLine). TakesUpdate c.args.place.now c.args.number line c.take_bound.result c.args.run.now c.take_bound.new.run c.args.frames.now c.take_bound.new.frames (g.S.Station.view c.args.station.now) (g.S.Station.view c.take_bound.new.station)) (sym c.in-Bind.is)
    (c.take_bound.ensures c.args.number)

pub returns-else-not-goes_on-2 : goal.returns-else-not-goes_on-2
returns-else-not-goes_on-2 g c =
    subst (λ (line : MergeLine). TakesUpdate c.args.place.now c.args.number line c.take_removed.result c.args.run.now c.take_removed.new.run c.args.frames.now c.take_removed.new.frames (g.S.Station.view c.args.station.now) (g.S.Station.view c.take_removed.new.station)) (sym c.in-Remove.is)
    (c.take_removed.ensures c.args.number)

pub returns-then-not-ends : goal.returns-then-not-ends
returns-then-not-ends g c =
    let a = g.S.Station.view c.args.station.now in
    let place = c.args.place.now in
    let old = c.args.run.now in
    line_refused place old c.args.frames.now a c.requires.between c.args.number c.args.line.now (λ most rows edits has.
    ap (after_merge_line most rows c.args.number edits old.taken.ended) c.in-End.is
    ∙ end_refused place old c.args.frames.now a c.requires.between c.args.number c.in-End.count (sym c.ends.ensures ∙ c.if-not-ends.true) most rows edits has)

pub returns-else-not-ends : goal.returns-else-not-ends
returns-else-not-ends g c =
    let a = g.S.Station.view c.args.station.now in
    subst (λ (line : MergeLine). TakesUpdate {X = Unit {0}} c.args.place.now c.args.number line (Ok tt) c.args.run.now (record c.args.run.now { taken = record c.args.run.now.taken { ended = true } }) c.args.frames.now c.args.frames.now a a) (sym c.in-End.is) (line_ended c.args.place.now c.args.run.now c.args.frames.now a c.requires.between c.args.number c.in-End.count (sym c.ends.ensures ∙ c.if-not-ends.false))
