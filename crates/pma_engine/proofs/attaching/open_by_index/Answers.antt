use Rattle.std.proofs.Common.{◌≡◌, true, false, Option, Some, Err, sym, ap, subst, arith}
use Rattle.std.proofs.lemmas.Result.{err_from_is_err_and}
use Rattle.std.specs.Prelude.{IfSome, is_some}
use Rattle.station.specs.View.{Fixed}
use Rattle.station.proofs.Composition.{told_back}
use Rattle.index_file.specs.IndexOpening.{IsQuick}
use Rattle.pma_engine.proofs.Opening.{opens_behind, opens_index, quick_failed}
use Rattle.pma_engine.proofs.attaching.open_by_index.Goals as goal

-- what was given
given : {T : Type 0} (P : T → Type 0) (o : Option T) (x : T) → o ≡ Some x → IfSome o P → P x
given P o x is all = subst (λ (i : Option _). IfSome i P) is all

pub returns-in-Some-clause-opens : goal.returns-in-Some-clause-opens
returns-in-Some-clause-opens g c =
    let is = c.in_ok-parts.ensures in
    let some = c.in-Some.is in
    opens_index (g.S.Station.view c.args.station.now) (g.S.Station.view c.open_quick.new.station) (g.S.Station.view c.open_parts.new.station) (g.met.S.Station.lawful c.args.station.now) (g.met.S.Station.lawful c.open_parts.new.station) c.requires.clean
    c.open_quick.ensures.steps c.open_quick.ensures.unwritten c.in-Some.parts (given _ _ _ some is.agrees) (given _ _ _ some is.fits) (given _ _ _ some is.indexed) (given _ _ _ some is.unrested) (given _ _ _ some is.quick) (given _ _ _ some is.travel)
    c.open_parts.result c.open_parts.ensures.takes

pub returns-in-None-clause-opens : goal.returns-in-None-clause-opens
returns-in-None-clause-opens g c =
    opens_behind (g.S.Station.view c.args.station.now) (g.S.Station.view c.open_quick.new.station) (g.S.Station.view c.open_by_region.new.station) c.open_quick.ensures.steps c.open_quick.ensures.unwritten true false c.open_by_region.result
    (g.met.S.Station.lawful c.args.station.now) (g.met.S.Station.lawful c.open_quick.new.station) c.open_by_region.ensures.opens (λ asked told quick. absurd (c.in_ok-parts.ensures.passed (ap is_some c.in-None.is) told quick))

pub returns-in_err-parts-clause-opens : goal.returns-in_err-parts-clause-opens
returns-in_err-parts-clause-opens g c =
    let p = err_from_is_err_and c.from_residual.result c.from_residual.ensures.1 in
    let is = c.in_err-parts.ensures in
    rw (p.1, p.2) (quick_failed (g.S.Station.view c.args.station.now) (g.S.Station.view c.open_quick.new.station) (g.met.S.Station.lawful c.args.station.now) c.in_err-parts.field-0.0 is.causes c.open_quick.ensures.steps c.open_quick.ensures.unwritten is.told
    (λ e. is.memory (ap Err e)) (λ e. is.failed (ap Err e)) is.front)

pub open_parts-requires-clause-quick : goal.open_parts-requires-clause-quick
open_parts-requires-clause-quick g c told_q =
    let told = told_back c.open_quick.ensures.steps.frame told_q in
    subst IsQuick (sym (c.open_quick.ensures.steps.held told)) (given _ _ _ c.in-Some.is c.in_ok-parts.ensures.quick told)

pub open_parts-requires-clause-rests : goal.open_parts-requires-clause-rests
open_parts-requires-clause-rests g c = given _ _ _ c.in-Some.is c.in_ok-parts.ensures.rests

pub open_parts-requires-clause-reach : goal.open_parts-requires-clause-reach
open_parts-requires-clause-reach g c = omega (arith, given _ _ _ c.in-Some.is c.in_ok-parts.ensures.reach, ap (λ (f : Fixed). f.reach) c.open_quick.ensures.steps.frame.fixed)

pub returns-in-Some-clause-calls : goal.returns-in-Some-clause-calls
returns-in-Some-clause-calls g c told quick = omega (arith, c.open_quick.ensures.calls_told told, c.open_parts.ensures.calls)

pub returns-in-None-clause-calls : goal.returns-in-None-clause-calls
returns-in-None-clause-calls g c told quick = absurd (c.in_ok-parts.ensures.passed (ap is_some c.in-None.is) told quick)

pub returns-in_err-parts-clause-calls : goal.returns-in_err-parts-clause-calls
returns-in_err-parts-clause-calls g c told quick = omega (arith, c.open_quick.ensures.calls_told told)
