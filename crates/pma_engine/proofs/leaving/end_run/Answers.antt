-- A run ends settled, and where all was done, with its index.
use Rattle.std.proofs.Common.{◌≡◌, sym, subst, arith}
use Rattle.std.proofs.lemmas.Bool.Decides.{nat_tests}
use Rattle.header_gate.specs.InPlace.{IsBare}
use Rattle.pma_store.specs.StoreView.{StoreView}
use Rattle.pma_engine.specs.Ending.{EndsRun}
use Rattle.pma_engine.specs.declared.status.TheConstants.{DONE}
use Rattle.pma_engine.proofs.Closing.{clear_gate, stays_steps}
use Rattle.pma_engine.proofs.EndedRuns.{ends_cut, ends_failed, ends_left, paired_by}
use Rattle.pma_engine.proofs.leaving.end_run.Goals as goal

pub leave_file-requires-clause-nothing : goal.leave_file-requires-clause-nothing
leave_file-requires-clause-nothing g c = c.in-Ok.ensures.settled.nothing

pub leave_file-requires-clause-bare : goal.leave_file-requires-clause-bare
leave_file-requires-clause-bare g c told =
    let settles = c.in-Ok.ensures.settled in
    subst (λ (x : StoreView). IsBare x.place.layout (g.S.Station.view c.settle_store.new.station).held) (sym settles.store) (settles.bare told)

pub leave_file-requires-clause-shut : goal.leave_file-requires-clause-shut
leave_file-requires-clause-shut g c = (stays_steps c.in-Ok.ensures.settled.touched (λ d i touched. clear_gate c.args.store.place.layout d i touched)).after c.requires.shut

pub returns-then-served-eq-DONE : goal.returns-then-served-eq-DONE
returns-then-served-eq-DONE g c =
    let is : c.args.served ≡ DONE = grind (arith, nat_tests, c.if-served-eq-DONE.true) in
    let a = g.S.Station.view c.args.station.now in
    let b = g.S.Station.view c.settle_store.new.station in
    let d = g.S.Station.view c.leave_file.new.station in
    let settles = c.in-Ok.ensures.settled in
    let t = c.settle_store.new.store in
    subst (λ n. EndsRun n c.leave_file.result c.args.store a d) (sym is)
    (ends_left c.args.store t a b c.requires.open c.requires.shut settles settles.nothing settles.state c.in-Ok.ensures.open (g.met.S.Station.lawful c.settle_store.new.station)
    (λ told. subst (λ (x : StoreView). IsBare x.place.layout b.held) (sym settles.store) (settles.bare told)) c.leave_file.result d c.leave_file.ensures)

pub returns-else-served-eq-DONE : goal.returns-else-served-eq-DONE
returns-else-served-eq-DONE g c =
    let settles = c.in-Ok.ensures.settled in
    ends_cut c.args.store c.settle_store.new.store (g.S.Station.view c.args.station.now) (g.S.Station.view c.settle_store.new.station) c.requires.open c.requires.shut settles settles.nothing settles.state c.in-Ok.ensures.open
    c.args.served c.requires.status (λ e. grind (arith, nat_tests, e, c.if-served-eq-DONE.false))

pub returns-in-Err : goal.returns-in-Err
returns-in-Err g c =
    let settles = c.in-Err.ensures.settled in
    ends_failed c.args.store c.settle_store.new.store (g.S.Station.view c.args.station.now) (g.S.Station.view c.settle_store.new.station) c.requires.open c.requires.shut settles c.args.served c.requires.status c.in-Err.ensures.failed
    (paired_by (Unit {0}) c.args.store.place.layout c.in-Err.field-0 c.in-Err.ensures.sure)
