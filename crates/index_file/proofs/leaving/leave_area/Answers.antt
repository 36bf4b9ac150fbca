use Rattle.std.proofs.Common.{◌≡◌, refl, inl, arith, ap, subst, sym}
use Rattle.std.proofs.lemmas.Result.{on_ok_weaker}
use Rattle.station.specs.View.{Fixed, Told}
use Rattle.station.proofs.Composition.{andthen, weaken, only_held, told_of, told_on, told_back}
use Rattle.header_gate.proofs.RecoveredPages.{page_before}
use Rattle.index_file.specs.Clean.{IsLeft}
use Rattle.index_file.proofs.CleanLaws.{leaves_first, leaves_last, left_kept}
use Rattle.index_file.proofs.LeavingLaws.{ready_size}
use Rattle.index_file.proofs.leaving.leave_area.Goals as goal

pub set_gate-requires-clause-reach : goal.set_gate-requires-clause-reach
set_gate-requires-clause-reach g c = omega (arith, c.requires.leave.file.reach, page_before c.args.layout.now 2, ap (λ (f : Fixed). f.reach) c.write_area.ensures.steps.frame.fixed)

pub set_gate-requires-clause-page : goal.set_gate-requires-clause-page
set_gate-requires-clause-page g c told_b =
    let told : Told (g.S.Station.view c.args.station.now) = told_back c.write_area.ensures.steps.frame told_b in
    let size = (c.write_area.ensures.steps.held told).size in
    let own = ready_size c.args.layout.now c.args.region c.args.tally.now c.args.index.now (g.S.Station.view c.args.station.now).held (c.requires.leave.ready (g.S.Station.view c.args.station.now).held (inl (told, refl))) in
    omega (arith, size, own, page_before c.args.layout.now 2)

pub returns-in_err-write_area-clause-steps : goal.returns-in_err-write_area-clause-steps
returns-in_err-write_area-clause-steps g c =
    let l = c.args.layout.now in
    weaken c.write_area.ensures.steps (λ d i left step. leaves_first c.args.layout.now d i (c.requires.leave.ready d left).clean_even step)

pub returns-clause-steps : goal.returns-clause-steps
returns-clause-steps g c =
    let a = g.S.Station.view c.args.station.now in
    let b = g.S.Station.view c.write_area.new.station in
    let law = g.met.S.Station.lawful c.args.station.now in
    andthen c.write_area.ensures.steps c.set_gate.ensures.steps
    (λ d i left step. leaves_first c.args.layout.now d i (c.requires.leave.ready d left).clean_even step)
    (λ d e i left first mid second.
    let is : e ≡ (g.S.Station.view c.write_area.new.station).held = only_held (g.S.Station.view c.write_area.new.station) c.in_ok-write_area.ensures.settled e mid in
    let here : IsLeft e = subst IsLeft (sym is) (c.in_ok-write_area.ensures.left (told_of (g.met.S.Station.lawful c.args.station.now) d left)) in
    leaves_last c.args.layout.now d e i first here second)

pub returns-clause-left : goal.returns-clause-left
returns-clause-left g c =
    let b = g.S.Station.view c.write_area.new.station in
    on_ok_weaker c.set_gate.result (λ settled told.
    left_kept (g.S.Station.view c.write_area.new.station).held (g.S.Station.view c.set_gate.new.station).held (c.in_ok-write_area.ensures.left told) (c.set_gate.ensures.steps.held (told_on c.write_area.ensures.steps.frame told)))
    c.set_gate.ensures.settled

pub returns-clause-opened : goal.returns-clause-opened
returns-clause-opened g c = on_ok_weaker c.set_gate.result (λ opened told. opened (told_on c.write_area.ensures.steps.frame told)) c.set_gate.ensures.set
