use Rattle.std.proofs.Common.{ap, refl, subst, sym, ◌∙◌}
use Rattle.station.specs.View.{Fixed, Told}
use Rattle.pma_engine.proofs.Dumping.{Comes, comes_opened, comes_unopened}
use Rattle.pma_engine.proofs.Closing.{keeps_staying, stays_look}
use Rattle.pma_engine.proofs.ClosingFirst.{first_opened, first_unopened}
use Rattle.pma_engine.proofs.Opening.{clean_opened, clean_unopened}
use Rattle.pma_engine.proofs.dump.dump_file.Goals as goal

pub returns-in-Err : goal.returns-in-Err
returns-in-Err g c =
    let a = g.S.Station.view c.args.station.now in
    let d = g.S.Station.view c.end_unopened.new.station in
    let comes : Comes c.end_unopened.result a d =
    subst (λ n. Comes n a d) (sym c.end_unopened.ensures.status)
    (comes_unopened a (g.S.Station.view c.open_file.new.station) (g.met.S.Station.lawful c.args.station.now) c.open_file.ensures.opens.steps (c.open_file.ensures.calls refl) (c.open_file.ensures.reads refl) d c.in-Err.fault c.in-Err.ensures.opens.unopened
    (λ none. ap g.S.Station.view (c.end_unopened.ensures.silent none)) c.end_unopened.ensures.says c.end_unopened.ensures.line c.end_unopened.ensures.calls) in
    record { status = comes.status_is; attached = comes.attached; clean = clean_unopened a (g.S.Station.view c.open_file.new.station) d (g.met.S.Station.lawful c.args.station.now) (g.met.S.Station.lawful c.open_file.new.station) c.open_file.ensures.opens.steps c.open_file.ensures.opens.clean c.end_unopened.ensures.says; closes = first_unopened a (g.S.Station.view c.open_file.new.station) d (g.met.S.Station.lawful c.args.station.now) (g.met.S.Station.lawful c.open_file.new.station) c.open_file.ensures.opens.steps c.open_file.ensures.opens.closes c.end_unopened.ensures.says; dumped = comes.dumped; disk = comes.disk; reply = comes.reply }

pub returns-in-Ok : goal.returns-in-Ok
returns-in-Ok g c =
    let a = g.S.Station.view c.args.station.now in
    let b = g.S.Station.view c.open_file.new.station in
    let d = g.S.Station.view c.dump_opened.new.station in
    let law_b = g.met.S.Station.lawful c.open_file.new.station in
    let on : Told b → Told d = λ told. ap (λ (f : Fixed). f.tells_held) (c.dump_opened.ensures.looks.run.fixed) ∙ told in
    let comes : Comes c.dump_opened.result a d =
    comes_opened a b (g.met.S.Station.lawful c.args.station.now) c.open_file.ensures.opens.steps (c.open_file.ensures.calls refl) (c.open_file.ensures.reads refl) c.in-Ok.store c.in-Ok.ensures.opens.opened c.dump_opened.result d c.dump_opened.ensures in
    record { status = comes.status_is; attached = comes.attached; clean = clean_opened a b d (g.met.S.Station.lawful c.args.station.now) law_b c.open_file.ensures.opens.steps c.open_file.ensures.opens.clean c.in-Ok.ensures.opens.settled (keeps_staying on c.in-Ok.ensures.opens.opened.shut (stays_look law_b (g.met.S.Station.lawful c.dump_opened.new.station) c.dump_opened.ensures.looks)); closes = first_opened a b d (g.met.S.Station.lawful c.args.station.now) law_b c.open_file.ensures.opens.steps c.open_file.ensures.opens.closes c.in-Ok.ensures.opens.settled c.in-Ok.ensures.opens.opened.shut (keeps_staying on c.in-Ok.ensures.opens.opened.shut (stays_look law_b (g.met.S.Station.lawful c.dump_opened.new.station) c.dump_opened.ensures.looks)); dumped = comes.dumped; disk = comes.disk; reply = comes.reply }

pub dump_opened-requires-clause-nothing : goal.dump_opened-requires-clause-nothing
dump_opened-requires-clause-nothing g c = c.in-Ok.ensures.opens.settled
