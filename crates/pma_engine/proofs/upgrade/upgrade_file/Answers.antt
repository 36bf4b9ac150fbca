use Rattle.std.proofs.Common.{ap, subst, sym, ◌∙◌}
use Rattle.station.specs.View.{Fixed, Told}
use Rattle.pma_engine.proofs.Upgrading.{Comes, comes_opened, comes_unopened}
use Rattle.pma_engine.proofs.Closing.{keeps_staying}
use Rattle.pma_engine.proofs.ClosingFirst.{first_opened, first_unopened}
use Rattle.pma_engine.proofs.Opening.{clean_opened, clean_unopened}
use Rattle.pma_engine.proofs.upgrade.upgrade_file.Goals as goal

pub returns-in-Err : goal.returns-in-Err
returns-in-Err g c =
    let a = g.S.Station.view c.args.station.now in
    let d = g.S.Station.view c.end_unopened.new.station in
    let comes : Comes c.end_unopened.result a d =
    subst (λ n. Comes n a d) (sym c.end_unopened.ensures.status)
    (comes_unopened a (g.S.Station.view c.open_file.new.station) (g.met.S.Station.lawful c.args.station.now) c.open_file.ensures.opens.steps d c.in-Err.fault c.in-Err.ensures.opens.unopened
    (λ none. ap g.S.Station.view (c.end_unopened.ensures.silent none)) c.end_unopened.ensures.says c.end_unopened.ensures.line) in
    record { status = comes.status_is; attached = comes.attached; clean = clean_unopened a (g.S.Station.view c.open_file.new.station) d (g.met.S.Station.lawful c.args.station.now) (g.met.S.Station.lawful c.open_file.new.station) c.open_file.ensures.opens.steps c.open_file.ensures.opens.clean c.end_unopened.ensures.says; closes = first_unopened a (g.S.Station.view c.open_file.new.station) d (g.met.S.Station.lawful c.args.station.now) (g.met.S.Station.lawful c.open_file.new.station) c.open_file.ensures.opens.steps c.open_file.ensures.opens.closes c.end_unopened.ensures.says; upgraded = comes.upgraded; disk = comes.disk }

pub returns-in-Ok : goal.returns-in-Ok
returns-in-Ok g c =
    let a = g.S.Station.view c.args.station.now in
    let b = g.S.Station.view c.open_file.new.station in
    let d = g.S.Station.view c.upgrade_opened.new.station in
    let law_b = g.met.S.Station.lawful c.open_file.new.station in
    let on : Told b → Told d = λ told. ap (λ (f : Fixed). f.tells_held) (c.upgrade_opened.ensures.upgrades.run.fixed) ∙ told in
    let comes : Comes c.upgrade_opened.result a d =
    comes_opened a b (g.met.S.Station.lawful c.args.station.now) c.open_file.ensures.opens.steps c.in-Ok.store c.in-Ok.ensures.opens.opened c.upgrade_opened.result d c.upgrade_opened.ensures.upgrades c.upgrade_opened.ensures.shut in
    record { status = comes.status_is; attached = comes.attached; clean = clean_opened a b d (g.met.S.Station.lawful c.args.station.now) law_b c.open_file.ensures.opens.steps c.open_file.ensures.opens.clean c.in-Ok.ensures.opens.settled (keeps_staying on c.in-Ok.ensures.opens.opened.shut (c.upgrade_opened.ensures.shut)); closes = first_opened a b d (g.met.S.Station.lawful c.args.station.now) law_b c.open_file.ensures.opens.steps c.open_file.ensures.opens.closes c.in-Ok.ensures.opens.settled c.in-Ok.ensures.opens.opened.shut (keeps_staying on c.in-Ok.ensures.opens.opened.shut (c.upgrade_opened.ensures.shut)); upgraded = comes.upgraded; disk = comes.disk }

pub upgrade_opened-requires-clause-nothing : goal.upgrade_opened-requires-clause-nothing
upgrade_opened-requires-clause-nothing g c = c.in-Ok.ensures.opens.settled
