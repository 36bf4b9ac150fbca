use Rattle.std.proofs.Common.{ap, subst, sym, ◌∙◌, refl, arith}
use Rattle.station.specs.View.{Fixed, Told}
use Rattle.pma_engine.proofs.Loading.{Comes, comes_opened, comes_unopened, untaken_of}
use Rattle.pma_engine.proofs.Closing.{keeps_staying}
use Rattle.pma_engine.proofs.ClosingFirst.{first_opened, first_unopened}
use Rattle.pma_engine.proofs.Opening.{clean_opened, clean_unopened}
use Rattle.pma_engine.proofs.load.load_file.Goals as goal

pub returns-in-Err : goal.returns-in-Err
returns-in-Err g c =
    let s = g.I.Source.view c.args.source.now in
    let a = g.S.Station.view c.args.station.now in
    let d = g.S.Station.view c.end_unopened.new.station in
    let comes : Comes c.end_unopened.result c.args.most s s a d =
    subst (λ n. Comes n c.args.most s s a d) (sym c.end_unopened.ensures.status)
    (comes_unopened c.args.most s a (g.S.Station.view c.open_file.new.station) (g.met.S.Station.lawful c.args.station.now) c.open_file.ensures.opens.steps d c.in-Err.fault c.in-Err.ensures.opens.unopened
    (λ none. ap g.S.Station.view (c.end_unopened.ensures.silent none)) c.end_unopened.ensures.says c.end_unopened.ensures.line) in
    record {
      status = comes.status_is;
      attached = comes.attached;
      clean = clean_unopened a (g.S.Station.view c.open_file.new.station) d (g.met.S.Station.lawful c.args.station.now) (g.met.S.Station.lawful c.open_file.new.station) c.open_file.ensures.opens.steps c.open_file.ensures.opens.clean c.end_unopened.ensures.says;
      closes = first_unopened a (g.S.Station.view c.open_file.new.station) d (g.met.S.Station.lawful c.args.station.now) (g.met.S.Station.lawful c.open_file.new.station) c.open_file.ensures.opens.steps c.open_file.ensures.opens.closes c.end_unopened.ensures.says;
      loaded = comes.loaded;
      untaken = λ none. refl;
      causes = record { disk = comes.disk; script = comes.script; went = record { tells = refl; faults = omega arith } };
    }

pub returns-in-Ok : goal.returns-in-Ok
returns-in-Ok g c =
    let s0 = g.I.Source.view c.args.source.now in
    let s1 = g.I.Source.view c.load_opened.new.source in
    let a = g.S.Station.view c.args.station.now in
    let b = g.S.Station.view c.open_file.new.station in
    let d = g.S.Station.view c.load_opened.new.station in
    let law = g.met.S.Station.lawful c.args.station.now in
    let law_b = g.met.S.Station.lawful c.open_file.new.station in
    let on : Told b → Told d = λ told. ap (λ (f : Fixed). f.tells_held) (c.load_opened.ensures.loads.run.fixed) ∙ told in
    let comes : Comes c.load_opened.result c.args.most s0 s1 a d =
    comes_opened c.args.most s0 s1 a b law c.open_file.ensures.opens.steps c.in-Ok.store c.in-Ok.ensures.opens.opened c.load_opened.result d c.load_opened.ensures.loads c.load_opened.ensures.shut in
    record {
      status = comes.status_is;
      attached = comes.attached;
      clean = clean_opened a b d (g.met.S.Station.lawful c.args.station.now) law_b c.open_file.ensures.opens.steps c.open_file.ensures.opens.clean c.in-Ok.ensures.opens.settled (keeps_staying on c.in-Ok.ensures.opens.opened.shut (c.load_opened.ensures.shut));
      closes = first_opened a b d (g.met.S.Station.lawful c.args.station.now) law_b c.open_file.ensures.opens.steps c.open_file.ensures.opens.closes c.in-Ok.ensures.opens.settled c.in-Ok.ensures.opens.opened.shut (keeps_staying on c.in-Ok.ensures.opens.opened.shut (c.load_opened.ensures.shut));
      loaded = comes.loaded;
      untaken = λ none. c.load_opened.ensures.untaken (untaken_of c.args.most s0 s1 a b law c.open_file.ensures.opens.steps c.in-Ok.store c.in-Ok.ensures.opens.opened c.load_opened.result d c.load_opened.ensures.loads none);
      causes = record { disk = comes.disk; script = comes.script; went = c.load_opened.ensures.went };
    }

pub load_opened-requires-clause-nothing : goal.load_opened-requires-clause-nothing
load_opened-requires-clause-nothing g c = c.in-Ok.ensures.opens.settled
