use Rattle.std.proofs.Common.{ap, subst, sym, ◌∙◌, refl, arith}
use Rattle.station.specs.View.{Fixed, Told}
use Rattle.pma_engine.proofs.Merging.{Comes, comes_opened, comes_unopened, takes_some}
use Rattle.pma_engine.proofs.Closing.{keeps_staying}
use Rattle.pma_engine.proofs.ClosingFirst.{first_opened, first_unopened}
use Rattle.pma_engine.proofs.Opening.{clean_opened, clean_unopened}
use Rattle.pma_engine.proofs.merge.merge_file.Goals as goal

pub returns-in-Err : goal.returns-in-Err
returns-in-Err g c =
    let s = g.I.Source.view c.args.source.now in
    let a = g.S.Station.view c.args.station.now in
    let b = g.S.Station.view c.open_file.new.station in
    let d = g.S.Station.view c.end_unopened.new.station in
    let law = g.met.S.Station.lawful c.args.station.now in
    let law_b = g.met.S.Station.lawful c.open_file.new.station in
    let opens = c.open_file.ensures.opens in
    let ends = c.end_unopened.ensures in
    let comes : Comes c.end_unopened.result c.args.most s s a d =
    subst (λ n. Comes n c.args.most s s a d) (sym ends.status)
    (comes_unopened c.args.most s a b law opens.steps (c.open_file.ensures.calls refl) (c.open_file.ensures.reads refl) d c.in-Err.fault c.in-Err.ensures.opens.unopened
    (λ none. ap g.S.Station.view (ends.silent none)) ends.says ends.line ends.calls) in
    record {
      status = comes.status_is;
      attached = comes.attached;
      clean = clean_unopened a b d law law_b opens.steps opens.clean ends.says;
      closes = first_unopened a b d law law_b opens.steps opens.closes ends.says;
      merged = comes.merged;
      untaken = λ none. refl;
      causes = record { disk = comes.disk; script = comes.script; went = record { tells = refl; faults = omega arith } };
      reply = comes.reply;
    }

pub returns-in-Ok : goal.returns-in-Ok
returns-in-Ok g c =
    let s0 = g.I.Source.view c.args.source.now in
    let s1 = g.I.Source.view c.merge_opened.new.source in
    let a = g.S.Station.view c.args.station.now in
    let b = g.S.Station.view c.open_file.new.station in
    let d = g.S.Station.view c.merge_opened.new.station in
    let law = g.met.S.Station.lawful c.args.station.now in
    let law_b = g.met.S.Station.lawful c.open_file.new.station in
    let opens = c.open_file.ensures.opens in
    let called = c.open_file.ensures.calls refl in
    let looked = c.open_file.ensures.reads refl in
    let opened = c.in-Ok.ensures.opens.opened in
    let merges = c.merge_opened.ensures in
    let on : Told b → Told d = λ told. ap (λ (f : Fixed). f.tells_held) merges.merges.run.fixed ∙ told in
    let comes : Comes c.merge_opened.result c.args.most s0 s1 a d =
    comes_opened c.args.most s0 s1 a b law opens.steps called looked c.in-Ok.store opened c.merge_opened.result d merges.merges merges.shut in
    record {
      status = comes.status_is;
      attached = comes.attached;
      clean = clean_opened a b d law law_b opens.steps opens.clean c.in-Ok.ensures.opens.settled (keeps_staying on opened.shut merges.shut);
      closes = first_opened a b d law law_b opens.steps opens.closes c.in-Ok.ensures.opens.settled opened.shut (keeps_staying on opened.shut merges.shut);
      merged = comes.merged;
      untaken = λ none. absurd (takes_some c.args.most s0 s1 a b law opens.steps called looked c.in-Ok.store opened c.merge_opened.result d merges.merges none);
      causes = record { disk = comes.disk; script = comes.script; went = merges.went };
      reply = comes.reply;
    }

pub merge_opened-requires-clause-nothing : goal.merge_opened-requires-clause-nothing
merge_opened-requires-clause-nothing g c = c.in-Ok.ensures.opens.settled
