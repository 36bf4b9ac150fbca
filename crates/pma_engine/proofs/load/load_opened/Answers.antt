-- A store that has records is refused, and any other is read into once nothing is pending.
use Rattle.std.proofs.Common.{◌≡◌, ◌<◌, Err, refl, ap, subst, sym, ◌∙◌, arith, sum}
use Rattle.std.proofs.lemmas.Bool.Decides.{nat_tests}
use Rattle.header_gate.specs.InPlace.{IsBare}
use Rattle.pma_store.specs.StoreView.{StoreView}
use Rattle.pma_store.specs.Readying.{clear_cost}
use Rattle.pma_engine.specs.LoadOutcome.{LoadsOpened}
use Rattle.pma_engine.proofs.Closing.{clear_gate, shut_says, stays_on, stays_steps}
use Rattle.pma_engine.proofs.SettledLoads.{loads_behind, loads_failed, loads_refused}
use Rattle.pma_engine.proofs.load.load_opened.Goals as goal

pub returns-then-records-gt0 : goal.returns-then-records-gt0
returns-then-records-gt0 g c =
    let s0 = g.I.Source.view c.args.source.now in
    let a = g.S.Station.view c.args.station.now in
    let d = g.S.Station.view c.end_loaded.new.station in
    let some : 0 < c.records-records.result = grind (arith, nat_tests, c.if-records-gt0.true) in
    record {
      loads =
          subst (λ n. LoadsOpened n c.args.most c.args.store.place.layout (sum c.args.store.tally.counts) (clear_cost c.args.store.place.layout) s0 s0 a d) (sym c.end_loaded.ensures.status)
          (loads_refused c.args.store a (g.met.S.Station.lawful c.args.station.now) c.requires.open c.requires.nothing c.args.most s0 c.records-records.result c.records-records.ensures some d c.end_loaded.ensures.says c.end_loaded.ensures.line);
      shut = shut_says c.end_loaded.ensures.says;
      untaken = λ some. refl;
      went = record { tells = refl; faults = omega arith };
    }

pub returns-in-Ok : goal.returns-in-Ok
returns-in-Ok g c =
    let s0 = g.I.Source.view c.args.source.now in
    let s1 = g.I.Source.view c.load_settled.new.source in
    let a = g.S.Station.view c.args.station.now in
    let b = g.S.Station.view c.settle.new.station in
    let d = g.S.Station.view c.load_settled.new.station in
    let none : sum c.args.store.tally.counts ≡ 0 = grind (arith, nat_tests, c.if-records-gt0.false, c.records-records.ensures) in
    let settles = c.in-Ok.ensures.settled in
    record {
      loads =
          loads_behind c.args.store c.settle.new.self a b (g.met.S.Station.lawful c.args.station.now) c.requires.open settles none c.load_settled.result c.args.most s0 s1 d
          (subst (λ (x : StoreView). LoadsOpened c.load_settled.result c.args.most x.place.layout (sum x.tally.counts) 0 s0 s1 b d) settles.store c.load_settled.ensures.loads);
      shut = stays_on settles.meant.frame.fixed settles.meant.frame.calls (stays_steps settles.touched (λ x i touched. clear_gate c.args.store.place.layout x i touched)) c.load_settled.ensures.shut;
      untaken = λ some. absurd (omega (arith, some, none));
      went = c.load_settled.ensures.went;
    }

pub returns-in-Err : goal.returns-in-Err
returns-in-Err g c =
    let s0 = g.I.Source.view c.args.source.now in
    let a = g.S.Station.view c.args.station.now in
    let b = g.S.Station.view c.settle.new.station in
    let none : sum c.args.store.tally.counts ≡ 0 = grind (arith, nat_tests, c.if-records-gt0.false, c.records-records.ensures) in
    let settles = c.in-Err.ensures.settled in
    record {
      loads = loads_failed c.args.store c.settle.new.self a b (g.met.S.Station.lawful c.args.station.now) c.requires.open settles none c.args.most s0 (c.settle.ensures.failed (c.in-Err.is ∙ ap Err settles.disk));
      shut = stays_steps settles.touched (λ x i touched. clear_gate c.args.store.place.layout x i touched);
      untaken = λ some. refl;
      went = record { tells = refl; faults = omega arith };
    }

pub load_settled-requires-clause-bare : goal.load_settled-requires-clause-bare
load_settled-requires-clause-bare g c told =
    let settles = c.in-Ok.ensures.settled in
    subst (λ (x : StoreView). IsBare x.place.layout (g.S.Station.view c.settle.new.station).held) (sym settles.store) (settles.bare told)

pub load_settled-requires-clause-nothing : goal.load_settled-requires-clause-nothing
load_settled-requires-clause-nothing g c = c.in-Ok.ensures.settled.nothing
