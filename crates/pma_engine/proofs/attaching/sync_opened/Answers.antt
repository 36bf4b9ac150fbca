-- A sync behind an opening changes no byte.
use Rattle.std.proofs.Common.{◌≡◌, ap, refl, sym, ◌∙◌, arith}
use Rattle.std.proofs.lemmas.Bool.Decides.{nat_tests}
use Rattle.station.proofs.Composition.{no_steps}
use Rattle.header_gate.specs.declared.layout.Layout.{Layout}
use Rattle.header_gate.specs.declared.layout.TheConstants.{PAIRED}
use Rattle.redo_journal.proofs.Live.{rests_settled}
use Rattle.pma_engine.proofs.StoreLaws.{open_same}
use Rattle.pma_engine.proofs.Opening.{synced_calls}
use Rattle.pma_engine.proofs.attaching.sync_opened.Goals as goal

pub returns-then-layout-ne-PAIRED : goal.returns-then-layout-ne-PAIRED
returns-then-layout-ne-PAIRED g c =
    let a = g.S.Station.view c.args.station.now in
    let s = c.args.store in
    let single : s.place.layout.version ≡ PAIRED → ⊥ = λ e.
    let own : c.layout-layout.result.version ≡ PAIRED = ap (λ (l : Layout). l.version) c.layout-layout.ensures.layout ∙ e in
    grind (arith, nat_tests, own, c.if-layout-ne-PAIRED.true) in
    record {
      store = refl;
      on = c.requires.open;
      settled = (rests_settled s.place.layout s.turn a single c.requires.open.on.rests).0;
      steps = no_steps a;
      travel = refl;
      calls = omega arith;
      failed = tt;
    }

pub returns-in-Ok : goal.returns-in-Ok
returns-in-Ok g c =
    let is : c.layout-layout.result.version ≡ PAIRED = grind (arith, nat_tests, c.if-layout-ne-PAIRED.false) in
    record {
      store = refl;
      on = open_same c.args.store (g.met.S.Station.lawful c.args.station.now) c.requires.open c.sync.ensures.steps;
      settled = c.in-Ok.ensures.settled;
      steps = c.sync.ensures.steps;
      travel = c.sync.ensures.travel;
      calls = omega (arith, c.sync.ensures.counted, synced_calls c.args.store.place.layout (sym (ap (λ (l : Layout). l.version) c.layout-layout.ensures.layout) ∙ is));
      failed = tt;
    }

pub returns-in-Err : goal.returns-in-Err
returns-in-Err g c =
    let is : c.layout-layout.result.version ≡ PAIRED = grind (arith, nat_tests, c.if-layout-ne-PAIRED.false) in
    record {
      store = tt;
      on = tt;
      settled = tt;
      steps = c.sync.ensures.steps;
      travel = c.sync.ensures.travel;
      calls = omega (arith, c.sync.ensures.counted, synced_calls c.args.store.place.layout (sym (ap (λ (l : Layout). l.version) c.layout-layout.ensures.layout) ∙ is));
      failed = (refl, c.in-Err.ensures.cause);
    }
