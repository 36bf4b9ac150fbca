-- A file with one journal is left as it is.
use Rattle.std.proofs.Common.{◌≡◌, ap, ◌∙◌, sym, arith}
use Rattle.std.proofs.lemmas.Bool.Decides.{nat_tests}
use Rattle.header_gate.specs.declared.layout.Layout.{Layout}
use Rattle.header_gate.specs.declared.layout.TheConstants.{PAIRED}
use Rattle.pma_engine.proofs.EndedRuns.{settles_single}
use Rattle.pma_engine.proofs.leaving.settle_store.Goals as goal

pub returns-then-layout-ne-PAIRED-clause-settled : goal.returns-then-layout-ne-PAIRED-clause-settled
returns-then-layout-ne-PAIRED-clause-settled g c =
    settles_single c.args.store.now (g.S.Station.view c.args.station.now) (g.met.S.Station.lawful c.args.station.now) (λ e.
    let own : c.layout-layout.result.version ≡ PAIRED = ap (λ (l : Layout). l.version) c.layout-layout.ensures.layout ∙ e in
    grind (arith, nat_tests, own, c.if-layout-ne-PAIRED.true)) c.requires.open

pub returns-clause-sure : goal.returns-clause-sure
returns-clause-sure g c single =
    let is : c.layout-layout.result.version ≡ PAIRED = grind (arith, nat_tests, c.if-layout-ne-PAIRED.false) in
    absurd (single (sym (ap (λ (l : Layout). l.version) c.layout-layout.ensures.layout) ∙ is))
