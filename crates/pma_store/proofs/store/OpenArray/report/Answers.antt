use Rattle.std.proofs.Common.{◌-◌, ◌/◌, ◌^◌, sym, subst, arith}
use Rattle.density_rule.specs.declared.Window.{Window}
use Rattle.density_rule.specs.Windows.{IsWindow}
use Rattle.density_rule.proofs.Places.{over_in_store}
use Rattle.window_tally.specs.Choice.{IsPossible}
use Rattle.pma_store.specs.StoreView.{StoreView}
use Rattle.pma_store.proofs.Picks.{spread_within}
use Rattle.pma_store.proofs.store.OpenArray.report.Goals as goal

pub updates_in-requires : goal.updates_in-requires
updates_in-requires c =
    let possible = subst (IsPossible c.args.self.now.tally) c.in-Spread.is c.requires.possible in
    let within = over_in_store c.args.self.now.tally.height (c.in-Spread.window.height - 1) c.args.segment (omega (arith, possible.0.low)) c.requires.segment in
    let here = subst (λ (s : StoreView). IsWindow s.tally.height (c.in-Spread.window.height - 1) (c.args.segment / 2 ^ (c.in-Spread.window.height - 1))) (sym c.self.view_is) within in
    subst (λ (w : Window). IsWindow c.self.inside.tally.height w.height w.number) (sym c.window_of.ensures) here

pub returns-in-Spread-clause-cost : goal.returns-in-Spread-clause-cost
returns-in-Spread-clause-cost c = rw c.in-Spread.is (spread_within c.args.self.now.place.layout c.in-Spread.window.height)

pub returns-in-Spread-clause-calls : goal.returns-in-Spread-clause-calls
returns-in-Spread-clause-calls c = rw c.in-Spread.is (omega arith)
