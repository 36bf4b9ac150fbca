use Rattle.std.proofs.Common.{ℕ, sym, subst}
use Rattle.density_rule.specs.Bounds.{IsInBounds}
use Rattle.density_rule.specs.Windows.{count_in}
use Rattle.density_rule.proofs.Places.{root_window}
use Rattle.array_tests.proofs.rebalances.spread_all.Goals as goal

pub rebalance-requires-clause-bounds : goal.rebalance-requires-clause-bounds
rebalance-requires-clause-bounds g c =
    let tally = c.args.parts.now.tally in
    subst (λ (h : ℕ). IsInBounds tally.height h (count_in tally.counts h 0)) (sym c.height.ensures.height)
    (c.requires.fits.balanced tally.height 0 (root_window tally.height))

pub rebalance-requires-clause-stands : goal.rebalance-requires-clause-stands
rebalance-requires-clause-stands g c image may = (c.requires.agrees image may).stands.stands
