use Rattle.std.proofs.Common.{◌≡◌, ℕ, ◌+◌, subst, ap, ◌∙◌}
use Rattle.std.specs.Prelude.{sum}
use Rattle.density_rule.specs.Bounds.{IsInBounds}
use Rattle.density_rule.specs.Windows.{count_in}
use Rattle.density_rule.proofs.Balance.{count_in-root}
use Rattle.array_tests.proofs.resizes.grow_one.Goals as goal

-- the root's count is that of all records
pub grow-requires-clause-bounds : goal.grow-requires-clause-bounds
grow-requires-clause-bounds g c =
    let tally = c.args.parts.now.tally in
    let tall = c.height-height.ensures.height in
    let all : c.count-records.result ≡ sum tally.counts = c.count-records.ensures ∙ ap (λ (h : ℕ). count_in tally.counts h 0) tall ∙ count_in-root tally.height tally.counts c.requires.fits.parts.is_tally.size in
    let within : IsInBounds (c.height-height.result + 1) (c.height-height.result + 1) c.count-records.result = c.see_fits.ensures in
    subst (λ (n : ℕ). IsInBounds (tally.height + 1) (tally.height + 1) n) all
    (subst (λ (h : ℕ). IsInBounds (h + 1) (h + 1) c.count-records.result) tall within)
