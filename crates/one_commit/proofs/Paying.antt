-- A change that fits keeps every window within its bounds, and raises the potential by little.
use Rattle.std.proofs.Common.{◌≡◌, ℕ, ◌+◌, ◌^◌, ◌<◌, ◌≤◌, ◌-◌, Bool, true, false, sum, get_or, refl, ap, ◌∙◌, arith, Option, Some, None, is_none}
use Rattle.cost_ledger.specs.Potential.{potential_of}
use Rattle.cost_ledger.proofs.Paying.{paid_by_counts}
use Rattle.density_rule.specs.Bounds.{upper_of}
use Rattle.density_rule.specs.Marks.{updated_marks}
use Rattle.density_rule.specs.CountUpdates.{counts_after, highest_broken}
use Rattle.density_rule.specs.Windows.{IsBalanced, count_in}
use Rattle.density_rule.proofs.Balance.{balanced_updated, count_in-root}
use Rattle.density_rule.proofs.Changes.{length-counts_after}
use Rattle.std.proofs.lemmas.Nat.{pow_pos}
use Rattle.std.proofs.lemmas.List.Sums.{sum_by-set}
use Rattle.window_tally.specs.Choice.{adds}
use Rattle.window_tally.specs.TallyView.{TallyView, IsTally}
use Rattle.one_commit.specs.declared.changes.ItemChange.{ItemChange}
use Rattle.one_commit.specs.Fitting.{finds, fits_behind, follows}
use Rattle.one_commit.proofs.Alike.{both_true}
use Rattle.one_commit.proofs.Prefixes.{taken_there}

module _ (t : TallyView) (c : ItemChange) (is : IsTally t) (balanced : IsBalanced t.height t.counts) (within : c.segment < 2 ^ t.height) (fits : follows t.height t.counts c ≡ true) where
  parts : (finds t.counts c ≡ true) × (fits_behind t.height t.counts c ≡ true)
  parts = both_true (finds t.counts c) (fits_behind t.height t.counts c) fits

  unbroken : highest_broken t.height (counts_after (adds c.change) t.counts c.segment) c.segment ≡ None
  unbroken = by (highest_broken t.height (counts_after (adds c.change) t.counts c.segment) c.segment) parts.1
    where
      by : (o : Option ℕ) → is_none o ≡ true → o ≡ None
      by None e = refl
      by (Some n) e = absurd cc

  some : adds c.change ≡ false → 1 ≤ get_or t.counts c.segment 0
  some = taken_there t.counts c parts.0

  pub change_balances : IsBalanced t.height (counts_after (adds c.change) t.counts c.segment)
  change_balances = balanced_updated t.height t.counts c.segment (adds c.change) is.size within some balanced unbroken

  root_kept : count_in (counts_after (adds c.change) t.counts c.segment) t.height 0 ≤ upper_of t.height
  root_kept = (change_balances t.height 0 (record { low = omega arith; in_store = pow_pos (t.height - t.height) })).most_is

  may_grow : adds c.change ≡ true → upper_of t.height < sum t.counts + 1 → t.height + 1 ≤ 16
  may_grow more over =
      let all : sum (counts_after (adds c.change) t.counts c.segment) ≡ sum t.counts + 1 =
      ap (λ (b : Bool). sum (counts_after b t.counts c.segment)) more ∙ omega (arith, sum_by-set (λ (x : ℕ). x) t.counts c.segment (get_or t.counts c.segment 0 + 1) 0 (omega (arith, within, is.size))) in
      absurd (omega (arith, over, root_kept, all, count_in-root t.height (counts_after (adds c.change) t.counts c.segment) (length-counts_after (adds c.change) t.counts c.segment ∙ is.size)))

  pub change_pays : potential_of (record t { counts = counts_after (adds c.change) t.counts c.segment; marks = updated_marks t.height c.segment t.marks }) ≤ potential_of t + 512
  change_pays = omega (
    arith,
    paid_by_counts t.height t.counts c.segment (adds c.change) (omega (arith, is.height_is, is.hmax_is)) is.size within some balanced may_grow t.marks is.drift None unbroken c.segment within some,
  )
