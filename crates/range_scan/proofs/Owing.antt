-- The records that segments have for a scan, by their counts.
use Rattle.std.proofs.Common.{◌≡◌, ℕ, ◌+◌, ◌-◌, ◌<◌, ◌≤◌, Bool, true, false, cond, length, take, sum, ap, arith}
use Rattle.std.specs.Prelude.{is_some, ◌==◌, ◌&&◌}
use Rattle.density_rule.specs.Windows.{count_in}
use Rattle.density_rule.proofs.Totals.{count_in-segment}
use Rattle.range_scan.specs.SweepRuns.{due, full_from}
use Rattle.range_scan.specs.SweepView.{SweepView}
use Rattle.range_scan.proofs.Amid.{sum_more, sums_rise}

full_least : (s : SweepView) (from : ℕ) → from ≤ full_from s from
full_least s from = elim ((is_some s.low) && (from == s.first)) as (λ b. from ≤ cond b (from + 1) from) [ true ↦ omega arith | false ↦ omega arith ]

full_most : (s : SweepView) (from : ℕ) → full_from s from ≤ from + 1
full_most s from = elim ((is_some s.low) && (from == s.first)) as (λ b. cond b (from + 1) from ≤ from + 1) [ true ↦ omega arith | false ↦ omega arith ]

-- none
pub due_none : (s : SweepView) (from : ℕ) → due s from (from + 1 - 1) ≡ 0
due_none s from = omega (arith, sums_rise s.tally.counts (from + 1 - 1) (full_from s from) (omega (arith, full_least s from)))

-- the first, where a lower bound may pass over some of its records
pub due_bounded : (s : SweepView) (from : ℕ) → ((is_some s.low) && (from == s.first)) ≡ true → due s from (from + 1) ≡ 0
due_bounded s from is =
    let whole : full_from s from ≡ from + 1 = ap (λ (b : Bool). cond b (from + 1) from) is in
    omega (arith, ap (λ (k : ℕ). sum (take k s.tally.counts)) whole)

-- where none does
pub due_first : (s : SweepView) (from : ℕ) → ((is_some s.low) && (from == s.first)) ≡ false → from < length s.tally.counts → due s from (from + 1) ≡ count_in s.tally.counts 0 from
due_first s from is lt =
    let whole : full_from s from ≡ from = ap (λ (b : Bool). cond b (from + 1) from) is in
    omega (arith, ap (λ (k : ℕ). sum (take k s.tally.counts)) whole, sum_more s.tally.counts from lt, count_in-segment s.tally.counts from lt)

-- one more
pub due_more : (s : SweepView) (from to : ℕ) → from < to → to < length s.tally.counts → due s from (to + 1) ≡ due s from to + count_in s.tally.counts 0 to
due_more s from to some lt = omega (arith, sum_more s.tally.counts to lt, count_in-segment s.tally.counts to lt, sums_rise s.tally.counts (full_from s from) to (omega (arith, full_most s from, some)))

-- they are among all
pub due_most : (s : SweepView) (from to : ℕ) → due s from to ≤ sum (take to s.tally.counts)
due_most s from to = omega arith
