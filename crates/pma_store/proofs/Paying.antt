-- An update is paid for.
use Rattle.std.proofs.Common.{◌≡◌, ℕ, ◌+◌, ◌/◌, ◌^◌, ◌<◌, ◌≤◌, ◌==◌, Bool, true, false, cond, get_or, inl, inr, Option, Some, None, refl, sym, ap, subst, arith}
use Rattle.std.specs.Prelude.{sum}
use Rattle.std.proofs.lemmas.Bool.{cases_eq}
use Rattle.density_rule.specs.Bounds.{upper_of}
use Rattle.density_rule.specs.Marks.{Marks, mark_of}
use Rattle.density_rule.specs.CountUpdates.{resized_height, height_by_broken}
use Rattle.density_rule.specs.Windows.{IsBalanced}
use Rattle.map_model.specs.ArrayState.{UpdateReport, report_by}
use Rattle.window_tally.specs.declared.Change.{Change}
use Rattle.window_tally.specs.declared.Change.TheVariants.{Add, Take}
use Rattle.window_tally.specs.Choice.{adds}
use Rattle.window_tally.specs.TallyView.{TallyView, IsTally}
use Rattle.cost_ledger.specs.Potential.{potential_of}
use Rattle.cost_ledger.specs.Work.{charge_by, work_of, IsWork}
use Rattle.cost_ledger.specs.declared.work.Work.{Work}
use Rattle.cost_ledger.specs.declared.work.Work.TheVariants as work
use Rattle.cost_ledger.proofs.Charging.{charge_is}
use Rattle.cost_ledger.proofs.Paying.{paid_by_counts, low_work}
use Rattle.pma_store.specs.StoreAnswers.{reported}
use Rattle.pma_store.specs.Changing.{put_of, took_of}
use Rattle.pma_store.specs.Charging.{work_by, spread_work, IsPaid, changes, put_changes}
use Rattle.pma_store.specs.SegmentCounts.{counted}
use Rattle.pma_store.specs.Readying.{broken_in, readied}
use Rattle.pma_store.specs.declared.answers.Report.{Report}
use Rattle.pma_store.specs.declared.answers.Outcome.{Outcome}
use Rattle.pma_store.specs.declared.answers.Outcome.TheVariants.{Unchanged, Replaced, Changed}
use Rattle.pma_store.proofs.Picks.{broken_is}

-- what is reported where the root is broken, or a window below it
abbrev told_by : ℕ → ℕ → Marks → Bool → UpdateReport
told_by c segment marks b = cond b (record { spread = None; cause = None; resized = true }) (record { spread = Some (record { height = c + 1; number = segment / 2 ^ (c + 1) }); cause = mark_of marks c (segment / 2 ^ c); resized = false })

-- what a report tells of an update that adds a record or takes one
pub work_is : (adds : Bool) (height segment : ℕ) (broken : Option ℕ) (marks : Marks) (r : Report) (next : ℕ) → next ≡ height_by_broken adds height broken → reported r ≡ report_by height segment broken marks
    → work_by next true r ≡ work_of adds height broken
work_is adds height segment None marks r next at is = by_parts (ap (λ (u : UpdateReport). u.resized) is) (ap (λ (u : UpdateReport). u.spread) is)
  where
    by_parts : r.resized ≡ false → r.rebalanced ≡ None → work_by next true r ≡ work.Segment
    by_parts same none = λ t. cond (same t) (work.Resize next) (spread_work (none t))
work_is adds height segment (Some c) marks r next at is = by_test (c == height) refl at (ap (λ (u : UpdateReport). u.resized) is) (ap (λ (u : UpdateReport). u.spread) is)
  where
    by_test : (b : Bool) → (c == height) ≡ b → next ≡ cond b (resized_height adds height) height → r.resized ≡ (told_by c segment marks b).resized → r.rebalanced ≡ (told_by c segment marks b).spread
        → work_by next true r ≡ cond b (work.Resize (resized_height adds height)) (work.Spread (c + 1))
    by_test true e at resized spread = λ t. cond (resized t) (work.Resize (at t)) (spread_work r.rebalanced)
    by_test false e at resized spread = λ t. cond (resized t) (work.Resize next) (spread_work (spread t))

-- where it changes its own segment alone, or nothing, the potential stays
pub paid_quietly : (t : TallyView) (done : Work) → IsWork done → charge_by done ≤ 514 → IsPaid t t done
paid_quietly t done low few = record { low = low; pays = omega arith }

module _ (change : Change) (i : ℕ) (t : TallyView) (is : IsTally t) (balanced : IsBalanced t.height t.counts) (within : i < 2 ^ t.height) (some : adds change ≡ false → 1 ≤ get_or t.counts i 0) (few : change ≡ Add → sum t.counts < upper_of t.hmax) where
  added : (c : Change) → adds c ≡ true → c ≡ Add
  added Add e = refl
  added Take e = absurd cc

  may_grow : adds change ≡ true → upper_of t.height < sum t.counts + 1 → t.height + 1 ≤ 16
  may_grow more over = elim (cases_eq t.height t.hmax) [
    | inl top ↦ absurd (omega (arith, over, few (added change more), ap (λ (h : ℕ). upper_of h) top))
    | inr other ↦ omega (arith, is.height_is, is.hmax_is, other)
  ]

  low_height : t.height ≤ 16
  low_height = omega (arith, is.height_is, is.hmax_is)

  -- an update in a segment, once the store is ready for it
  pub paid_changed : (at : ℕ) → at < 2 ^ (readied change i t).height → (adds change ≡ false → 1 ≤ get_or (readied change i t).counts at 0)
      → (new : TallyView) → new ≡ counted (Some change) at (readied change i t) → (r : Report) → reported r ≡ report_by t.height i (broken_in change i t) t.marks
      → IsPaid t new (work_by new.height true r)
  paid_changed at there left new new_is r report =
      let told = work_is (adds change) t.height i (broken_in change i t) t.marks r new.height (ap (λ (t : TallyView). t.height) new_is) report in
      subst (IsPaid t new) (sym told) (subst (λ (v : TallyView). IsPaid t v (work_of (adds change) t.height (broken_in change i t))) (sym new_is) (record {
        low = low_work t.height t.counts i (adds change) low_height is.size within some balanced may_grow (broken_in change i t) (sym (broken_is change i t));
        pays = subst (λ (n : ℕ). n + potential_of (counted (Some change) at (readied change i t)) ≤ potential_of t + 514) (sym (charge_is (adds change) t.height (broken_in change i t)))
            (paid_by_counts t.height t.counts i (adds change) low_height is.size within some balanced may_grow t.marks is.drift (broken_in change i t) (sym (broken_is change i t)) at there left);
      }))

-- an answer tells whether anything changed
pub put_changed : (hmax : ℕ) (outcome : Outcome) → put_changes (put_of hmax outcome) ≡ changes outcome
put_changed hmax Unchanged = refl
put_changed hmax Replaced = refl
put_changed hmax Changed = refl

pub took_changed : (outcome : Outcome) → took_of outcome ≡ changes outcome
took_changed Unchanged = refl
took_changed Replaced = refl
took_changed Changed = refl
