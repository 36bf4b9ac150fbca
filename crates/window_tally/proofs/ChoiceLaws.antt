-- What follows from a choice.
use Rattle.std.proofs.Common.{◌≡◌, ℕ, suc, ◌+◌, ◌-◌, ◌/◌, ◌^◌, ◌<◌, ◌≤◌, ◌==◌, nat_lt, nat_le, Bool, true, false, cond, not, length, get_or, sum, refl, sym, ap, subst, ◌∙◌, arith, inl, inr, Option, Some, None}
use Rattle.std.proofs.lemmas.Bool.{cases_lt, eqb-true, eqb-false, eq-eqb, ltb-true, ltb-false, le-ltb, cond-true, cond-false, and_right, lt-leb}
use Rattle.std.proofs.lemmas.List.Sums.{get_or-le-sum_by}
use Rattle.density_rule.specs.Bounds.{upper_of, lower_of, least_of, is_in_bounds, IsInBounds}
use Rattle.density_rule.specs.Windows.{count_in, IsBalanced}
use Rattle.density_rule.specs.CountUpdates.{count_after, counts_after, is_broken, highest_broken}
use Rattle.density_rule.specs.Marks.{mark_of}
use Rattle.density_rule.proofs.Bounding.{least_of-le-lower_of, over_upper_of, upper_of-lt}
use Rattle.density_rule.proofs.Greatest.{IsGreatest, greatest_is}
use Rattle.density_rule.proofs.Places.{over_in_store, root_window, one_over}
use Rattle.density_rule.proofs.Changes.{count_in-updated}
use Rattle.density_rule.proofs.Drift.{cause_updated}
use Rattle.density_rule.proofs.Balance.{count_in-root, new_root, shrinks_from}
use Rattle.window_tally.specs.declared.Change.{Change}
use Rattle.window_tally.specs.declared.Change.TheVariants.{Add, Take}
use Rattle.window_tally.specs.declared.Pick.TheVariants.{Spread, Grow, Shrink, AtLimit}
use Rattle.density_rule.specs.declared.Window.{Window}
use Rattle.window_tally.specs.TallyView.{TallyView, IsTally}
use Rattle.window_tally.specs.Choice.{adds, resize_of, pick_of, IsPossible}

pub taken : (change : Change) (n : ℕ) → (change ≡ Take → 1 ≤ n) → adds change ≡ false → 1 ≤ n
taken Add n some e = cc
taken Take n some e = some refl

-- a window that is picked is one above the greatest broken height
record IsCause (broken : Option ℕ) (segment : ℕ) (w : Window) : Type 0 where
  c : ℕ
  broken_is : broken ≡ Some c
  height_is : w.height ≡ c + 1

cause_of : (hmax height segment : ℕ) (change : Change) (broken : Option ℕ) (w : Window) → pick_of hmax height segment change broken ≡ Spread w → IsCause broken segment w
cause_of hmax height segment change None w is = cc
cause_of hmax height segment change (Some c) w is = by_test (c == height) is
  where
    no_spread : (change : Change) (b : Bool) → (elim change [ Add ↦ cond b Grow AtLimit | Take ↦ Shrink ]) ≡ Spread w → ⊥
    no_spread Add true e = cc
    no_spread Add false e = cc
    no_spread Take b e = cc

    resize : (change : Change) → resize_of hmax height change ≡ Spread w → ⊥
    resize Add e = no_spread Add (nat_lt height hmax) e
    resize Take e = cc

    by_test : (b : Bool) → cond b (resize_of hmax height change) (Spread (record { height = c + 1; number = segment / 2 ^ (c + 1) })) ≡ Spread w → IsCause (Some c) segment w
    by_test true e = absurd (resize change e)
    by_test false e = record { c = c; broken_is = refl; height_is = (let same : record { height = c + 1; number = segment / 2 ^ (c + 1) } ≡ w = cc in ap (λ (v : Window). v.height) (sym same)) }

above : (most n : ℕ) → n ≡ most → most < n + 1
above most n e = omega arith

by_not : (b : Bool) → not b ≡ true → b ≡ false
by_not true e = cc
by_not false e = refl

module _ (t : TallyView) (is : IsTally t) (segment : ℕ) (change : Change) (in_store : segment < 2 ^ t.height) (some : change ≡ Take → 1 ≤ get_or t.counts segment 0) where
  low : t.height ≤ 16
  low = omega (arith, is.height_is, is.hmax_is)

  in_range : segment < length t.counts
  in_range = omega (arith, is.size)

  -- the cause of a spread had had 2^c updates, where it was rested
  pub cause_marked : (w : Window) (n : ℕ) → pick_of t.hmax t.height segment change (highest_broken t.height (counts_after (adds change) t.counts segment) segment) ≡ Spread w → mark_of t.marks (w.height - 1) (segment / 2 ^ (w.height - 1)) ≡ Some n → 2 ^ (w.height - 1) ≤ n
  cause_marked w n picked marked =
      let cause = cause_of t.hmax t.height segment change _ w picked in
      let below : w.height - 1 ≡ cause.c = omega (arith, cause.height_is) in
      subst (λ (h : ℕ). 2 ^ h ≤ n) (sym below) (cause_updated t.height t.counts t.marks segment cause.c n (adds change) low in_range (taken change _ some) is.drift cause.broken_is (subst (λ (h : ℕ). mark_of t.marks h (segment / 2 ^ h) ≡ Some n) below marked))

  -- the root after the update
  root_after : count_in (counts_after (adds change) t.counts segment) t.height (segment / 2 ^ t.height) ≡ count_after (adds change) (sum t.counts)
  root_after =
      let number : segment / 2 ^ t.height ≡ 0 = one_over segment t.height 0 (omega arith) (omega (arith, in_store)) in
      count_in-updated t.counts segment t.height (adds change) in_range (taken change _ some)
      ∙ ap (λ (k : ℕ). count_after (adds change) (count_in t.counts t.height k)) number ∙ ap (count_after (adds change)) (count_in-root t.height t.counts is.size)

  module _ (balanced : IsBalanced t.height t.counts) where
    root_fits : IsInBounds t.height t.height (sum t.counts)
    root_fits = subst (IsInBounds t.height t.height) (count_in-root t.height t.counts is.size) (balanced t.height 0 (root_window t.height))

    pub possible : (broken : Option ℕ) → highest_broken t.height (counts_after (adds change) t.counts segment) segment ≡ broken → IsPossible t (pick_of t.hmax t.height segment change broken)
    possible None e = tt
    possible (Some c) e = by_test (c == t.height) refl
      where
        greatest : IsGreatest (is_broken t.height (counts_after (adds change) t.counts segment) segment) (suc t.height) (Some c)
        greatest = subst (IsGreatest (is_broken t.height (counts_after (adds change) t.counts segment) segment) (suc t.height)) e (greatest_is (is_broken t.height (counts_after (adds change) t.counts segment) segment) (suc t.height))

        root_broken : c ≡ t.height → is_in_bounds t.height t.height (count_after (adds change) (sum t.counts)) ≡ false
        root_broken same = subst (λ (n : ℕ). is_in_bounds t.height t.height n ≡ false) root_after (by_not _ (subst (λ (h : ℕ). is_broken t.height (counts_after (adds change) t.counts segment) segment h ≡ true) same greatest.1))

        by_height : (h : ℕ) → (1 ≤ h → lower_of h ≤ sum t.counts) → least_of h h ≤ sum t.counts
        by_height h least = elim (cases_lt 0 h) [
          | inl lt ↦ omega (arith, least (omega arith), least_of-le-lower_of h h)
          | inr none ↦ omega (arith, ap (λ (g : ℕ). least_of g h) {x = h} {y = 0} (omega arith))
        ]

        by_change : (change : Change) → is_in_bounds t.height t.height (count_after (adds change) (sum t.counts)) ≡ false → (adds change ≡ false → 1 ≤ sum t.counts) → IsPossible t (resize_of t.hmax t.height change)
        by_change Add out some_here = by_limit (nat_lt t.height t.hmax) refl
          where
            by_limit : (b : Bool) → nat_lt t.height t.hmax ≡ b → IsPossible t (cond b Grow AtLimit)
            by_limit true lt =
                let room = ltb-true t.height t.hmax lt in
                let next = new_root true t.height (sum t.counts) low root_fits out (λ _ _. omega (arith, is.hmax_is)) some_here in
                let least : lower_of (t.height + 1) ≤ sum t.counts = next.least_is (omega arith) in
                (room, record { least_is = omega (arith, least_of-le-lower_of (t.height + 1) (t.height + 1)); most_is = next.most_is })
            by_limit false ge =
                let same : t.height ≡ t.hmax = omega (arith, is.height_is, ltb-false t.height t.hmax ge) in
                (same, over_upper_of t.height t.height (sum t.counts) root_fits out ∙ ap (λ (h : ℕ). upper_of h) same)
        by_change Take out some_here =
            let next = new_root false t.height (sum t.counts) low root_fits out (λ f. absurd cc) some_here in
            (shrinks_from t.height (sum t.counts) root_fits out (some_here refl), record { least_is = by_height (t.height - 1) next.least_is; most_is = next.most_is })

        by_test : (b : Bool) → (c == t.height) ≡ b → IsPossible t (cond b (resize_of t.hmax t.height change) (Spread (record { height = c + 1; number = segment / 2 ^ (c + 1) })))
        by_test true same = by_change change (root_broken (eqb-true c t.height same)) (λ f. omega (arith, taken change _ some f, get_or-le-sum_by (λ x. x) t.counts segment 0 in_range))
        by_test false other =
            let below : c + 1 ≤ t.height = omega (arith, greatest.0, eqb-false c t.height other) in
            let window = over_in_store t.height (c + 1) segment below in_store in
            (window, omega arith, balanced (c + 1) (segment / 2 ^ (c + 1)) window)

    pub at_limit : change ≡ Add → sum t.counts ≡ upper_of t.hmax → pick_of t.hmax t.height segment change (highest_broken t.height (counts_after (adds change) t.counts segment) segment) ≡ AtLimit
    at_limit add full = ap (pick_of t.hmax t.height segment change) (cond-true _ _ _ broken) ∙ cond-true _ _ _ (eq-eqb t.height t.height refl) ∙ ap (resize_of t.hmax t.height) add ∙ cond-false _ _ _ (le-ltb t.height t.hmax (omega (arith, same)))
      where
        same : t.height ≡ t.hmax
        same = elim (cases_lt t.height t.hmax) [
          | inr ge ↦ omega (arith, is.height_is)
          | inl lt ↦
              let d = t.hmax - t.height - 1 in
              let whole : t.height + suc (t.hmax - t.height - 1) ≡ t.hmax = omega arith in
              let more : upper_of t.height < upper_of t.hmax = subst (λ (h : ℕ). upper_of t.height < upper_of h) whole (upper_of-lt t.height (t.hmax - t.height - 1) (omega (arith, is.hmax_is))) in
              absurd (omega (arith, root_fits.most_is))
        ]

        over : is_in_bounds t.height t.height (sum t.counts + 1) ≡ false
        over =
            let past : upper_of t.height < sum t.counts + 1 = above (upper_of t.height) (sum t.counts) (full ∙ ap (λ (h : ℕ). upper_of h) (sym same)) in
            and_right (nat_le (least_of t.height t.height) (sum t.counts + 1)) (nat_le (sum t.counts + 1) (upper_of t.height)) (lt-leb (sum t.counts + 1) (upper_of t.height) past)

        broken : is_broken t.height (counts_after (adds change) t.counts segment) segment t.height ≡ true
        broken = ap (λ (n : ℕ). not (is_in_bounds t.height t.height n)) (root_after ∙ ap (λ (c : Change). count_after (adds c) (sum t.counts)) add) ∙ ap not over
