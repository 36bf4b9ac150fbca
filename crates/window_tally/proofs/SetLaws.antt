-- The counts of a tree, and a new count of one segment.
use Rattle.std.proofs.Common.{◌≡◌, ℕ, ◌+◌, ◌-◌, ◌/◌, ◌^◌, ◌<◌, ◌≤◌, List, length, get_or, set, sym, ap, subst, ◌∙◌, arith, inl, inr, Bool, true, false, not, Some}
use Rattle.std.proofs.lemmas.Bool.{cases_eq, cond-true, cond-false}
use Rattle.density_rule.specs.Windows.{count_in}
use Rattle.density_rule.specs.Bounds.{is_in_bounds}
use Rattle.density_rule.specs.CountUpdates.{count_after, counts_after, is_broken, greatest_below}
use Rattle.density_rule.proofs.Greatest.{greatest_below-more}
use Rattle.density_rule.proofs.Places.{over_in_store}
use Rattle.density_rule.proofs.Changes.{count_in-set, count_in-set_other, count_in-updated, count-le-count_in}
use Rattle.density_rule.proofs.Totals.{count_in-le-sum}
use Rattle.window_tally.specs.TallyPlaces.{place, leaves_of, HasCounts, IsTree}
use Rattle.window_tally.proofs.PlaceLaws.{length-leaves_of, get_or-leaves_of}
use Rattle.window_tally.proofs.PathLaws.{WritesPath}

module _ (height : ℕ) (items : List ℕ) (segment : ℕ) (tree : IsTree height items) (in_store : segment < 2 ^ height) where
  in_range : segment < length (leaves_of height items)
  in_range = omega (arith, length-leaves_of height items tree.size)

  -- what stands at the places over the segment
  pub count_over : (h : ℕ) → h ≤ height → get_or items (place height h (segment / 2 ^ h)) 0 ≡ count_in (leaves_of height items) h (segment / 2 ^ h)
  count_over h le = tree.sums h (segment / 2 ^ h) (over_in_store height h segment le in_store)

  pub count_below : get_or items (place height 0 (segment / 2 ^ 0)) 0 ≡ get_or (leaves_of height items) segment 0
  count_below = ap (λ (n : ℕ). get_or items (place height 0 n) 0) {x = segment / 2 ^ 0} {y = segment} (omega arith) ∙ sym (get_or-leaves_of height segment items in_store)

  pub count_few : (h : ℕ) → h ≤ height → get_or items (place height h (segment / 2 ^ h)) 0 < 2 ^ 31
  count_few h le = omega (arith, count_over h le, count_in-le-sum (leaves_of height items) h (segment / 2 ^ h), tree.few)

  pub count_rises : (h : ℕ) → h ≤ height → get_or (leaves_of height items) segment 0 ≤ get_or items (place height h (segment / 2 ^ h)) 0
  count_rises h le = omega (arith, count_over h le, count-le-count_in (leaves_of height items) segment h in_range)

  -- a new count of the segment, and so of a window over it
  pub count_set : (h count : ℕ) → h ≤ height → get_or items (place height h (segment / 2 ^ h)) 0 - get_or items (place height 0 (segment / 2 ^ 0)) 0 + count ≡ count_in (set (leaves_of height items) segment count) h (segment / 2 ^ h)
  count_set h count le = omega (arith, count_over h le, count_rises h le, count_below, count_in-set (leaves_of height items) segment h count in_range)

  pub has_set : (count top : ℕ) (new : List ℕ) → height < top → WritesPath 0 (λ h. count_in (set (leaves_of height items) segment count) h (segment / 2 ^ h)) height segment top items new → HasCounts height new (set (leaves_of height items) segment count)
  has_set count top new all path h k window = elim (cases_eq (segment / 2 ^ h) k) [
    | inl over ↦ subst (λ q. get_or new (place height h q) 0 ≡ count_in (set (leaves_of height items) segment count) h q) over (path.over h (omega (arith, window.low)))
    | inr other ↦ path.others h k window (λ lt. other) ∙ tree.sums h k window ∙ sym (count_in-set_other (leaves_of height items) segment h k count in_range other)
  ]

  -- a window over the segment, after an update
  module _ (adds : Bool) (some : adds ≡ false → 1 ≤ get_or (leaves_of height items) segment 0) (h : ℕ) (le : h ≤ height) where
    test_over : is_broken height (counts_after adds (leaves_of height items) segment) segment h ≡ not (is_in_bounds height h (count_after adds (get_or items (place height h (segment / 2 ^ h)) 0)))
    test_over = ap (λ (n : ℕ). not (is_in_bounds height h n)) (count_in-updated (leaves_of height items) segment h adds in_range some ∙ ap (count_after adds) (sym (count_over h le)))

    pub broken_here : is_in_bounds height h (count_after adds (get_or items (place height h (segment / 2 ^ h)) 0)) ≡ false
        → greatest_below (is_broken height (counts_after adds (leaves_of height items) segment) segment) (h + 1) ≡ Some h
    broken_here e = greatest_below-more _ h ∙ cond-true _ _ _ (test_over ∙ ap not e)

    pub kept_here : is_in_bounds height h (count_after adds (get_or items (place height h (segment / 2 ^ h)) 0)) ≡ true
        → greatest_below (is_broken height (counts_after adds (leaves_of height items) segment) segment) (h + 1) ≡ greatest_below (is_broken height (counts_after adds (leaves_of height items) segment) segment) h
    kept_here e = greatest_below-more _ h ∙ cond-false _ _ _ (test_over ∙ ap not e)
