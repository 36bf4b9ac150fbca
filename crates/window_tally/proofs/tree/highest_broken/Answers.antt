use Rattle.std.proofs.Common.{◌≡◌, ℕ, suc, ◌≤◌, ◌/◌, ◌^◌, get_or, ap, sym, ◌∙◌, arith, Bool, false, refl, Option, Some, None}
use Rattle.std.specs.Option.{IfSome}
use Rattle.density_rule.proofs.Greatest.{greatest_below_lt}
use Rattle.density_rule.specs.Bounds.{is_in_bounds}
use Rattle.density_rule.specs.CountUpdates.{count_after, counts_after, is_broken, greatest_below}
use Rattle.window_tally.specs.declared.Change.{Change}
use Rattle.window_tally.specs.declared.Change.TheVariants.{Add, Take}
use Rattle.window_tally.specs.Choice.{adds}
use Rattle.window_tally.specs.TallyPlaces.{place, leaves_of}
use Rattle.window_tally.proofs.SetLaws.{count_few, count_rises, broken_here, kept_here}
use Rattle.window_tally.proofs.tree.highest_broken.Goals as goal
use Rattle.window_tally.proofs.tree.highest_broken.Goals.{After-in_bounds, then-not-in_bounds, else-not-in_bounds}

by_change : (change : Change) (n : ℕ) → (change ≡ Take → 1 ≤ n) → adds change ≡ false → 1 ≤ n
by_change Add n some e = cc
by_change Take n some e = some refl

pub changed-requires-clause-fits : goal.changed-requires-clause-fits
changed-requires-clause-fits c = omega (arith, ap (λ p. get_or c.args.counts.now p 0) c.place_over.ensures.place, count_few c.args.height c.args.counts.now c.args.segment c.requires.tree c.requires.in_store c.loop-h.h (omega arith))

pub changed-requires-clause-some : goal.changed-requires-clause-some
changed-requires-clause-some c = λ is. omega (arith, ap (λ p. get_or c.args.counts.now p 0) c.place_over.ensures.place, count_rises c.args.height c.args.counts.now c.args.segment c.requires.tree c.requires.in_store c.loop-h.h (omega arith), c.requires.some is)

-- the test of an iteration is that of the count which the window over the segment would have
tested : (c : After-in_bounds) → is_in_bounds c.args.height c.loop-h.h (count_after (adds c.args.change) (get_or c.args.counts.now (place c.args.height c.loop-h.h (c.args.segment / 2 ^ c.loop-h.h)) 0)) ≡ c.in_bounds.result
tested c = ap (λ n. is_in_bounds c.args.height c.loop-h.h n) (sym (c.changed.ensures ∙ ap (λ p. count_after (adds c.args.change) (get_or c.args.counts.now p 0)) c.place_over.ensures.place)) ∙ sym c.in_bounds.ensures

pub loop-h-preserved : goal.loop-h-preserved
loop-h-preserved c =
    let some = by_change c.args.change _ c.requires.some in
    let test = tested (goal.at.loop-h-preserved c).After-in_bounds in
    let inside : c.loop-h.h ≤ c.args.height = omega arith in
    elim c.if-not-in_bounds.branch [
      | then-not-in_bounds w ↦ w.broken-is ∙ sym (broken_here c.args.height c.args.counts.now c.args.segment c.requires.tree c.requires.in_store (adds c.args.change) some c.loop-h.h inside (test ∙ w.if-not-in_bounds.true))
      | else-not-in_bounds w ↦ w.broken-is ∙ c.loop-h.invariant ∙ sym (kept_here c.args.height c.args.counts.now c.args.segment c.requires.tree c.requires.in_store (adds c.args.change) some c.loop-h.h inside (test ∙ w.if-not-in_bounds.false))
    ]

-- all heights were looked at
pub returns-clause-answer : goal.returns-clause-answer
returns-clause-answer c = let end : c.loop-h.h ≡ suc c.args.height = omega arith in c.loop-h.invariant ∙ ap (greatest_below (is_broken c.args.height (counts_after (adds c.args.change) (leaves_of c.args.height c.args.counts.now) c.args.segment) c.args.segment)) end

below : (broken : Option ℕ) (test : ℕ → Bool) (height : ℕ) → broken ≡ greatest_below test (suc height) → IfSome broken (λ h. h ≤ height)
below None test height is = tt
below (Some h) test height is = omega (arith, greatest_below_lt test (suc height) h (sym is))

pub returns-clause-within : goal.returns-clause-within
returns-clause-within c = let end : c.loop-h.h ≡ suc c.args.height = omega arith in below c.loop-h.broken (is_broken c.args.height (counts_after (adds c.args.change) (leaves_of c.args.height c.args.counts.now) c.args.segment) c.args.segment) c.args.height (c.loop-h.invariant ∙ ap (greatest_below (is_broken c.args.height (counts_after (adds c.args.change) (leaves_of c.args.height c.args.counts.now) c.args.segment) c.args.segment)) end)
