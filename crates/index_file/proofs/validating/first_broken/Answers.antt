use Rattle.std.proofs.Common.{◌≡◌, ℕ, ◌+◌, ◌-◌, ◌*◌, ◌^◌, ◌<◌, ◌≤◌, Some, None, refl, sym, ap, subst, ◌∙◌, arith}
use Rattle.std.proofs.lemmas.Nat.{pow_pos, pow-add, mul-add-lt}
use Rattle.header_gate.specs.declared.reason.Reason.TheVariants.{Index}
use Rattle.map_model.specs.FileReasons.{first_reason}
use Rattle.map_model.proofs.ArrayReasons.{none_of_each, none_more}
use Rattle.index_file.specs.Area.{count_place}
use Rattle.index_file.specs.IndexReasons.{row_reason}
use Rattle.index_file.proofs.ValidatingLaws.{reason_here, balanced_by}
use Rattle.index_file.proofs.validating.first_broken.Goals as goal

-- the first segment of a window is one of the store
first_within : (height h k : ℕ) → h ≤ height → k < 2 ^ (height - h) → k * 2 ^ h < 2 ^ height
first_within height h k low lt =
    let levels : h + (height - h) ≡ height = omega (arith, low) in
    let power : 2 ^ h * 2 ^ (height - h) ≡ 2 ^ height = sym (pow-add 2 h (height - h)) ∙ ap (λ (n : ℕ). 2 ^ n) levels in
    omega (arith, mul-add-lt k (2 ^ h) 0 (2 ^ (height - h)) lt (pow_pos h), power)

pub loop-h-init : goal.loop-h-init
loop-h-init c l = none_of_each (row_reason l c.args.tally.now.height c.args.tally.now.counts) 0 (λ i lt. absurd (omega (arith, lt)))

pub loop-h-preserved : goal.loop-h-preserved
loop-h-preserved c l = none_more (row_reason l c.args.tally.now.height c.args.tally.now.counts) c.loop-h.h (c.loop-h.invariant l) (c.in_default.ensures.none refl l)

pub returns-in-Some-clause-broken : goal.returns-in-Some-clause-broken
returns-in-Some-clause-broken c =
    let w = c.in-Some.window in
    let broken = c.in-Some.ensures.broken in
    let low : c.loop-h.h ≤ c.args.tally.now.height = omega (arith, c.loop-h-test.true, c.height-h-end.ensures.height) in (
      omega (arith, broken.0, low),
      subst (λ (n : ℕ). c.in-Some.window.number * 2 ^ n < 2 ^ c.args.tally.now.height) (sym broken.0) (first_within c.args.tally.now.height c.loop-h.h c.in-Some.window.number low broken.1),
      λ l.
          reason_here (row_reason l c.args.tally.now.height c.args.tally.now.counts) c.loop-h.h (c.args.tally.now.height + 1) (Index (count_place l (c.in-Some.window.number * 2 ^ c.loop-h.h))) (c.loop-h.invariant l) (broken.2 l) (omega (arith, low))
          ∙ ap (λ (n : ℕ). Some (Index (count_place l (c.in-Some.window.number * 2 ^ n)))) (sym broken.0),
    )

pub returns-clause-none : goal.returns-clause-none
returns-clause-none c same l =
    let done : c.loop-h.h ≡ c.args.tally.now.height + 1 = omega (arith, c.loop-h-test.false, c.loop-h.auto.h-end, c.height-h-end.ensures.height) in
    subst (λ (n : ℕ). first_reason (row_reason l c.args.tally.now.height c.args.tally.now.counts) n ≡ None) done (c.loop-h.invariant l)

pub returns-clause-balanced : goal.returns-clause-balanced
returns-clause-balanced c same = balanced_by c.args.tally.now.height c.args.tally.now.counts (λ l. returns-clause-none c refl l)
