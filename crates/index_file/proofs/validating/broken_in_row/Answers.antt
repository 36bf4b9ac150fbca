use Rattle.std.proofs.Common.{◌≡◌, ℕ, ◌-◌, ◌*◌, ◌^◌, ◌<◌, true, false, None, refl, sym, ap, subst, ◌∙◌, arith}
use Rattle.density_rule.specs.Bounds.{is_in_bounds}
use Rattle.density_rule.specs.Windows.{count_in}
use Rattle.header_gate.specs.declared.reason.Reason.TheVariants.{Index}
use Rattle.map_model.specs.FileReasons.{first_reason}
use Rattle.map_model.proofs.ArrayReasons.{none_of_each, none_more}
use Rattle.index_file.specs.Area.{count_place}
use Rattle.index_file.specs.IndexReasons.{window_reason}
use Rattle.index_file.proofs.ValidatingLaws.{reason_here, window_fine, window_bad}
use Rattle.index_file.proofs.validating.broken_in_row.Goals as goal

pub loop-number-init : goal.loop-number-init
loop-number-init c l = none_of_each (window_reason l c.args.tally.now.height c.args.tally.now.counts c.args.h) 0 (λ i lt. absurd (omega (arith, lt)))

pub loop-number-preserved : goal.loop-number-preserved
loop-number-preserved c l =
    let t = c.args.tally.now in
    let yes : c.in_bounds.result ≡ true = grind (arith, c.if-not-in_bounds.false) in
    let test : is_in_bounds c.args.tally.now.height c.args.h (count_in c.args.tally.now.counts c.args.h c.loop-number.number) ≡ true =
    ap (is_in_bounds c.args.tally.now.height c.args.h) (sym c.count.ensures) ∙ ap (λ (h : ℕ). is_in_bounds h c.args.h c.count.result) (sym c.height-in-loop-number.ensures.height) ∙ sym c.in_bounds.ensures ∙ yes in
    none_more (window_reason l c.args.tally.now.height c.args.tally.now.counts c.args.h) c.loop-number.number (c.loop-number.invariant l) (window_fine c.args.tally.now.height c.args.tally.now.counts l c.args.h c.loop-number.number test)

pub returns-then-not-in_bounds-clause-broken : goal.returns-then-not-in_bounds-clause-broken
returns-then-not-in_bounds-clause-broken c =
    let no : c.in_bounds.result ≡ false = grind (arith, c.if-not-in_bounds.true) in
    let test : is_in_bounds c.args.tally.now.height c.args.h (count_in c.args.tally.now.counts c.args.h c.loop-number.number) ≡ false =
    ap (is_in_bounds c.args.tally.now.height c.args.h) (sym c.count.ensures) ∙ ap (λ (h : ℕ). is_in_bounds h c.args.h c.count.result) (sym c.height-in-loop-number.ensures.height) ∙ sym c.in_bounds.ensures ∙ no in
    let below : c.loop-number.number < 2 ^ (c.args.tally.now.height - c.args.h) = omega (arith, c.loop-number-test.true, c.power-number-end.ensures, ap (λ (h : ℕ). 2 ^ (h - c.args.h)) c.height.ensures.height) in (
      refl,
      below,
      λ l. reason_here (window_reason l c.args.tally.now.height c.args.tally.now.counts c.args.h) c.loop-number.number (2 ^ (c.args.tally.now.height - c.args.h)) (Index (count_place l (c.loop-number.number * 2 ^ c.args.h))) (c.loop-number.invariant l)
          (window_bad c.args.tally.now.height c.args.tally.now.counts l c.args.h c.loop-number.number test) below,
    )

pub returns-clause-none : goal.returns-clause-none
returns-clause-none c same l =
    let done : c.loop-number.number ≡ 2 ^ (c.args.tally.now.height - c.args.h) = omega (arith, c.loop-number-test.false, c.loop-number.auto.number-end, c.power-number-end.ensures, ap (λ (h : ℕ). 2 ^ (h - c.args.h)) c.height.ensures.height) in
    subst (λ (n : ℕ). first_reason (window_reason l c.args.tally.now.height c.args.tally.now.counts c.args.h) n ≡ None) done (c.loop-number.invariant l)
