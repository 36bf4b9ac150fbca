use Rattle.std.proofs.Common.{◌≡◌, ℕ, ◌^◌, ◌<◌, ◌≤◌, None, sym, subst, ◌∙◌, arith, inl, inr}
use Rattle.std.proofs.lemmas.Bool.{cases_lt}
use Rattle.header_gate.specs.declared.reason.Reason.TheVariants.{Index}
use Rattle.map_model.specs.FileReasons.{first_reason}
use Rattle.map_model.proofs.ArrayReasons.{none_of_each, none_more}
use Rattle.veb_index.specs.Nodes.{fence_place, fence_by}
use Rattle.veb_index.specs.IndexView.{fence_at}
use Rattle.index_file.specs.Area.{node_place}
use Rattle.index_file.specs.IndexReasons.{order_reason}
use Rattle.index_file.proofs.ValidatingLaws.{reason_here, order_fine, order_few, order_bad}
use Rattle.index_file.proofs.validating.first_misplaced.Goals as goal

pub loop-i-init : goal.loop-i-init
loop-i-init c l = none_of_each (order_reason l c.args.h (fence_by c.args.h (fence_at c.args.index.now.fences))) 2 (λ i lt. order_few l c.args.h (fence_by c.args.h (fence_at c.args.index.now.fences)) i (omega (arith, lt)))

pub loop-i-preserved : goal.loop-i-preserved
loop-i-preserved c l =
    let fence = fence_by c.args.h (fence_at c.args.index.now.fences) in
    none_more (order_reason l c.args.h (fence_by c.args.h (fence_at c.args.index.now.fences))) c.loop-i.i (c.loop-i.invariant l) (order_fine l c.args.h (fence_by c.args.h (fence_at c.args.index.now.fences)) c.loop-i.i (sym c.is_misplaced.ensures ∙ c.if-is_misplaced.false))

pub returns-then-is_misplaced-clause-misplaced : goal.returns-then-is_misplaced-clause-misplaced
returns-then-is_misplaced-clause-misplaced c =
    let below : c.loop-i.i < 2 ^ c.args.h = omega (arith, c.loop-i-test.true, c.power-i-end.ensures) in
    let some : 2 ≤ c.loop-i.i = omega (arith, c.loop-i.auto.i) in (
      omega (arith, some),
      below,
      λ l. reason_here (order_reason l c.args.h (fence_by c.args.h (fence_at c.args.index.now.fences))) c.loop-i.i (2 ^ c.args.h) (Index (node_place l (fence_place c.args.h c.loop-i.i))) (c.loop-i.invariant l)
          (order_bad l c.args.h (fence_by c.args.h (fence_at c.args.index.now.fences)) c.loop-i.i some (sym c.is_misplaced.ensures ∙ c.if-is_misplaced.true)) below,
    )

pub returns-clause-ordered : goal.returns-clause-ordered
returns-clause-ordered c same l = elim (cases_lt 1 (2 ^ c.args.h)) [
  | inl some ↦
      let done : c.loop-i.i ≡ 2 ^ c.args.h = omega (arith, c.loop-i-test.false, c.loop-i.auto.i-end, c.power-i-end.ensures, some) in
      subst (λ (n : ℕ). first_reason (order_reason l c.args.h (fence_by c.args.h (fence_at c.args.index.now.fences))) n ≡ None) done (c.loop-i.invariant l)
  | inr few ↦ none_of_each (order_reason l c.args.h (fence_by c.args.h (fence_at c.args.index.now.fences))) (2 ^ c.args.h) (λ i lt. order_few l c.args.h (fence_by c.args.h (fence_at c.args.index.now.fences)) i (omega (arith, lt, few)))
]
