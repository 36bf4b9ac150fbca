use Rattle.std.proofs.Common.{◌≡◌, ◌+◌, ◌-◌, ◌/◌, List, ◌∷◌, ℕ, subst, sym, ap, ◌∙◌, ◌<◌, arith}
use Rattle.density_rule.specs.declared.TheConstants.{SEGMENT_RECORDS}
use Rattle.spread_plan.specs.Moves.{counts_moved}
use Rattle.spread_plan.specs.States.{PlanView, IsPacking, moves_to_pack, packing_view}
use Rattle.spread_plan.proofs.Counts.{counts_on, packing_moved}
use Rattle.spread_plan.proofs.Steps.{packing_on, coming_on, coming_then}
use Rattle.spread_plan.proofs.pack.PackMovesIterator.next.Goals as goal

pub loop-self-preserved : goal.loop-self-preserved
loop-self-preserved c =
    let s = c.loop-self.self-inside in let rest = c.in_ok-count.rest.now in let count = c.in_ok-count.count.now in
    let split : s.rest.now ≡ count ∷ rest = c.in_ok-count.ensures.cases.0 in
    let is : IsPacking (count ∷ rest) s.segments s.records s.next s.end = subst (λ (l : List ℕ). IsPacking l s.segments s.records s.next s.end) split c.loop-self.invariant.0 in
    let stop = sym c.min-self-inside.ensures in
    let moves = ap (moves_to_pack rest (s.segments + 1) (s.records + count) s.records) (sym stop) ∙ coming_on rest count s.segments s.records s.next s.end is c.loop-self-test.true in
    let counts = counts_on rest count s.segments s.records s.next s.end is c.loop-self-test.true in (
      subst (IsPacking rest (s.segments + 1) (s.records + count) s.records) stop (packing_on rest count s.segments s.records s.next s.end is c.loop-self-test.true),
      (λ t. record { moves = moves t; counts = counts t }) ∙ ap (λ (l : List ℕ). packing_view l s.segments s.records s.next s.end) (sym split) ∙ c.loop-self.invariant.1,
    )

pub returns-clause-steps : goal.returns-clause-steps
returns-clause-steps c =
    let s = c.loop-self.self-inside in
    let is = c.loop-self.invariant.0 in
    let some : s.next < s.end = omega (arith, c.loop-self-test.false, is.forward) in
    let view = sym c.self.view_is ∙ sym c.loop-self.invariant.1 in (
      ap (λ (p : PlanView). p.moves) view ∙ coming_then s.rest.now s.segments s.records s.next s.end is some c.min-end.result c.min-end.ensures,
      packing_moved s.rest.now s.segments s.records s.next s.end is some c.min-end.result c.min-end.ensures ∙ ap (λ (p : PlanView). counts_moved (record { from = s.segments - 1; to = s.next / SEGMENT_RECORDS; count = c.min-end.result - s.next }) p.counts) (sym view),
    )
