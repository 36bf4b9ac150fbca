use Rattle.std.proofs.Common.{◌-◌, ◌<◌, ◌/◌, length, ap, subst, sym, ◌∙◌, arith, refl, rules}
use Rattle.density_rule.specs.declared.TheConstants.{SEGMENT_RECORDS}
use Rattle.spread_plan.specs.Moves.{counts_moved}
use Rattle.spread_plan.specs.States.{PlanView, IsSpreading, moves_to_spread}
use Rattle.spread_plan.proofs.Counts.{counts_spread_on, spreading_moved}
use Rattle.spread_plan.proofs.Steps.{spreading_on, spread_on, share_before, spread_then}
use Rattle.spread_plan.proofs.spread.SpreadMovesIterator.next.Goals as goal

pub loop-self-preserved : goal.loop-self-preserved
loop-self-preserved c =
    let s = c.loop-self.self-inside in let before = s.to - 1 in
    let first = c.shared_before-self-inside.ensures in let stop = c.min-self-inside.ensures in
    let is = c.loop-self.invariant.0 in let done = c.loop-self-test.true in let some : 0 < s.to = omega (arith, c.if-self-eq0.false) in
    let next = subst (λ a. IsSpreading s.records s.segments before a c.min-self-inside.result) (sym first) (spreading_on s.records s.segments s.to s.start s.end is done some c.min-self-inside.result stop) in
    let moves = ap (λ a. moves_to_spread s.records s.segments before a c.min-self-inside.result) first ∙ spread_on s.records s.segments s.to s.start s.end is done some c.min-self-inside.result stop in
    let counts = counts_spread_on s.records s.segments s.to s.start s.end is done some c.shared_before-self-inside.result c.min-self-inside.result (omega (arith, first, share_before s.records s.segments s.to s.start s.end is done some)) stop next.forward in
    (next, (λ t. record { moves = moves t; counts = counts t }) ∙ c.loop-self.invariant.1)

pub returns-clause-goes : goal.returns-clause-goes
returns-clause-goes c =
    let s = c.loop-self.self-inside in
    let is = c.loop-self.invariant.0 in
    let some : s.start < s.end = omega (arith, c.loop-self-test.false, is.forward) in
    let gives = ap (λ (p : PlanView). p.moves) (sym c.self.view_is ∙ sym c.loop-self.invariant.1) ∙ spread_then s.records s.segments s.to s.start s.end is some ((s.end - 1) / SEGMENT_RECORDS) c.max-first.result refl c.max-first.ensures in
    let shorter = ap length gives in search rules

pub returns-clause-steps : goal.returns-clause-steps
returns-clause-steps c =
    let s = c.loop-self.self-inside in
    let is = c.loop-self.invariant.0 in
    let some : s.start < s.end = omega (arith, c.loop-self-test.false, is.forward) in
    let from = (s.end - 1) / SEGMENT_RECORDS in
    let view = sym c.self.view_is ∙ sym c.loop-self.invariant.1 in (
      ap (λ (p : PlanView). p.moves) view ∙ spread_then s.records s.segments s.to s.start s.end is some from c.max-first.result refl c.max-first.ensures,
      spreading_moved s.records s.segments s.to s.start s.end is some from c.max-first.result refl c.max-first.ensures ∙ ap (λ (p : PlanView). counts_moved (record { from = from; to = s.to; count = s.end - c.max-first.result }) p.counts) (sym view),
    )
