use Rattle.std.proofs.Common.{get_or, length, sym, ap, ◌∙◌, arith}
use Rattle.spread_plan.specs.States.{PlanView}
use Rattle.spread_plan.proofs.Counts.{length-packing, packed_at, source_at, rest_at}
use Rattle.spread_plan.proofs.pack.PackMoves.records_in.Goals as goal

pub bounds-self-inside-segment : goal.bounds-self-inside-segment
bounds-self-inside-segment c =
    let s = c.self.inside in
    omega (arith, c.requires, ap (λ (p : PlanView). length p.counts) c.self.view_is, length-packing s.rest.now s.segments s.records s.next, c.if-self-segment.true)

pub returns-then-segment-self : goal.returns-then-segment-self
returns-then-segment-self c =
    let s = c.self.inside in
    c.packed_in.ensures ∙ sym (packed_at s.rest.now s.segments s.records s.next c.args.segment c.if-segment-self.true) ∙ ap (λ (p : PlanView). get_or p.counts c.args.segment 0) c.self.view_is

pub returns-else-segment-self : goal.returns-else-segment-self
returns-else-segment-self c =
    let s = c.self.inside in
    sym (source_at s.rest.now s.segments s.records s.next c.args.segment (omega (arith, c.if-segment-self.false, c.if-self-segment.false))) ∙ ap (λ (p : PlanView). get_or p.counts c.args.segment 0) c.self.view_is

pub returns-then-self-segment : goal.returns-then-self-segment
returns-then-self-segment c =
    let s = c.self.inside in
    sym (rest_at s.rest.now s.segments s.records s.next c.args.segment (omega (arith, c.if-self-segment.true))) ∙ ap (λ (p : PlanView). get_or p.counts c.args.segment 0) c.self.view_is
