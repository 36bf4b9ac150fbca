use Rattle.std.proofs.Common.{◌<◌, ◌-◌, get_or, length, sym, ap, ◌∙◌, arith}
use Rattle.density_rule.specs.Spread.{shares}
use Rattle.density_rule.proofs.Shares.{get_or-shares}
use Rattle.spread_plan.specs.States.{PlanView}
use Rattle.spread_plan.proofs.Counts.{length-spreading, low_at, target_at, high_at}
use Rattle.spread_plan.proofs.spread.SpreadMoves.records_in.Goals as goal

pub returns-then-segment-self : goal.returns-then-segment-self
returns-then-segment-self c =
    let s = c.self.inside in
    c.packed_in.ensures ∙ sym (low_at s.records s.segments s.to s.start s.end c.args.segment c.if-segment-self.true) ∙ ap (λ (p : PlanView). get_or p.counts c.args.segment 0) c.self.view_is

pub share-share-requires : goal.share-share-requires
share-share-requires c =
    let s = c.self.inside in
    omega (arith, c.requires, ap (λ (p : PlanView). length p.counts) c.self.view_is, length-spreading s.records s.segments s.to s.start s.end c.self.invariant.to_is)

pub overflow_sub-result-then-segment-self-2 : goal.overflow_sub-result-then-segment-self-2
overflow_sub-result-then-segment-self-2 c =
    let s = c.self.inside in
    let within : c.args.segment < s.segments = omega (arith, c.requires, ap (λ (p : PlanView). length p.counts) c.self.view_is, length-spreading s.records s.segments s.to s.start s.end c.self.invariant.to_is) in
    omega (arith, c.self.invariant.within, ap (λ k. get_or (shares s.records s.segments) k 0) c.if-segment-self-2.true, get_or-shares s.records s.segments c.args.segment within, c.share-share.ensures)

pub returns-then-segment-self-2 : goal.returns-then-segment-self-2
returns-then-segment-self-2 c =
    let s = c.self.inside in
    let counts = c.args.self.now.counts in
    let within : c.args.segment < s.segments = omega (arith, c.requires, ap (λ (p : PlanView). length p.counts) c.self.view_is, length-spreading s.records s.segments s.to s.start s.end c.self.invariant.to_is) in
    let here = c.if-segment-self-2.true in
    ap (λ k. k - (s.end - s.start)) (c.share-share.ensures ∙ sym (get_or-shares s.records s.segments c.args.segment within) ∙ ap (λ k. get_or (shares s.records s.segments) k 0) here)
    ∙ sym (target_at s.records s.segments s.to s.start s.end) ∙ ap (λ (p : PlanView). get_or p.counts s.to 0) c.self.view_is ∙ ap (λ k. get_or counts k 0) (sym here)

pub returns-else-segment-self-2 : goal.returns-else-segment-self-2
returns-else-segment-self-2 c =
    let s = c.self.inside in
    let within : c.args.segment < s.segments = omega (arith, c.requires, ap (λ (p : PlanView). length p.counts) c.self.view_is, length-spreading s.records s.segments s.to s.start s.end c.self.invariant.to_is) in
    c.share-share.ensures ∙ sym (get_or-shares s.records s.segments c.args.segment within)
    ∙ sym (high_at s.records s.segments s.to s.start s.end c.args.segment (omega (arith, c.if-segment-self.false, c.if-segment-self-2.false))) ∙ ap (λ (p : PlanView). get_or p.counts c.args.segment 0) c.self.view_is
