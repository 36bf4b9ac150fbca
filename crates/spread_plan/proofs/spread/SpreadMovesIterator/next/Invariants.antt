use Rattle.std.proofs.Common.{◌≡◌}
use Rattle.spread_plan.specs.States.{IsSpreading, spreading_view}
use Rattle.spread_plan.proofs.spread.SpreadMovesIterator.next.Given as goal

-- what is still to come, and the counts before it, stay the same
abbrev pub invariant-loop-self : goal.invariant-loop-self
invariant-loop-self l =
    let s = l.self-inside in let first = l.initial.self-inside in
    IsSpreading s.records s.segments s.to s.start s.end × (spreading_view s.records s.segments s.to s.start s.end ≡ spreading_view first.records first.segments first.to first.start first.end)

abbrev pub decreases-loop-self : goal.decreases-loop-self
decreases-loop-self l = l.self-inside.to
