use Rattle.std.proofs.Common.{◌≡◌, length}
use Rattle.spread_plan.specs.States.{IsPacking, packing_view}
use Rattle.spread_plan.proofs.pack.PackMovesIterator.next.Given as goal

-- what is still to come, and the counts before it, stay the same
abbrev pub invariant-loop-self : goal.invariant-loop-self
invariant-loop-self l =
    let s = l.self-inside in let first = l.initial.self-inside in
    IsPacking s.rest.now s.segments s.records s.next s.end × (packing_view s.rest.now s.segments s.records s.next s.end ≡ packing_view first.rest.now first.segments first.records first.next first.end)

abbrev pub decreases-loop-self : goal.decreases-loop-self
decreases-loop-self l = length l.self-inside.rest.now
