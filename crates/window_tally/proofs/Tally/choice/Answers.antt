use Rattle.std.proofs.Common.{rules, ◌≤◌, arith, subst, sym}
use Rattle.window_tally.specs.TallyPlaces.{IsTree}
use Rattle.window_tally.proofs.KeptLaws.{kept_tree}
use Rattle.window_tally.proofs.Tally.choice.Goals as goal
use Rattle.window_tally.proofs.Tally.choice.Goals.{In-Some-2}

pub highest_broken-requires-clause-tree : goal.highest_broken-requires-clause-tree
highest_broken-requires-clause-tree c = subst (IsTree c.self.inside.height) (sym c.deref.ensures.value) (kept_tree c.self.inside.hmax c.self.inside.height c.self.inside.counts.items c.self.inside.marks.items c.self.invariant.by)

-- a height that is broken is a height of the store, so one that is not the store's is below it
one_above : (c : In-Some-2) → c.in-Some.h ≤ 15
one_above c =
    let within : c.in-Some.h ≤ c.self.inside.height = c.in-Some.ensures.within in
    omega (arith, c.self.invariant.by.sound.height_is, c.self.invariant.by.sound.hmax_is)

pub overflow_add-h : goal.overflow_add-h
overflow_add-h c = let low = one_above c in omega arith

pub window_of-requires : goal.window_of-requires
window_of-requires c = let low = one_above c in omega arith

pub returns-in-Some-2-clause-answer : goal.returns-in-Some-2-clause-answer
returns-in-Some-2-clause-answer c = search rules
