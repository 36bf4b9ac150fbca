use Rattle.std.proofs.Common.{◌≡◌, ◌≤◌, ◌+◌, ◌-◌, ◌/◌, ◌^◌, get_or, arith, ap, ◌∙◌}
use Rattle.window_tally.specs.TallyPlaces.{place}
use Rattle.window_tally.proofs.PathLaws.{path_at, path_more_at}
use Rattle.window_tally.proofs.SetLaws.{count_rises, count_below, count_few, count_set, has_set}
use Rattle.window_tally.proofs.tree.set_count.Goals as goal
use Rattle.window_tally.proofs.tree.set_count.Goals.{After-place_over-at}

-- what stands at the two places of an iteration
below : (c : After-place_over-at) → c.loop-h.h ≤ c.args.height
below c = omega arith

here : (c : After-place_over-at) → get_or c.loop-h.counts c.place_over-at.result 0 ≡ get_or c.args.counts.now (place c.args.height c.loop-h.h (c.args.segment / 2 ^ c.loop-h.h)) 0
here c = ap (λ p. get_or c.loop-h.counts p 0) c.place_over-at.ensures.place ∙ path_at 0 _ c.args.height c.args.segment c.loop-h.h c.args.counts.now c.loop-h.counts (below c) c.requires.in_store c.requires.tree.size c.loop-h.invariant

first : (c : After-place_over-at) → get_or c.args.counts.now c.place_over.result 0 ≡ get_or c.args.counts.now (place c.args.height 0 (c.args.segment / 2 ^ 0)) 0
first c = ap (λ p. get_or c.args.counts.now p 0) c.place_over.ensures.place

pub overflow_sub-counts : goal.overflow_sub-counts
overflow_sub-counts c = let at = (goal.at.overflow_sub-counts c).After-place_over-at in
    omega (arith, here at, first at, count_below c.args.height c.args.counts.now c.args.segment c.requires.tree c.requires.in_store, count_rises c.args.height c.args.counts.now c.args.segment c.requires.tree c.requires.in_store c.loop-h.h (below at))

pub overflow_add-counts : goal.overflow_add-counts
overflow_add-counts c = let at = (goal.at.overflow_add-counts c).After-place_over-at in
    omega (arith, here at, count_few c.args.height c.args.counts.now c.args.segment c.requires.tree c.requires.in_store c.loop-h.h (below at))

pub loop-h-preserved : goal.loop-h-preserved
loop-h-preserved c = let at = (goal.at.loop-h-preserved c).After-place_over-at in
    path_more_at 0 _ c.args.height c.args.segment c.loop-h.h c.args.counts.now c.loop-h.counts c.place_over-at.result _ (below at) c.requires.in_store c.requires.tree.size c.place_over-at.ensures.place
    (ap (λ n. n - get_or c.args.counts.now c.place_over.result 0 + c.args.count) (here at)
    ∙ ap (λ n. get_or c.args.counts.now (place c.args.height c.loop-h.h (c.args.segment / 2 ^ c.loop-h.h)) 0 - n + c.args.count) (first at)
    ∙ count_set c.args.height c.args.counts.now c.args.segment c.requires.tree c.requires.in_store c.loop-h.h c.args.count (below at))
    c.loop-h.invariant

pub returns : goal.returns
returns c = has_set c.args.height c.args.counts.now c.args.segment c.requires.tree c.requires.in_store c.args.count c.loop-h.h c.loop-h.counts (omega arith) c.loop-h.invariant
