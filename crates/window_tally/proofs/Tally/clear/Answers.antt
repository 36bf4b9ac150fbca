use Rattle.std.proofs.Common.{◌≡◌, ◌+◌, ◌*◌, ◌%◌, ◌^◌, ◌≤◌, sym, ap, subst, ◌∙◌, arith}
use Rattle.std.proofs.Math.Pow.{pow_mono}
use Rattle.window_tally.specs.TallyView.{TallyView, empty_tally}
use Rattle.window_tally.proofs.KeptLaws.{Becomes, empty_becomes}
use Rattle.window_tally.proofs.PlaceLaws.{doubled}
use Rattle.window_tally.proofs.Tally.clear.Goals as goal
use Rattle.window_tally.proofs.Tally.clear.Goals.{After-self, After-clear_marks}

limit : (c : After-self) → c.args.height ≤ c.self.inside.hmax
limit c = subst (λ (t : TallyView). c.args.height ≤ t.hmax) (sym c.self.view_is) c.requires

low : (c : After-self) → c.args.height ≤ 16
low c = omega (arith, limit c, c.self.invariant.by.sound.hmax_is)

-- the places of the new tree, as they are computed, for which both vectors have the memory
places_are : (c : After-self) → 2 * 2 ^ c.args.height % 2 ^ 64 ≡ 2 ^ (c.args.height + 1)
places_are c = doubled c.args.height (low c)

within : (c : After-self) → 2 ^ (c.args.height + 1) ≤ 2 ^ (c.self.inside.hmax + 1)
within c = pow_mono (omega (arith, limit c))

pub overflow_shl-places : goal.overflow_shl-places
overflow_shl-places c = omega (arith, subst (λ (t : TallyView). c.args.height ≤ t.hmax) (sym c.self.view_is) c.requires, c.self.invariant.by.sound.hmax_is)

pub clear_counts-requires : goal.clear_counts-requires
clear_counts-requires c =
    let at = (goal.at.clear_counts-requires c).After-self in
    omega (arith, places_are at, within at, c.self.invariant.counts_room)

pub clear_marks-requires : goal.clear_marks-requires
clear_marks-requires c =
    let at = (goal.at.clear_marks-requires c).After-self in
    omega (arith, places_are at, within at, c.self.invariant.marks_room)

emptied : (c : After-clear_marks) → c.args.height ≤ c.self.inside.hmax → 2 * 2 ^ c.args.height % 2 ^ 64 ≡ 2 ^ (c.args.height + 1) → Becomes c.self.inside.hmax c.args.height c.clear_counts.new.counts.items c.clear_marks.new.marks.items (empty_tally c.self.inside.hmax c.args.height)
emptied c le places =
    empty_becomes c.self.inside.hmax c.args.height c.clear_counts.new.counts.items c.clear_marks.new.marks.items (2 * 2 ^ c.args.height % 2 ^ 64) c.self.invariant.by.sound.hmax_is le places c.clear_counts.ensures.size c.clear_marks.ensures.size c.clear_counts.ensures.each c.clear_marks.ensures.each

pub invariant_of-self : goal.invariant_of-self
invariant_of-self c =
    let at = (goal.at.invariant_of-self c).After-self in
    record {
      by = (emptied (goal.at.invariant_of-self c).After-clear_marks (limit at) (places_are at)).kept;
      counts_room = omega (arith, c.self.invariant.counts_room, c.clear_counts.ensures.room);
      marks_room = omega (arith, c.self.invariant.marks_room, c.clear_marks.ensures.room);
    }

pub returns-clause-after : goal.returns-clause-after
returns-clause-after c =
    let at = (goal.at.returns-clause-after c).After-self in
    (emptied (goal.at.returns-clause-after c).After-clear_marks (limit at) (places_are at)).view_is ∙ ap (λ (t : TallyView). empty_tally t.hmax c.args.height) c.self.view_is

pub returns-clause-tally : goal.returns-clause-tally
returns-clause-tally c =
    let at = (goal.at.returns-clause-tally c).After-self in
    (emptied (goal.at.returns-clause-tally c).After-clear_marks (limit at) (places_are at)).kept.sound
