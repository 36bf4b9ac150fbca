use Rattle.std.proofs.Common.{rules, ◌≡◌, length, ap, ◌∙◌}
use Rattle.std.specs.Vec.{with_items}
use Rattle.std.proofs.lemmas.List.{with_items_is}
use Rattle.density_rule.specs.Marks.{no_marks}
use Rattle.window_tally.specs.TallyView.{TallyView}
use Rattle.window_tally.specs.TallyFields.{view_of}
use Rattle.window_tally.proofs.KeptLaws.{Becomes, becomes_at, forgotten_becomes}
use Rattle.window_tally.proofs.Tally.forget_rests.Goals as goal
use Rattle.window_tally.proofs.Tally.forget_rests.Goals.{After-forget_all}

forgotten : (c : After-forget_all) → Becomes c.self.inside.hmax c.self.inside.height c.self.inside.counts.items (with_items c.self.inside.marks c.forget_all.new.marks).items (record (view_of c.self.inside) { marks = no_marks c.self.inside.height })
forgotten c =
    let inside = c.self.inside in
    let size : length c.forget_all.new.marks ≡ c.self.inside.marks.len = search rules in
    let same : length c.deref_mut.result.now ≡ length c.self.inside.marks.items = ap (λ ms. length ms) c.deref_mut.ensures.value in
    becomes_at inside.hmax inside.height inside.counts.items inside.counts.items c.forget_all.new.marks _ _ (λ _. inside.counts.items) (with_items_is inside.marks c.forget_all.new.marks size)
    (forgotten_becomes inside.hmax inside.height inside.counts.items inside.marks.items c.self.invariant.by (length c.deref_mut.result.now) c.forget_all.new.marks c.forget_all.ensures same)

pub invariant_of-self : goal.invariant_of-self
invariant_of-self c = record { by = (forgotten (goal.at.invariant_of-self c).After-forget_all).kept; counts_room = c.self.invariant.counts_room; marks_room = c.self.invariant.marks_room }

pub returns-clause-after : goal.returns-clause-after
returns-clause-after c = (forgotten (goal.at.returns-clause-after c).After-forget_all).view_is ∙ ap (λ (t : TallyView). record t { marks = no_marks t.height }) c.self.view_is

pub returns-clause-tally : goal.returns-clause-tally
returns-clause-tally c = (forgotten (goal.at.returns-clause-tally c).After-forget_all).kept.sound
