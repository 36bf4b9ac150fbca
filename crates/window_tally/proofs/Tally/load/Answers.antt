use Rattle.std.proofs.Common.{rules, ◌≡◌, length, set, ap, subst, sym, ◌∙◌}
use Rattle.std.specs.Vec.{with_items}
use Rattle.std.proofs.lemmas.List.{with_items_is}
use Rattle.density_rule.specs.Marks.{no_marks}
use Rattle.window_tally.specs.TallyView.{TallyView}
use Rattle.window_tally.specs.TallyPlaces.{IsTree, HasCounts, leaves_of, marks_in}
use Rattle.window_tally.specs.TallyFields.{view_of}
use Rattle.window_tally.proofs.KeptLaws.{Becomes, kept_tree, loaded_becomes}
use Rattle.window_tally.proofs.Tally.load.Goals as goal
use Rattle.window_tally.proofs.Tally.load.Goals.{After-set_count}

pub set_count-requires-clause-tree : goal.set_count-requires-clause-tree
set_count-requires-clause-tree c = subst (IsTree c.self.inside.height) (sym c.deref_mut.ensures.value) (kept_tree c.self.inside.hmax c.self.inside.height c.self.inside.counts.items c.self.inside.marks.items c.self.invariant.by)

loaded : (c : After-set_count) → Becomes c.self.inside.hmax c.self.inside.height (with_items c.self.inside.counts c.set_count.new.counts).items c.self.inside.marks.items (record (view_of c.self.inside) { counts = set (leaves_of c.self.inside.height c.self.inside.counts.items) c.args.segment c.args.count })
loaded c =
    let size : length c.set_count.new.counts ≡ c.self.inside.counts.len = search rules in
    let same : length c.set_count.new.counts ≡ length c.self.inside.counts.items = search rules in
    let has = subst (λ xs. HasCounts c.self.inside.height c.set_count.new.counts (set (leaves_of c.self.inside.height xs) c.args.segment c.args.count)) c.deref_mut.ensures.value c.set_count.ensures in
    let none : marks_in c.self.inside.height c.self.inside.marks.items ≡ no_marks c.self.inside.height = ap (λ (t : TallyView). t.marks) c.self.view_is ∙ c.requires.unrested ∙ ap (λ (t : TallyView). no_marks t.height) (sym c.self.view_is) in
    subst (λ xs. Becomes c.self.inside.hmax c.self.inside.height xs c.self.inside.marks.items (record (view_of c.self.inside) { counts = set (leaves_of c.self.inside.height c.self.inside.counts.items) c.args.segment c.args.count })) (sym (with_items_is c.self.inside.counts c.set_count.new.counts size))
    (loaded_becomes c.self.inside.hmax c.self.inside.height c.self.inside.counts.items c.self.inside.marks.items c.self.invariant.by c.args.segment c.args.count c.set_count.new.counts c.requires.small none same has)

pub invariant_of-self : goal.invariant_of-self
invariant_of-self c = record { by = (loaded (goal.at.invariant_of-self c).After-set_count).kept; counts_room = c.self.invariant.counts_room; marks_room = c.self.invariant.marks_room }

pub returns-clause-after : goal.returns-clause-after
returns-clause-after c = (loaded (goal.at.returns-clause-after c).After-set_count).view_is ∙ ap (λ (t : TallyView). record t { counts = set t.counts c.args.segment c.args.count }) c.self.view_is

pub returns-clause-tally : goal.returns-clause-tally
returns-clause-tally c = (loaded (goal.at.returns-clause-tally c).After-set_count).kept.sound
