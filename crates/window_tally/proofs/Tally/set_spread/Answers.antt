use Rattle.std.proofs.Common.{rules, ◌≡◌, length, ap, subst, sym, ◌∙◌, Some, None}
use Rattle.std.specs.Vec.{with_items}
use Rattle.std.proofs.lemmas.List.{with_items_is}
use Rattle.density_rule.specs.Bounds.{IsInBounds}
use Rattle.density_rule.specs.Windows.{IsWindow, count_in}
use Rattle.density_rule.specs.Spread.{spread_counts}
use Rattle.density_rule.specs.Marks.{spread_marks}
use Rattle.window_tally.specs.TallyView.{TallyView}
use Rattle.window_tally.specs.TallyPlaces.{FillsBelow, part_of, leaves_of, marks_in}
use Rattle.window_tally.specs.TallyFields.{view_of}
use Rattle.window_tally.proofs.KeptLaws.{Becomes, becomes_at, spread_becomes}
use Rattle.window_tally.proofs.Tally.set_spread.Goals as goal
use Rattle.window_tally.proofs.Tally.set_spread.Goals.{After-rest_inside}

spread : (c : After-rest_inside) → Becomes c.self.inside.hmax c.self.inside.height (with_items c.self.inside.counts c.share_out.new.counts).items (with_items c.self.inside.marks c.rest_inside.new.marks).items (record (view_of c.self.inside) { counts = spread_counts (leaves_of c.self.inside.height c.self.inside.counts.items) c.args.window.height c.args.window.number; marks = spread_marks c.self.inside.height c.args.window.height c.args.window.number (marks_in c.self.inside.height c.self.inside.marks.items) })
spread c =
    let inside = c.self.inside in
    let height = c.self.inside.height in
    let j = c.args.window.height in
    let w = c.args.window.number in
    let size : length c.share_out.new.counts ≡ c.self.inside.counts.len = search rules in
    let same : length c.share_out.new.counts ≡ length c.self.inside.counts.items = search rules in
    let marks_size : length c.rest_inside.new.marks ≡ c.self.inside.marks.len = search rules in
    let marks_same : length c.rest_inside.new.marks ≡ length c.self.inside.marks.items = search rules in
    let window = subst (λ (t : TallyView). IsWindow t.height j w) (sym c.self.view_is) c.requires.window in
    let bounds = subst (λ (t : TallyView). IsInBounds t.height j (count_in t.counts j w)) (sym c.self.view_is) c.requires.bounds in
    let records = c.count-records.ensures ∙ ap (λ (t : TallyView). count_in t.counts j w) (sym c.self.view_is) in
    let fills = subst (λ n. FillsBelow 0 (part_of n j) height j w j c.deref_mut.result.now c.share_out.new.counts) records c.share_out.ensures in
    let filled = subst (λ xs. FillsBelow 0 (part_of (count_in (leaves_of height inside.counts.items) j w) j) height j w j xs c.share_out.new.counts) c.deref_mut.ensures.value fills in
    let rested = subst (λ ms. FillsBelow None (λ _ _. Some 0) height j w j ms c.rest_inside.new.marks) c.deref_mut-2.ensures.value c.rest_inside.ensures in
    becomes_at inside.hmax height c.share_out.new.counts _ c.rest_inside.new.marks _ _ (with_items_is inside.counts c.share_out.new.counts size) (with_items_is inside.marks c.rest_inside.new.marks marks_size)
    (spread_becomes inside.hmax height inside.counts.items inside.marks.items c.self.invariant.by j w c.share_out.new.counts c.rest_inside.new.marks window c.requires.larger bounds same marks_same filled rested)

pub invariant_of-self : goal.invariant_of-self
invariant_of-self c = record { by = (spread (goal.at.invariant_of-self c).After-rest_inside).kept; counts_room = c.self.invariant.counts_room; marks_room = c.self.invariant.marks_room }

pub returns-clause-after : goal.returns-clause-after
returns-clause-after c = (spread (goal.at.returns-clause-after c).After-rest_inside).view_is ∙ ap (λ (t : TallyView). record t { counts = spread_counts t.counts c.args.window.height c.args.window.number; marks = spread_marks t.height c.args.window.height c.args.window.number t.marks }) c.self.view_is

pub returns-clause-tally : goal.returns-clause-tally
returns-clause-tally c = (spread (goal.at.returns-clause-tally c).After-rest_inside).kept.sound
