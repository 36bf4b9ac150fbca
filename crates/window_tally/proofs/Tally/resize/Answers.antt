use Rattle.std.proofs.Common.{rules, ◌≡◌, ◌+◌, ◌*◌, ◌%◌, ◌^◌, ◌≤◌, ◌<◌, length, get_or, sum, vec_len, ap, subst, sym, ◌∙◌, Some, None, arith}
use Rattle.std.specs.Vec.{with_items}
use Rattle.std.proofs.lemmas.List.{with_items_is, get_or_read}
use Rattle.std.proofs.Math.Pow.{pow_pos, pow_mono}
use Rattle.density_rule.specs.Bounds.{IsInBounds}
use Rattle.density_rule.specs.Spread.{resized_counts}
use Rattle.density_rule.specs.Marks.{resized_marks}
use Rattle.window_tally.specs.TallyView.{TallyView}
use Rattle.window_tally.specs.TallyPlaces.{FillsBelow, part_of, leaves_of}
use Rattle.window_tally.specs.TallyFields.{view_of}
use Rattle.window_tally.proofs.PlaceLaws.{twice, doubled}
use Rattle.window_tally.proofs.KeptLaws.{Becomes, becomes_at, resized_becomes, count_at_root}
use Rattle.window_tally.proofs.Tally.resize.Goals as goal
use Rattle.window_tally.proofs.Tally.resize.Goals.{After-index-arg-1, After-rest_inside}

limit : (c : After-index-arg-1) → c.args.height ≤ c.self.inside.hmax
limit c = subst (λ (t : TallyView). c.args.height ≤ t.hmax) (sym c.self.view_is) c.requires.limit

pub index-records-requires : goal.index-records-requires
index-records-requires c =
    let all : length c.self.inside.counts.items ≡ vec_len c.self.inside.counts = search rules in
    omega (arith, all, c.self.invariant.by.counts_size, twice c.self.inside.height, pow_pos c.self.inside.height)

-- the places of the new tree, as they are computed
places_are : (c : After-index-arg-1) → 2 * 2 ^ c.args.height % 2 ^ 64 ≡ 2 ^ (c.args.height + 1)
places_are c = doubled c.args.height (omega (arith, limit c, c.self.invariant.by.sound.hmax_is))

-- both vectors have the memory for it
within : (c : After-index-arg-1) → 2 ^ (c.args.height + 1) ≤ 2 ^ (c.self.inside.hmax + 1)
within c = pow_mono (omega (arith, limit c))

pub fit_counts-requires : goal.fit_counts-requires
fit_counts-requires c =
    let at = (goal.at.fit_counts-requires c).After-index-arg-1 in
    omega (arith, places_are at, within at, c.self.invariant.counts_room)

pub fit_marks-requires : goal.fit_marks-requires
fit_marks-requires c =
    let at = (goal.at.fit_marks-requires c).After-index-arg-1 in
    omega (arith, places_are at, within at, c.self.invariant.marks_room)

-- and it fits into both
pub share_out-requires-clause-size : goal.share_out-requires-clause-size
share_out-requires-clause-size c =
    omega (arith, ap (λ xs. length xs) c.deref_mut.ensures.value, c.fit_counts.ensures.size, places_are (goal.at.share_out-requires-clause-size c).After-index-arg-1)

pub rest_inside-requires-clause-size : goal.rest_inside-requires-clause-size
rest_inside-requires-clause-size c =
    omega (arith, ap (λ xs. length xs) c.deref_mut-2.ensures.value, c.fit_marks.ensures.size, places_are (goal.at.rest_inside-requires-clause-size c).After-index-arg-1)

resized : (c : After-rest_inside) → c.args.height ≤ c.self.inside.hmax → 2 * 2 ^ c.args.height % 2 ^ 64 ≡ 2 ^ (c.args.height + 1)
    → Becomes c.self.inside.hmax c.args.height (with_items c.fit_counts.new.counts c.share_out.new.counts).items (with_items c.fit_marks.new.marks c.rest_inside.new.marks).items (record (view_of c.self.inside) { height = c.args.height; counts = resized_counts (leaves_of c.self.inside.height c.self.inside.counts.items) c.args.height; marks = resized_marks c.args.height })
resized c le places =
    let inside = c.self.inside in
    let leaves = leaves_of c.self.inside.height c.self.inside.counts.items in
    let top = c.args.height in
    let size : length c.share_out.new.counts ≡ c.fit_counts.new.counts.len = search rules in
    let same : length c.share_out.new.counts ≡ length c.fit_counts.new.counts.items = search rules in
    let marks_size : length c.rest_inside.new.marks ≡ c.fit_marks.new.marks.len = search rules in
    let marks_same : length c.rest_inside.new.marks ≡ length c.fit_marks.new.marks.items = search rules in
    let bounds = subst (λ (t : TallyView). IsInBounds top top (sum t.counts)) (sym c.self.view_is) c.requires.bounds in
    let below : 1 < length c.self.inside.counts.items = omega (arith, c.self.invariant.by.counts_size, twice c.self.inside.height, pow_pos c.self.inside.height) in
    let root : get_or c.fit_counts.new.counts.items 1 0 ≡ get_or inside.counts.items 1 0 = c.fit_counts.ensures.kept 1 (omega (arith, places, twice top, pow_pos top)) below in
    let records : c.index-records.result.now ≡ sum leaves = get_or_read inside.counts.items 1 c.index-records.result.now below c.index-records.ensures 0 ∙ count_at_root inside.hmax inside.height inside.counts.items inside.marks.items c.self.invariant.by in
    let fills = subst (λ n. FillsBelow 0 (part_of n top) top top 0 top c.deref_mut.result.now c.share_out.new.counts) records c.share_out.ensures in
    let filled = subst (λ xs. FillsBelow 0 (part_of (sum leaves) top) top top 0 top xs c.share_out.new.counts) c.deref_mut.ensures.value fills in
    let rested = subst (λ ms. FillsBelow None (λ _ _. Some 0) top top 0 top ms c.rest_inside.new.marks) c.deref_mut-2.ensures.value c.rest_inside.ensures in
    becomes_at inside.hmax top c.share_out.new.counts _ c.rest_inside.new.marks _ _ (with_items_is c.fit_counts.new.counts c.share_out.new.counts size) (with_items_is c.fit_marks.new.marks c.rest_inside.new.marks marks_size)
    (resized_becomes inside.hmax inside.height inside.counts.items inside.marks.items c.self.invariant.by top c.fit_counts.new.counts.items c.share_out.new.counts c.fit_marks.new.marks.items c.rest_inside.new.marks le bounds root (omega (arith, same, c.fit_counts.ensures.size, places)) (omega (arith, marks_same, c.fit_marks.ensures.size, places)) filled rested)

pub invariant_of-self : goal.invariant_of-self
invariant_of-self c =
    let at = (goal.at.invariant_of-self c).After-index-arg-1 in
    record {
      by = (resized (goal.at.invariant_of-self c).After-rest_inside (limit at) (places_are at)).kept;
      counts_room = omega (arith, c.self.invariant.counts_room, c.fit_counts.ensures.room);
      marks_room = omega (arith, c.self.invariant.marks_room, c.fit_marks.ensures.room);
    }

pub returns-clause-after : goal.returns-clause-after
returns-clause-after c =
    let at = (goal.at.returns-clause-after c).After-index-arg-1 in
    (resized (goal.at.returns-clause-after c).After-rest_inside (limit at) (places_are at)).view_is ∙ ap (λ (t : TallyView). record t { height = c.args.height; counts = resized_counts t.counts c.args.height; marks = resized_marks c.args.height }) c.self.view_is

pub returns-clause-tally : goal.returns-clause-tally
returns-clause-tally c =
    let at = (goal.at.returns-clause-tally c).After-index-arg-1 in
    (resized (goal.at.returns-clause-tally c).After-rest_inside (limit at) (places_are at)).kept.sound
