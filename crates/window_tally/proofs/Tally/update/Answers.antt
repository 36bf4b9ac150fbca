use Rattle.std.proofs.Common.{rules, ℕ, ◌≡◌, ◌≤◌, ◌<◌, ◌^◌, true, false, get_or, length, set, ap, subst, sym, refl, ◌∙◌, arith}
use Rattle.std.specs.Vec.{with_items}
use Rattle.std.proofs.lemmas.List.{with_items_is, get_or_read}
use Rattle.density_rule.specs.CountUpdates.{count_after, counts_after}
use Rattle.density_rule.specs.Marks.{updated_marks}
use Rattle.window_tally.specs.declared.Change.{Change}
use Rattle.window_tally.specs.declared.Change.TheVariants.{Add, Take}
use Rattle.window_tally.specs.TallyView.{TallyView}
use Rattle.window_tally.specs.Choice.{adds}
use Rattle.window_tally.specs.TallyPlaces.{IsTree, HasCounts, leaves_of, marks_in}
use Rattle.window_tally.specs.TallyFields.{view_of}
use Rattle.window_tally.proofs.PlaceLaws.{segment_window, get_or-leaves_of}
use Rattle.window_tally.proofs.KeptLaws.{Becomes, kept_tree, place_kept, becomes_at, updated_becomes}
use Rattle.window_tally.proofs.Tally.update.Goals as goal
use Rattle.window_tally.proofs.Tally.update.Goals.{After-deref_mut, After-count_update}
use Rattle.density_rule.specs.declared.TheConstants.{SEGMENT_RECORDS}

pub set_count-requires-clause-tree : goal.set_count-requires-clause-tree
set_count-requires-clause-tree c = subst (IsTree c.self.inside.height) (sym c.deref_mut.ensures.value) (kept_tree c.self.inside.hmax c.self.inside.height c.self.inside.counts.items c.self.inside.marks.items c.self.invariant.by)

in_store : (c : After-deref_mut) → c.args.segment < 2 ^ c.self.inside.height
in_store c = subst (λ (t : TallyView). c.args.segment < 2 ^ t.height) (sym c.self.view_is) c.requires.in_store

-- the count that is read, and the one that is written
count_is : (c : After-deref_mut) → c.index-count.result.now ≡ get_or (leaves_of c.self.inside.height c.self.inside.counts.items) c.args.segment 0
count_is c =
    let window = segment_window c.self.inside.height c.args.segment (in_store c) in
    let below : c.place_of.result < length c.self.inside.counts.items = omega (arith, c.place_of.ensures, (place_kept c.self.inside.hmax c.self.inside.height c.self.inside.counts.items c.self.inside.marks.items c.self.invariant.by 0 c.args.segment window).0) in
    get_or_read c.self.inside.counts.items c.place_of.result c.index-count.result.now below c.index-count.ensures 0 ∙ ap (λ p. get_or c.self.inside.counts.items p 0) c.place_of.ensures
    ∙ sym (get_or-leaves_of c.self.inside.height c.args.segment c.self.inside.counts.items (in_store c))

by_add : (change : Change) (n : ℕ) → (change ≡ Add → n < SEGMENT_RECORDS) → adds change ≡ true → n < SEGMENT_RECORDS
by_add Add n room e = room refl
by_add Take n room e = cc

by_take : (change : Change) (n : ℕ) → (change ≡ Take → 1 ≤ n) → adds change ≡ false → 1 ≤ n
by_take Add n some e = cc
by_take Take n some e = some refl

updated : (c : After-count_update) → c.index-count.result.now ≡ get_or (leaves_of c.self.inside.height c.self.inside.counts.items) c.args.segment 0 → Becomes c.self.inside.hmax c.self.inside.height (with_items c.self.inside.counts c.set_count.new.counts).items (with_items c.self.inside.marks c.count_update.new.marks).items (record (view_of c.self.inside) { counts = counts_after (adds c.args.change) (leaves_of c.self.inside.height c.self.inside.counts.items) c.args.segment; marks = updated_marks c.self.inside.height c.args.segment (marks_in c.self.inside.height c.self.inside.marks.items) })
updated c leaf =
    let inside = c.self.inside in
    let height = c.self.inside.height in
    let leaves = leaves_of c.self.inside.height c.self.inside.counts.items in
    let size : length c.set_count.new.counts ≡ c.self.inside.counts.len = search rules in
    let same : length c.set_count.new.counts ≡ length c.self.inside.counts.items = search rules in
    let marks_size : length c.count_update.new.marks ≡ c.self.inside.marks.len = search rules in
    let marks_same : length c.count_update.new.marks ≡ length c.self.inside.marks.items = search rules in
    let in_store : c.args.segment < 2 ^ c.self.inside.height = subst (λ (t : TallyView). c.args.segment < 2 ^ t.height) (sym c.self.view_is) c.requires.in_store in
    let room = subst (λ (t : TallyView). c.args.change ≡ Add → get_or t.counts c.args.segment 0 < SEGMENT_RECORDS) (sym c.self.view_is) c.requires.room in
    let some = subst (λ (t : TallyView). c.args.change ≡ Take → 1 ≤ get_or t.counts c.args.segment 0) (sym c.self.view_is) c.requires.some in
    let set_was = subst (λ xs. HasCounts height c.set_count.new.counts (set (leaves_of height xs) c.args.segment c.changed.result)) c.deref_mut.ensures.value c.set_count.ensures in
    let has = subst (λ n. HasCounts height c.set_count.new.counts (set leaves c.args.segment n)) (c.changed.ensures ∙ ap (count_after (adds c.args.change)) leaf) set_was in
    let aged = c.count_update.ensures ∙ ap (λ ms. updated_marks height c.args.segment (marks_in height ms)) c.deref_mut-2.ensures.value in
    becomes_at inside.hmax height c.set_count.new.counts _ c.count_update.new.marks _ _ (with_items_is inside.counts c.set_count.new.counts size) (with_items_is inside.marks c.count_update.new.marks marks_size)
    (updated_becomes inside.hmax height inside.counts.items inside.marks.items c.self.invariant.by c.args.segment (adds c.args.change) c.set_count.new.counts c.count_update.new.marks in_store (by_add c.args.change _ room) (by_take c.args.change _ some) same marks_same has aged)

pub invariant_of-self : goal.invariant_of-self
invariant_of-self c = record { by = (updated (goal.at.invariant_of-self c).After-count_update (count_is (goal.at.invariant_of-self c).After-deref_mut)).kept; counts_room = c.self.invariant.counts_room; marks_room = c.self.invariant.marks_room }

pub returns-clause-after : goal.returns-clause-after
returns-clause-after c = (updated (goal.at.returns-clause-after c).After-count_update (count_is (goal.at.returns-clause-after c).After-deref_mut)).view_is ∙ ap (λ (t : TallyView). record t { counts = counts_after (adds c.args.change) t.counts c.args.segment; marks = updated_marks t.height c.args.segment t.marks }) c.self.view_is

pub returns-clause-tally : goal.returns-clause-tally
returns-clause-tally c = (updated (goal.at.returns-clause-tally c).After-count_update (count_is (goal.at.returns-clause-tally c).After-deref_mut)).kept.sound
