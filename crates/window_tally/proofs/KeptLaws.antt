-- The fields of a tally against what callers see.
use Rattle.std.proofs.Common.{◌≡◌, ℕ, ◌+◌, ◌-◌, ◌*◌, ◌/◌, ◌%◌, ◌^◌, ◌<◌, ◌≤◌, List, length, get_or, set, replicate, sum, refl, sym, ap, subst, ◌∙◌, arith, inl, inr, Option, Some, None, Bool, true, false}
use Rattle.std.proofs.lemmas.Bool.{cases_lt}
use Rattle.std.proofs.lemmas.List.{length-replicate, get_or-replicate, get_or_past}
use Rattle.std.proofs.lemmas.List.Folds.{sum_by-replicate}
use Rattle.std.proofs.Math.Pow.{pow_pos, pow_mono}
use Rattle.density_rule.specs.Bounds.{IsInBounds}
use Rattle.density_rule.specs.CountUpdates.{counts_after}
use Rattle.density_rule.specs.Spread.{shares, spread_counts, resized_counts}
use Rattle.density_rule.proofs.MarkLaws.{marks_by_same}
use Rattle.density_rule.proofs.Totals.{count_in-le-sum}
use Rattle.density_rule.proofs.Places.{root_window, window_end, place_inside, properly_inside_test, properly_inside_from}
use Rattle.density_rule.proofs.Shares.{length-shares, sum-shares, count_in-shares, count_in-spread_inside, count_in-spread_outside}
use Rattle.density_rule.proofs.Balance.{count_in-root}
use Rattle.density_rule.specs.Windows.{IsWindow, count_in, is_properly_inside}
use Rattle.density_rule.specs.Marks.{no_marks, updated_marks, spread_marks, resized_marks}
use Rattle.window_tally.specs.TallyView.{TallyView, IsTally, empty_tally}
use Rattle.window_tally.specs.TallyPlaces.{place, leaves_of, marks_in, HasCounts, IsTree, FillsBelow, part_of}
use Rattle.window_tally.specs.TallyFields.{view_by, KeepsBy}
use Rattle.window_tally.proofs.PlaceLaws.{leaves_of-counts, place_in_tree}
use Rattle.window_tally.proofs.ViewLaws.{records_fit, empty_is, forgotten_is, loaded_is, updated_is, spread_is, resized_is}
use Rattle.window_tally.proofs.RestLaws.{marks_in-spread, marks_in-resized}
use Rattle.density_rule.specs.declared.TheConstants.{SEGMENT_RECORDS}

-- vectors that hold the counts and marks of a tally are its fields
pub record Becomes (hmax height : ℕ) (items : List ℕ) (marks : List (Option ℕ)) (t : TallyView) : Type 0 where
  pub kept : KeepsBy hmax height items marks
  pub view_is : view_by hmax height items marks ≡ t

tree_size : (hmax height : ℕ) → height ≤ hmax → 2 ^ (height + 1) ≤ 2 ^ (hmax + 1)
tree_size hmax height le = pow_mono (omega arith)

pub becomes : (t : TallyView) (items : List ℕ) (marks : List (Option ℕ)) → 2 ^ (t.height + 1) ≤ length items → 2 ^ (t.height + 1) ≤ length marks → HasCounts t.height items t.counts → marks_in t.height marks ≡ t.marks → IsTally t → Becomes t.hmax t.height items marks t
becomes t items marks counts_size marks_size has marks_are is =
    let leaves = leaves_of-counts t.height items t.counts counts_size is.size has in
    let view : view_by t.hmax t.height items marks ≡ t = (λ i. record { hmax = t.hmax; height = t.height; counts = leaves i; marks = marks_are i }) in
    record {
      kept = record { counts_size = counts_size; marks_size = marks_size; sums = subst (HasCounts t.height items) (sym leaves) has; sound = subst IsTally (sym view) is };
      view_is = view;
    }

-- no count and no mark
none_each : (marks : List (Option ℕ)) (n : ℕ) → marks ≡ replicate n None → (p : ℕ) → get_or marks p None ≡ None
none_each marks n is p = elim (cases_lt p n) [
  | inl below ↦ ap (λ (ms : List (Option ℕ)). get_or ms p None) is ∙ get_or-replicate n p None None below
  | inr past ↦ ap (λ (ms : List (Option ℕ)). get_or ms p None) is ∙ get_or_past (replicate n None) p None (omega (arith, length-replicate {A = Option ℕ} n None))
]

marks_in-none : (height : ℕ) (marks : List (Option ℕ)) → ((p : ℕ) → get_or marks p None ≡ None) → marks_in height marks ≡ no_marks height
marks_in-none height marks each = marks_by_same height _ _ (λ h k lt less. each (place height h k))

sum-none : (n : ℕ) → sum (replicate n 0) ≡ 0
sum-none n = sum_by-replicate (λ x. x) n 0 ∙ omega arith

pub empty_becomes : (hmax height : ℕ) (items : List ℕ) (marks : List (Option ℕ)) (n : ℕ) → hmax ≤ 16 → height ≤ hmax → n ≡ 2 ^ (height + 1) → length items ≡ n → length marks ≡ n
    → ((p : ℕ) → p < n → get_or items p 0 ≡ 0) → ((p : ℕ) → p < n → get_or marks p None ≡ None) → Becomes hmax height items marks (empty_tally hmax height)
empty_becomes hmax height items marks n low le whole size marks_size counts_are marks_are = becomes (empty_tally hmax height) items marks (omega (arith, size, whole)) (omega (arith, marks_size, whole)) has (marks_in-none height marks none) (empty_is hmax height low le)
  where
    none : (p : ℕ) → get_or marks p None ≡ None
    none p = elim (cases_lt p n) [
      | inl below ↦ marks_are p below
      | inr past ↦ get_or_past marks p None (omega (arith, marks_size))
    ]

    has : HasCounts height items (replicate (2 ^ height) 0)
    has h k is =
        let below : place height h k < n = omega (arith, place_in_tree height h k is, whole) in
        let none : count_in (replicate (2 ^ height) 0) h k ≡ 0 = omega (arith, count_in-le-sum (replicate (2 ^ height) 0) h k, sum-none (2 ^ height)) in
        counts_are (place height h k) below ∙ sym none

-- the loops may go over the counts
pub kept_tree : (hmax height : ℕ) (items : List ℕ) (marks : List (Option ℕ)) → KeepsBy hmax height items marks → IsTree height items
kept_tree hmax height items marks kept = record {
  low = omega (arith, kept.sound.height_is, kept.sound.hmax_is);
  size = kept.counts_size;
  sums = kept.sums;
  few = omega (arith, records_fit (view_by hmax height items marks) kept.sound);
}

module _ (hmax height : ℕ) (items : List ℕ) (marks : List (Option ℕ)) (kept : KeepsBy hmax height items marks) where
  leaves_size : length (leaves_of height items) ≡ 2 ^ height
  leaves_size = kept.sound.size

  -- the root's place
  pub count_at_root : get_or items 1 0 ≡ sum (leaves_of height items)
  count_at_root = ap (λ (p : ℕ). get_or items p 0) {x = 1} {y = place height height 0} (let one : 2 ^ (height - height) ≡ 1 = ap (λ (n : ℕ). 2 ^ n) {x = height - height} {y = 0} (omega arith) in omega arith)
      ∙ kept.sums height 0 (root_window height) ∙ count_in-root height (leaves_of height items) leaves_size

  pub forgotten_becomes : (n : ℕ) (new : List (Option ℕ)) → new ≡ replicate n None → n ≡ length marks → Becomes hmax height items new (record (view_by hmax height items marks) { marks = no_marks height })
  forgotten_becomes n new is all = becomes (record (view_by hmax height items marks) { marks = no_marks height }) items new kept.counts_size (omega (arith, ap length is, length-replicate {A = Option ℕ} n None, all, kept.marks_size)) kept.sums (marks_in-none height new (none_each new n is)) (forgotten_is (view_by hmax height items marks) kept.sound)

  pub loaded_becomes : (segment count : ℕ) (new : List ℕ) → count ≤ SEGMENT_RECORDS → marks_in height marks ≡ no_marks height → length new ≡ length items → HasCounts height new (set (leaves_of height items) segment count)
      → Becomes hmax height new marks (record (view_by hmax height items marks) { counts = set (leaves_of height items) segment count })
  loaded_becomes segment count new small none size has = becomes (record (view_by hmax height items marks) { counts = set (leaves_of height items) segment count }) new marks (omega (arith, size, kept.counts_size)) kept.marks_size has refl (loaded_is (view_by hmax height items marks) segment count kept.sound small none)

  pub updated_becomes : (segment : ℕ) (adds : Bool) (new : List ℕ) (aged : List (Option ℕ)) → segment < 2 ^ height → (adds ≡ true → get_or (leaves_of height items) segment 0 < SEGMENT_RECORDS) → (adds ≡ false → 1 ≤ get_or (leaves_of height items) segment 0)
      → length new ≡ length items → length aged ≡ length marks → HasCounts height new (counts_after adds (leaves_of height items) segment) → marks_in height aged ≡ updated_marks height segment (marks_in height marks)
      → Becomes hmax height new aged (record (view_by hmax height items marks) { counts = counts_after adds (leaves_of height items) segment; marks = updated_marks height segment (marks_in height marks) })
  updated_becomes segment adds new aged in_store room some size marks_size has marked = becomes (record (view_by hmax height items marks) { counts = counts_after adds (leaves_of height items) segment; marks = updated_marks height segment (marks_in height marks) }) new aged (omega (arith, size, kept.counts_size)) (omega (arith, marks_size, kept.marks_size)) has marked (updated_is (view_by hmax height items marks) segment adds kept.sound in_store room some)

  pub spread_becomes : (j w : ℕ) (new : List ℕ) (rested : List (Option ℕ)) → IsWindow height j w → 1 ≤ j → IsInBounds height j (count_in (leaves_of height items) j w)
      → length new ≡ length items → length rested ≡ length marks → FillsBelow 0 (part_of (count_in (leaves_of height items) j w) j) height j w j items new → FillsBelow None (λ _ _. Some 0) height j w j marks rested
      → Becomes hmax height new rested (record (view_by hmax height items marks) { counts = spread_counts (leaves_of height items) j w; marks = spread_marks height j w (marks_in height marks) })
  spread_becomes j w new rested window larger bounds size marks_size fills rests = becomes (record (view_by hmax height items marks) { counts = spread_counts (leaves_of height items) j w; marks = spread_marks height j w (marks_in height marks) }) new rested (omega (arith, size, kept.counts_size)) (omega (arith, marks_size, kept.marks_size)) has (marks_in-spread height j w marks rested rests) (spread_is (view_by hmax height items marks) j w kept.sound window larger bounds)
    where
      fits : (w + 1) * 2 ^ j ≤ length (leaves_of height items)
      fits = omega (arith, window_end height j w window, leaves_size)

      by_test : (h k : ℕ) → IsWindow height h k → (b : Bool) → is_properly_inside h k j w ≡ b → get_or new (place height h k) 0 ≡ count_in (spread_counts (leaves_of height items) j w) h k
      by_test h k is true e =
          let inside = properly_inside_from h k j w e in
          let at = place_inside h k j w inside.1 in
          let le : h ≤ j = omega (arith, inside.0) in
          ap (λ (n : ℕ). get_or new (place height h n) 0) at.0 ∙ fills.inside h (k % 2 ^ (j - h)) inside.0 at.1
          ∙ sym (count_in-spread_inside (leaves_of height items) j w fits h (k % 2 ^ (j - h)) le at.1) ∙ ap (count_in (spread_counts (leaves_of height items) j w) h) (sym at.0)
      by_test h k is false e =
          let outside : h < j → k / 2 ^ (j - h) ≡ w → ⊥ = λ lt inside. (let yes = properly_inside_test h k j w lt inside in cc) in
          fills.outside h k is outside ∙ kept.sums h k is ∙ sym (count_in-spread_outside (leaves_of height items) j w fits h k outside)

      has : HasCounts height new (spread_counts (leaves_of height items) j w)
      has h k is = by_test h k is (is_properly_inside h k j w) refl

  pub resized_becomes : (top : ℕ) (first new : List ℕ) (unrested rested : List (Option ℕ)) → top ≤ hmax → IsInBounds top top (sum (leaves_of height items)) → get_or first 1 0 ≡ get_or items 1 0
      → 2 ^ (top + 1) ≤ length new → 2 ^ (top + 1) ≤ length rested → FillsBelow 0 (part_of (sum (leaves_of height items)) top) top top 0 top first new → FillsBelow None (λ _ _. Some 0) top top 0 top unrested rested
      → Becomes hmax top new rested (record (view_by hmax height items marks) { height = top; counts = resized_counts (leaves_of height items) top; marks = resized_marks top })
  resized_becomes top first new unrested rested le bounds root size marks_size fills rests = becomes (record (view_by hmax height items marks) { height = top; counts = resized_counts (leaves_of height items) top; marks = resized_marks top }) new rested size marks_size has (marks_in-resized top unrested rested rests) (resized_is (view_by hmax height items marks) top kept.sound le bounds)
    where
      records : ℕ
      records = sum (leaves_of height items)

      at_root : (h k : ℕ) → h ≡ top → IsWindow top h k → get_or new (place top h k) 0 ≡ count_in (shares (sum (leaves_of height items)) (2 ^ top)) h k
      at_root h k same is =
          let power : 2 ^ (top - h) ≡ 1 = ap (λ (n : ℕ). 2 ^ n) {x = top - h} {y = 0} (omega arith) in
          let none : k ≡ 0 = omega (arith, is.in_store) in
          fills.outside h k is (λ lt inside. absurd (omega arith)) ∙ ap (λ (p : ℕ). get_or first p 0) {x = place top h k} {y = 1} (omega arith) ∙ root ∙ count_at_root
          ∙ sym (ap (λ (g : ℕ). count_in (shares (sum (leaves_of height items)) (2 ^ top)) g k) same ∙ ap (count_in (shares (sum (leaves_of height items)) (2 ^ top)) top) none ∙ count_in-root top (shares (sum (leaves_of height items)) (2 ^ top)) (length-shares _ (2 ^ top)) ∙ sum-shares _ (2 ^ top) (pow_pos top))

      has : HasCounts top new (shares (sum (leaves_of height items)) (2 ^ top))
      has h k is = elim (cases_lt h top) [
        | inl lt ↦ ap (λ (n : ℕ). get_or new (place top h n) 0) {x = k} {y = 0 * 2 ^ (top - h) + k} (omega arith) ∙ fills.inside h k lt is.in_store ∙ sym (count_in-shares (sum (leaves_of height items)) top h k is)
        | inr ge ↦ at_root h k (omega (arith, is.low)) is
      ]

  -- the places of windows are within both vectors
  pub place_kept : (h k : ℕ) → IsWindow height h k → (place height h k < length items) × (place height h k < length marks)
  place_kept h k is =
      let below : place height h k < 2 ^ (height + 1) = place_in_tree height h k is in
      (omega (arith, kept.counts_size), omega (arith, kept.marks_size))

-- the same of vectors with these elements
pub becomes_at : (hmax height : ℕ) (items items' : List ℕ) (marks marks' : List (Option ℕ)) (t : TallyView) → items' ≡ items → marks' ≡ marks → Becomes hmax height items marks t → Becomes hmax height items' marks' t
becomes_at hmax height items items' marks marks' t counts_are marks_are is = subst (λ ns. Becomes hmax height ns marks' t) (sym counts_are) (subst (λ ms. Becomes hmax height items ms t) (sym marks_are) is)
