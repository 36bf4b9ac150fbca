-- Nothing is wrong with the index of an image that was left.
use Rattle.std.proofs.Common.{◌≡◌, ℕ, zero, suc, ◌+◌, ◌-◌, ◌*◌, ◌^◌, ◌<◌, ◌≤◌, Bool, true, false, cond, List, [], ◌∷◌, length, get_or, Some, None, T, refl, sym, ap, subst, ◌∙◌, arith, inl, inr}
use Rattle.std.specs.Prelude.{map, ◌&&◌, nat_le, not}
use Rattle.std.specs.Option.{unwrap_or}
use Rattle.std.specs.List.{range_with_len}
use Rattle.std.specs.Ordering.{is_lt}
use Rattle.std.specs.FinMap.{entries_sorted}
use Rattle.std.proofs.lemmas.Bool.{cases_lt}
use Rattle.std.proofs.lemmas.List.{ext_get_or}
use Rattle.std.proofs.lemmas.List.FromFn.{length-map-range_with_len, get_or-map-range_with_len}
use Rattle.density_rule.specs.Bounds.{is_in_bounds, least_of}
use Rattle.std.proofs.lemmas.Bool.Decides.{nat_tests}
use Rattle.density_rule.specs.Windows.{count_in}
use Rattle.density_rule.proofs.Bounding.{in_bounds_test}
use Rattle.density_rule.proofs.Totals.{count_in-segment}
use Rattle.header_gate.specs.declared.layout.Layout.{Layout}
use Rattle.header_gate.specs.declared.reason.Reason.{Reason}
use Rattle.header_gate.specs.declared.reason.Reason.TheVariants.{Index}
use Rattle.header_gate.specs.Header.{number, layout_in}
use Rattle.key_slot.specs.Record.{Bytes, Record, key_cmp, IsAscending}
use Rattle.segment.specs.Rows.{key_at}
use Rattle.map_model.specs.Array.{Array, rows, counts_of, segment_at}
use Rattle.map_model.specs.Image.{array_of, height_of, map_of}
use Rattle.map_model.specs.FileReasons.{first_reason}
use Rattle.map_model.proofs.ArrayReasons.{both_none, none_of_each}
use Rattle.map_model.proofs.Reasonings.{length-array_in, own_rows}
use Rattle.veb_layout.specs.Layout.{position_of}
use Rattle.veb_layout.specs.Links.{link_to}
use Rattle.veb_index.specs.Nodes.{middle, depth_of, number_in_level, fence_place}
use Rattle.veb_index.specs.Arrays.{first_key}
use Rattle.veb_index.proofs.Middles.{middle_of_node, fence_place-middle}
use Rattle.veb_index.proofs.Arrays.{first_keys_ascend}
use Rattle.index_file.specs.Seats.{seat_of, link_of}
use Rattle.index_file.specs.Node.{is_node, fence_in, IsNode}
use Rattle.index_file.specs.Area.{node_place, count_place, HasNodes}
use Rattle.index_file.specs.Clean.{IsLeft, fence_of_segment}
use Rattle.index_file.specs.IndexReasons.{node_reason, fence_read, order_reason, counts_read, window_reason, row_reason, area_reason}
use Rattle.index_file.proofs.SeatLaws.{seat_of-is}

-- tests that hold
none_if : (b : Bool) (r : Reason) → b ≡ true → cond b None (Some r) ≡ None
none_if b r is = ap (λ (c : Bool). cond c None (Some r)) is

module _ (l : Layout) (h : ℕ) (fence : ℕ → Bytes) (file : List ℕ) (are : HasNodes l h fence file) where
  -- the node at each position
  pub node_at : (x : ℕ) → x < 2 ^ h - 1 → IsNode l.format (link_of h 0 x) (link_of h 1 x) (fence (middle h (seat_of h x).depth (seat_of h x).number)) file (node_place l x)
  node_at x lt =
      let is = seat_of-is h x lt in
      let s = seat_of h x in
      let left : link_to h ((seat_of h x).depth + 1) (2 * (seat_of h x).number) ≡ link_of h 0 x = ap (link_to h ((seat_of h x).depth + 1)) {x = 2 * (seat_of h x).number} {y = 2 * (seat_of h x).number + 0} (omega arith) in
      subst (λ (p : ℕ). IsNode l.format (link_of h 0 x) (link_of h 1 x) (fence (middle h (seat_of h x).depth (seat_of h x).number)) file (node_place l p)) is.stands
      (subst (λ (a : ℕ). IsNode l.format a (link_of h 1 x) (fence (middle h (seat_of h x).depth (seat_of h x).number)) file (node_place l (position_of h (seat_of h x).depth (seat_of h x).number))) left
      (are (seat_of h x).depth (seat_of h x).number is.in_tree is.in_depth))

  pub nodes_none : first_reason (node_reason l h file) (2 ^ h - 1) ≡ None
  nodes_none = none_of_each (node_reason l h file) (2 ^ h - 1) (λ x lt. none_if (is_node l.format (link_of h 0 x) (link_of h 1 x) file (node_place l x)) (Index (node_place l x)) (node_at x lt).form)

  -- the fence that is read for each segment
  pub fence_read-is : (i : ℕ) → 1 ≤ i → i < 2 ^ h → fence_read l h file i ≡ fence i
  fence_read-is i some lt =
      let is = middle_of_node h i some lt in
      let place : fence_place h i ≡ position_of h (depth_of h i) (number_in_level h i) = ap (fence_place h) (sym is.middle) ∙ fence_place-middle h (depth_of h i) (number_in_level h i) is.depth in
      ap (λ (p : ℕ). fence_in file (node_place l p)) place ∙ (are (depth_of h i) (number_in_level h i) is.depth is.number).fence_is ∙ ap fence is.middle

-- the first key of a segment that isn't empty
first_some : (s : List Record) → 1 ≤ length s → key_at s 0 ≡ Some (unwrap_or (key_at s 0) [])
first_some [] some = absurd (omega (arith, some))
first_some (r ∷ s) some = refl

-- fences that ascend
order_none_at : (l : Layout) (h : ℕ) (fence : ℕ → Bytes) (i : ℕ) → (2 ≤ i → T (is_lt (key_cmp (fence (i - 1)) (fence i)))) → order_reason l h fence i ≡ None
order_none_at l h fence i above = elim (cases_lt 1 i) [
  | inl some ↦ by_order (is_lt (key_cmp (fence (i - 1)) (fence i))) (above some)
  | inr few ↦ first few
]
  where
    by_order : (b : Bool) → T b → cond (nat_le 2 i && not b) (Some (Index (node_place l (fence_place h i)))) None ≡ None
    by_order true is = by_first (nat_le 2 i)
      where
        by_first : (a : Bool) → cond (a && false) (Some (Index (node_place l (fence_place h i)))) None ≡ None
        by_first true = refl
        by_first false = refl
    by_order false is = absurd is

    first : i ≤ 1 → order_reason l h fence i ≡ None
    first few = by_small i few
      where
        by_small : (i : ℕ) → i ≤ 1 → order_reason l h fence i ≡ None
        by_small zero few = refl
        by_small (suc zero) few = refl
        by_small (suc (suc i)) few = absurd (omega (arith, few))

length_map : (a : Array) → length (counts_of a) ≡ length a
length_map [] = refl
length_map (s ∷ a) = ap suc (length_map a)

left_size : (image : List ℕ) → length (counts_of (array_of image)) ≡ 2 ^ height_of image
left_size image = length_map (array_of image) ∙ length-array_in image (height_of image)

-- the counts that are read are those of the array
pub left_counts : (image : List ℕ) → IsLeft image → counts_read (layout_in image) (height_of image) image ≡ counts_of (array_of image)
left_counts image left =
    let f : ℕ → ℕ = λ i. number image (count_place (layout_in image) i) in
    let n = 2 ^ height_of image in
    let read : length (map f (range_with_len 0 (2 ^ height_of image))) ≡ 2 ^ height_of image = length-map-range_with_len f 0 (2 ^ height_of image) in
    ext_get_or 0 (map f (range_with_len 0 (2 ^ height_of image))) (counts_of (array_of image)) (read ∙ sym (left_size image)) (λ i lt.
    let below : i < 2 ^ height_of image = omega (arith, lt, read) in
    get_or-map-range_with_len f 0 (2 ^ height_of image) i i 0 below (omega arith) ∙ left.area.counts_are i below)

-- the count of a segment
counts_at : (a : Array) (i : ℕ) → get_or (counts_of a) i 0 ≡ length (segment_at a i)
counts_at [] i = refl
counts_at (s ∷ a) zero = refl
counts_at (s ∷ a) (suc i) = counts_at a i

least_four : (height : ℕ) → 1 ≤ height → least_of height 0 ≡ 4
least_four height some = grind (arith, nat_tests, some)

some_height : (height i : ℕ) → 1 ≤ i → i < 2 ^ height → 1 ≤ height
some_height zero i some lt = absurd (omega (arith, some, lt))
some_height (suc height) i some lt = omega arith

module _ (image : List ℕ) (left : IsLeft image) where
  -- a segment of a store of more than one isn't empty
  pub left_first : (i : ℕ) → 1 ≤ i → i < 2 ^ height_of image → first_key (array_of image) i ≡ Some (fence_of_segment (array_of image) i)
  left_first i some lt =
      let height = height_of image in
      let a = array_of image in
      let size : length (counts_of (array_of image)) ≡ 2 ^ height_of image = left_size image in
      let bounds = left.balanced 0 i (record { low = omega arith; in_store = subst (λ (n : ℕ). i < 2 ^ n) {x = height_of image} {y = height_of image - 0} (omega arith) lt }) in
      let count : count_in (counts_of (array_of image)) 0 i ≡ length (segment_at (array_of image) i) = count_in-segment (counts_of (array_of image)) i (omega (arith, lt, size)) ∙ counts_at (array_of image) i in
      first_some (segment_at (array_of image) i) (omega (arith, bounds.least_is, count, least_four (height_of image) (some_height (height_of image) i some lt)))

  left_ascends : IsAscending (rows (array_of image))
  left_ascends = subst IsAscending (sym (own_rows image (map_of image) (height_of image) left.represents)) (entries_sorted (map_of image))

  left_order : (i : ℕ) → i < 2 ^ height_of image → order_reason (layout_in image) (height_of image) (fence_read (layout_in image) (height_of image) image) i ≡ None
  left_order i lt =
      let l = layout_in image in
      let height = height_of image in
      let read = fence_read-is (layout_in image) (height_of image) (fence_of_segment (array_of image)) image left.area.nodes in
      order_none_at (layout_in image) (height_of image) (fence_read (layout_in image) (height_of image) image) i (λ two.
      let before = fence_read-is (layout_in image) (height_of image) (fence_of_segment (array_of image)) image left.area.nodes (i - 1) (omega (arith, two)) (omega (arith, lt)) in
      let here = fence_read-is (layout_in image) (height_of image) (fence_of_segment (array_of image)) image left.area.nodes i (omega (arith, two)) lt in
      let above = first_keys_ascend (array_of image) (i - 1) i (fence_of_segment (array_of image) (i - 1)) (fence_of_segment (array_of image) i) (omega (arith, two)) left_ascends (left_first (i - 1) (omega (arith, two)) (omega (arith, lt))) (left_first i (omega (arith, two)) lt) in
      subst (λ (f : Bytes). T (is_lt (key_cmp f (fence_read (layout_in image) (height_of image) image i)))) (sym before) (subst (λ (f : Bytes). T (is_lt (key_cmp (fence_of_segment (array_of image) (i - 1)) f))) (sym here) above))

  left_rows : (j : ℕ) → j < height_of image + 1 → row_reason (layout_in image) (height_of image) (counts_of (array_of image)) j ≡ None
  left_rows j lt = none_of_each (window_reason (layout_in image) (height_of image) (counts_of (array_of image)) j) (2 ^ (height_of image - j)) (λ k below.
      none_if (is_in_bounds (height_of image) j (count_in (counts_of (array_of image)) j k)) (Index (count_place (layout_in image) (k * 2 ^ j)))
      (in_bounds_test (height_of image) j (count_in (counts_of (array_of image)) j k) (left.balanced j k (record { low = omega (arith, lt); in_store = below }))))

  left_windows : first_reason (row_reason (layout_in image) (height_of image) (counts_read (layout_in image) (height_of image) image)) (height_of image + 1) ≡ None
  left_windows = subst (λ (c : List ℕ). first_reason (row_reason (layout_in image) (height_of image) c) (height_of image + 1) ≡ None) (sym (left_counts image left)) (none_of_each (row_reason (layout_in image) (height_of image) (counts_of (array_of image))) (height_of image + 1) left_rows)

  pub left_sound : area_reason (layout_in image) (height_of image) image ≡ None
  unfolding area_reason
  left_sound =
      both_none _ _ (both_none _ _ (nodes_none (layout_in image) (height_of image) (fence_of_segment (array_of image)) image left.area.nodes)
      (none_of_each (order_reason (layout_in image) (height_of image) (fence_read (layout_in image) (height_of image) image)) (2 ^ height_of image) left_order)) left_windows
