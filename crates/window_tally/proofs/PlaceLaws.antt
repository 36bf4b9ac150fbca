-- The places of windows.
use Rattle.std.proofs.Common.{◌≡◌, ℕ, ◌+◌, ◌-◌, ◌*◌, ◌%◌, ◌^◌, ◌<◌, ◌≤◌, List, length, take, drop, get_or, slice_range, sym, ap, ◌∙◌, arith, inl, inr, pow-add}
use Rattle.std.proofs.lemmas.Nat.{shl_whole}
use Rattle.std.proofs.lemmas.Bool.{cases_lt}
use Rattle.std.proofs.lemmas.List.{length-take-le, length-drop, get_or-take, get_or-drop, ext_get_or, drop-take, take-take, drop-drop}
use Rattle.std.proofs.Math.Nat.{mul-le-mul_right, add-mul}
use Rattle.std.proofs.Math.Pow.{pow_pos, pow_mono}
use Rattle.density_rule.specs.Windows.{IsWindow}
use Rattle.density_rule.proofs.Totals.{count_in-segment}
use Rattle.window_tally.specs.TallyPlaces.{place, leaves_of, HasCounts}

pub twice : (h : ℕ) → 2 ^ (h + 1) ≡ 2 ^ h + 2 ^ h
twice h = pow-add 2 h 1 ∙ omega arith

-- the windows of height h stand from 2^(height - h) on, below twice that
pub place_ends : (height h k : ℕ) → IsWindow height h k → (2 ^ (height - h) ≤ place height h k) × (place height h k < 2 ^ (height - h) + 2 ^ (height - h))
place_ends height h k is = (omega arith, omega (arith, is.in_store))

-- so those of larger windows stand before them
pub level_before : (height g h : ℕ) → g < h → h ≤ height → 2 ^ (height - h) + 2 ^ (height - h) ≤ 2 ^ (height - g)
level_before height g h lt le =
    let up : 2 ^ (height - h + 1) ≤ 2 ^ (height - g) = pow_mono (omega arith) in
    omega (arith, twice (height - h))

pub place_in_tree : (height h k : ℕ) → IsWindow height h k → place height h k < 2 ^ (height + 1)
place_in_tree height h k is =
    let up : 2 ^ (height - h) ≤ 2 ^ height = pow_mono (omega arith) in
    omega (arith, twice height, (place_ends height h k is).1)

-- windows of two heights have two places
pub places_differ : (height h k g m : ℕ) → IsWindow height h k → IsWindow height g m → (h ≡ g → ⊥) → place height h k ≡ place height g m → ⊥
places_differ height h k g m is other differ same =
    let ends = place_ends height h k is in
    let ends_other = place_ends height g m other in
    elim (cases_lt h g) [
      | inl lt ↦ omega (arith, ends.0, ends_other.1, level_before height h g lt other.low)
      | inr ge ↦ elim (cases_lt g h) [
        | inl lt ↦ omega (arith, ends.1, ends_other.0, level_before height g h lt is.low)
        | inr le ↦ differ (omega arith)
      ]
    ]

pub length-leaves_of : (height : ℕ) (items : List ℕ) → 2 ^ (height + 1) ≤ length items → length (leaves_of height items) ≡ 2 ^ height
length-leaves_of height items size = length-take-le (2 ^ height) (drop (2 ^ height) items) (omega (arith, length-drop (2 ^ height) items, twice height))

pub get_or-leaves_of : (height i : ℕ) (items : List ℕ) → i < 2 ^ height → get_or (leaves_of height items) i 0 ≡ get_or items (place height 0 i) 0
get_or-leaves_of height i items lt = get_or-take (2 ^ height) (drop (2 ^ height) items) i 0 lt ∙ get_or-drop (2 ^ height) items i 0 ∙ ap (λ (n : ℕ). get_or items (2 ^ n + i) 0) {x = height} {y = height - 0} (omega arith)

pub segment_window : (height i : ℕ) → i < 2 ^ height → IsWindow height 0 i
segment_window height i lt = let same : 2 ^ (height - 0) ≡ 2 ^ height = ap (λ (n : ℕ). 2 ^ n) {x = height - 0} {y = height} (omega arith) in record { low = omega arith; in_store = omega arith }

-- the counts of windows have those of the segments among them
pub leaves_of-counts : (height : ℕ) (items counts : List ℕ) → 2 ^ (height + 1) ≤ length items → length counts ≡ 2 ^ height → HasCounts height items counts → leaves_of height items ≡ counts
leaves_of-counts height items counts size long has =
    let long_leaves = length-leaves_of height items size in
    ext_get_or 0 (leaves_of height items) counts (omega arith) (λ i lt.
    let in_range : i < 2 ^ height = omega arith in
    get_or-leaves_of height i items in_range ∙ has 0 i (segment_window height i in_range) ∙ count_in-segment counts i (omega arith))

-- the windows of height h inside window (j, w) stand side by side
pub inside_places : (height h j w : ℕ) → h ≤ j → IsWindow height j w → IsWindow height h (w * 2 ^ (j - h)) × (place height h (w * 2 ^ (j - h)) + 2 ^ (j - h) ≤ 2 ^ (height - h) + 2 ^ (height - h))
inside_places height h j w le window =
    let whole : 2 ^ (height - h) ≡ 2 ^ (height - j) * 2 ^ (j - h) = ap (λ (n : ℕ). 2 ^ n) {x = height - h} {y = height - j + (j - h)} (omega (arith, window.low)) ∙ pow-add 2 (height - j) (j - h) in
    let scaled : (w + 1) * 2 ^ (j - h) ≤ 2 ^ (height - j) * 2 ^ (j - h) = mul-le-mul_right (2 ^ (j - h)) (omega (arith, window.in_store)) in
    let next = add-mul w 1 (2 ^ (j - h)) in
    (record { low = omega (arith, window.low); in_store = omega (arith, pow_pos (j - h)) }, omega arith)

pub level_in_tree : (height h : ℕ) → 2 ^ (height - h) + 2 ^ (height - h) ≤ 2 ^ (height + 1)
level_in_tree height h = let up : 2 ^ (height - h) ≤ 2 ^ height = pow_mono (omega arith) in omega (arith, twice height)

-- a part of the segments' counts
pub part_of_leaves : (height a b : ℕ) (items : List ℕ) → a ≤ b → b ≤ 2 ^ height → take (b - a) (drop (2 ^ height + a) items) ≡ slice_range (leaves_of height items) a b
part_of_leaves height a b items le within =
    let inner : drop a (take (2 ^ height) (drop (2 ^ height) items)) ≡ take (2 ^ height - a) (drop a (drop (2 ^ height) items)) =
    ap (λ (n : ℕ). drop a (take n (drop (2 ^ height) items))) {x = 2 ^ height} {y = a + (2 ^ height - a)} (omega arith) ∙ drop-take a (2 ^ height - a) (drop (2 ^ height) items) in
    sym (ap (take (b - a)) inner ∙ take-take (b - a) (2 ^ height - a) (drop a (drop (2 ^ height) items)) (omega arith) ∙ ap (take (b - a)) (drop-drop a (2 ^ height) items))

-- the places of a tree as they are computed
pub doubled : (h : ℕ) → h ≤ 16 → 2 * 2 ^ h % 2 ^ 64 ≡ 2 ^ (h + 1)
doubled h low = shl_whole 2 2 h 64 (omega arith) (omega (arith, low)) ∙ omega (arith, twice h)
