-- The implicit tree in which a tally is kept, as in Williams' heapsort (1964). Window (h, i) of a store of height H
-- stands at place 2^(H - h) + i, so the root is at 1, the two halves of the window at p are at 2p and 2p + 1, and the
-- segments stand side by side from 2^H on.
use Rattle.std.specs.Prelude.{◌≡◌, ℕ, ◌+◌, ◌-◌, ◌*◌, ◌/◌, ◌^◌, ◌<◌, ◌≤◌, ◌⊎◌, List, length, take, drop, sum, slice_index, slice_index_or, Option, None}
use Rattle.density_rule.specs.Windows.{IsWindow, count_in}
use Rattle.density_rule.specs.Spread.{share}
use Rattle.density_rule.specs.Marks.{Marks, marks_by}

abbrev pub place : ℕ → ℕ → ℕ → ℕ
place height h i = 2 ^ (height - h) + i

-- the counts of the segments
abbrev pub leaves_of : ℕ → List ℕ → List ℕ
leaves_of height items = take (2 ^ height) (drop (2 ^ height) items)

-- the marks of the windows below the root
abbrev pub marks_in : ℕ → List (Option ℕ) → Marks
marks_in height items = marks_by height (λ h i. slice_index_or items (place height h i) None)

-- the places of all windows hold what these counts of segments give
abbrev pub HasCounts : ℕ → List ℕ → List ℕ → Type 0
HasCounts height items counts = (h i : ℕ) → IsWindow height h i → slice_index items (place height h i) ≡ count_in counts h i

-- counts that the loops go over
pub record IsTree (height : ℕ) (items : List ℕ) : Type 0 where
  pub low : height ≤ 16
  pub size : 2 ^ (height + 1) ≤ length items
  pub sums : HasCounts height items (leaves_of height items)
  pub few : sum (leaves_of height items) < 2 ^ 31

-- part i of height h, of n records spread over a window of height j
abbrev pub part_of : ℕ → ℕ → ℕ → ℕ → ℕ
part_of n j h i = share n (2 ^ (j - h)) i

-- n places from `first` on hold these values, and all others what they held
pub record Fills {X : Type 0} (d : X) (value : ℕ → X) (first n : ℕ) (old new : List X) : Type 0 where
  pub inside : (i : ℕ) → i < n → slice_index_or new (first + i) d ≡ value i
  pub outside : (p : ℕ) → (p < first) ⊎ (first + n ≤ p) → slice_index_or new p d ≡ slice_index_or old p d

-- the windows of heights below `top` inside window (j, w) hold these values, by height and by number within it, and
-- all other windows what they held
pub record FillsBelow {X : Type 0} (d : X) (value : ℕ → ℕ → X) (height j w top : ℕ) (old new : List X) : Type 0 where
  pub inside : (h i : ℕ) → h < top → i < 2 ^ (j - h) → slice_index_or new (place height h (w * 2 ^ (j - h) + i)) d ≡ value h i
  pub outside : (h n : ℕ) → IsWindow height h n → (h < top → n / 2 ^ (j - h) ≡ w → ⊥) →
      slice_index_or new (place height h n) d ≡ slice_index_or old (place height h n) d
