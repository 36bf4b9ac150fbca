-- What callers see of a tally.
use Rattle.std.specs.Prelude.{◌≡◌, ℕ, ◌^◌, ◌≤◌, List, length, replicate, slice_index, Option, Some, None, true, false}
use Rattle.density_rule.specs.Marks.{Marks, no_marks, KeepsDrift}
use Rattle.window_tally.specs.declared.Since.{Since}
use Rattle.density_rule.specs.declared.TheConstants.{SEGMENT_RECORDS}

-- the greatest height, the height, the number of records of each segment, and the marks of the rested windows
pub record TallyView : Type 0 where
  pub hmax : ℕ
  pub height : ℕ
  pub counts : List ℕ
  pub marks : Marks

-- what is true of every tally
pub record IsTally (t : TallyView) : Type 0 where
  -- the greatest height is at most 16, and the height at most that
  pub hmax_is : t.hmax ≤ 16
  pub height_is : t.height ≤ t.hmax
  -- there is a count for each of the `2^height` segments
  pub size : length t.counts ≡ 2 ^ t.height
  -- no segment has more than 64 records
  pub capacity : (i : ℕ) → slice_index t.counts i ≤ SEGMENT_RECORDS
  -- every rested window keeps the drift bound
  pub drift : KeepsDrift t.counts t.marks

-- a tally of this height with no record and no mark
abbrev pub empty_tally : ℕ → ℕ → TallyView
empty_tally hmax height = record { hmax = hmax; height = height; counts = replicate (2 ^ height) 0; marks = no_marks height }

-- what is told of a window with this mark
abbrev pub since_of : Option ℕ → Since
since_of None = record { updates = 0; rested = false }
since_of (Some n) = record { updates = n; rested = true }
