-- A window of the array as a run of segments, and its spread.
use Rattle.std.specs.Prelude.{◌≡◌, ℕ, ◌+◌, ◌*◌, ◌^◌, ◌≤◌, List, ◌++◌, length, sum, take, drop, slice_range}
use Rattle.map_model.specs.Array.{Array, rows, counts_of, spread_over}
use Rattle.map_model.specs.Image.{array_of, height_of}
use Rattle.redo_journal.specs.declared.place.Place.{Place}
use Rattle.spread_plan.specs.declared.Move.{Move}
use Rattle.spread_plan.specs.Plans.{pack_moves, spread_moves}
use Rattle.spread_plan.specs.States.{PlanView}
use Rattle.segment_frames.specs.FrameStanding.{IsSettledAt}
use Rattle.redistribute.specs.Moving.{KeepsAll, in_store}

-- the m lists from the first on
abbrev pub run_of : ℕ → ℕ → Array → Array
run_of first m lists = slice_range lists first (first + m)

-- the counts of window (h, i)
abbrev pub counts_at : List ℕ → ℕ → ℕ → List ℕ
counts_at counts h i = slice_range counts (i * 2 ^ h) ((i + 1) * 2 ^ h)

-- the array once the records of the m segments from the first on are spread over them
unfoldable pub spread_at : ℕ → ℕ → Array → Array
spread_at first m lists = take first lists ++ (spread_over m (rows (run_of first m lists)) ++ drop (first + m) lists)

-- the moves that spread the records of segments with these counts
abbrev pub moves_over : List ℕ → List Move
moves_over counts = pack_moves counts ++ spread_moves (sum counts) (length counts)

-- a settled image whose segments from the first on have these counts
pub record HasWindow (place : Place) (first : ℕ) (counts : List ℕ) (image : List ℕ) : Type 0 where
  pub settled : IsSettledAt place image
  pub within : first + length counts ≤ 2 ^ height_of image
  pub counts_are : counts_of (run_of first (length counts) (array_of image)) ≡ counts

-- in whose array the moves of a plan keep the records
pub record TakesPlan (place : Place) (first : ℕ) (plan : PlanView) (image : List ℕ) : Type 0 where
  pub window : HasWindow place first plan.counts image
  pub keeps : KeepsAll (in_store first plan.moves) (array_of image)
