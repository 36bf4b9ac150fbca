-- Batches that hold the records of their segments in another way.
use Rattle.std.specs.Prelude.{◌≡◌, ℕ, ◌+◌, ◌-◌, ◌^◌, ◌<◌, ◌≤◌, List, length, get_or, slice_index}
use Rattle.map_model.specs.Array.{Array, rows, segment_at}
use Rattle.map_model.specs.Image.{array_of, height_of}
use Rattle.map_model.specs.Batches.{IsNone}
use Rattle.redo_journal.specs.Frames.{Batch}
use Rattle.redo_journal.specs.declared.place.Place.{Place}
use Rattle.spread_plan.specs.declared.Move.{Move}
use Rattle.spread_plan.specs.Stages.{FitSegments}
use Rattle.segment_frames.specs.declared.runs.Runs.{Runs}
use Rattle.segment_frames.specs.Lists.{segments_in, held_lists, shown, numbers_of}
use Rattle.segment_frames.specs.FrameStanding.{IsSettledAt}
use Rattle.redistribute.specs.Moving.{KeepsAll}

-- the count that is kept of segment n, by those of the window that begins with the first
abbrev pub kept_in : ℕ → List ℕ → ℕ → ℕ
kept_in first counts n = slice_index counts (n - first)

-- the frames hold as many records as are kept
abbrev pub HasCounts : ℕ → ℕ → List ℕ → Batch → Type 0
HasCounts format first counts b = (f : ℕ) → f < length (segments_in format b.numbers) → length (segment_at (held_lists format b) f) ≡ kept_in first counts (get_or (segments_in format b.numbers) f 0)

-- an array whose lists the frames of the runs hold
abbrev pub Holds : ℕ → Runs → Batch → Array → Type 0
Holds format r b lists = held_lists format b ≡ shown (numbers_of r) lists

-- the array once the segments with these numbers have the lists of a batch: the same records in the same order, in
-- segments that have room for them
pub record Redone (numbers : List ℕ) (held lists after : Array) : Type 0 where
  pub segments : length after ≡ length lists
  pub records : rows after ≡ rows lists
  pub fit : FitSegments after
  pub named : shown numbers after ≡ held
  pub others : (i : ℕ) → IsNone numbers i → segment_at after i ≡ segment_at lists i

-- a settled image that the batch may be committed to: its segments are there, and with the batch's lists in them the
-- records stay
pub record TakesBatch (place : Place) (b : Batch) (image : List ℕ) : Type 0 where
  pub settled : IsSettledAt place image
  pub below : (i : ℕ) → i < length (segments_in place.layout.format b.numbers) → get_or (segments_in place.layout.format b.numbers) i 0 < 2 ^ height_of image
  pub after : Array
  pub redone : Redone (segments_in place.layout.format b.numbers) (held_lists place.layout.format b) (array_of image) after

-- a settled image that has the segments of the runs, and in whose array the moves keep the records
pub record TakesMoves (place : Place) (r : Runs) (moves : List Move) (image : List ℕ) : Type 0 where
  pub settled : IsSettledAt place image
  pub within : r.high + r.high_len ≤ 2 ^ height_of image
  pub keeps : KeepsAll moves (array_of image)
