-- Faults that are shown by frames: what was read of a segment in this call isn't what the store wrote.
use Rattle.std.specs.Prelude.{ℕ, ◌+◌, ◌<◌, ◌≤◌, List, length, get_or}
use Rattle.redo_journal.specs.Frames.{Batch}
use Rattle.segment.specs.declared.fault.StoreFault.{StoreFault}
use Rattle.segment.specs.declared.fault.StoreFault.TheVariants.{Failed, Damaged}
use Rattle.spread_plan.specs.declared.Move.{Move}
use Rattle.segment_frames.specs.Lists.{segments_in}
use Rattle.segment_frames.specs.FrameReading.{ShowsFault}
use Rattle.redistribute.specs.Moving.{IsStageOf}
use Rattle.redistribute.specs.WindowBatches.{kept_in}

-- the frames show the fault, if the segments of the window have the counts of some time of these moves
pub record ShowsAtStage (format : ℕ) (b : Batch) (first : ℕ) (moves : List Move) (counts : List ℕ) (fault : StoreFault) : Type 0 where
  -- the counts of the segments at some time before, between or after the moves
  pub now : List ℕ
  pub stage : IsStageOf moves counts now
  -- the frames show the fault of a segment that has such a count
  pub shows : ShowsFault format b (kept_in first now) fault
  -- it is a segment of the window
  pub above : first ≤ get_or (segments_in format b.numbers) shows.f 0
  pub below : get_or (segments_in format b.numbers) shows.f 0 < first + length counts

-- a fault other than the disk's is shown so
abbrev pub IsShown : ℕ → Batch → ℕ → List Move → List ℕ → StoreFault → Type 0
IsShown format b first moves counts Failed = Unit {0}
IsShown format b first moves counts (Damaged segment damage) = ShowsAtStage format b first moves counts (Damaged segment damage)
