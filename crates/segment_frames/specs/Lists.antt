-- The lists of records that the frames of a batch hold, and the segments of a store that they are for.
use Rattle.std.specs.Prelude.{◌≡◌, ℕ, ◌+◌, ◌*◌, ◌/◌, ◌≤◌, ◌⊎◌, List, ◌++◌, length, map, get_or, slice_range}
use Rattle.std.specs.List.{range_with_len}
use Rattle.station.specs.Bytes.{InRange}
use Rattle.key_slot.specs.Record.{Record}
use Rattle.key_slot.specs.Segment.{segment_of}
use Rattle.key_slot.specs.declared.sizes.TheConstants.{SEGMENT_SLOTS}
use Rattle.map_model.specs.Array.{Array, segment_at}
use Rattle.raw_slots.specs.Slots.{bytes_of}
use Rattle.header_gate.specs.declared.layout.Layout.{Layout}
use Rattle.header_gate.specs.Places.{IsSlotFormat}
use Rattle.header_gate.specs.Paged.{pages_of_all}
use Rattle.redo_journal.specs.Frames.{Batch, IsFrames}
use Rattle.segment_frames.specs.declared.runs.Runs.{Runs}
use Rattle.segment_frames.specs.HeldRecords.{grouped, HoldsLists}

-- the slots of the frames of segment f, one frame a page
abbrev pub frames_of : ℕ → ℕ → List (List ℕ) → List (List ℕ)
frames_of format f slots = slice_range slots (SEGMENT_SLOTS * format * f) (SEGMENT_SLOTS * format * f + SEGMENT_SLOTS * format)

-- the bytes of segment f
abbrev pub page_at : ℕ → List (List ℕ) → ℕ → List ℕ
page_at format slots f = bytes_of (frames_of format f slots)

-- the records that they spell
abbrev pub rows_at : ℕ → List (List ℕ) → ℕ → List Record
rows_at format slots f = segment_of format (page_at format slots f)

-- those of the first n segments
unfoldable pub rows_in : ℕ → ℕ → List (List ℕ) → Array
rows_in format n slots = map (rows_at format slots) (range_with_len 0 n)

-- the numbers of the segments whose pages have these numbers, the first page of each standing for it
unfoldable pub segments_in : ℕ → List ℕ → List ℕ
segments_in format pages = map (λ i. get_or pages (format * i) 0 / format) (range_with_len 0 (length pages / format))

-- the lists of the batch's segments
abbrev pub held_lists : ℕ → Batch → Array
held_lists format b = rows_in format (length (segments_in format b.numbers)) b.slots

-- the segments for whose pages a journal has room
abbrev pub most_segments : Layout → ℕ
most_segments l = l.journal / l.format

-- the lists of a batch's segments fill their frames from the front, and the batch has all pages of each segment
pub record IsHeld (format : ℕ) (b : Batch) : Type 0 where
  -- the slot format is 1 or 2
  pub known : IsSlotFormat format
  -- the frames are those of a batch
  pub frames : IsFrames b
  -- the batch has all pages of each segment
  pub pages : b.numbers ≡ pages_of_all format (segments_in format b.numbers)
  -- the frames of each segment hold the records that their bytes spell, from the front
  pub lists : HoldsLists format (held_lists format b) (grouped format b.slots)

-- the lists of an array that have these numbers
unfoldable pub shown : List ℕ → Array → Array
shown numbers lists = map (segment_at lists) numbers

-- the numbers of two runs of segments
unfoldable pub numbers_of : Runs → List ℕ
numbers_of r = range_with_len r.low r.low_len ++ range_with_len r.high r.high_len

-- the lower run ends where the higher one begins, or before
abbrev pub InOrder : Runs → Type 0
InOrder r = r.low + r.low_len ≤ r.high

-- segment n is in one of them
abbrev pub Covers : Runs → ℕ → Type 0
Covers r n = InRange r.low r.low_len n ⊎ InRange r.high r.high_len n
