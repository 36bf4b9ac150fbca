-- The segments of a region, as an opening reads them.
use Rattle.std.specs.Prelude.{◌≡◌, ◌+◌, ℕ, ◌<◌, ◌≤◌, false, List, length, get_or, Option, Some, None}
use Rattle.key_slot.specs.Record.{Bytes}
use Rattle.key_slot.specs.Segment.{segment_of}
use Rattle.header_gate.specs.declared.layout.Layout.{Layout}
use Rattle.map_model.specs.Array.{rows}
use Rattle.map_model.specs.Image.{array_from}
use Rattle.map_model.specs.FileReasons.{first_reason, page_reason, last_key}
use Rattle.range_scan.specs.RegionReaderView.{ReaderView}
use Rattle.segment.specs.Rows.{key_at}

-- the first key of the bytes of a segment of a format, if it has records
abbrev pub first_key_of : ℕ → List ℕ → Option Bytes
first_key_of format page = key_at (segment_of format page) 0

-- a reader of the first n segments of a region, before segment i
pub record IsBefore (layout : Layout) (region n i along : ℕ) (r : ReaderView) : Type 0 where
  pub layout_is : r.layout ≡ layout
  pub region_is : r.region ≡ region
  pub end_is : r.end ≡ n
  -- behind it that many were read along
  pub next_is : r.next ≡ i + along
  pub within : i ≤ n
  pub unfaulted : r.faulted ≡ false

-- nothing is wrong with the segments before number i, and counts and fences are theirs
pub record AreLoaded (format : ℕ) (page : ℕ → List ℕ) (i : ℕ) (last : Option Bytes) (counts : List ℕ) (fence : ℕ → Option Bytes) : Type 0 where
  pub sound : first_reason (page_reason format page) i ≡ None
  pub last_is : last ≡ last_key (rows (array_from format page i))
  pub counted : (j : ℕ) → j < i → get_or counts j 0 ≡ length (segment_of format (page j))
  pub fenced : (j : ℕ) (key : Bytes) → 0 < j → j < i → first_key_of format (page j) ≡ Some key → fence j ≡ Some key
