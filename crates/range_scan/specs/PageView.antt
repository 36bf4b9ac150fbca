-- What callers see of a page.
use Rattle.std.specs.Prelude.{ℕ, zero, suc, List, [], ◌∷◌, take, drop}
use Rattle.key_slot.specs.Format.{format_of}
use Rattle.key_slot.specs.Record.{Bytes, Record}
use Rattle.key_slot.specs.Segment.{segment_of}

-- the format of the segment that was validated last, its records, and the bytes of the segments behind it that were read
-- along with it and not validated yet
pub record PageView : Type 0 where
  pub format : ℕ
  pub rows : List Record
  pub along : List Bytes

-- the first that many segments of bytes, each of one size
abbrev pub pages_of : ℕ → ℕ → Bytes → List Bytes
pages_of size zero bytes = []
pages_of size (suc n) bytes = take size bytes ∷ pages_of size n (drop size bytes)

-- by the bytes of the segment that was validated, and of those behind it
abbrev pub page_of : Bytes → List Bytes → PageView
page_of bytes behind = record { format = format_of bytes; rows = segment_of (format_of bytes) bytes; along = behind }
