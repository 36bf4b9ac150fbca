-- Segments that are read in runs, and validated one by one.
use Rattle.std.specs.Prelude.{◌≡◌, ◌↔◌, ℕ, zero, suc, ◌+◌, ◌-◌, ◌*◌, ◌≤◌, Bool, true, false, List, [], ◌∷◌, length, Option, Result, IfOk, OnErr}
use Rattle.header_gate.specs.declared.layout.Layout.{Layout}
use Rattle.header_gate.specs.Places.{segment_size}
use Rattle.key_slot.specs.Record.{Bytes}
use Rattle.range_scan.specs.declared.segment_buffer.TheConstants.{RUN_SIZE}
use Rattle.range_scan.specs.declared.reader.RegionFault.{RegionFault}
use Rattle.key_slot.specs.Segment.{FitsSegment}
use Rattle.range_scan.specs.PageView.{PageView}
use Rattle.range_scan.specs.RegionReaderView.{ReaderView}
use Rattle.range_scan.specs.RegionReading.{last_behind, page_in, page_fault}

-- the bytes of that many segments of a region, from one on
abbrev pub pages_in : Layout → ℕ → List ℕ → ℕ → ℕ → List Bytes
pages_in layout region file i zero = []
pages_in layout region file i (suc n) = page_in layout region file i ∷ pages_in layout region file (i + 1) n

-- the bytes that are validated next: the first that were read along, or else these
abbrev pub first_of : List Bytes → Bytes → Bytes
first_of [] page = page
first_of (p ∷ along) page = p

-- those that are read along behind them: the others, or else these
abbrev pub rest_of : List Bytes → List Bytes → List Bytes
rest_of [] pages = pages
rest_of (p ∷ along) pages = along

-- how many segments are read for it: none, or else that many
abbrev pub read_for : List Bytes → ℕ → ℕ
read_for [] count = count
read_for (p ∷ along) count = 0

-- `count` segments of a layout, one at least, can be read at once from `from` on: they lie before `to`, and fit 16 KiB
pub record IsRun (layout : Layout) (from to count : ℕ) : Type 0 where
  pub some : 1 ≤ count
  pub within : from + count ≤ to
  pub room : segment_size layout * count ≤ RUN_SIZE

-- the number of the segment that a reader validates next, if these were read along
abbrev pub taken_number : ReaderView → List Bytes → ℕ
taken_number r along = r.next - length along

-- its bytes
abbrev pub taken_page : ReaderView → List Bytes → List ℕ → Bytes
taken_page r along file = first_of along (page_in r.layout r.region file r.next)

-- what the reader finds wrong with it
abbrev pub taken_fault : ReaderView → List Bytes → List ℕ → Option RegionFault
taken_fault r along file = page_fault r.layout.format (taken_number r along) r.last (taken_page r along file)

-- A segment was met in a page, or a fault: on every station its records fit a segment of the format, and the others of its run
-- stand along.
pub record MetIn (count : ℕ) (r : ReaderView) (before after : PageView) : Type 0 where
  pub fits : FitsSegment r.layout.format after.rows
  pub format_is : after.format ≡ r.layout.format
  pub others : length after.along + 1 ≡ length before.along + read_for before.along count

-- a reader of the same segments, n further
pub record StepsBy (n : ℕ) (old new : ReaderView) : Type 0 where
  pub layout_is : new.layout ≡ old.layout
  pub region_is : new.region ≡ old.region
  pub end_is : new.end ≡ old.end
  pub next_is : new.next ≡ old.next + n

-- A reader met the next segment, if there was one, and read `count` of them if none was along.
pub record TakesNextOn {E : Type 0} (result : Result Bool E) (count : ℕ) (old new : ReaderView) (before after : PageView) : Type 0 where
  -- false comes exactly if no segment is left, and then reader and page stay
  pub none : IfOk result (λ more. (more ≡ false) ↔ ((before.along ≡ []) × (old.next ≡ old.end)))
  pub ended : IfOk result (λ more. more ≡ false → new ≡ old)
  pub kept : IfOk result (λ more. more ≡ false → after ≡ before)
  -- at true its records fit the slot format, and the reader notes the last key; it is `count` segments further if none was along
  pub met : IfOk result (λ more. more ≡ true → MetIn count old before after)
  pub reader : IfOk result (λ more. more ≡ true → new ≡ record old { next = old.next + read_for before.along count; last = last_behind old.last after.rows })
  -- on a failure the page has no records, and the reader is as many segments further
  pub cleared : OnErr result (after.rows ≡ [])
  pub left : OnErr result (MetIn count old before after)
  pub stopped : OnErr result (StepsBy (read_for before.along count) old new)
