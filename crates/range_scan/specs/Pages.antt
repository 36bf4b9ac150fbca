-- A segment that is read into a page, and why it can't be.
use Rattle.std.specs.Prelude.{◌≡◌, ◌≢◌, ◌<◌, ◌≤◌, ◌+◌, ℕ, [], Some, OnErr, Result, ◌*◌, List, length, ◌-◌, OnOk}
use Rattle.station.specs.Bytes.{Same}
use Rattle.station.specs.View.{View, Told, Rose, after_read}
use Rattle.station.specs.Steps.{Steps}
use Rattle.header_gate.specs.declared.layout.Layout.{Layout}
use Rattle.header_gate.specs.Places.{segment_place, segment_size}
use Rattle.key_slot.specs.Segment.{FitsSegment, first_bad_slot, IsSegment}
use Rattle.key_slot.specs.declared.sizes.TheConstants.{SEGMENT_SLOTS}
use Rattle.segment.specs.declared.fault.Damage.{Damage}
use Rattle.segment.specs.declared.fault.Damage.TheVariants.{NotSegment, OtherCount, OutOfOrder}
use Rattle.segment.specs.declared.fault.StoreFault.{StoreFault}
use Rattle.segment.specs.declared.fault.StoreFault.TheVariants.{Failed, Damaged}
use Rattle.segment.specs.Validated.{damage_of}
use Rattle.range_scan.specs.declared.reader.RegionFault.{RegionFault}
use Rattle.range_scan.specs.declared.reader.RegionFault.TheVariants as regions
use Rattle.range_scan.specs.PageView.{PageView}
use Rattle.range_scan.specs.RegionReading.{page_in}
use Rattle.range_scan.specs.Running.{first_of, pages_in, read_for, rest_of}
use Rattle.range_scan.specs.Walk.{after_walk}
use Rattle.key_slot.specs.Record.{Bytes}

-- a fault of one segment by itself: damage names it and is never out of order, a bad slot is one of a segment's, and if
-- another count is told, it differs from the one that is kept
abbrev pub IsOwnFault : ℕ → ℕ → StoreFault → Type 0
IsOwnFault i kept Failed = Unit {0}
IsOwnFault i kept (Damaged segment (NotSegment slot)) = (segment ≡ i) × (slot < SEGMENT_SLOTS)
IsOwnFault i kept (Damaged segment (OtherCount found other)) = (segment ≡ i) × (other ≡ kept) × (found ≢ kept)
IsOwnFault i kept (Damaged segment OutOfOrder) = ⊥

-- A segment of a region, for which `kept` records are kept, was found damaged, or the disk failed.
pub record IsFoundDamaged (layout : Layout) (region segment kept : ℕ) (fault : StoreFault) (a b : View) : Type 0 where
  -- if the station tells its bytes, damage is exactly what is wrong with those of the segment
  pub damage : Told a → (i : ℕ) (why : Damage) → fault ≡ Damaged i why → damage_of layout.format (page_in layout region a.held segment) kept ≡ Some why
  -- on every station it is damage of this segment
  pub own : IsOwnFault segment kept fault
  -- `Failed` comes only if the count of disk faults rose
  pub failed : fault ≡ Failed → Rose a.disk_faults b.disk_faults

-- What the decoding of a segment found: the disk's fault, or the first bad slot of its bytes.
abbrev pub IsBadSlot : Layout → ℕ → ℕ → View → View → RegionFault → Type 0
IsBadSlot layout region segment a b regions.Failed = Rose a.disk_faults b.disk_faults
IsBadSlot layout region segment a b (regions.NotSegment i slot) = (i ≡ segment) × (slot < SEGMENT_SLOTS) × (Told a → first_bad_slot layout.format (page_in layout region a.held segment) ≡ Some slot)
IsBadSlot layout region segment a b (regions.OutOfOrder i) = ⊥

-- That many segments were read into a page, from one on, and the first was validated, whatever was answered.
pub record ReadsInto {T E : Type 0} (layout : Layout) (region segment count : ℕ) (result : Result T E) (page : PageView) (a b : View) : Type 0 where
  -- also if no bytes are told, its records fit a segment of the format
  pub fits : FitsSegment layout.format page.rows
  pub format_is : page.format ≡ layout.format
  -- a fault leaves none
  pub none : OnErr result (page.rows ≡ [])
  -- the others were read along
  pub others : length page.along + 1 ≡ count
  -- no byte changes, and they are read once, by at most one call
  pub steps : Steps Same a b
  pub reads : b.travel ≡ after_read (segment_place layout region segment) (segment_size layout * count) a.travel
  pub calls : b.calls ≤ a.calls + 1

-- What was found wrong with the segment that was met in a run, if these were read along.
abbrev pub IsBadAlong : Layout → ℕ → ℕ → List Bytes → View → View → RegionFault → Type 0
IsBadAlong layout region segment along a b regions.Failed = Rose a.disk_faults b.disk_faults
IsBadAlong layout region segment along a b (regions.NotSegment i slot) = (i ≡ segment) × (slot < SEGMENT_SLOTS) × (Told a → first_bad_slot layout.format (first_of along (page_in layout region a.held segment)) ≡ Some slot)
IsBadAlong layout region segment along a b (regions.OutOfOrder i) = ⊥

-- The next segment of a run was met in a page, whatever was answered: the first that was read along, or else the first of so
-- many that were read.
pub record TakesNext {T E : Type 0} (layout : Layout) (region segment count : ℕ) (result : Result T E) (old new : PageView) (a b : View) : Type 0 where
  -- its bytes are the segment of the records, and those read with it stand along
  pub segment_is : OnOk result (Told a → IsSegment layout.format new.rows (first_of old.along (page_in layout region a.held segment)))
  pub along_is : OnOk result (Told a → new.along ≡ rest_of old.along (pages_in layout region a.held (segment + 1) (count - 1)))
  -- also if no bytes are told, its records fit a segment of the format
  pub fits : FitsSegment layout.format new.rows
  pub format_is : new.format ≡ layout.format
  -- a fault leaves none
  pub none : OnErr result (new.rows ≡ [])
  -- the others are read along
  pub others : length new.along + 1 ≡ length old.along + read_for old.along count
  -- no byte changes; segments are read only if none was read along, each once, by at most one call
  pub steps : Steps Same a b
  pub reads : b.travel ≡ after_walk layout region segment (segment + read_for old.along count) a.travel
  pub calls : b.calls ≤ a.calls + read_for old.along 1
