-- The records of a region, which is read segment after segment, and whose records are taken one by one.
use Rattle.std.specs.Prelude.{◌≡◌, ◌⊎◌, ℕ, ◌+◌, ◌-◌, ◌^◌, ◌<◌, ◌≤◌, false, List, ◌++◌, length, drop, sum, Result, IfErr, IsErrOf}
use Rattle.station.specs.Bytes.{Same}
use Rattle.station.specs.View.{View, Told, Rose}
use Rattle.station.specs.Steps.{Steps}
use Rattle.key_slot.specs.Record.{Record}
use Rattle.key_slot.specs.Segment.{FitsSegment}
use Rattle.map_model.specs.Array.{Array, rows}
use Rattle.redo_journal.specs.declared.place.Place.{Place}
use Rattle.segment.specs.declared.fault.StoreFault.{StoreFault}
use Rattle.segment.specs.declared.fault.StoreFault.TheVariants.{Failed}
use Rattle.range_scan.specs.Checking.{LieAbove}
use Rattle.range_scan.specs.SegmentFaults.{IsDamageAt}
use Rattle.range_scan.specs.Walk.{after_walk}
use Rattle.window_tally.specs.TallyView.{TallyView}
use Rattle.resize_region.specs.Source.{Walks}
use Rattle.resize_region.specs.declared.old_rows.OldRows.{OldRows}

-- the reader is amid the segments of the place, whose counts a tally has, and that many records of the last one were taken
pub record IsAmongRows (place : Place) (t : TallyView) (r : OldRows) : Type 0 where
  pub counts : length t.counts ≡ 2 ^ t.height
  pub layout_is : r.reader.layout ≡ place.layout
  pub region_is : r.reader.region ≡ place.region
  pub end_is : r.reader.end ≡ 2 ^ t.height
  pub within : r.reader.next ≤ r.reader.end
  pub unfaulted : r.reader.faulted ≡ false
  pub taken : r.index ≤ length r.page.rows
  pub fits : FitsSegment place.layout.format r.page.rows

-- how many records weren't taken, by the counts of the segments
abbrev pub rows_left : List ℕ → OldRows → ℕ
rows_left counts r = length r.page.rows - r.index + sum (drop r.reader.next counts)

-- these records, by an array
abbrev pub rows_ahead : Array → OldRows → List Record
rows_ahead segments r = drop r.index r.page.rows ++ rows (drop r.reader.next segments)

-- the next segments of the array ascend, above the last key that was read
abbrev pub IsInOrder : Array → OldRows → Type 0
IsInOrder segments r = LieAbove r.reader segments

-- a fault of the disk, or damage of the segment that was read last: the segments before it were read, each once
abbrev pub IsDamageIn : Place → TallyView → View → View → StoreFault → Type 0
IsDamageIn place t a b fault = (fault ≡ Failed) ⊎ ((i : ℕ) × (i < 2 ^ t.height) × IsDamageAt i t.counts fault × Walks place 0 (i + 1) a.travel b.travel)

-- Some of the next segments were read, whatever was answered.
pub record ReadsRows {T : Type 0} (place : Place) (t : TallyView) (result : Result T StoreFault) (r s : OldRows) (a b : View) : Type 0 where
  pub steps : Steps Same a b
  pub reads : b.travel ≡ after_walk place.layout place.region r.reader.next s.reader.next a.travel
  -- each segment by at most one call
  pub calls : b.calls ≤ a.calls + (s.reader.next - r.reader.next)
  -- none is read again, and none behind the last
  pub onward : r.reader.next ≤ s.reader.next
  pub upto : s.reader.next ≤ 2 ^ t.height
  -- where bytes are told only the disk stops it
  pub damaged : IfErr result (λ fault. Told a → fault ≡ Failed)
  -- and on any station the damage of the segment that was read last
  pub cause : IfErr result (λ fault. (i : ℕ) × (s.reader.next ≡ i + 1) × IsDamageAt i t.counts fault)
  -- `Failed` comes only if the count of disk faults rose
  pub failed : IsErrOf result Failed → Rose a.disk_faults b.disk_faults
