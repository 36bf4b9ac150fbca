-- The records of the live region that a merge has before it: the region is read segment after segment, each once, while other
-- bytes are written into the one that isn't live.
use Rattle.std.specs.Prelude.{◌≡◌, ◌≢◌, ℕ, ◌+◌, ◌-◌, ◌^◌, ◌<◌, ◌≤◌, not, Bool, true, false}
use Rattle.std.specs.Prelude.{List, [], ◌∷◌, ◌++◌, length, drop, Option, Some, None, Result, Ok, Err, OnOk, IfErr, IsErrOf, take, sum}
use Rattle.std.specs.Ordering.{is_lt, is_eq}
use Rattle.std.specs.FinMap.Entries.{where_key}
use Rattle.station.specs.Bytes.{Same}
use Rattle.station.specs.View.{View, Told, EachHeld, Rose}
use Rattle.station.specs.Steps.{Steps}
use Rattle.header_gate.specs.Places.{file_length, height_limit}
use Rattle.key_slot.specs.Record.{Bytes, Record, key_cmp}
use Rattle.key_slot.specs.Segment.{FitsSegment}
use Rattle.map_model.specs.Array.{Array, rows}
use Rattle.map_model.specs.Image.{array_of}
use Rattle.map_model.specs.FileReasons.{begins_above}
use Rattle.range_scan.specs.Checking.{LieAbove}
use Rattle.range_scan.specs.SegmentFaults.{IsDamageAt}
use Rattle.range_scan.specs.RegionReading.{last_behind}
use Rattle.range_scan.specs.Walk.{after_walk}
use Rattle.redo_journal.specs.declared.place.Place.{Place}
use Rattle.resize_region.specs.Shares.{StandsBare}
use Rattle.segment.specs.declared.fault.StoreFault.{StoreFault}
use Rattle.segment.specs.declared.fault.StoreFault.TheVariants.{Failed}
use Rattle.bulk_load.specs.declared.ahead.Ahead.{Ahead}

-- those at hand
abbrev pub at_hand : Ahead → List Record
at_hand a = drop a.index a.page.rows

-- how many they are
abbrev pub hand : Ahead → ℕ
hand a = length a.page.rows - a.index

-- how many records the segments that were read have, by the counts that are kept
abbrev pub read_by : Ahead → ℕ
read_by a = sum (take a.reader.next a.tally.now.counts)

-- all of them, by the array of the region
abbrev pub left_in : Array → Ahead → List Record
left_in segments a = drop a.index a.page.rows ++ rows (drop a.reader.next segments)

-- The reading is amid the region of a place, for which a tally is kept, and that many records of the last segment were passed.
pub record IsAhead (place : Place) (a : Ahead) : Type 0 where
  pub counts : length a.tally.now.counts ≡ 2 ^ a.tally.now.height
  pub layout_is : a.reader.layout ≡ place.layout
  pub region_is : a.reader.region ≡ place.region
  pub end_is : a.reader.end ≡ 2 ^ a.tally.now.height
  pub within : a.reader.next ≤ a.reader.end
  pub unfaulted : a.reader.faulted ≡ false
  pub taken : a.index ≤ length a.page.rows
  pub fits : FitsSegment place.layout.format a.page.rows
  pub height : a.tally.now.height ≤ height_limit place.layout
  pub number : a.segment ≡ a.reader.next
  -- the reader notes the last key of the page, if that has records
  pub last_is : a.reader.last ≡ last_behind a.reader.last a.page.rows

-- the region is that of the file, for which the tally stands, and over which nothing is to be laid
pub record ReadsLive (place : Place) (a : Ahead) (v : View) : Type 0 where
  pub ahead : IsAhead place a
  pub reach : file_length place.layout ≤ v.fixed.reach
  pub stands : EachHeld (StandsBare place a.tally.now) v
  -- its next segments ascend, above the last key that was read
  pub order : Told v → LieAbove a.reader (array_of v.held)

-- The records ahead are above a key: those at hand, or else any that may be read next.
pub record IsAbove (key : Option Bytes) (a : Ahead) : Type 0 where
  pub here : begins_above key (at_hand a) ≡ true
  pub onward : at_hand a ≡ [] → a.reader.next ≢ a.reader.end → (rs : List Record) → begins_above a.reader.last rs ≡ true →
      begins_above key rs ≡ true

-- whether records begin with one below a key, or with any if there is no key
abbrev pub begins_under : Option Bytes → List Record → Bool
begins_under key [] = false
begins_under None (r ∷ rs) = true
begins_under (Some key) (r ∷ rs) = is_lt (key_cmp r.0 key)

-- the records that are below a key, or all
abbrev pub under : Option Bytes → List Record → List Record
under None rs = rs
under (Some key) rs = where_key key_cmp (λ other. is_lt (key_cmp other key)) rs

-- and the others
abbrev pub over : Option Bytes → List Record → List Record
over None rs = []
over (Some key) rs = where_key key_cmp (λ other. not (is_lt (key_cmp other key))) rs

-- no record ahead is below a key, and none is left if there is no key
pub record StopsAt (key : Option Bytes) (a : Ahead) : Type 0 where
  pub here : begins_under key (at_hand a) ≡ false
  pub all : at_hand a ≡ [] → a.reader.next ≡ a.reader.end

-- whether records begin with one of this key
abbrev pub begins_with : Bytes → List Record → Bool
begins_with key [] = false
begins_with key (r ∷ rs) = is_eq (key_cmp r.0 key)

-- the next record was passed
abbrev pub passed : Ahead → Ahead
passed a = record a { index = a.index + 1 }

-- Some of the next segments were read, whatever was answered.
pub record ReadsAhead {T : Type 0} (place : Place) (result : Result T StoreFault) (old new : Ahead) (a b : View) : Type 0 where
  pub live : OnOk result (ReadsLive place new b)
  pub same : OnOk result (Told a → left_in (array_of a.held) new ≡ left_in (array_of a.held) old)
  pub above : OnOk result ((key : Option Bytes) → IsAbove key old → IsAbove key new)
  -- a segment that is read has as many records as are kept for it
  pub count : OnOk result (read_by new + hand old ≡ read_by old + hand new)
  pub tally : new.tally.now ≡ old.tally.now
  pub steps : Steps Same a b
  -- each segment was read once, by at most one call, straight on, and none behind the last
  pub reads : b.travel ≡ after_walk place.layout place.region old.reader.next new.reader.next a.travel
  pub calls : b.calls ≤ a.calls + (new.reader.next - old.reader.next)
  pub onward : old.reader.next ≤ new.reader.next
  pub upto : new.reader.next ≤ 2 ^ old.tally.now.height
  -- if bytes are told only the disk stops it
  pub damaged : IfErr result (λ fault. Told a → fault ≡ Failed)
  -- and on any station the damage of the segment that was read last
  pub cause : IfErr result (λ fault. (i : ℕ) × (i < 2 ^ old.tally.now.height) × (old.reader.next ≤ i)
      × (new.reader.next ≡ i + 1) × IsDamageAt i old.tally.now.counts fault)
  -- `Failed` comes only if the count of disk faults rose
  pub failed : IsErrOf result Failed → Rose a.disk_faults b.disk_faults

-- The same by whether there was a fault.
abbrev pub ReadsNext : Place → Option StoreFault → Ahead → Ahead → View → View → Type 0
ReadsNext place None old new a b = ReadsAhead {T = Unit {0}} place (Ok tt) old new a b
ReadsNext place (Some fault) old new a b = ReadsAhead {T = Unit {0}} place (Err fault) old new a b
