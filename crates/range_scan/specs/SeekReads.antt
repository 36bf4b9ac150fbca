-- What a look for the record next to a key may read, and may find wrong.
use Rattle.std.specs.Prelude.{◌≡◌, ℕ, ◌+◌, ◌-◌, ◌^◌, ◌<◌, ◌≤◌, ◌&&◌, Bool, false, List, [], ◌∷◌, T, take, drop, slice_get, Option, Some, None, Result, IfErr, if◌then◌else◌}
use Rattle.std.specs.Ordering.{is_lt, is_gt, is_eq}
use Rattle.header_gate.specs.declared.layout.Layout.{Layout}
use Rattle.key_slot.specs.Record.{Bytes, Record, key_cmp}
use Rattle.map_model.specs.Array.{segment_at}
use Rattle.map_model.specs.Image.{array_of}
use Rattle.std.specs.FinMap.Entries.{where_key}
use Rattle.std.specs.List.{last_or}
use Rattle.map_model.specs.Scan.{compares, is_within}
use Rattle.range_scan.specs.ScanBounds.{is_below, is_from, are_from, are_before, are_behind}
use Rattle.segment.specs.declared.fault.StoreFault.{StoreFault}
use Rattle.segment.specs.declared.fault.StoreFault.TheVariants.{Failed}
use Rattle.station.specs.Bytes.{Same}
use Rattle.station.specs.View.{View, Told, Rose}
use Rattle.station.specs.Steps.{Steps}
use Rattle.range_scan.specs.SegmentFaults.{IsDamageAt}
use Rattle.range_scan.specs.RegionReaderView.{ReaderView}
use Rattle.range_scan.specs.Sweeping.{first_for, last_for}
use Rattle.range_scan.specs.Walk.{after_walk, after_walk_back}

-- where a store has its region, and what it keeps of it: the height, and the count of each segment
pub record KeptRegion : Type 0 where
  pub layout : Layout
  pub region : ℕ
  pub height : ℕ
  pub counts : List ℕ

-- the later of two bounds, from which a look may begin: a key that isn't below the one, and is above the other, isn't below it
abbrev pub later : Option Bytes → Option Bytes → Option Bytes
later None past = past
later (Some low) None = Some low
later (Some low) (Some past) = if is_lt (key_cmp past low) then Some low else Some past

-- the earlier of two bounds, below which a look back ends: a key that is below both is below it
abbrev pub earlier : Option Bytes → Option Bytes → Option Bytes
earlier None high = high
earlier (Some past) None = Some past
earlier (Some past) (Some high) = if is_lt (key_cmp past high) then Some past else Some high

-- whether a key is this one, where there is one
abbrev pub is_at : Option Bytes → Bytes → Bool
is_at None key = false
is_at (Some past) key = is_eq (key_cmp key past)

-- whether a record has this key
abbrev pub stands_at : Option Bytes → Option Record → Bool
stands_at past None = false
stands_at past (Some r) = is_at past r.0

-- One segment or two that stand side by side were read, in ascending order and once each, and nothing was written, on every
-- station.
pub record ReadsNear {A : Type 0} (start : Option Bytes) (kept : KeptRegion) (result : Result A StoreFault) (a b : View) : Type 0 where
  pub from : ℕ
  pub to : ℕ
  pub travel : b.travel ≡ after_walk kept.layout kept.region from to a.travel
  pub some : from < to
  pub two : to ≤ from + 2
  -- each is read by at most one call
  pub calls : b.calls ≤ a.calls + (to - from)
  -- they are segments of the store, so that in one of height 0 it is one
  pub within : to ≤ 2 ^ kept.height
  -- the first that is read is the one to which the bound belongs
  pub own : Told a → from ≡ first_for start (array_of a.held)
  -- damage is that of the segment that was read last, by the count that is kept for it
  pub causes : IfErr result (IsDamageAt (to - 1) kept.counts)

-- One segment was read, and maybe behind it the one before it, each once, and nothing was written, on every station.
pub record ReadsBehind {A : Type 0} (end : Option Bytes) (kept : KeptRegion) (result : Result A StoreFault) (a b : View) : Type 0 where
  pub last : ℕ
  pub count : ℕ
  pub travel : b.travel ≡ after_walk_back kept.layout kept.region last count a.travel
  pub some : 0 < count
  pub two : count ≤ 2
  -- each is read by at most one call
  pub calls : b.calls ≤ a.calls + count
  -- they are segments of the store, so that in one of height 0 it is one
  pub within : last < 2 ^ kept.height
  pub inside : count ≤ last + 1
  -- the first that is read is the one to which the bound belongs
  pub own : Told a → last ≡ last_for end (array_of a.held)
  -- the other one is read only if no record of the first is below the bound
  pub needed : 1 < count → Told a → T (are_behind end (segment_at (array_of a.held) last))
  -- damage is that of the segment that was read last, by the count that is kept for it
  pub causes : IfErr result (IsDamageAt (last + 1 - count) kept.counts)

-- One segment was read, once, and nothing was written, on every station.
pub record ReadsOne {A : Type 0} (kept : KeptRegion) (segment : ℕ) (result : Result A StoreFault) (a b : View) : Type 0 where
  -- no byte changes
  pub steps : Steps Same a b
  pub travel : b.travel ≡ after_walk kept.layout kept.region segment (segment + 1) a.travel
  -- it is read by at most one call
  pub calls : b.calls ≤ a.calls + 1
  -- if bytes are told only the disk fails
  pub damaged : IfErr result (λ fault. Told a → fault ≡ Failed)
  -- on any station damage is that of the segment, by the count that is kept for it
  pub causes : IfErr result (IsDamageAt segment kept.counts)
  -- `Failed` comes only if the count of disk faults rose
  pub failed : IfErr result (λ fault. fault ≡ Failed → Rose a.disk_faults b.disk_faults)

-- The first of ascending records that isn't below a bound and has another key than `past` stands at this index: those before
-- it are below the bound, but for one with that key.
pub record IsIndexPast (start past : Option Bytes) (records : List Record) (index : ℕ) : Type 0 where
  pub from : ℕ
  pub before : T (are_before start (take from records))
  pub behind : T (are_from start (drop from records))
  pub index_is : index ≡ (if stands_at past (slice_get (drop from records) 0) then from + 1 else from)

-- whether a key lies ahead: within two bounds, and beyond a third
abbrev pub is_ahead : Option Bytes → Option Bytes → Option Bytes → Bytes → Bool
is_ahead low past high key = is_within low high key && compares is_gt past key

-- none of these records is ahead of a lower bound and `past`, whatever lower bound the look began with
abbrev pub NoneAhead : Option Bytes → Option Bytes → Option Bytes → List Record → Type 0
NoneAhead start past high records = (low : Option Bytes) → start ≡ later low past → where_key key_cmp (is_ahead low past high) records ≡ []

-- the first record, where it is below a bound
abbrev pub first_below : Option Bytes → List Record → Option Record
first_below high [] = None
first_below high (r ∷ rs) = if is_below high r.0 then Some r else None

-- a record, where it isn't below a bound
abbrev pub if_from : Option Bytes → Option Record → Option Record
if_from low None = None
if_from low (Some r) = if is_from low r.0 then Some r else None

-- the last record, where it isn't below a bound
abbrev pub last_from : Option Bytes → List Record → Option Record
last_from low records = if_from low (last_or None records)

-- A reader amid a look for the next record: it reads in the region from the first segment on, to an end at two segments further
-- at most.
pub record IsNear (layout : Layout) (region height first : ℕ) (r : ReaderView) : Type 0 where
  pub layout_is : r.layout ≡ layout
  pub region_is : r.region ≡ region
  pub onward : first ≤ r.next
  pub upto : r.next ≤ r.end
  pub some : first < r.end
  pub two : r.end ≤ first + 2
  pub within : r.end ≤ 2 ^ height
  pub reached : r.end < first + 2 → r.end ≡ 2 ^ height
  pub unfaulted : r.faulted ≡ false
