-- Where an update is made.
use Rattle.std.specs.Prelude.{◌≡◌, ℕ, ◌+◌, ◌≤◌, ◌<◌, ◌^◌, List, T, length, slice_index, Some, is_some, Result, IfOk, IfErr, IsErrOf, is_ok}
use Rattle.std.specs.List.{list_all}
use Rattle.station.specs.Bytes.{Same}
use Rattle.station.specs.View.{View, Told, Rose, after_read}
use Rattle.station.specs.Steps.{Steps}
use Rattle.header_gate.specs.Places.{segment_place, segment_size}
use Rattle.key_slot.specs.Record.{Record, is_record, IsAscending}
use Rattle.map_model.specs.Array.{segment_at, segment_for}
use Rattle.map_model.specs.Store.{key_of}
use Rattle.map_model.specs.Image.{array_of}
use Rattle.map_model.specs.Store as model
use Rattle.range_scan.specs.SegmentFaults.{IsDamageAt}
use Rattle.segment.specs.Rows.{key_at, value_of, IsGap}
use Rattle.segment.specs.declared.fault.StoreFault.{StoreFault}
use Rattle.segment.specs.declared.fault.StoreFault.TheVariants.{Failed}
use Rattle.pma_store.specs.declared.update.Location.{Location}
use Rattle.pma_store.specs.StoreView.{StoreView}

-- a segment with as many rows as are kept for it, and the place of the update's key there, or where it would stand
pub record IsLocation (u : model.Update) (s : StoreView) (location : Location) (rows : List Record) : Type 0 where
  pub within : location.segment < 2 ^ s.tally.height
  pub there : location.segment < length s.tally.counts
  pub count : length rows ≡ slice_index s.tally.counts location.segment
  pub ascending : IsAscending rows
  -- the file's slots have room for them
  pub fits : T (list_all (is_record s.place.layout.format) rows)
  pub key : IfOk location.found (λ place. key_at rows place ≡ Some (key_of u))
  pub gap : IfErr location.found (λ place. IsGap rows place (key_of u))
  pub present : is_ok location.found ≡ is_some (value_of (key_of u) rows)

-- the segment is the one of the image to which the key belongs
pub record IsOwn (u : model.Update) (location : Location) (rows : List Record) (image : List ℕ) : Type 0 where
  pub segment_is : location.segment ≡ segment_for (array_of image) (key_of u)
  pub rows_are : rows ≡ segment_at (array_of image) location.segment

-- The update's location was looked for, by one read of one segment that changes nothing; these rows were found in it.
pub record FindsLocation (u : model.Update) (result : Result Location StoreFault) (s t : StoreView) (rows : List Record) (a b : View) : Type 0 where
  pub location : IfOk result (λ location. IsLocation u t location rows)
  pub own : IfOk result (λ location. Told a → IsOwn u location rows a.held)
  -- the segment that was read, to which the key belongs
  pub at : ℕ
  pub at_in : at < 2 ^ s.tally.height
  pub at_own : Told a → at ≡ segment_for (array_of a.held) (key_of u)
  pub at_is : IfOk result (λ location. location.segment ≡ at)
  pub read : b.travel ≡ after_read (segment_place s.place.layout s.place.region at) (segment_size s.place.layout) a.travel
  pub calls : b.calls ≤ a.calls + 1
  -- damage is its own, by the count that is kept for it, or says that it is out of order
  pub damage : IfErr result (IsDamageAt at s.tally.counts)
  pub damaged : IfErr result (λ fault. Told a → fault ≡ Failed)
  pub failed : IsErrOf result Failed → Rose a.disk_faults b.disk_faults
  pub store : t ≡ s
  pub steps : Steps Same a b
  pub unwritten : b.travel.written ≡ a.travel.written
