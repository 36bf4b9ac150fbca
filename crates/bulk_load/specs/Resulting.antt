-- A record is packed behind those of a text or of a merge, unless the store is full.
use Rattle.std.specs.Prelude.{◌≡◌, ◌⊎◌, ℕ, ◌+◌, ◌-◌, ◌*◌, ◌^◌, ◌≤◌, List, [], ◌∷◌, ◌++◌, Some, Result, OnOk, IfErr, IsErrOf}
use Rattle.station.specs.View.{View, Told, Rose}
use Rattle.station.specs.Steps.{Steps}
use Rattle.header_gate.specs.Places.{height_limit, segment_size}
use Rattle.key_slot.specs.Record.{Record}
use Rattle.key_slot.specs.declared.sizes.TheConstants.{SEGMENT_SLOTS}
use Rattle.map_model.specs.Regions.{Spares}
use Rattle.redo_journal.specs.declared.place.Place.{Place}
use Rattle.redo_journal.specs.Frames.{Batch}
use Rattle.bulk_load.specs.declared.fault.LoadFault.{LoadFault}
use Rattle.bulk_load.specs.declared.fault.LoadFault.TheVariants.{NotEmpty, Line, Full, Disk, Damaged, Script, Spent}
use Rattle.bulk_load.specs.declared.packing.Taken.{Taken}
use Rattle.bulk_load.specs.Loads.{most_records}
use Rattle.bulk_load.specs.Packing.{IsTaken, HasPacked, WritesRuns, room_in}
use Rattle.bulk_load.specs.TextReading.{IsTaking}

-- why a record isn't packed behind that many: there are as many as may be, or a disk call failed
abbrev pub IsPackingFault : ℕ → ℕ → LoadFault → Type 0
IsPackingFault most records (Full n) = (n ≡ most) × (records ≡ most)
IsPackingFault most records Disk = Unit {0}
IsPackingFault most records (NotEmpty n) = ⊥
IsPackingFault most records (Line n) = ⊥
IsPackingFault most records (Damaged segment why) = ⊥
IsPackingFault most records Script = ⊥
IsPackingFault most records Spent = ⊥

-- The outcome of the packing of a record, whatever was answered.
pub record PacksRow {X : Type 0} (place : Place) (r : Record) (result : Result X LoadFault) (old new : Taken) (f g : Batch) (a b : View) : Type 0 where
  pub taken : OnOk result ((rows : List Record) → IsTaken place.layout old f rows → IsTaken place.layout new g (rows ++ r ∷ []))
  pub packed : OnOk result (Told a → (rows : List Record) → IsTaken place.layout old f rows →
      HasPacked place rows old.written a.held → HasPacked place (rows ++ r ∷ []) new.written b.held)
  pub taking : OnOk result (IsTaking place.layout new g)
  pub few : OnOk result (new.records ≤ most_records place.layout)
  pub ended : OnOk result (new.ended ≡ old.ended)
  pub fault : IfErr result (IsPackingFault (most_records place.layout) old.records)
  pub onward : OnOk result (old.written ≤ new.written)
  pub journal : g.journal ≡ f.journal
  pub turn : g.turn ≡ f.turn
  pub steps : Steps (Spares place.layout place.region) a b
  pub cost : OnOk result (b.travel.written ≤ a.travel.written + segment_size place.layout * (new.written - old.written))
  pub calls : OnOk result (WritesRuns (room_in place.layout) old.written new.written a.calls b.calls)
  -- and whatever was answered
  pub most_cost : b.travel.written ≤ a.travel.written + segment_size place.layout * (2 ^ height_limit place.layout - old.written)
  pub tried : (b.calls ≤ a.calls) ⊎ ((b.calls ≤ a.calls + 1)
      × (SEGMENT_SLOTS * (old.written + room_in place.layout) ≤ most_records place.layout))
  pub no_reads : b.travel ≡ record a.travel { written = b.travel.written }
  pub last : OnOk result (new.last ≡ Some r.0)
  pub count : OnOk result (new.records ≡ old.records + 1)
  pub failed : IsErrOf result Disk → Rose a.disk_faults b.disk_faults
