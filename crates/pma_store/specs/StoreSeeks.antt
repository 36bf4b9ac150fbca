-- What a look for a record next to a key sees of a store.
use Rattle.std.specs.Prelude.{◌≡◌, ℕ, false, List, Option, Result, IfOk, is_err}
use Rattle.std.specs.Option.{option_map}
use Rattle.std.specs.FinMap.{entries}
use Rattle.station.specs.Bytes.{Same}
use Rattle.station.specs.View.{View, Told}
use Rattle.station.specs.Steps.{Steps}
use Rattle.batch_intent.specs.Means.{has_waiting}
use Rattle.key_slot.specs.Record.{Bytes}
use Rattle.key_slot.specs.Row.{record_of}
use Rattle.key_slot.specs.declared.row.Row.{Row}
use Rattle.map_model.specs.Cursors.{onward, back, record_ahead}
use Rattle.map_model.specs.Image.{map_of}
use Rattle.range_scan.specs.SeekReads.{KeptRegion, ReadsNear, ReadsBehind, earlier, later}
use Rattle.segment.specs.declared.fault.StoreFault.{StoreFault}
use Rattle.pma_store.specs.Metered.{MeteredView}
use Rattle.pma_store.specs.StoreView.{StoreView, Stands}

-- the store stands for the bytes of a file, and no batch is half made in them: what an open store says of what is held
pub record StandsIdle (s : StoreView) (image : List ℕ) : Type 0 where
  pub stands : Stands s image
  pub no_intent : has_waiting image ≡ false

-- where its region lies, with what it keeps of it
abbrev pub kept_region : StoreView → KeptRegion
kept_region s = record { layout = s.place.layout; region = s.place.region; height = s.tally.height; counts = s.tally.counts }

-- the store and its ledger, but for whether a call answered a fault
abbrev pub unclosed : MeteredView → MeteredView
unclosed m = record { store = record m.store { closed = false }; ledger = m.ledger }

-- The next record behind a key was looked for.
pub record Seeks (low past high : Option Bytes) (result : Result (Option Row) StoreFault) (s t : StoreView) (a b : View) : Type 0 where
  pub answer : IfOk result (λ row. Told a → option_map record_of row ≡ record_ahead onward (record { low = low; high = high; past = past }) (entries (map_of a.held)))
  pub steps : Steps Same a b
  pub kept : t ≡ record s { closed = is_err result }
  -- one segment or two were read, and damage is that of the one that was read last
  pub read : ReadsNear (later low past) (kept_region s) result a b

-- And the last record before one.
pub record SeeksBack (low past high : Option Bytes) (result : Result (Option Row) StoreFault) (s t : StoreView) (a b : View) : Type 0 where
  pub answer : IfOk result (λ row. Told a → option_map record_of row ≡ record_ahead back (record { low = low; high = high; past = past }) (entries (map_of a.held)))
  pub steps : Steps Same a b
  pub kept : t ≡ record s { closed = is_err result }
  -- one segment or two were read, the later first, and damage is that of the one that was read last
  pub read : ReadsBehind (earlier past high) (kept_region s) result a b
