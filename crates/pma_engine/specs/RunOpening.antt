-- The outcome of the opening of a run's file.
use Rattle.std.specs.Prelude.{◌≡◌, ℕ, ◌+◌, ◌≤◌, ◌==◌, if◌then◌else◌, Bool, true, false, List, Some, None, Result, OnOk, IfOk, IfErr}
use Rattle.station.specs.Bytes.{byte, Same, Touched}
use Rattle.station.specs.Steps.{Steps}
use Rattle.station.specs.View.{View, Told, EachHeld, NothingPending, Rose}
use Rattle.header_gate.specs.InPlace.{IsBare}
use Rattle.header_gate.specs.Header.{layout_in, live_copy}
use Rattle.header_gate.specs.Places.{area_size, page_size}
use Rattle.header_gate.specs.Reasons.{header_reason}
use Rattle.header_gate.specs.Recovered.{recovered}
use Rattle.header_gate.specs.declared.layout.Layout.{Layout}
use Rattle.header_gate.specs.declared.layout.TheConstants.{PAIRED}
use Rattle.header_gate.specs.declared.reason.Reason.{Reason}
use Rattle.map_model.specs.ArrayState.{opened_state}
use Rattle.map_model.specs.Image.{height_of}
use Rattle.map_model.specs.Store.{Map}
use Rattle.index_file.specs.Clean.{IsCleanPlace, IsShut, KeepsClean}
use Rattle.index_file.specs.IndexOpening.{IsQuick, after_quick}
use Rattle.recovery.specs.declared.parts.Parts.{Parts}
use Rattle.batch_intent.specs.Means.{Means, has_waiting, opened_items_state, opening_reason, waiting}
use Rattle.recovery.specs.OpeningCosts.{opening_calls, opening_cost}
use Rattle.recovery.specs.OpeningFaults.{IsNoDamage}
use Rattle.recovery.specs.declared.fault.OpenFault.{OpenFault}
use Rattle.recovery.specs.declared.fault.OpenFault.TheVariants.{Memory, NotStore, Failed}
use Rattle.pma_store.specs.StoreAnswers.{state_in}
use Rattle.pma_store.specs.Costing.{updates_cost}
use Rattle.pma_store.specs.Opens.{IsAllAtRest}
use Rattle.pma_store.specs.StoreView.{StoreView, IsOpenOn}
use Rattle.pma_store.specs.declared.store.Store.{Store}
use Rattle.pma_engine.specs.Closing.{ClosesAtMost, ClosesFirst, IsButClosed, WritesGate, closing_cost}
use Rattle.command_text.specs.declared.command.Command.TheVariants.{Batch}
use Rattle.pma_engine.specs.CommandCosts.{most_of_one}

-- what an opening leaves of a file at every moment: its layout, each map that it meant, and if no items wait in an intent, the
-- copy that is live
pub record Reopens (old new : List ℕ) : Type 0 where
  pub layout : layout_in new ≡ layout_in old
  pub means : (m : Map) → Means (layout_in old) old m → Means (layout_in old) new m
  pub copy : has_waiting old ≡ false → live_copy new ≡ live_copy old

-- the items that wait in an intent write at most that many bytes, whatever comes of them: their own, one for the gate, and what one
-- update more may write
abbrev pub waiting_cost : List ℕ → ℕ
waiting_cost image = if has_waiting image then updates_cost (layout_in image) (opened_state image) (waiting image) + 1 + most_of_one (layout_in image) (Batch (waiting image)) else 0

-- and so an opening, with the closing of an index
abbrev pub reopening_cost : List ℕ → ℕ
reopening_cost image = opening_cost (layout_in image) + waiting_cost image + closing_cost (layout_in image)

-- The store is open on its file, in the state that an opening makes of the file, and the index in the file means nothing. If
-- nothing was to be done to the file but the closing of its index, no other byte was written, and each is as it was; else no
-- more was written than an opening costs.
pub record IsOpened (s : StoreView) (a b : View) : Type 0 where
  pub store : IsOpenOn s b
  pub shut : EachHeld IsShut b
  pub sound : Told a → opening_reason a.held ≡ None
  pub layout : Told a → s.place.layout ≡ layout_in a.held
  pub state : Told a → state_in s b.held ≡ opened_items_state a.held
  pub unwritten : Told a → IsAllAtRest a.held → WritesGate a.held a.travel.written b.travel.written
  pub kept : Told a → IsAllAtRest a.held → IsButClosed a.held a.held b.held
  pub cost : Told a → b.travel.written ≤ a.travel.written + reopening_cost a.held

-- Want of memory.
pub record IsOutOfMemory (a b : View) : Type 0 where
  -- At every moment every byte is left, and nothing is written, but that from version 3 on an odd clean gate may be closed, by
  -- one byte.
  pub closes : ClosesAtMost a b
  -- Nothing is pending.
  pub settled : NothingPending b
  -- Nothing is wrong with the file's header.
  pub sound : Told a → header_reason a.held ≡ None

-- The store is not open. A file that is refused recovers to what it recovered to, and if no page is to be replayed over its live
-- region, it is as before, but that its index may be closed.
pub record IsUnopened (fault : OpenFault) (a b : View) : Type 0 where
  pub refused : (r : Reason) → fault ≡ NotStore r → Told a → opening_reason a.held ≡ Some r
  pub recovers : (r : Reason) → fault ≡ NotStore r → Told a → IsButClosed a.held (recovered (layout_in a.held) a.held) (recovered (layout_in a.held) b.held)
  pub bare : (r : Reason) → fault ≡ NotStore r → Told a → IsBare (layout_in a.held) a.held → IsButClosed a.held a.held b.held
  pub memory : fault ≡ Memory → IsOutOfMemory a b
  pub unwritten : Told a → IsAllAtRest a.held → WritesGate a.held a.travel.written b.travel.written
  pub cost : Told a → b.travel.written ≤ a.travel.written + reopening_cost a.held
  pub failed : fault ≡ Failed → Rose a.disk_faults b.disk_faults
  pub undamaged : Told a → IsNoDamage fault

-- what is read of a file that is opened by its index: the header page and the index, each from its start to its end, or a front
-- of these
pub record LooksByIndex {T : Type 0} (result : Result T OpenFault) (a b : View) : Type 0 where
  pub whole : OnOk result (b.travel.read ≡ (after_quick (layout_in a.held) (height_of a.held) a.travel).read)
  pub most : b.travel.read ≤ a.travel.read + (page_size + area_size (layout_in a.held))

-- The outcome of the opening of a file, once it is attached; `quick` if it may be opened by its index.
pub record OpensStore (quick : Bool) (result : Result Store OpenFault) (a b : View) : Type 0 where
  pub opened : IfOk result (λ store. IsOpened store a b)
  pub unopened : IfErr result (λ fault. IsUnopened fault a b)
  pub steps : Steps Reopens a b
  pub clean : KeepsClean a b
  pub closes : ClosesFirst a b
  -- nothing is pending, as between two commands there may be in a file with two journals
  pub settled : OnOk result (NothingPending b)
  pub looks : quick ≡ true → Told a → IsQuick a.held → LooksByIndex result a b

-- the calls with which an opening by the live region ends: a sync, if the file has two journals
unfoldable pub sync_calls : Layout → ℕ
sync_calls l = if l.version == PAIRED then 1 else 0

-- the calls of an opening by the live region: one attaches the file, and then those that close an index, open the store and sync,
-- besides those of the items of an intent that is to be applied
abbrev pub reopening_calls : List ℕ → ℕ
reopening_calls image = 5 + opening_calls (layout_in image) (height_of image) + sync_calls (layout_in image)

-- Nothing is pending behind an opened store any more, and no byte changed.
pub record SyncsOpened (s : StoreView) (result : Result Store OpenFault) (a b : View) : Type 0 where
  pub store : IfOk result (λ store. store ≡ s)
  pub on : OnOk result (IsOpenOn s b)
  pub settled : OnOk result (NothingPending b)
  pub steps : Steps Same a b
  pub travel : b.travel ≡ a.travel
  pub calls : b.calls ≤ a.calls + sync_calls s.place.layout
  pub failed : IfErr result (λ fault. (fault ≡ Failed) × Rose a.disk_faults b.disk_faults)

-- the store that has these parts
abbrev pub store_by : Parts → StoreView
store_by p = record { place = p.place; tally = p.tally; index = p.index; journal = p.frames.journal; turn = p.frames.turn; closed = false }

-- The store was made of parts that were read from the index, once that was closed.
pub record TakesParts (parts : Parts) (result : Result Store OpenFault) (a b : View) : Type 0 where
  pub store : IfOk result (λ store. store ≡ store_by parts)
  pub on : IfOk result (λ store. IsOpenOn store b)
  pub settled : OnOk result (NothingPending b)
  pub steps : Steps (Touched IsCleanPlace) a b
  pub closed : OnOk result (Told a → byte b.held 704 ≡ 0)
  pub cost : b.travel.written ≤ a.travel.written + 1
  pub unread : b.travel.read ≡ a.travel.read
  pub failed : IfErr result (λ fault. (fault ≡ Failed) × Rose a.disk_faults b.disk_faults)
