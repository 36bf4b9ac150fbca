-- The items of a batch, made one after another.
use Rattle.std.specs.Prelude.{◌≡◌, ◌^◌, ◌⊎◌, ℕ, ◌+◌, ◌*◌, ◌≤◌, Bool, false, List, length, Option, Some, None, is_some, Result, OnOk, IfOk, IfErr, IsErrOf}
use Rattle.station.specs.Bytes.{Touched}
use Rattle.station.specs.View.{View, Told, EachHeld, Rose}
use Rattle.station.specs.Steps.{Steps}
use Rattle.batch_intent.specs.Gate.{IsIntentGatePlace}
use Rattle.batch_intent.specs.Means.{InBatch, has_waiting, map_after_all}
use Rattle.cost_ledger.specs.Potential.{potential_of}
use Rattle.header_gate.specs.declared.layout.Layout.{Layout}
use Rattle.map_model.specs.ArrayState.{next_state, next_states}
use Rattle.map_model.specs.Charges.{charge_after}
use Rattle.map_model.specs.Image.{array_of, height_of}
use Rattle.map_model.specs.ItemWords.{AreAdmitted, charge_after_items}
use Rattle.map_model.specs.Store.{Map, Update, key_of}
use Rattle.key_slot.specs.Record.{Record}
use Rattle.segment.specs.Rows.{value_of}
use Rattle.segment.specs.declared.fault.StoreFault.{StoreFault}
use Rattle.segment.specs.declared.fault.StoreFault.TheVariants.{Failed}
use Rattle.pma_store.specs.StoreAnswers.{state_in}
use Rattle.pma_store.specs.BatchCalls.{AreForItems}
use Rattle.pma_store.specs.Changing.{most_written}
use Rattle.pma_store.specs.Costing.{most_of, update_cost_in, updates_cost, WritesSome}
use Rattle.pma_store.specs.Damaging.{IsMetMid, MeetsItem}
use Rattle.pma_store.specs.Looking.{TellsOther}
use Rattle.pma_store.specs.Meaning.{MeansNow}
use Rattle.pma_store.specs.StoreView.{StoreView, StandsOn, limit_of}
use Rattle.pma_store.specs.Touching.{Updates, IsUpdatePlace}
use Rattle.pma_store.specs.Updating.{need_of}
use Rattle.pma_store.specs.declared.update.Need.TheVariants as need
use Rattle.window_tally.specs.declared.Change.{Change}
use Rattle.window_tally.specs.TallyView.{TallyView}

-- a key is there as it was found, if it was looked for
abbrev pub IsAsFound : Option Bool → Bool → Type 0
IsAsFound None present = Unit {0}
IsAsFound (Some found) present = present ≡ found

-- A key isn't as it was found, in the rows that were read.
abbrev pub IsContradicted : Option Bool → Update → List Record → Type 0
IsContradicted found u rows = ¬ IsAsFound found (is_some (value_of (key_of u) rows))

-- what an update asks for adds no record and takes none, by whether its key is there
abbrev pub ChangesNone : Update → Bool → Type 0
ChangesNone u present = (change : Change) → need_of u present ≡ need.Change change → ⊥

-- an item that would add no record and take none by what was found of its key left the counts as they were
abbrev pub CountsAsFound : Option Bool → Update → TallyView → TallyView → Type 0
CountsAsFound None u t v = Unit {0}
CountsAsFound (Some present) u t v = ChangesNone u present → v ≡ t

-- One item was made, with this charge.
pub record MakesItem (u : Update) (result : Result ℕ StoreFault) (s t : StoreView) (a b : View) : Type 0 where
  pub state : OnOk result (Told a → state_in t b.held ≡ next_state (limit_of s) (state_in s a.held) u)
  pub charge : IfOk result (λ charge. Told a → charge ≡ charge_after (limit_of s) (height_of a.held) (array_of a.held) u)
  pub small : IfOk result (λ charge. charge ≤ 1048576)
  pub store : OnOk result (StandsOn t b)
  pub steps : Steps (Updates (limit_of s) u) a b
  pub layout : t.place.layout ≡ s.place.layout
  pub closed : t.closed ≡ s.closed
  pub cost : Told a → b.travel.written ≤ a.travel.written + update_cost_in s.place.layout (state_in s a.held) u
  pub images : IfOk result (λ charge. b.travel.written ≤ a.travel.written + 4101 * s.place.layout.format * charge)
  pub most : b.travel.written ≤ a.travel.written + most_written s.place.layout s.tally.height
  pub tall : s.tally.height ≤ limit_of s
  pub paid : IfOk result (λ charge. charge + potential_of t.tally ≤ potential_of s.tally + 514)
  pub met : MeetsItem u result s t a b
  pub damaged : IfErr result (λ fault. Told a → fault ≡ Failed)
  pub counted : IfErr result (TellsOther (2 ^ limit_of s))
  pub failed : IsErrOf result Failed → Rose a.disk_faults b.disk_faults

-- a place of an update, or of the intent's gate
abbrev pub IsItemPlace : Layout → ℕ → Type 0
IsItemPlace l p = IsUpdatePlace l p ⊎ IsIntentGatePlace p

-- The items of an intent that is to be applied were made, with this charge in all, and its gate was closed.
pub record MakesItems (items : List Update) (result : Result ℕ StoreFault) (s t : StoreView) (a b : View) : Type 0 where
  pub state : OnOk result (Told a → state_in t b.held ≡ next_states (limit_of s) (state_in s a.held) items)
  pub charge : IfOk result (λ charge. Told a → charge ≡ charge_after_items (limit_of s) (state_in s a.held) items)
  pub store : OnOk result (StandsOn t b)
  pub no_intent : OnOk result (EachHeld (λ image. has_waiting image ≡ false) b)
  -- in the middle of a batch from some map on: at every moment the map after all items is meant
  pub steps : (base : Map) → AreAdmitted (limit_of s) base items → EachHeld (InBatch s.place.layout base items 0) a →
      Steps (MeansNow s.place.layout (map_after_all s.place.layout base items)) a b
  pub touched : Steps (Touched (IsItemPlace s.place.layout)) a b
  pub layout : t.place.layout ≡ s.place.layout
  pub closed : t.closed ≡ s.closed
  -- what the items write, and one byte for the gate
  pub cost : OnOk result (Told a → b.travel.written ≤ a.travel.written + updates_cost s.place.layout (state_in s a.held) items + 1)
  pub images : IfOk result (λ charge. b.travel.written ≤ a.travel.written + 4101 * s.place.layout.format * charge + 1)
  pub most : Told a → WritesSome s.place.layout (state_in s a.held) items (a.travel.written + 1) b.travel.written
  pub spent : b.travel.written ≤ a.travel.written + (most_of s.place.layout (length items) + 1)
  -- the calls of some first items, and two for the gate
  pub of_items : ℕ
  pub are_for : AreForItems items s a of_items
  pub calls : b.calls ≤ a.calls + (of_items + 2)
  pub few : length items ≤ 16
  pub paid : IfOk result (λ charge. charge + potential_of t.tally ≤ potential_of s.tally + 514 * length items)
  pub met : IfErr result (λ fault. (fault ≡ Failed) ⊎ IsMetMid items s t fault b)
  pub damaged : IfErr result (λ fault. Told a → fault ≡ Failed)
  pub counted : IfErr result (TellsOther (2 ^ limit_of s))
  pub failed : IsErrOf result Failed → Rose a.disk_faults b.disk_faults
