-- Several updates as one command: what it answers, and what it leaves at every moment.
use Rattle.std.specs.Prelude.{◌≡◌, ◌^◌, ◌⊎◌, ℕ, ◌+◌, ◌-◌, ◌*◌, ◌<◌, ◌≤◌, nat_le, if◌then◌else◌, Bool, false, List, [], length, sum, is_some, Result, IsOk, OnOk, IfOk, IfErr, IsErrOf}
use Rattle.station.specs.Bytes.{Touched}
use Rattle.station.specs.View.{View, Told, EachHeld, Rose}
use Rattle.station.specs.Steps.{Steps}
use Rattle.batch_intent.specs.Gate.{IsIntentPlace}
use Rattle.batch_intent.specs.Means.{has_waiting}
use Rattle.cost_ledger.specs.Potential.{potential_of}
use Rattle.density_rule.specs.Bounds.{upper_of}
use Rattle.header_gate.specs.declared.layout.Layout.{Layout}
use Rattle.header_gate.specs.declared.layout.TheConstants.{INTENT_VERSION}
use Rattle.map_model.specs.ArrayState.{ArrayState}
use Rattle.map_model.specs.Image.{array_of, map_of}
use Rattle.map_model.specs.Items.{first_full, accepts}
use Rattle.map_model.specs.ItemWords.{ItemCounts, no_items, count_items, array_state_after_batch, charge_after_items}
use Rattle.map_model.specs.After.{map_after_items}
use Rattle.map_model.specs.Store.{Map, Update}
use Rattle.recovery.specs.Intents.{puts_in}
use Rattle.segment.specs.declared.fault.StoreFault.{StoreFault}
use Rattle.segment.specs.declared.fault.StoreFault.TheVariants.{Failed}
use Rattle.pma_store.specs.declared.answers.Batch.{Batch}
use Rattle.pma_store.specs.declared.answers.Batch.TheVariants.{Done, Full, NoBatch}
use Rattle.pma_store.specs.StoreAnswers.{state_in}
use Rattle.pma_store.specs.BatchCalls.{CallsBatch, LooksOnce}
use Rattle.pma_store.specs.Costing.{most_of, updates_cost, WritesSome}
use Rattle.pma_store.specs.Damaging.{AreFoundTallies, IsMetLooking, IsMetMid}
use Rattle.pma_store.specs.Looking.{TellsOther}
use Rattle.pma_store.specs.Meaning.{BecomesMeant}
use Rattle.pma_store.specs.Once.{AreOneCommit, edited_segments}
use Rattle.pma_store.specs.Rewrites.{spared_bytes}
use Rattle.pma_store.specs.StoreView.{StoreView, StandsOn, LeavesAll, limit_of}
use Rattle.pma_store.specs.Touching.{IsUpdatePlace}
use Rattle.pma_store.specs.ItemEffects.{AreFound, counted_all}

abbrev pub version_of : StoreView → ℕ
version_of s = s.place.layout.version

-- the answer where all items are made
abbrev pub done_by : ItemCounts → ℕ → Batch
done_by counts charge = Done counts.stored counts.replaced counts.removed counts.absent charge

-- what a batch answers in a file of this version and a state of it, where the greatest height is hmax
abbrev pub batch_answer : ℕ → ℕ → ArrayState → List Update → Batch
batch_answer version hmax s items =
    if nat_le INTENT_VERSION version
    then (if is_some (first_full hmax s.map items) then Full (upper_of hmax) else done_by (count_items hmax s.map items no_items) (charge_after_items hmax s items))
    else NoBatch

-- the updates that a batch makes in a map: all of its items, or none
abbrev pub items_made : ℕ → ℕ → Map → List Update → List Update
items_made version hmax m items = if accepts version hmax m items then items else []

-- the map after them
abbrev pub map_after_batch : ℕ → ℕ → Map → List Update → Map
map_after_batch version hmax m items = map_after_items hmax m (items_made version hmax m items)

-- by an answer, how many items were made, with what charge, and the bytes of their intent and its gate, twice
abbrev pub made_in : ℕ → Batch → ℕ
made_in n (Done stored replaced removed absent charge) = n
made_in n (Full most) = 0
made_in n NoBatch = 0

abbrev pub charge_in : Batch → ℕ
charge_in (Done stored replaced removed absent charge) = charge
charge_in (Full most) = 0
charge_in NoBatch = 0

abbrev pub intent_cost_in : Batch → ℕ
intent_cost_in (Done stored replaced removed absent charge) = 514
intent_cost_in (Full most) = 0
intent_cost_in NoBatch = 0

-- Each of the items is counted, the puts as stored or replaced; and the records behind them are those before them, with those that
-- were stored and without those that were removed. If it is refused they are as many; and a batch that finds the store full would
-- pass the most if each of its puts bound a new key.
abbrev pub CountsBatch : List Update → Batch → ℕ → ℕ → Type 0
CountsBatch items (Done stored replaced removed absent charge) before after =
    (stored + replaced ≡ puts_in items) × (stored + replaced + removed + absent ≡ length items) × (after + removed ≡ before + stored)
CountsBatch items (Full most) before after = (after ≡ before) × (most < before + puts_in items)
CountsBatch items NoBatch before after = after ≡ before

-- What was found of each item of a batch that was made.
pub record CountsEach (items : List Update) (counts : ItemCounts) (s t : StoreView) (a : View) : Type 0 where
  -- There is one Bool for each item: whether its key was there when it was looked for.
  pub found : List Bool
  -- By the Bool of its own item, the answer counts a put as replaced or as stored, and a removal as removed or as absent.
  pub counts_are : counts ≡ counted_all items found no_items
  -- The kept counts and marks go from those before the batch to those behind it in steps, one for each item in order. A put of a
  -- key that was there leaves them as they are, and so does the removal of one that wasn't. At any other item they become what
  -- such a change of some segment of the store asks for, with one record more or less in a segment of the store then.
  pub tallies : AreFoundTallies items found s.tally t.tally
  -- If bytes are told, each Bool is whether the map before the batch has the key; no two items have the same one.
  pub keys : Told a → AreFound found items (map_of a.held) (length items)

-- by an answer, if it was made
abbrev pub CountsEachOf : List Update → Batch → StoreView → StoreView → View → Type 0
CountsEachOf items (Done stored replaced removed absent charge) s t a =
    CountsEach items (record { stored = stored; replaced = replaced; removed = removed; absent = absent }) s t a
CountsEachOf items (Full most) s t a = Unit {0}
CountsEachOf items NoBatch s t a = Unit {0}

-- a refusal
abbrev pub IsRefusal : Batch → Type 0
IsRefusal (Done stored replaced removed absent charge) = ⊥
IsRefusal (Full most) = Unit {0}
IsRefusal NoBatch = Unit {0}

-- a place of an update, or of the intent or its gate
abbrev pub IsBatchPlace : Layout → ℕ → Type 0
IsBatchPlace l p = IsUpdatePlace l p ⊎ IsIntentPlace p

-- A batch was made under no intent, by at most one commit.
pub record MakesAtOnce (items : List Update) (s : StoreView) (a b : View) : Type 0 where
  -- At no moment any byte of the intent or of its gate is touched.
  pub touched : Steps (Touched (IsUpdatePlace s.place.layout)) a b
  -- At most `8196 * F * n + 6` bytes are written for the n segments that its items edit, with F pages a segment, at version 4 a
  -- byte less, and nothing if n is 0.
  pub written : b.travel.written ≤ a.travel.written
      + (8196 * s.place.layout.format * length (edited_segments (array_of a.held) items) + 6 - spared_bytes s.place.layout)
  pub unwritten : edited_segments (array_of a.held) items ≡ [] → b.travel.written ≡ a.travel.written

-- A batch, as a store offers it.
pub record Batches (items : List Update) (result : Result Batch StoreFault) (s t : StoreView) (a b : View) : Type 0 where
  -- The answer is that of the ordered map: `NoBatch` in a file of version 1, else `Full` or what the items did, with their
  -- charge.
  pub answer : IfOk result (λ done. Told a → done ≡ batch_answer (version_of s) (limit_of s) (state_in s a.held) items)
  -- On Ok map, height, array and marks are those after all items in their order, or as they were.
  pub state : OnOk result (Told a → state_in t b.held ≡ array_state_after_batch (version_of s) (limit_of s) (state_in s a.held) items)
  -- With `Full` and `NoBatch` every byte and the store stay, and nothing is written; with `NoBatch` nothing is read and no call
  -- is made.
  pub refused : IfOk result (λ done. IsRefusal done → LeavesAll s t a b)
  pub unread : IfOk result (λ done. done ≡ NoBatch → (b.travel ≡ a.travel) × (b.calls ≡ a.calls))
  -- A crash at any moment leaves a file that has the layout of the store, and means the map before the batch or the map after all
  -- of its items, through rebalances, growths and shrinkages amid them; no byte differs but an update's, the intent's and its
  -- gate's. The held bytes are such, whatever is answered.
  pub meant : Steps (BecomesMeant s.place.layout (map_of a.held) (map_after_batch (version_of s) (limit_of s) (map_of a.held) items)) a b
  pub touched : Steps (Touched (IsBatchPlace s.place.layout)) a b
  pub layout : t.place.layout ≡ s.place.layout
  -- On Ok, on every station, at most `4101 * F` bytes times its charge are written, with F pages a segment, and 514 more if it is
  -- made.
  pub images : IfOk result (λ done. b.travel.written ≤ a.travel.written + 4101 * s.place.layout.format * charge_in done + intent_cost_in done)
  -- If bytes are told, on Ok at most 514 bytes are written and what its items cost, each in the state before it, and none if it
  -- is refused. Whatever is answered, at most 514 bytes and the cost of some first items of those that an accepted batch makes.
  pub cost : IfOk result (λ done. Told a → b.travel.written ≤ a.travel.written
      + updates_cost s.place.layout (state_in s a.held) (items_made (version_of s) (limit_of s) (map_of a.held) items) + intent_cost_in done)
  pub most : Told a → WritesSome s.place.layout (state_in s a.held) (items_made (version_of s) (limit_of s) (map_of a.held) items) (a.travel.written + 514) b.travel.written
  -- On every station, whatever is answered, at most 514 bytes and for each item what one update may write at the greatest height.
  pub spent : b.travel.written ≤ a.travel.written + (most_of s.place.layout (length items) + 514)
  -- If it is refused, it makes at most one call for each of some segments of the store, no more than items, and if bytes are told
  -- only of those to which keys of its items belong.
  pub looks : IfOk result (λ done. IsRefusal done → LooksOnce items s.tally.height a b)
  -- On every station, whatever is answered, it makes no more calls than `IsForBatch` says.
  pub calls : CallsBatch items s a b
  -- If bytes are told and its items are one commit in the state of the file, it goes by no intent, whatever is answered.
  pub at_once : Told a → AreOneCommit s.place.layout (state_in s a.held) items → MakesAtOnce items s a b
  -- On Ok its charge and the rise of the potential are together at most 514 for each item that was made, on every station.
  pub paid : IfOk result (λ done. charge_in done + potential_of t.tally ≤ potential_of s.tally + 514 * made_in (length items) done)
  -- On Ok, on every station, each put is counted as stored or replaced, and each removal as removed or absent; and the kept numbers
  -- of records come to those before it, one more for each that is counted as stored, and one less for each as removed. If it is
  -- refused they are as many; and it is `Full` only if they and all its puts pass the most records that it names.
  pub counted : IfOk result (λ done. CountsBatch items done (sum s.tally.counts) (sum t.tally.counts))
  -- On Ok, if it is made, on every station, each item is counted by what the search for its own key found, and the kept counts
  -- and marks are changed by just the items that add or take a record, as `CountsEach` says.
  pub found : IfOk result (λ done. CountsEachOf items done s t a)
  -- It fails by the disk; or by damage of a segment that was read last while the keys were looked for, by its kept count and not
  -- that keys are out of order, with nothing written; or in one of its items, as an update does, by the counts that the items
  -- before it left.
  pub met : IfErr result (λ fault. (fault ≡ Failed) ⊎ ((IsMetLooking s.place s.tally fault b × (b.travel.written ≡ a.travel.written)) ⊎ IsMetMid items s t fault b))
  -- If bytes are told and the count of disk faults didn't rise, it answers Ok.
  pub complete : Told a → ¬ Rose a.disk_faults b.disk_faults → IsOk result

-- A batch within a store: besides, the store stands for its file again, and why it fails. Whether the store is closed is left
-- as it was.
pub record AppliesBatch (items : List Update) (result : Result Batch StoreFault) (s t : StoreView) (a b : View) : Type 0 where
  pub batch : Batches items result s t a b
  pub store : OnOk result (StandsOn t b)
  pub no_intent : OnOk result (EachHeld (λ image. has_waiting image ≡ false) b)
  pub closed : t.closed ≡ s.closed
  pub damaged : IfErr result (λ fault. Told a → fault ≡ Failed)
  pub counted : IfErr result (TellsOther (2 ^ limit_of s))
  pub failed : IsErrOf result Failed → Rose a.disk_faults b.disk_faults
