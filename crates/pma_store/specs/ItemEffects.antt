-- What the items of a batch would do, by whether their keys are there and by how many records there are.
use Rattle.std.specs.Prelude.{◌≡◌, ◌^◌, ℕ, zero, suc, ◌+◌, ◌<◌, if◌then◌else◌, Bool, true, false}
use Rattle.std.specs.Prelude.{List, [], ◌∷◌, length, slice_index_or, Option, Some, None, is_some, Result, IfOk, IfErr, IsErrOf, is_ok, Err, sum}
use Rattle.std.specs.FinMap.{contains_key}
use Rattle.density_rule.specs.Bounds.{upper_of}
use Rattle.station.specs.Bytes.{Same}
use Rattle.station.specs.View.{View, Told, Rose}
use Rattle.station.specs.Steps.{Steps}
use Rattle.map_model.specs.Image.{map_of}
use Rattle.map_model.specs.Items.{first_full}
use Rattle.map_model.specs.ItemWords.{ItemCounts, no_items, count_items}
use Rattle.map_model.specs.Store.{Map, Update, bind, unbind, key_of}
use Rattle.one_commit.specs.Fitting.{is_put, kind_of}
use Rattle.one_commit.specs.declared.changes.ItemChange.{ItemChange}
use Rattle.recovery.specs.Intents.{meets_by, puts_in, records_by}
use Rattle.segment.specs.declared.fault.StoreFault.{StoreFault}
use Rattle.segment.specs.declared.fault.StoreFault.TheVariants.{Failed}
use Rattle.window_tally.specs.declared.Change.{Change}
use Rattle.window_tally.specs.TallyView.{TallyView}
use Rattle.pma_store.specs.declared.validation.Validated.{Validated}
use Rattle.pma_store.specs.BatchCalls.{LooksOnce}
use Rattle.pma_store.specs.Damaging.{AreFoundTallies, IsMetLooking}
use Rattle.pma_store.specs.Looking.{TellsOther}
use Rattle.pma_store.specs.StoreView.{StoreView, limit_of}

-- how many of the items did what, or none where one of them meets a full store
abbrev pub validated_of : ℕ → Map → List Update → Option ItemCounts
validated_of hmax m items = if is_some (first_full hmax m items) then None else Some (count_items hmax m items no_items)

abbrev pub counts_of : Validated → ItemCounts
counts_of j = record { stored = j.stored; replaced = j.replaced; removed = j.removed; absent = j.absent }

abbrev pub counts_in : Option Validated → Option ItemCounts
counts_in None = None
counts_in (Some j) = Some (counts_of j)

-- the counts with an item
abbrev pub counted_by : Update → Bool → ItemCounts → ItemCounts
counted_by (bind key value) present counts = if present then record counts { replaced = counts.replaced + 1 } else record counts { stored = counts.stored + 1 }
counted_by (unbind key) present counts = if present then record counts { removed = counts.removed + 1 } else record counts { absent = counts.absent + 1 }

-- how many of the items edit a segment
abbrev pub edits_of : Validated → ℕ
edits_of j = j.stored + j.replaced + j.removed

-- how many items were counted
abbrev pub total : Validated → ℕ
total j = j.stored + j.replaced + j.removed + j.absent

-- the first j of the items have their keys in the map as it was found
abbrev pub AreFound : List Bool → List Update → Map → ℕ → Type 0
AreFound found items m j = (i : ℕ) → i < j → (d : Update) → slice_index_or found i false ≡ contains_key m (key_of (slice_index_or items i d))

-- so all of them have, where it was looked for
abbrev pub AreAllFound : Option (List Bool) → List Update → Map → Type 0
AreAllFound None items m = Unit {0}
AreAllFound (Some found) items m = AreFound found items m (length items)

-- they have, by where each was found
abbrev pub AreFoundAt : List (Result ℕ ℕ) → List Update → Map → Type 0
AreFoundAt found items m = (i : ℕ) (d : Update) → i < length items → is_ok (slice_index_or found i (Err 0)) ≡ contains_key m (key_of (slice_index_or items i d))

-- what was found of item i
abbrev pub found_at : Option (List Bool) → ℕ → Option Bool
found_at None i = None
found_at (Some found) i = Some (slice_index_or found i false)

abbrev pub found_in : Option Validated → Option (List Bool)
found_in None = None
found_in (Some j) = Some j.found

-- What is counted by what was found, whatever the station tells.

-- the numbers of the first i items, by which of their keys are there
abbrev pub counted_first : List Update → (ℕ → Bool) → ℕ → ItemCounts
counted_first items there zero = no_items
counted_first items there (suc i) = counted_by (slice_index_or items i (unbind [])) (there i) (counted_first items there i)

-- how many records there are behind them, of that many before
abbrev pub records_first : List Update → (ℕ → Bool) → ℕ → ℕ → ℕ
records_first items there records zero = records
records_first items there records (suc i) = records_by (slice_index_or items i (unbind [])) (there i) (records_first items there records i)

-- none of the first n items meets a full store of `most` records
abbrev pub HaveRoom : List Update → (ℕ → Bool) → ℕ → ℕ → ℕ → Type 0
HaveRoom items there records most n = (i : ℕ) → i < n → meets_by (slice_index_or items i (unbind [])) (there i) (records_first items there records i) most ≡ false

-- Items were counted as their keys were found, in a store of that many records, and none of them meets a full store.
pub record CountsFound (items : List Update) (there : ℕ → Bool) (records most : ℕ) (counts : ItemCounts) : Type 0 where
  pub counts_are : counts ≡ counted_first items there (length items)
  pub room : HaveRoom items there records most (length items)

-- which keys are there, as they were found
abbrev pub there_in : List Bool → ℕ → Bool
there_in found i = slice_index_or found i false

-- what an item makes of a number of records, by whether its key is there
abbrev pub SumsBy : Update → Bool → ℕ → ℕ → Type 0
SumsBy (bind key value) true before after = after ≡ before
SumsBy (bind key value) false before after = after ≡ before + 1
SumsBy (unbind key) true before after = after + 1 ≡ before
SumsBy (unbind key) false before after = after ≡ before

-- so it does as its key was found, if it was looked for, and the store isn't full
abbrev pub SumsItem : Option Bool → Update → ℕ → ℕ → ℕ → Type 0
SumsItem None u most before after = Unit {0}
SumsItem (Some there) u most before after = meets_by u there before most ≡ false → SumsBy u there before after

-- and all items do
abbrev pub SumsFound : Option (List Bool) → List Update → ℕ → ℕ → ℕ → Type 0
SumsFound None items most before after = Unit {0}
SumsFound (Some found) items most before after = HaveRoom items (there_in found) before most (length items) →
    after + (counted_first items (there_in found) (length items)).removed ≡ before + (counted_first items (there_in found) (length items)).stored

-- Item by item.

-- the first n values of what is found
abbrev pub flags : (ℕ → Bool) → ℕ → List Bool
flags there zero = []
flags there (suc n) = there 0 ∷ flags (λ i. there (suc i)) n

-- the counts with items more, each by whether its key was found
abbrev pub counted_all : List Update → List Bool → ItemCounts → ItemCounts
counted_all [] bs counts = counts
counted_all (u ∷ us) [] counts = counts
counted_all (u ∷ us) (b ∷ bs) counts = counted_all us bs (counted_by u b counts)

-- what items make of the counts and marks, as their keys were found, if it was looked for them
abbrev pub TalliesFound : Option (List Bool) → List Update → ℕ → TallyView → TallyView → Type 0
TalliesFound None items most t v = Unit {0}
TalliesFound (Some found) items most t v = HaveRoom items (there_in found) (sum t.counts) most (length items) →
    AreFoundTallies items (flags (there_in found) (length items)) t v

-- the kinds of changes
abbrev pub kinds_in : List ItemChange → List Change
kinds_in [] = []
kinds_in (item ∷ rest) = item.change ∷ kinds_in rest

-- with one before them, if there is one
abbrev pub with_kind : Option Change → List Change → List Change
with_kind None more = more
with_kind (Some change) more = change ∷ more

-- those of items, each by whether its key was found
abbrev pub kinds_of : List Update → List Bool → List Change
kinds_of [] bs = []
kinds_of (u ∷ us) [] = []
kinds_of (u ∷ us) (b ∷ bs) = with_kind (kind_of (is_put u) b) (kinds_of us bs)

-- The keys of items were looked for, which changes nothing: what they would do, and which of them are there.
pub record ValidatesItems (items : List Update) (result : Result (Option Validated) StoreFault) (s t : StoreView) (a b : View) : Type 0 where
  pub validated : IfOk result (λ validated. Told a → counts_in validated ≡ validated_of (limit_of s) (map_of a.held) items)
  pub found : IfOk result (λ validated. Told a → AreAllFound (found_in validated) items (map_of a.held))
  pub full : IfOk result (λ validated. validated ≡ None → upper_of (limit_of s) < sum s.tally.counts + puts_in items)
  pub store : t ≡ s
  pub steps : Steps Same a b
  pub unwritten : b.travel.written ≡ a.travel.written
  pub looks : LooksOnce items s.tally.height a b
  pub met : IfErr result (λ fault. IsMetLooking s.place s.tally fault b)
  pub damaged : IfErr result (λ fault. Told a → fault ≡ Failed)
  pub counted : IfErr result (TellsOther (2 ^ limit_of s))
  pub failed : IsErrOf result Failed → Rose a.disk_faults b.disk_faults
