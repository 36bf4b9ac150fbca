-- The outcome of the end of a run, behind the serving of its script.
use Rattle.std.specs.Prelude.{◌≡◌, ◌⊎◌, ℕ, ◌+◌, ◌≤◌}
use Rattle.station.specs.Steps.{Steps, LeavesOnly}
use Rattle.station.specs.View.{View, Told, NothingPending, Rose}
use Rattle.header_gate.specs.Header.{clean_gate}
use Rattle.header_gate.specs.declared.layout.TheConstants.{INDEXED, PAIRED}
use Rattle.map_model.specs.ArrayState.{ArrayState}
use Rattle.map_model.specs.Image.{map_of}
use Rattle.index_file.specs.Clean.{IsClean, IsLeft, IsShut}
use Rattle.pma_store.specs.Meaning.{MeansNow}
use Rattle.pma_store.specs.Readying.{clear_cost}
use Rattle.pma_store.specs.StoreView.{StoreView}
use Rattle.pma_engine.specs.Closing.{ending_calls, ending_cost}
use Rattle.pma_engine.specs.Outcome.{IsRest}
use Rattle.pma_engine.specs.Serving.{IsAtState}
use Rattle.pma_engine.specs.declared.status.TheConstants.{DONE, DISK_FAULT, REPLY_FAULT}

-- the statuses of a serving behind which the store is left with nothing pending
abbrev pub IsSettledStatus : ℕ → Type 0
IsSettledStatus status = IsRest status ⊎ (status ≡ REPLY_FAULT)

-- The outcome of the end of a run, whose serving ended with such a status, and whose file has no index that means anything. Nothing is
-- pending then, and if all was answered the index was left, if the file has room for one; or a disk call failed.
pub record EndsRun (served status : ℕ) (s : StoreView) (a b : View) : Type 0 where
  pub status_is : (status ≡ served) ⊎ (status ≡ DISK_FAULT)
  -- no moment changes the map
  pub steps : Steps (MeansNow s.place.layout (map_of a.held)) a b
  pub stands : status ≡ served → Told a → (x : ArrayState) → IsAtState s.place.layout x a.held → IsAtState s.place.layout x b.held
  pub settled : status ≡ served → NothingPending b
  pub left : status ≡ DONE → Told a → INDEXED ≤ s.place.layout.version → IsLeft b.held × (clean_gate b.held ≡ 1)
  pub unleft : (served ≡ DONE → ⊥) → Told a → IsShut b.held
  -- it is clean at every moment
  pub clean : Told a → IsClean b.held
  pub moments : LeavesOnly (λ image said. IsClean image) a b
  pub cost : b.travel.written ≤ a.travel.written + ending_cost s.place.layout s.tally.height
  pub cost_cut : (served ≡ DONE → ⊥) → b.travel.written ≤ a.travel.written + clear_cost s.place.layout
  pub unread : b.travel.read ≡ a.travel.read
  pub calls : b.calls ≤ a.calls + ending_calls s.place.layout s.tally.height
  -- why it fails: behind a script that was not answered to its end, in a file with two journals alone
  pub disk : status ≡ DISK_FAULT → Rose a.disk_faults b.disk_faults
  pub paired : status ≡ DISK_FAULT → (served ≡ DONE) ⊎ (s.place.layout.version ≡ PAIRED)
