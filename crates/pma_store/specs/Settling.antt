-- What it comes to that nothing is pending any more.
use Rattle.std.specs.Prelude.{◌≡◌, ◌+◌, ◌≤◌, Result, OnOk, IfErr, is_err}
use Rattle.station.specs.Bytes.{Touched}
use Rattle.station.specs.View.{View, Told, NothingPending}
use Rattle.station.specs.Steps.{Steps}
use Rattle.header_gate.specs.InPlace.{IsBare}
use Rattle.map_model.specs.Image.{map_of}
use Rattle.segment.specs.declared.fault.StoreFault.{StoreFault}
use Rattle.segment.specs.declared.fault.StoreFault.TheVariants.{Failed}
use Rattle.pma_store.specs.StoreAnswers.{state_in}
use Rattle.pma_store.specs.UpdateCalls.{clear_calls}
use Rattle.pma_store.specs.Meaning.{MeansNow}
use Rattle.pma_store.specs.Readying.{clear_cost}
use Rattle.pma_store.specs.StoreView.{StoreView}
use Rattle.pma_store.specs.Touching.{IsClearPlace}

-- A store was settled, or the disk failed.
pub record SettlesStore {T : Type 0} (result : Result T StoreFault) (s t : StoreView) (a b : View) : Type 0 where
  -- On Ok nothing is pending, no page is to be replayed over the live region, and map, height, array and marks are as they were.
  pub nothing : OnOk result (NothingPending b)
  pub bare : OnOk result (Told b → IsBare s.place.layout b.held)
  pub state : OnOk result (Told a → state_in t b.held ≡ state_in s a.held)
  -- The store is as it was, but for what it notes of the gate, and closed by a fault.
  pub store : t ≡ record s { turn = t.turn; closed = is_err result }
  -- A crash at any moment leaves a file that means the same map in the same layout, and no byte differs but those of the gate and
  -- the journals. The held bytes are such, whatever is answered.
  pub meant : Steps (MeansNow s.place.layout (map_of a.held)) a b
  pub touched : Steps (Touched (IsClearPlace s.place.layout)) a b
  -- Costs: at version 4 at most 5 bytes written, none read, at most four calls; below it nothing.
  pub cost : b.travel.written ≤ a.travel.written + clear_cost s.place.layout
  pub unread : b.travel.read ≡ a.travel.read
  pub calls : b.calls ≤ a.calls + clear_calls s.place.layout
  -- It fails by the disk alone.
  pub disk : IfErr result (λ fault. fault ≡ Failed)
