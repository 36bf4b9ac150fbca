-- What callers see of a store whose updates are noted in a ledger.
use Rattle.std.specs.Prelude.{◌≡◌, ℕ, ◌+◌, ◌≤◌, false, List, length, Result, OnOk, OnErr, IfOk}
use Rattle.station.specs.View.{View, Told}
use Rattle.cost_ledger.specs.Ledger.{LedgerView, IsLedger, ledger_bound, noted}
use Rattle.cost_ledger.specs.Potential.{potential_of}
use Rattle.map_model.specs.ItemWords.{charge_after_items}
use Rattle.map_model.specs.Store.{Update}
use Rattle.segment.specs.declared.fault.StoreFault.{StoreFault}
use Rattle.pma_store.specs.StoreAnswers.{state_in}
use Rattle.pma_store.specs.StoreView.{StoreView, limit_of}
use Rattle.pma_store.specs.declared.metered.Metered.TheInside.{Inside}

-- the store, and the ledger of its session
pub record MeteredView : Type 0 where
  pub store : StoreView
  pub ledger : LedgerView

-- What is true of every such store: its charges are within their bound. While no call answered a fault, the potential of the
-- store is set aside as well.
pub record IsMetered (m : MeteredView) : Type 0 where
  pub ledger : IsLedger m.ledger
  pub paid : m.store.closed ≡ false → m.ledger.charge + potential_of m.store.tally ≤ ledger_bound m.ledger

abbrev pub view_of : Inside → MeteredView
view_of m = record { store = m.store; ledger = m.ledger }

abbrev pub IsKept : Inside → Type 0
IsKept m = IsMetered (view_of m)

-- What a call notes that makes these updates in the state of the file. `updates_in` and `charge_in` find in what is answered
-- on Ok how many were made, and what they are charged.
pub record Notes {T : Type 0} (us : List Update) (result : Result T StoreFault) (updates_in charge_in : T → ℕ) (m n : MeteredView) (a : View) : Type 0 where
  -- On Ok as many updates are noted as the answer tells, with their charges, on every station.
  pub by_answer : IfOk result (λ done. n.ledger ≡ noted (updates_in done) (charge_in done) m.ledger)
  -- If bytes are told, their number and charges are those that the state of the file determines.
  pub session : OnOk result (Told a → n.ledger ≡ noted (length us) (charge_after_items (limit_of m.store) (state_in m.store a.held) us) m.ledger)
  -- A fault notes nothing.
  pub unnoted : OnErr result (n.ledger ≡ m.ledger)
  -- Whatever is answered, the charges stay within their bound.
  pub metered : IsMetered n
