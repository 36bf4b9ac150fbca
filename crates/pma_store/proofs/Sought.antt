-- A store in which the next record behind a key is looked for.
use Rattle.std.proofs.Common.{◌≡◌, ◌+◌, ◌≤◌, Bool, false, sym, ap, subst}
use Rattle.station.specs.View.{View, Fixed, EachHeld}
use Rattle.station.specs.Steps.{Frame}
use Rattle.cost_ledger.specs.Ledger.{IsLedger, ledger_bound}
use Rattle.cost_ledger.specs.Potential.{potential_of}
use Rattle.header_gate.specs.Places.{file_length}
use Rattle.redo_journal.specs.Rest.{RestsAt}
use Rattle.pma_store.specs.Metered.{MeteredView, IsMetered}
use Rattle.pma_store.specs.StoreSeeks.{StandsIdle, unclosed}
use Rattle.pma_store.specs.StoreView.{StoreView, IsOpenOn}

-- what an open store says of the held bytes
pub stands_idle : {a : View} (s : StoreView) → IsOpenOn s a → EachHeld (StandsIdle s) a
stands_idle s is image held = record { stands = is.on.stands image held; no_intent = is.no_intent image held }

-- by which it is open
pub opens_by : {a : View} (s : StoreView) → s.closed ≡ false → EachHeld (StandsIdle s) a → RestsAt s.place.layout s.turn a → file_length s.place.layout ≤ a.fixed.reach → IsOpenOn s a
opens_by s opened stands rests reach = record {
  on = record { stands = λ image held. (stands image held).stands; rests = rests; reach = reach };
  opened = opened;
  no_intent = λ image held. (stands image held).no_intent;
}

module _ (m n : MeteredView) (state : unclosed n ≡ unclosed m) where
  -- all but whether a call answered a fault is as it was
  pub is_as_before : (closed : Bool) → n.store.closed ≡ closed → n ≡ record { store = record m.store { closed = closed }; ledger = m.ledger }
  is_as_before closed is = λ τ. record { store = record (state τ).store { closed = is τ }; ledger = (state τ).ledger }

  -- so its charges are paid for as before
  pub stays_metered : IsMetered m → m.store.closed ≡ false → IsMetered n
  stays_metered is opened = record {
    ledger = subst IsLedger (sym (ap (λ (v : MeteredView). v.ledger) state)) is.ledger;
    paid = λ _. subst (λ (v : MeteredView). v.ledger.charge + potential_of v.store.tally ≤ ledger_bound v.ledger) (sym state) (is.paid opened);
  }

  -- and behind an answer it is open on its station
  pub opens_again : {a b : View} → IsOpenOn m.store a → Frame a b → n.store.closed ≡ false → EachHeld (StandsIdle n.store) b → RestsAt n.store.place.layout n.store.turn b → IsOpenOn n.store b
  opens_again {a} {b} is frame opened stands rests =
      let reach = subst (λ (v : MeteredView). file_length v.store.place.layout ≤ a.fixed.reach) (sym state) is.on.reach in
      opens_by n.store opened stands rests (subst (λ (f : Fixed). file_length n.store.place.layout ≤ f.reach) (sym frame.fixed) reach)
