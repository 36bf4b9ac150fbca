-- A store and its ledger: the charges, with what is set aside, stay within their bound.
use Rattle.std.proofs.Common.{◌≡◌, ℕ, ◌+◌, ◌*◌, ◌≤◌, ◌&&◌, nat_le, cond, Bool, true, false, List, [], ◌∷◌, length, Option, Some, None, is_some, is_none, Result, Ok, Err, IsErr, refl, sym, ◌∙◌, ap, subst, arith}
use Rattle.std.specs.Prelude.{sum}
use Rattle.std.specs.FinMap.{contains_key}
use Rattle.station.proofs.Composition.{told_on}
use Rattle.density_rule.specs.Bounds.{upper_of}
use Rattle.header_gate.specs.declared.layout.TheConstants.{INTENT_VERSION}
use Rattle.map_model.specs.ArrayState.{ArrayState}
use Rattle.map_model.specs.Charges.{charge_after}
use Rattle.map_model.specs.Image.{array_of, height_of, map_of}
use Rattle.map_model.specs.Items.{first_full}
use Rattle.map_model.specs.ItemWords.{count_items, charge_after_items, no_items}
use Rattle.map_model.specs.Store.{Update, bind, unbind}
use Rattle.map_model.proofs.ItemEffects.{accepts_by}
use Rattle.segment.specs.declared.fault.StoreFault.{StoreFault}
use Rattle.station.specs.View.{View, Told}
use Rattle.window_tally.specs.TallyView.{TallyView}
use Rattle.cost_ledger.specs.Ledger.{LedgerView, IsLedger, ledger_bound, empty_ledger, noted}
use Rattle.cost_ledger.specs.Potential.{potential_of}
use Rattle.cost_ledger.proofs.Paying.{potential_at_first}
use Rattle.key_slot.specs.Record.{Bytes}
use Rattle.pma_store.specs.StoreAnswers.{put_answer, state_in}
use Rattle.pma_store.specs.Batching.{Batches, batch_answer, charge_in, done_by, items_made, made_in, version_of}
use Rattle.pma_store.specs.Changing.{outcome_of}
use Rattle.pma_store.specs.Charging.{charge_told, put_changes}
use Rattle.pma_store.specs.Costing.{has_effect}
use Rattle.pma_store.specs.Makes.{MakesUpdate}
use Rattle.pma_store.specs.Metered.{MeteredView, IsMetered, Notes}
use Rattle.pma_store.specs.StoreView.{StoreView, IsStore, IsOpenOn, Stands, limit_of}
use Rattle.pma_store.specs.declared.answers.Batch.{Batch}
use Rattle.pma_store.specs.declared.answers.Batch.TheVariants as batch
use Rattle.pma_store.specs.declared.answers.Put.{Put}
use Rattle.pma_store.specs.declared.answers.Put.TheVariants.{New, Replaced, Full}
use Rattle.pma_store.specs.declared.answers.Report.{Report}
use Rattle.pma_store.proofs.Charged.{charged, effect_is}
use Rattle.pma_store.proofs.Making.{stands_there}
use Rattle.pma_store.proofs.Outcomes.{put_answered, took_answered}
use Rattle.pma_store.proofs.Paying.{put_changed, took_changed}

-- at the start of a session
pub begins : (s : StoreView) (l : LedgerView) → IsStore s → IsLedger l → l ≡ empty_ledger s.tally.height → IsMetered (record { store = s; ledger = l })
begins s l is kept e =
    let start = potential_at_first s.tally.height (sum s.tally.counts) s.tally.marks (omega (arith, is.tally.height_is, is.tally.hmax_is)) in
    let within : 0 + potential_of s.tally ≤ ledger_bound (empty_ledger s.tally.height) = omega (arith, start) in
    record { ledger = kept; paid = λ opened. subst (λ (v : LedgerView). v.charge + potential_of s.tally ≤ ledger_bound v) (sym e) within }

module _ (m : MeteredView) (is : IsMetered m) (opened : m.store.closed ≡ false) where
  -- updates that are paid for may be noted
  pub may_note : (new : TallyView) (updates charge : ℕ) → charge + potential_of new ≤ potential_of m.store.tally + 514 * updates → m.ledger.charge + charge ≤ ledger_bound (noted updates charge m.ledger)
  may_note new updates charge paid = omega (arith, is.paid opened, paid)

  pub stays_paid : (s : StoreView) (l : LedgerView) (updates charge : ℕ) → charge + potential_of s.tally ≤ potential_of m.store.tally + 514 * updates → l ≡ noted updates charge m.ledger → IsLedger l → IsMetered (record { store = s; ledger = l })
  stays_paid s l updates charge paid e kept =
      let within : m.ledger.charge + charge + potential_of s.tally ≤ ledger_bound (noted updates charge m.ledger) = omega (arith, is.paid opened, paid) in
      record { ledger = kept; paid = λ _. subst (λ (v : LedgerView). v.charge + potential_of s.tally ≤ ledger_bound v) (sym e) within }

  -- a call that leaves the tally
  pub looks : (s : StoreView) → s.tally ≡ m.store.tally → IsMetered (record { store = s; ledger = m.ledger })
  looks s same = record { ledger = is.ledger; paid = λ _. subst (λ (t : TallyView). m.ledger.charge + potential_of t ≤ ledger_bound m.ledger) (sym same) (is.paid opened) }

-- after a fault the charges alone are within it
pub gives_up : (s : StoreView) (l : LedgerView) → s.closed ≡ true → IsLedger l → IsMetered (record { store = s; ledger = l })
gives_up s l closed kept = record { ledger = kept; paid = λ opened. let both : true ≡ false = sym closed ∙ opened in absurd cc }

-- What the calls note.

-- what a batch answers, by whether the file has batches, and the first item without room
abbrev answer_by : ℕ → ArrayState → List Update → Bool → Option ℕ → Batch
answer_by hmax x items v o = cond v (cond (is_some o) (batch.Full (upper_of hmax)) (done_by (count_items hmax x.map items no_items) (charge_after_items hmax x items))) batch.NoBatch

-- by its answer, the items that it made and their charge
told_batch : (version hmax : ℕ) (x : ArrayState) (items : List Update)
    → (made_in (length items) (batch_answer version hmax x items) ≡ length (items_made version hmax x.map items)) × (charge_in (batch_answer version hmax x items) ≡ charge_after_items hmax x (items_made version hmax x.map items))
told_batch version hmax x items =
    subst
    (λ (b : Bool).
    (made_in (length items) (batch_answer version hmax x items) ≡ length (cond b items []))
    × (charge_in (batch_answer version hmax x items) ≡ charge_after_items hmax x (cond b items [])))
    (sym (accepts_by version hmax x.map items))
    (by_tests (nat_le INTENT_VERSION version) (first_full hmax x.map items))
  where
    by_tests : (v : Bool) (o : Option ℕ) → (made_in (length items) (answer_by hmax x items v o) ≡ length (cond (v && is_none o) items [])) × (charge_in (answer_by hmax x items v o) ≡ charge_after_items hmax x (cond (v && is_none o) items []))
    by_tests true None = (refl, refl)
    by_tests true (Some i) = (refl, refl)
    by_tests false None = (refl, refl)
    by_tests false (Some i) = (refl, refl)

-- a put changed something, by its answer
pub put_effect : (s : StoreView) (image : List ℕ) → Stands s image → (key value : Bytes) (answer : Put) → answer ≡ put_answer (limit_of s) (map_of image) key → put_changes answer ≡ has_effect (limit_of s) (array_of image) (bind key value)
put_effect s image is key value answer e =
    ap put_changes (e ∙ sym (put_answered s image is key value)) ∙ put_changed (limit_of s) (outcome_of (limit_of s) (array_of image) (bind key value)) ∙ effect_is (limit_of s) (array_of image) (bind key value)

-- a removal did
pub took_effect : (s : StoreView) (image : List ℕ) → Stands s image → (key : Bytes) (took : Bool) → took ≡ contains_key (map_of image) key → took ≡ has_effect (limit_of s) (array_of image) (unbind key)
took_effect s image is key took e =
    e ∙ sym (took_answered s image is key) ∙ took_changed (outcome_of (limit_of s) (array_of image) (unbind key)) ∙ effect_is (limit_of s) (array_of image) (unbind key)

-- a put that changed nothing found no room
pub full_at : (answer : Put) → put_changes answer ≡ false → (most : ℕ) × (answer ≡ Full most)
full_at New is = absurd cc
full_at Replaced is = absurd cc
full_at (Full most) is = (most, refl)

-- an update that was made
pub update_notes : {T : Type 0} {a b : View} (x : T) (u : Update) (changed_in : T → Bool) (report_in : T → Report) (m : MeteredView) (s : StoreView) (l : LedgerView) → IsMetered m → IsOpenOn m.store a
    → (Told a → changed_in x ≡ has_effect (limit_of m.store) (array_of a.held) u) → MakesUpdate u (Ok x) changed_in report_in m.store s a b
    → l ≡ noted 1 (charge_told s.tally.height (changed_in x) (report_in x)) m.ledger → IsLedger l
    → Notes (u ∷ []) (Ok x) (λ done. 1) (λ done. charge_told s.tally.height (changed_in done) (report_in done)) m (record { store = s; ledger = l }) a
update_notes {T} {a} {b} x u changed_in report_in m s l is on effect made e kept = record {
  by_answer = e;
  session = λ told.
      let tall = sym (stands_there s made.store (told_on made.steps.frame told)).balanced.stands.height_is ∙ ap (λ (x : ArrayState). x.height) (made.state told) in
      let own = charged m.store a.held (stands_there m.store on.on told) u (changed_in x) (effect told) (report_in x) (made.report told) s.tally.height tall in
      let sum : charge_told s.tally.height (changed_in x) (report_in x) ≡ charge_after (limit_of m.store) (height_of a.held) (array_of a.held) u + 0 = omega (arith, own) in
      e ∙ ap (λ (n : ℕ). noted 1 n m.ledger) sum;
  unnoted = tt;
  metered = stays_paid m is on.opened s l 1 (charge_told s.tally.height (changed_in x) (report_in x)) (omega (arith, made.paid.pays)) e kept;
}

-- a call that answered a fault
pub fault_notes : {T : Type 0} {a : View} (fault : StoreFault) (us : List Update) (updates_in charge_in : T → ℕ) (m : MeteredView) (s : StoreView) → IsMetered m → s.closed ≡ true → Notes us (Err fault) updates_in charge_in m (record { store = s; ledger = m.ledger }) a
fault_notes fault us updates_in charge_in m s is closed = record { by_answer = tt; session = tt; unnoted = refl; metered = gives_up s m.ledger closed is.ledger }

pub err_notes : {T : Type 0} {a : View} (r : Result T StoreFault) → IsErr r → (us : List Update) (updates_in charges : T → ℕ) (m : MeteredView) (s : StoreView) → IsMetered m → s.closed ≡ true
    → Notes us r updates_in charges m (record { store = s; ledger = m.ledger }) a
err_notes (Err fault) failed us updates_in charges m s is closed = fault_notes fault us updates_in charges m s is closed
err_notes (Ok x) failed us updates_in charges m s is closed = absurd (cc)

-- nothing is noted
none_noted : (l : LedgerView) → l ≡ noted 0 0 l
none_noted l =
    let updates : l.updates ≡ l.updates + 0 = omega arith in
    let charge : l.charge ≡ l.charge + 0 = omega arith in
    (λ t. record { start = l.start; updates = updates t; charge = charge t })

-- a batch that was made
pub batch_notes : {a b : View} (items : List Update) (done : Batch) (m : MeteredView) (s : StoreView) (l : LedgerView) → IsMetered m → IsOpenOn m.store a → Batches items (Ok done) m.store s a b
    → l ≡ noted (made_in (length items) done) (charge_in done) m.ledger → IsLedger l
    → Notes (items_made (version_of m.store) (limit_of m.store) (map_of a.held) items) (Ok done) (made_in (length items)) charge_in m (record { store = s; ledger = l }) a
batch_notes {a} {b} items done m s l is on made e kept = record {
  by_answer = e;
  session = λ told.
      let own = told_batch (version_of m.store) (limit_of m.store) (state_in m.store a.held) items in
      e ∙ (λ τ. noted (made_in (length items) (made.answer told τ)) (charge_in (made.answer told τ)) m.ledger) ∙ (λ τ. noted (own.0 τ) (own.1 τ) m.ledger);
  unnoted = tt;
  metered = stays_paid m is on.opened s l (made_in (length items) done) (charge_in done) made.paid e kept;
}

-- or refused
pub refused_notes : {a b : View} (items : List Update) (done : Batch) (m : MeteredView) (s : StoreView) → IsMetered m → IsOpenOn m.store a → Batches items (Ok done) m.store s a b
    → ((stored replaced removed absent charge : ℕ) → done ≡ batch.Done stored replaced removed absent charge → ⊥)
    → Notes (items_made (version_of m.store) (limit_of m.store) (map_of a.held) items) (Ok done) (made_in (length items)) charge_in m (record { store = s; ledger = m.ledger }) a
refused_notes items (batch.Done stored replaced removed absent charge) m s is on made other = absurd (other stored replaced removed absent charge refl)
refused_notes items (batch.Full most) m s is on made other = batch_notes items (batch.Full most) m s m.ledger is on made (none_noted m.ledger) is.ledger
refused_notes items batch.NoBatch m s is on made other = batch_notes items batch.NoBatch m s m.ledger is on made (none_noted m.ledger) is.ledger
