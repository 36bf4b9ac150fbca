-- What is asked of cursors, and what it comes to.
use Rattle.std.proofs.Common.{◌≡◌, ◌∷◌, [], ◌∙◌, true, false, Bool, is_some, Option, Some, None, Result, Ok, Err, refl, sym, ap, subst, arith}
use Rattle.std.specs.FinMap.{contains_key, get, remove}
use Rattle.station.specs.Bytes.{Same}
use Rattle.station.specs.View.{View, Lawful, Told, EachHeld, Rose}
use Rattle.station.specs.Steps.{Steps}
use Rattle.station.specs.declared.travel.Travel.{Travel}
use Rattle.key_slot.specs.Record.{Bytes, Record}
use Rattle.key_slot.specs.Row.{record_of}
use Rattle.redo_journal.specs.Rest.{RestsAt}
use Rattle.map_model.specs.Cursors.{Cursor, Cursors, after_open, onward, after_step, step_in}
use Rattle.map_model.specs.Image.{map_of}
use Rattle.segment.specs.declared.fault.StoreFault.{StoreFault}
use Rattle.segment.specs.declared.fault.StoreFault.TheVariants.{Failed}
use Rattle.range_scan.specs.SeekReads.{KeptRegion, ReadsNear, later}
use Rattle.range_scan.proofs.Walks.{walk_written}
use Rattle.command_text.specs.CursorLines.{open_line, next_line, close_line}
use Rattle.command_text.specs.declared.command.Command.{Command}
use Rattle.command_text.specs.declared.command.Command.TheVariants as command
use Rattle.command_text.specs.declared.reply.Reply.{Reply}
use Rattle.cursor_set.specs.SetAnswers.{after_answer, given_by, told_by}
use Rattle.cursor_set.specs.declared.answers.Step.{Step}
use Rattle.cursor_set.specs.declared.answers.Step.TheVariants as step
use Rattle.pma_store.specs.Metered.{MeteredView}
use Rattle.pma_store.specs.StoreSeeks.{StandsIdle, kept_region, unclosed}
use Rattle.pma_store.specs.StoreView.{IsOpenOn}
use Rattle.pma_store.proofs.Sought.{is_as_before, opens_again}
use Rattle.pma_engine.specs.Carrying.{with_cursors, moved_by, AsksCursors, Executes, IsOneLine, MovesCursors}
use Rattle.pma_engine.specs.CommandCalls.{IsForStep, MakesCalls}
use Rattle.pma_engine.specs.CommandCosts.{LooksAhead}
use Rattle.pma_engine.proofs.Executing.{looked, looked_in_vain, nothing_asked, idle_open, idle_next, idle_close}

-- what asks something of the cursors has one line of reply
pub asks_one_line : (c : Command) → AsksCursors c → IsOneLine c
asks_one_line command.Nothing asks = absurd asks
asks_one_line (command.Put key value) asks = absurd asks
asks_one_line (command.Remove key) asks = absurd asks
asks_one_line (command.Batch items) asks = absurd asks
asks_one_line (command.Get key) asks = absurd asks
asks_one_line (command.Range low high limit) asks = absurd asks
asks_one_line command.Check asks = absurd asks
asks_one_line command.Cost asks = absurd asks
asks_one_line (command.Open name low high) asks = tt
asks_one_line (command.Next name) asks = tt
asks_one_line (command.Prev name) asks = tt
asks_one_line (command.Close name) asks = tt
asks_one_line (command.Probe key block) asks = absurd asks
asks_one_line command.OversizedKey asks = absurd asks
asks_one_line command.OversizedValue asks = absurd asks
asks_one_line command.RepeatedKey asks = absurd asks
asks_one_line (command.Bad why) asks = absurd asks

-- Openings and closings ask the station for nothing.

module _ (m : MeteredView) (k q : Cursors) (name : Bytes) (r : Reply) (a : View) (law : Lawful a) (here : IsOpenOn m.store a) where
  pub opened : (low high : Option Bytes) → r ≡ open_line k name → q ≡ after_open k name low high → Executes (command.Open name low high) (Ok (Some r)) (with_cursors m k) (with_cursors m q) a a
  opened low high line after =
      nothing_asked (command.Open name low high) (Some r) (with_cursors m k) (with_cursors m q) a law here (idle_open name low high) refl refl (λ told. ap (λ (x : Reply). x ∷ []) line) refl tt (λ told. after) after refl

  pub closed : r ≡ close_line k name → q ≡ remove k name → Executes (command.Close name) (Ok (Some r)) (with_cursors m k) (with_cursors m q) a a
  closed line after =
      nothing_asked (command.Close name) (Some r) (with_cursors m k) (with_cursors m q) a law here (idle_close name) refl refl (λ told. ap (λ (x : Reply). x ∷ []) line) refl tt (λ told. after) after refl

-- A step.

-- what was read goes by the answer for damage alone
pub reads_ok : {A B : Type 0} {start : Option Bytes} {kept : KeptRegion} {x : A} (y : B) {a b : View} → ReadsNear start kept (Ok x) a b → ReadsNear start kept (Ok y) a b
reads_ok y near = record { from = near.from; to = near.to; travel = near.travel; some = near.some; two = near.two; calls = near.calls; within = near.within; own = near.own; causes = tt }

pub reads_err : {A : Type 0} (B : Type 0) {start : Option Bytes} {kept : KeptRegion} {fault : StoreFault} {a b : View} → ReadsNear {A = A} start kept (Err fault) a b → ReadsNear {A = B} start kept (Err fault) a b
reads_err B near = record { from = near.from; to = near.to; travel = near.travel; some = near.some; two = near.two; calls = near.calls; within = near.within; own = near.own; causes = near.causes }

-- over any station the cursors go by what the step gave
module _ (k q : Cursors) (name : Bytes) where
  pub row_moves : (o : Option Cursor) (r : Record) → given_by k name o r ≡ moved_by k name o (Some r)
  row_moves None r = refl
  row_moves (Some c) r = refl

  pub end_moves : (o : Option Cursor) → true ≡ is_some o → remove k name ≡ moved_by k name o None
  end_moves None is = absurd cc
  end_moves (Some c) is = refl

  pub none_moves : (o : Option Cursor) → false ≡ is_some o → k ≡ moved_by k name o None
  none_moves None is = refl
  none_moves (Some c) is = absurd cc

  pub step_moves : (s : Step) → is_some (told_by s) ≡ contains_key k name → q ≡ after_answer k name s → MovesCursors (command.Next name) k q
  step_moves (step.Row row) known after = (Some (record_of row), after ∙ row_moves (get k name) (record_of row))
  step_moves step.End known after = (None, after ∙ end_moves (get k name) known)
  step_moves step.NoCursor known after = (None, after ∙ none_moves (get k name) known)

module _ (m n : MeteredView) (k q : Cursors) (name : Bytes) {A : Type 0} (result : Result A StoreFault) (a b : View) (law : Lawful a) (law_b : Lawful b) (here : IsOpenOn m.store a) (steps : Steps Same a b)
    (reads : (c : Cursor) → get k name ≡ Some c → ReadsNear (later c.low c.past) (kept_region m.store) result a b) (idle : get k name ≡ None → b.travel ≡ a.travel) (uncalled : get k name ≡ None → b.calls ≡ a.calls)
    (state : unclosed n ≡ unclosed m) where
  looks_for : (o : Option Cursor) → get k name ≡ o → LooksAhead o m.store a.travel b.travel
  looks_for None is = idle is
  looks_for (Some c) is =
      let near = reads c is in
      (near.from, (near.to, record { onward = omega (arith, near.some); within = near.within; travel = near.travel }, near.some, near.two))

  calls_for : (o : Option Cursor) → get k name ≡ o → MakesCalls (command.Next name) m.store k a b
  calls_for None is = record { calls = 0; is_for = subst (λ (o : Option Cursor). IsForStep o 0) (sym is) refl; most = omega (arith, uncalled is) }
  calls_for (Some c) is = let near = reads c is in record { calls = 2; is_for = subst (λ (o : Option Cursor). IsForStep o 2) (sym is) refl; most = omega (arith, near.calls, near.two) }

  unwritten_for : (o : Option Cursor) → get k name ≡ o → b.travel.written ≡ a.travel.written
  unwritten_for None is = ap (λ (t : Travel). t.written) (idle is)
  unwritten_for (Some c) is =
      let near = reads c is in
      ap (λ (t : Travel). t.written) near.travel ∙ walk_written m.store.place.layout m.store.place.region near.from near.to a.travel

  ledger_kept : n.ledger ≡ m.ledger
  ledger_kept = ap (λ (v : MeteredView). v.ledger) state

  store_kept : (closed : Bool) → n.store.closed ≡ closed → n.store ≡ record m.store { closed = closed }
  store_kept closed is = ap (λ (v : MeteredView). v.store) (is_as_before m n state closed is)

  pub stepped : (s : Step) (r : Reply) → r ≡ next_line (told_by s) → (Told a → told_by s ≡ step_in onward (map_of a.held) k name) → is_some (told_by s) ≡ contains_key k name → q ≡ after_answer k name s
      → (Told a → q ≡ after_step onward (map_of a.held) k name) → n.store.closed ≡ false → EachHeld (StandsIdle n.store) b → RestsAt n.store.place.layout n.store.turn b → Executes (command.Next name) (Ok (Some r)) (with_cursors m k) (with_cursors n q) a b
  stepped s r line answer known after next unclosed stands rests =
      looked (with_cursors m k) (with_cursors n q) a b law here steps (unwritten_for (get k name) refl) ledger_kept (command.Next name) r (λ told. ap (λ (x : Reply). x ∷ []) (line ∙ ap next_line (answer told))) (idle_next name)
      (store_kept false unclosed) (opens_again m n state here steps.frame unclosed stands rests) (looks_for (get k name) refl) tt next (step_moves k q name s known after) (calls_for (get k name) refl)

  pub stepped_in_vain : (fault : StoreFault) → n.store.closed ≡ true → q ≡ k → (Told a → fault ≡ Failed) → (fault ≡ Failed → Rose a.disk_faults b.disk_faults) → Executes (command.Next name) (Err fault) (with_cursors m k) (with_cursors n q) a b
  stepped_in_vain fault closed cursors sound failed =
      looked_in_vain (with_cursors m k) (with_cursors n q) a b law here steps (unwritten_for (get k name) refl) ledger_kept (command.Next name) fault (store_kept true closed) cursors (looks_for (get k name) refl) (λ f. tt) sound failed (calls_for (get k name) refl)
