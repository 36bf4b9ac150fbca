-- The outcome of a step back of a cursor.
use Rattle.std.proofs.Common.{◌≡◌, ℕ, zero, suc, ◌+◌, ◌-◌, ◌∷◌, [], ◌∙◌, true, false, Bool, is_some, Option, Some, None, Result, Ok, Err, refl, sym, ap, subst, arith}
use Rattle.std.specs.FinMap.{contains_key, get}
use Rattle.station.specs.Bytes.{Same}
use Rattle.station.specs.View.{View, Lawful, Told, EachHeld, Rose}
use Rattle.station.specs.Steps.{Steps}
use Rattle.station.specs.declared.travel.Travel.{Travel}
use Rattle.header_gate.specs.declared.layout.Layout.{Layout}
use Rattle.key_slot.specs.Record.{Bytes}
use Rattle.key_slot.specs.Row.{record_of}
use Rattle.redo_journal.specs.Rest.{RestsAt}
use Rattle.map_model.specs.Cursors.{Cursor, Cursors, back, after_step, step_in}
use Rattle.map_model.specs.Image.{map_of}
use Rattle.segment.specs.declared.fault.StoreFault.{StoreFault}
use Rattle.segment.specs.declared.fault.StoreFault.TheVariants.{Failed}
use Rattle.range_scan.specs.SeekReads.{KeptRegion, ReadsBehind, earlier}
use Rattle.range_scan.specs.Walk.{after_walk, after_walk_back}
use Rattle.range_scan.proofs.Walks.{walk_written}
use Rattle.command_text.specs.CursorLines.{next_line}
use Rattle.command_text.specs.declared.command.Command.TheVariants as command
use Rattle.command_text.specs.declared.reply.Reply.{Reply}
use Rattle.cursor_set.specs.SetAnswers.{after_answer, told_by}
use Rattle.cursor_set.specs.declared.answers.Step.{Step}
use Rattle.cursor_set.specs.declared.answers.Step.TheVariants as step
use Rattle.pma_store.specs.Metered.{MeteredView}
use Rattle.pma_store.specs.StoreSeeks.{StandsIdle, kept_region, unclosed}
use Rattle.pma_store.specs.StoreView.{IsOpenOn}
use Rattle.pma_store.proofs.Sought.{is_as_before, opens_again}
use Rattle.pma_engine.specs.Carrying.{with_cursors, Executes, MovesCursors}
use Rattle.pma_engine.specs.CommandCalls.{IsForStep, MakesCalls}
use Rattle.pma_engine.specs.CommandCosts.{LooksBehind}
use Rattle.pma_engine.proofs.Executing.{looked, looked_in_vain, idle_prev}
use Rattle.pma_engine.proofs.Stepping.{row_moves, end_moves, none_moves}

-- a walk back writes nothing
walk_back_written : (l : Layout) (region last count : ℕ) (t : Travel) → (after_walk_back l region last count t).written ≡ t.written
walk_back_written l region last zero t = refl
walk_back_written l region last (suc n) t = walk_back_written l region (last - 1) n (after_walk l region last (last + 1) t) ∙ walk_written l region last (last + 1) t

-- What was read goes by the answer for damage alone.
pub back_ok : {A B : Type 0} {end : Option Bytes} {kept : KeptRegion} {x : A} (y : B) {a b : View} → ReadsBehind end kept (Ok x) a b → ReadsBehind end kept (Ok y) a b
back_ok y near = record { last = near.last; count = near.count; travel = near.travel; some = near.some; two = near.two; calls = near.calls; within = near.within; inside = near.inside; own = near.own; needed = near.needed; causes = tt }

pub back_err : {A : Type 0} (B : Type 0) {end : Option Bytes} {kept : KeptRegion} {fault : StoreFault} {a b : View} → ReadsBehind {A = A} end kept (Err fault) a b → ReadsBehind {A = B} end kept (Err fault) a b
back_err B near = record { last = near.last; count = near.count; travel = near.travel; some = near.some; two = near.two; calls = near.calls; within = near.within; inside = near.inside; own = near.own; needed = near.needed; causes = near.causes }

-- over any station the cursors go by what the step gave
pub back_moves : (k q : Cursors) (name : Bytes) (s : Step) → is_some (told_by s) ≡ contains_key k name → q ≡ after_answer k name s → MovesCursors (command.Prev name) k q
back_moves k q name (step.Row row) known after = (Some (record_of row), after ∙ row_moves k q name (get k name) (record_of row))
back_moves k q name step.End known after = (None, after ∙ end_moves k q name (get k name) known)
back_moves k q name step.NoCursor known after = (None, after ∙ none_moves k q name (get k name) known)

module _ (m n : MeteredView) (k q : Cursors) (name : Bytes) {A : Type 0} (result : Result A StoreFault) (a b : View) (law : Lawful a) (law_b : Lawful b) (here : IsOpenOn m.store a) (steps : Steps Same a b)
    (reads : (c : Cursor) → get k name ≡ Some c → ReadsBehind (earlier c.past c.high) (kept_region m.store) result a b) (idle : get k name ≡ None → b.travel ≡ a.travel) (uncalled : get k name ≡ None → b.calls ≡ a.calls)
    (state : unclosed n ≡ unclosed m) where
  looks_for : (o : Option Cursor) → get k name ≡ o → LooksBehind o m.store a.travel b.travel
  looks_for None is = idle is
  looks_for (Some c) is =
      let near = reads c is in
      (near.last, (near.count, near.within, near.some, near.two, near.inside, near.travel))

  calls_for : (o : Option Cursor) → get k name ≡ o → MakesCalls (command.Prev name) m.store k a b
  calls_for None is = record { calls = 0; is_for = subst (λ (o : Option Cursor). IsForStep o 0) (sym is) refl; most = omega (arith, uncalled is) }
  calls_for (Some c) is = let near = reads c is in record { calls = 2; is_for = subst (λ (o : Option Cursor). IsForStep o 2) (sym is) refl; most = omega (arith, near.calls, near.two) }

  unwritten_for : (o : Option Cursor) → get k name ≡ o → b.travel.written ≡ a.travel.written
  unwritten_for None is = ap (λ (t : Travel). t.written) (idle is)
  unwritten_for (Some c) is =
      let near = reads c is in
      ap (λ (t : Travel). t.written) near.travel ∙ walk_back_written m.store.place.layout m.store.place.region near.last near.count a.travel

  ledger_kept : n.ledger ≡ m.ledger
  ledger_kept = ap (λ (v : MeteredView). v.ledger) state

  store_kept : (closed : Bool) → n.store.closed ≡ closed → n.store ≡ record m.store { closed = closed }
  store_kept closed is = ap (λ (v : MeteredView). v.store) (is_as_before m n state closed is)

  pub stepped_back : (s : Step) (r : Reply) → r ≡ next_line (told_by s) → (Told a → told_by s ≡ step_in back (map_of a.held) k name) → is_some (told_by s) ≡ contains_key k name → q ≡ after_answer k name s
      → (Told a → q ≡ after_step back (map_of a.held) k name) → n.store.closed ≡ false → EachHeld (StandsIdle n.store) b → RestsAt n.store.place.layout n.store.turn b → Executes (command.Prev name) (Ok (Some r)) (with_cursors m k) (with_cursors n q) a b
  stepped_back s r line answer known after next unclosed stands rests =
      looked (with_cursors m k) (with_cursors n q) a b law here steps (unwritten_for (get k name) refl) ledger_kept (command.Prev name) r (λ told. ap (λ (x : Reply). x ∷ []) (line ∙ ap next_line (answer told))) (idle_prev name)
      (store_kept false unclosed) (opens_again m n state here steps.frame unclosed stands rests) (looks_for (get k name) refl) tt next (back_moves k q name s known after) (calls_for (get k name) refl)

  pub stepped_back_in_vain : (fault : StoreFault) → n.store.closed ≡ true → q ≡ k → (Told a → fault ≡ Failed) → (fault ≡ Failed → Rose a.disk_faults b.disk_faults) → Executes (command.Prev name) (Err fault) (with_cursors m k) (with_cursors n q) a b
  stepped_back_in_vain fault closed cursors sound failed =
      looked_in_vain (with_cursors m k) (with_cursors n q) a b law here steps (unwritten_for (get k name) refl) ledger_kept (command.Prev name) fault (store_kept true closed) cursors (looks_for (get k name) refl) (λ f. tt) sound failed (calls_for (get k name) refl)
