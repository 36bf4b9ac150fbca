use Rattle.std.proofs.Common.{refl, ℕ, ◌≤◌, length, Some, Ok, Err, subst, sym, ap, arith}
use Rattle.std.proofs.lemmas.Result.{err_from_is_err_and}
use Rattle.command_text.specs.declared.reply.Reply.{Reply}
use Rattle.command_text.specs.declared.command.Command.TheVariants.{Batch}
use Rattle.cost_ledger.specs.Ledger.{LedgerView}
use Rattle.pma_store.specs.declared.answers.Batch as batched
use Rattle.pma_store.specs.declared.answers.Batch.TheVariants.{Done, Full, NoBatch}
use Rattle.pma_store.specs.Batching.{made_in}
use Rattle.pma_engine.specs.Carrying.{with_cursors, Executes}
use Rattle.pma_engine.proofs.Executing.{batch_done, batch_fault}
use Rattle.pma_engine.proofs.execute.execute_batch.Goals as goal

-- no more are made than there are
made_few : (n : ℕ) (done : batched.Batch) → made_in n done ≤ n
made_few n (Done stored replaced removed absent charge) = omega arith
made_few n (Full most) = omega arith
made_few n NoBatch = omega arith

pub returns : goal.returns
returns g c k =
    let m = with_cursors c.args.store.now k in
    let n = with_cursors c.batch.new.self k in
    let a = g.S.Station.view c.args.station.now in
    let b = g.S.Station.view c.batch.new.station in
    let items = c.args.items.now in
    subst (λ (r : Reply). Executes (Batch items) (Ok (Some r)) m n a b) (sym c.reply_to_batch.ensures)
    (batch_done m n a b items c.requires.open c.requires.some c.in_ok-batch.batch c.in_ok-batch.ensures.batch c.in_ok-batch.ensures.open c.in_ok-batch.ensures.notes.session
    (omega (arith, ap (λ (l : LedgerView). l.updates) c.in_ok-batch.ensures.notes.by_answer, made_few (length items) c.in_ok-batch.batch)) refl)

pub returns-in_err-batch : goal.returns-in_err-batch
returns-in_err-batch g c k =
    let p = err_from_is_err_and c.from_residual.result c.from_residual.ensures.1 in
    let m = with_cursors c.args.store.now k in
    let n = with_cursors c.batch.new.self k in
    let a = g.S.Station.view c.args.station.now in
    let b = g.S.Station.view c.batch.new.station in
    rw (p.1, p.2) (batch_fault m n a b c.args.items.now c.requires.open c.requires.some c.in_err-batch.field-0.0 c.in_err-batch.ensures.batch c.in_err-batch.ensures.notes.unnoted refl c.in_err-batch.ensures.closed c.in_err-batch.ensures.damaged (λ e. c.in_err-batch.ensures.failed (ap Err e)))
