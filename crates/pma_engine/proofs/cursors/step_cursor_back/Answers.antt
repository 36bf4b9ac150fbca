use Rattle.std.proofs.Common.{Err, ap}
use Rattle.std.proofs.lemmas.Result.{err_from_is_err_and}
use Rattle.command_text.specs.declared.reply.Reply.{Reply}
use Rattle.pma_store.proofs.Sought.{stands_idle}
use Rattle.pma_engine.proofs.SteppingBack.{back_ok, back_err, stepped_back, stepped_back_in_vain}
use Rattle.pma_engine.proofs.cursors.step_cursor_back.Goals as goal

pub step_back-requires-clause-store : goal.step_back-requires-clause-store
step_back-requires-clause-store g c = stands_idle c.args.store.now.store c.requires.open

pub returns-clause-executes : goal.returns-clause-executes
returns-clause-executes g c =
    let step = c.in_ok-step.ensures in
    stepped_back c.args.store.now c.step_back.new.store c.args.cursors.now c.step_back.new.self c.args.name.now c.step_back.result (g.S.Station.view c.args.station.now) (g.S.Station.view c.step_back.new.station) (g.met.S.Station.lawful c.args.station.now) (g.met.S.Station.lawful c.step_back.new.station) c.requires.open c.step_back.ensures.steps c.step_back.ensures.reads c.step_back.ensures.idle c.step_back.ensures.uncalled c.step_back.ensures.state
    c.in_ok-step.step c.reply_to_step.result c.reply_to_step.ensures step.answer step.known step.after step.prev step.closed step.store step.rests

pub returns-clause-reads : goal.returns-clause-reads
returns-clause-reads g c k is = back_ok c.reply_to_step.result (c.in_ok-step.ensures.reads k is)

pub returns-in_err-step-clause-executes : goal.returns-in_err-step-clause-executes
returns-in_err-step-clause-executes g c =
    let p = err_from_is_err_and c.from_residual.result c.from_residual.ensures.1 in
    let fault = c.in_err-step.ensures in
    rw (p.1, p.2) (stepped_back_in_vain c.args.store.now c.step_back.new.store c.args.cursors.now c.step_back.new.self c.args.name.now c.step_back.result (g.S.Station.view c.args.station.now) (g.S.Station.view c.step_back.new.station) (g.met.S.Station.lawful c.args.station.now) (g.met.S.Station.lawful c.step_back.new.station) c.requires.open c.step_back.ensures.steps c.step_back.ensures.reads c.step_back.ensures.idle c.step_back.ensures.uncalled c.step_back.ensures.state
    c.in_err-step.field-0.0 fault.closed fault.unchanged fault.damaged (λ e. fault.failed (ap Err e)))

pub returns-in_err-step-clause-reads : goal.returns-in_err-step-clause-reads
returns-in_err-step-clause-reads g c k is =
    let p = err_from_is_err_and c.from_residual.result c.from_residual.ensures.1 in
    rw (p.1, p.2) (back_err Reply (c.in_err-step.ensures.reads k is))
