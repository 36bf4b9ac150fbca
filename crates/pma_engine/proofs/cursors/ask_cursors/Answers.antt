use Rattle.std.proofs.Common.{Ok, Some, subst, sym}
use Rattle.command_text.specs.declared.command.Command.{Command}
use Rattle.pma_engine.specs.Carrying.{with_cursors, Executes}
use Rattle.pma_engine.specs.Replies.{one_line}
use Rattle.pma_engine.proofs.Stepping.{opened, closed}
use Rattle.pma_engine.proofs.cursors.ask_cursors.Goals as goal

pub returns-in-Open : goal.returns-in-Open
returns-in-Open g c =
    let m = c.args.store.now in
    let a = g.S.Station.view c.args.station.now in
    subst (λ (q : Command). Executes q (Ok (Some c.open_cursor.result)) (with_cursors m c.args.cursors.now) (with_cursors m c.open_cursor.new.cursors) a a) (sym c.in-Open.is)
    (opened m c.args.cursors.now c.open_cursor.new.cursors c.in-Open.name c.open_cursor.result a (g.met.S.Station.lawful c.args.station.now) c.requires.open c.in-Open.low c.in-Open.high c.open_cursor.ensures.line c.open_cursor.ensures.after)

pub returns-in-Next : goal.returns-in-Next
returns-in-Next g c =
    subst (λ (q : Command). Executes q (one_line c.step_cursor.result) (with_cursors c.args.store.now c.args.cursors.now) (with_cursors c.step_cursor.new.store c.step_cursor.new.cursors) (g.S.Station.view c.args.station.now) (g.S.Station.view c.step_cursor.new.station)) (sym c.in-Next.is) c.step_cursor.ensures.executes

pub returns-in-Prev : goal.returns-in-Prev
returns-in-Prev g c =
    subst (λ (q : Command). Executes q (one_line c.step_cursor_back.result) (with_cursors c.args.store.now c.args.cursors.now) (with_cursors c.step_cursor_back.new.store c.step_cursor_back.new.cursors) (g.S.Station.view c.args.station.now) (g.S.Station.view c.step_cursor_back.new.station)) (sym c.in-Prev.is) c.step_cursor_back.ensures.executes

pub returns-in-Close : goal.returns-in-Close
returns-in-Close g c =
    let m = c.args.store.now in
    let a = g.S.Station.view c.args.station.now in
    subst (λ (q : Command). Executes q (Ok (Some c.close_cursor.result)) (with_cursors m c.args.cursors.now) (with_cursors m c.close_cursor.new.cursors) a a) (sym c.in-Close.is)
    (closed m c.args.cursors.now c.close_cursor.new.cursors c.in-Close.name c.close_cursor.result a (g.met.S.Station.lawful c.args.station.now) c.requires.open c.close_cursor.ensures.line c.close_cursor.ensures.after)
