use Rattle.std.proofs.Common.{Err, subst, sym}
use Rattle.std.proofs.lemmas.Result.{err_from_is_err_and}
use Rattle.pma_engine.specs.Carrying.{with_cursors, AnswersLine}
use Rattle.pma_engine.proofs.Answering.{answers_fault, answers_said, answers_cut}
use Rattle.pma_engine.proofs.Stepping.{asks_one_line}
use Rattle.pma_engine.proofs.answer.answer_cursor.Goals as goal
use Rattle.pma_engine.proofs.answer.answer_cursor.Goals.{After-say_line}

pub returns-in_err-reply : goal.returns-in_err-reply
returns-in_err-reply g c =
    let p = err_from_is_err_and c.from_residual.result c.from_residual.ensures.1 in
    let m = with_cursors c.args.store.now c.args.cursors.now in
    let n = with_cursors c.ask_cursors.new.store c.ask_cursors.new.cursors in
    let a = g.S.Station.view c.args.station.now in
    let b = g.S.Station.view c.ask_cursors.new.station in
    rw (p.1, p.2) (answers_fault c.args.command.now (asks_one_line c.args.command.now c.requires.asks) m n a b (g.met.S.Station.lawful c.args.station.now) (g.met.S.Station.lawful c.ask_cursors.new.station) (Unit {0}) c.in_err-reply.field-0.0 c.in_err-reply.ensures)

pub returns : goal.returns
returns g c =
    let m = with_cursors c.args.store.now c.args.cursors.now in
    let n = with_cursors c.ask_cursors.new.store c.ask_cursors.new.cursors in
    answers_said c.args.command.now (asks_one_line c.args.command.now c.requires.asks) m n (g.S.Station.view c.args.station.now) (g.S.Station.view c.ask_cursors.new.station) (g.met.S.Station.lawful c.args.station.now) (g.met.S.Station.lawful c.ask_cursors.new.station)
    c.in_ok-reply.reply (g.S.Station.view c.say_line.new.station) (g.met.S.Station.lawful c.say_line.new.station) c.in_ok-reply.ensures c.say_line.ensures.says c.say_line.ensures.calls c.say_line.ensures.short tt c.in_ok-say_line.ensures.all

pub returns-in_err-say_line : goal.returns-in_err-say_line
returns-in_err-say_line g c =
    let p = err_from_is_err_and c.from_residual-in_err-say_line.result c.from_residual-in_err-say_line.ensures.1 in
    let m = with_cursors c.args.store.now c.args.cursors.now in
    let n = with_cursors c.ask_cursors.new.store c.ask_cursors.new.cursors in
    rw (p.1, p.2) (answers_cut c.args.command.now (asks_one_line c.args.command.now c.requires.asks) m n (g.S.Station.view c.args.station.now) (g.S.Station.view c.ask_cursors.new.station) (g.met.S.Station.lawful c.args.station.now) (g.met.S.Station.lawful c.ask_cursors.new.station)
    c.in_ok-reply.reply (g.S.Station.view c.say_line.new.station) (g.met.S.Station.lawful c.say_line.new.station) c.in_ok-reply.ensures c.say_line.ensures.says c.say_line.ensures.calls c.say_line.ensures.short (Unit {0}) c.in_err-say_line.ensures.cut c.in_err-say_line.ensures.cause)
