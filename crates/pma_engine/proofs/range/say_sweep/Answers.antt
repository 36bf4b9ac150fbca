use Rattle.pma_engine.proofs.Sweeping.{sweep_cut, sweep_said, sweep_stopped}
use Rattle.std.proofs.lemmas.Result.{err_from_is_err_and}
use Rattle.pma_engine.proofs.range.say_sweep.Goals as goal

pub returns : goal.returns
returns g c =
    sweep_said c.args.sweep.now c.say_rows.new.sweep c.requires.fresh (g.met.S.Station.lawful c.args.station.now) c.in_ok-say_rows.ensures.last c.given.result c.given.ensures c.say_end.ensures.says c.say_end.ensures.calls c.in_ok-say_end.ensures.all

pub returns-in_err-say_end : goal.returns-in_err-say_end
returns-in_err-say_end g c =
    let p = err_from_is_err_and c.from_residual-in_err-say_end.result c.from_residual-in_err-say_end.ensures.1 in
    rw (p.1, p.2) (sweep_cut c.args.sweep.now c.say_rows.new.sweep c.requires.fresh (g.met.S.Station.lawful c.args.station.now) c.in_ok-say_rows.ensures.last c.given.result c.given.ensures c.say_end.ensures.says c.say_end.ensures.calls c.in_err-say_end.ensures.cut c.in_err-say_end.ensures.cause)

pub returns-in_err-say_rows : goal.returns-in_err-say_rows
returns-in_err-say_rows g c =
    let p = err_from_is_err_and c.from_residual.result c.from_residual.ensures.1 in
    rw (p.1, p.2) (sweep_stopped c.args.sweep.now c.say_rows.new.sweep c.requires.fresh c.in_err-say_rows.field-0.0 c.in_err-say_rows.ensures.stops)
