use Rattle.std.proofs.Common.{refl}
use Rattle.std.proofs.lemmas.Result.{err_from_is_err_and}
use Rattle.std.specs.Prelude.{Err}
use Rattle.bulk_load.proofs.AheadLaws.{reads_none, reads_ok, reads_err}
use Rattle.bulk_load.proofs.copying.next_of.Goals as goal

pub returns-clause-reads : goal.returns-clause-reads
returns-clause-reads g c =
    let h = c.args.run.now.ahead in
    let a = g.S.Station.view c.args.station.now in
    let b = g.S.Station.view c.next_below.new.station in
    reads_ok c.args.place.now h h c.next_below.new.ahead a a b (reads_none c.args.place.now h a c.requires.live) c.in_ok-row.row tt c.in_ok-row.ensures.reads

pub returns-in_err-row-clause-fault : goal.returns-in_err-row-clause-fault
returns-in_err-row-clause-fault g c =
    let p = err_from_is_err_and c.from_residual.result c.from_residual.ensures.1 in
    let h = c.args.run.now.ahead in
    let a = g.S.Station.view c.args.station.now in
    let b = g.S.Station.view c.next_below.new.station in
    rw (p.1, p.2) ((c.in_err-row.field-0.0, refl, reads_err c.args.place.now h h c.next_below.new.ahead a a b (reads_none c.args.place.now h a c.requires.live) (Err c.in_err-row.field-0.0) c.in_err-row.field-0.0 refl c.in_err-row.ensures.reads))
