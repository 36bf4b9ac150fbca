use Rattle.std.proofs.Common.{arith, ℕ, List, sym, ap, subst}
use Rattle.std.proofs.lemmas.Result.{err_from_is_err_and}
use Rattle.station.specs.View.{Fixed}
use Rattle.station.proofs.Composition.{each_on, same_on, told_on}
use Rattle.map_model.specs.Image.{array_of}
use Rattle.resize_region.specs.Shares.{StandsBare}
use Rattle.resize_region.specs.OldRows.{IsInOrder}
use Rattle.resize_region.proofs.OldRowLaws.{walked_on, reads_err, reads_ok}
use Rattle.resize_region.proofs.old_rows.read_rest.Goals as goal

pub returns-in_err-read_on-clause-reads : goal.returns-in_err-read_on-clause-reads
returns-in_err-read_on-clause-reads g c =
    let p = err_from_is_err_and c.from_residual.result c.from_residual.ensures.1 in
    let inv = c.loop.invariant in
    reads_err c.args.place.now c.args.tally.now c.args.rows.now c.loop.rows c.read_on.new.rows (g.S.Station.view c.args.station.now) (g.S.Station.view c.loop.station) (g.S.Station.view c.read_on.new.station) inv.steps inv.reads inv.onward inv.calls
    c.from_residual.result c.in_err-read_on.field-0.0 (rw p.2 at p.1) c.in_err-read_on.ensures.reads

pub loop-preserved : goal.loop-preserved
loop-preserved g c =
    let inv = c.loop.invariant in
    let done = c.in_ok-read_on.ensures in
    let a = g.S.Station.view c.args.station.now in
    let Stands = StandsBare c.args.place.now c.args.tally.now in
    record {
      among = done.among;
      none = omega (arith, done.left, inv.none);
      order = λ told. subst (λ (held : List ℕ). IsInOrder (array_of held) c.read_on.new.rows) (inv.steps.held told) (done.order (told_on inv.steps.frame told));
      steps = same_on inv.steps c.read_on.ensures.reads.steps;
      reads = walked_on c.args.place.now c.args.tally.now c.args.rows.now c.loop.rows c.read_on.new.rows a (g.S.Station.view c.loop.station) (g.S.Station.view c.read_on.new.station) inv.steps inv.reads inv.onward inv.calls
          c.read_on.ensures.reads.onward c.read_on.ensures.reads.reads;
      calls = omega (arith, inv.calls, c.read_on.ensures.reads.calls, inv.onward, c.read_on.ensures.reads.onward);
      onward = omega (arith, inv.onward, c.read_on.ensures.reads.onward);
      reach = omega (arith, inv.reach, ap (λ (f : Fixed). f.reach) c.read_on.ensures.reads.steps.frame.fixed);
      stands = each_on Stands Stands c.read_on.ensures.reads.steps inv.stands (λ d i is step. subst Stands (sym step) is);
    }

pub returns-clause-reads : goal.returns-clause-reads
returns-clause-reads g c =
    let inv = c.loop.invariant in
    reads_ok c.args.place.now c.args.tally.now c.args.rows.now c.loop.rows c.read_on.new.rows (g.S.Station.view c.args.station.now) (g.S.Station.view c.loop.station) (g.S.Station.view c.read_on.new.station) inv.steps inv.reads inv.onward inv.calls
    c.in_ok-read_on.field-0 tt c.in_ok-read_on.ensures.reads
