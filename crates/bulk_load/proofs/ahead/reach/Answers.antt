use Rattle.std.proofs.Common.{false, List, length, ap, ◌∙◌, sym}
use Rattle.std.proofs.lemmas.Result.{err_from_is_err_and}
use Rattle.key_slot.specs.Record.{Record}
use Rattle.bulk_load.specs.Ahead.{at_hand}
use Rattle.bulk_load.specs.declared.ahead.Ahead.{Ahead}
use Rattle.bulk_load.proofs.AheadLaws.{hand_none, reads_ok, reads_err}
use Rattle.bulk_load.proofs.ahead.reach.Goals as goal

pub returns-in_err-more-clause-reads : goal.returns-in_err-more-clause-reads
returns-in_err-more-clause-reads g c =
    let p = err_from_is_err_and c.from_residual.result c.from_residual.ensures.1 in
    reads_err c.args.place.now c.args.ahead.now c.loop-ahead.ahead c.read_on.new.ahead (g.S.Station.view c.args.station.now) (g.S.Station.view c.loop-ahead.station) (g.S.Station.view c.read_on.new.station) c.loop-ahead.invariant.on
    c.from_residual.result c.in_err-more.field-0.0 (rw p.2 at p.1) c.in_err-more.ensures.reads

pub returns-then-not-more-clause-none : goal.returns-then-not-more-clause-none
returns-then-not-more-clause-none g c same =
    let n = c.in_ok-more.ensures.none c.if-not-more.true in
    let old = c.loop-ahead.ahead in (
      ap (λ (a : Ahead). at_hand a) n.0 ∙ hand_none old.index old.page.rows (c.loop-ahead-test.true ∙ c.len.ensures.len ∙ ap (λ (l : List Record). length l) c.rows.ensures),
      ap (λ (a : Ahead). a.reader.next) n.0 ∙ n.1 ∙ sym (ap (λ (a : Ahead). a.reader.end) n.0),
    )

pub returns-then-not-more-clause-reads : goal.returns-then-not-more-clause-reads
returns-then-not-more-clause-reads g c =
    reads_ok c.args.place.now c.args.ahead.now c.loop-ahead.ahead c.read_on.new.ahead (g.S.Station.view c.args.station.now) (g.S.Station.view c.loop-ahead.station) (g.S.Station.view c.read_on.new.station) c.loop-ahead.invariant.on c.in_ok-more.more false c.in_ok-more.ensures.reads

pub loop-ahead-preserved : goal.loop-ahead-preserved
loop-ahead-preserved g c = record {
  on = reads_ok c.args.place.now c.args.ahead.now c.loop-ahead.ahead c.read_on.new.ahead (g.S.Station.view c.args.station.now) (g.S.Station.view c.loop-ahead.station) (g.S.Station.view c.read_on.new.station) c.loop-ahead.invariant.on c.in_ok-more.more tt c.in_ok-more.ensures.reads;
}
