use Rattle.std.proofs.Common.{◌∙◌, ap, arith}
use Rattle.std.proofs.lemmas.Result.{err_from_is_err_and}
use Rattle.std.proofs.Math.Pow.{pow_mono}
use Rattle.header_gate.specs.Places.{height_limit}
use Rattle.station.specs.declared.travel.Travel.{Travel}
use Rattle.pma_store.proofs.Damages.{own_damage, own_orderly}
use Rattle.pma_store.proofs.Standing.{only_failed, segment_is}
use Rattle.pma_store.proofs.batch_scan.Search.read_rows.Goals as goal

pub read-requires-clause-segment : goal.read-requires-clause-segment
read-requires-clause-segment g c = omega (arith, c.requires.segment, pow_mono {i = c.args.self.now.tally.now.height} {j = height_limit c.args.self.now.place.now.layout} c.requires.tall)

pub returns-in_err-read-clause-damaged : goal.returns-in_err-read-clause-damaged
returns-in_err-read-clause-damaged g c =
    let p = err_from_is_err_and c.from_residual.result c.from_residual.ensures.1 in
    rw (p.1, p.2) (
    let place = c.args.self.now.place.now in
    let tally = c.args.self.now.tally.now in
    only_failed place.layout place.region tally.height tally.counts c.args.segment c.kept_count-kept.result c.in_err-read.field-0.0 (g.S.Station.view c.args.station.now) (g.S.Station.view c.read.new.station) c.requires.stands c.requires.readable c.requires.segment c.kept_count-kept.ensures c.in_err-read.ensures.damaged)

pub returns-clause-rows : goal.returns-clause-rows
returns-clause-rows g c = λ told.
    let place = c.args.self.now.place.now in
    let tally = c.args.self.now.tally.now in
    c.copy_into.ensures ∙ c.rows.ensures ∙ c.in_ok-read.ensures.rows told
    ∙ segment_is place.layout place.region tally.height tally.counts (g.S.Station.view c.args.station.now).held (c.requires.stands told) (c.requires.readable told) c.args.segment c.requires.segment

pub returns-in_err-read-clause-met : goal.returns-in_err-read-clause-met
returns-in_err-read-clause-met g c =
    let p = err_from_is_err_and c.from_residual.result c.from_residual.ensures.1 in
    rw (p.1, p.2) (
    let own = c.in_err-read.ensures.damaged.own in
    record {
      at = c.args.segment;
      within = c.requires.segment;
      damage = own_damage c.args.self.now.tally.now.counts c.args.segment c.kept_count-kept.result c.in_err-read.field-0.0 c.kept_count-kept.ensures own;
      orderly = own_orderly c.args.segment c.kept_count-kept.result c.in_err-read.field-0.0 own;
      last = ap (λ (t : Travel). t.next) c.read.ensures.reads;
    })
