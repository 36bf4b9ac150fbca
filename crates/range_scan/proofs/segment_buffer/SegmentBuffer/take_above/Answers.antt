-- What follows the last key is sound, and what doesn't is out of order.
use Rattle.std.proofs.Common.{ap, sym, ◌∙◌}
use Rattle.map_model.specs.FileReasons.{begins_above}
use Rattle.range_scan.specs.RegionReading.{page_in}
use Rattle.range_scan.specs.Running.{first_of}
use Rattle.range_scan.proofs.Pages.{no_fault, order_fault}
use Rattle.range_scan.proofs.segment_buffer.SegmentBuffer.take_above.Goals as goal

pub returns-then-follows-clause-sound : goal.returns-then-follows-clause-sound
returns-then-follows-clause-sound g c told =
    no_fault c.args.layout.now.format c.args.run.segment c.args.last.now c.take_next.new.self.rows (first_of c.args.self.now.along (page_in c.args.layout.now c.args.region (g.S.Station.view c.args.station.now).held c.args.run.segment)) (c.in_ok-take_next.ensures.taking_next.segment_is told)
    (ap (begins_above c.args.last.now) (sym c.rows.ensures) ∙ sym c.follows.ensures ∙ c.if-follows.true)

pub returns-clause-refused : goal.returns-clause-refused
returns-clause-refused g c _ told =
    order_fault c.args.layout.now.format c.args.run.segment c.args.last.now c.take_next.new.self.rows (first_of c.args.self.now.along (page_in c.args.layout.now c.args.region (g.S.Station.view c.args.station.now).held c.args.run.segment)) (c.in_ok-take_next.ensures.taking_next.segment_is told)
    (ap (begins_above c.args.last.now) (sym c.rows.ensures) ∙ sym c.follows.ensures ∙ c.if-follows.false)
