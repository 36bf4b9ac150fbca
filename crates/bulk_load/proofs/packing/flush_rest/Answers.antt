use Rattle.std.proofs.Common.{◌≡◌, ℕ, ◌+◌, ◌-◌, ◌*◌, ap, subst, arith}
use Rattle.header_gate.specs.Places.{segment_size}
use Rattle.segment_frames.specs.SegmentParts.{GoesInParts}
use Rattle.segment_frames.proofs.PartLaws.{parts_still, parts_more}
use Rattle.bulk_load.specs.Packing.{room_in}
use Rattle.bulk_load.specs.Spreading.{used_by}
use Rattle.bulk_load.proofs.PackLaws.{room_some}
use Rattle.bulk_load.proofs.packing.flush_rest.Goals as goal

pub returns-then-rest-eq0-clause-calls : goal.returns-then-rest-eq0-clause-calls
returns-then-rest-eq0-clause-calls g c =
    let same : c.args.taken.now.written ≡ used_by c.args.taken.now.records = omega (arith, c.if-rest-eq0.true, c.requires.behind) in
    subst (λ (n : ℕ). GoesInParts (room_in c.args.place.now.layout) (used_by c.args.taken.now.records) c.args.taken.now.written n (g.S.Station.view c.args.station.now).calls (g.S.Station.view c.args.station.now).calls) same (parts_still _ _ _ _)

pub returns-clause-calls : goal.returns-clause-calls
returns-clause-calls g c made is = (
  made + 1,
  parts_more (room_in c.args.place.now.layout) (used_by c.args.taken.now.records) c.args.taken.now.written (used_by c.args.taken.now.records) made (omega (arith, room_some c.args.place.now.layout c.requires.can.layout)) is (omega (arith, c.if-rest-eq0.false))
      (λ more. omega (arith, more)),
  omega (arith, c.flush.ensures.calls),
)

pub returns-clause-cost : goal.returns-clause-cost
returns-clause-cost g c =
    let count : c.used_by.result ≡ used_by c.args.taken.now.records - c.args.taken.now.written = omega (arith, c.used_by.ensures, c.requires.behind) in
    omega (arith, c.flush.ensures.cost, ap (λ (n : ℕ). segment_size c.args.place.now.layout * n) count)
