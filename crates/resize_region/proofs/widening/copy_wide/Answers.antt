use Rattle.std.proofs.Common.{arith, ◌≡◌, inl, refl, ℕ, ◌^◌, sym, ap, subst}
use Rattle.std.proofs.lemmas.Result.{on_ok_weaker}
use Rattle.std.proofs.Math.Pow.{pow_mono}
use Rattle.station.proofs.Composition.{each_on, told_back}
use Rattle.header_gate.specs.Places.{height_limit}
use Rattle.map_model.specs.Array.{Array}
use Rattle.map_model.specs.Image.{array_of}
use Rattle.range_scan.specs.RegionReaderView.{ReaderView}
use Rattle.resize_region.specs.Shares.{StandsBare}
use Rattle.resize_region.specs.OldRows.{IsInOrder}
use Rattle.resize_region.specs.Source.{Walks}
use Rattle.resize_region.proofs.OldRowLaws.{own_start}
use Rattle.resize_region.proofs.SettledLaws.{array_kept, stands_kept}
use Rattle.resize_region.proofs.WalkLaws.{walks_on}
use Rattle.resize_region.proofs.WritingLaws.{writes_read}
use Rattle.resize_region.proofs.widening.copy_wide.Goals as goal
use Rattle.resize_region.proofs.widening.copy_wide.Goals.{After-read_rest}

pub new-requires-clause-end : goal.new-requires-clause-end
new-requires-clause-end g c = omega (arith, pow_mono {i = c.args.tally.now.height} {j = height_limit c.args.place.now.layout} c.requires.height, c.segments_at.ensures, ap (λ (h : ℕ). 2 ^ h) c.height.ensures.height)

pub write_wide-requires-clause-order : goal.write_wide-requires-clause-order
write_wide-requires-clause-order g c told =
    let a = g.S.Station.view c.args.station.now in
    let is = c.new.ensures.reader in
    own_start c.args.place.now c.args.tally.now a.held (c.requires.can.stands a.held (inl (told, refl))) c.new.result (ap (λ (r : ReaderView). r.next) is) (ap (λ (r : ReaderView). r.last) is)

pub read_rest-requires-clause-order : goal.read_rest-requires-clause-order
read_rest-requires-clause-order g c told =
    let a = g.S.Station.view c.args.station.now in
    let b = g.S.Station.view c.write_wide.new.station in
    let steps = c.write_wide.ensures.writes.steps in
    let before = told_back steps.frame told in
    let place = c.args.place.now in
    let same : array_of b.held ≡ array_of a.held = array_kept place a.held b.held (c.requires.can.stands a.held (inl (before, refl))).stands.settled (c.requires.can.stands a.held (inl (before, refl))).bare (steps.held before) in
    subst (λ (l : Array). IsInOrder l c.write_wide.new.rows) (sym same) (c.in_ok-write_wide.ensures.order before)

pub read_rest-requires-clause-stands : goal.read_rest-requires-clause-stands
read_rest-requires-clause-stands g c =
    let Stands = StandsBare c.args.place.now c.args.tally.now in
    each_on Stands Stands c.write_wide.ensures.writes.steps c.requires.can.stands (λ d i is step. stands_kept c.args.place.now c.args.tally.now d i is step)

pub returns-clause-writes : goal.returns-clause-writes
returns-clause-writes g c =
    writes_read c.args.place.now c.args.tally.now c.args.segments c.args.frames.now c.write_wide.new.frames c.write_wide.new.rows c.read_rest.new.rows (g.S.Station.view c.args.station.now) (g.S.Station.view c.write_wide.new.station) (g.S.Station.view c.read_rest.new.station)
    c.in_ok-write_wide.field-0 c.read_rest.result c.in_ok-write_wide.ensures.writes c.read_rest.ensures.reads c.write_wide.ensures.reads

walked : (g : _) (c : After-read_rest g) → Walks c.args.place.now 0 c.read_rest.new.rows.reader.next (g.S.Station.view c.args.station.now).travel (g.S.Station.view c.read_rest.new.station).travel
walked g c =
    walks_on c.args.place.now 0 c.write_wide.new.rows.reader.next c.read_rest.new.rows.reader.next (g.S.Station.view c.args.station.now).travel (g.S.Station.view c.write_wide.new.station).travel (g.S.Station.view c.read_rest.new.station).travel (omega arith)
    c.read_rest.ensures.reads.onward c.write_wide.ensures.reads c.read_rest.ensures.reads.reads

pub returns-clause-reads : goal.returns-clause-reads
returns-clause-reads g c = (c.read_rest.new.rows.reader.next, c.read_rest.ensures.reads.upto, walked g (goal.at.returns-clause-reads g c).After-read_rest)

pub returns-clause-whole : goal.returns-clause-whole
returns-clause-whole g c =
    let w = walked g (goal.at.returns-clause-whole g c).After-read_rest in
    on_ok_weaker c.read_rest.result (λ all. subst (λ (n : ℕ). Walks c.args.place.now 0 n (g.S.Station.view c.args.station.now).travel (g.S.Station.view c.read_rest.new.station).travel) all w) c.read_rest.ensures.whole
