use Rattle.std.proofs.Common.{◌*◌, arith, sym, ap, subst, ◌∙◌}
use Rattle.station.specs.Steps.{Steps}
use Rattle.station.proofs.Composition.{weaken}
use Rattle.header_gate.specs.declared.layout.Layout.{Layout}
use Rattle.header_gate.specs.Places.{file_length, segment_size}
use Rattle.map_model.specs.Regions.{Spares}
use Rattle.redo_journal.specs.Commit.{IsAt}
use Rattle.resize_region.specs.Spare.{WritesSpare, spare_bytes}
use Rattle.resize_region.proofs.WideLaws.{wide_at, wide_spares}
use Rattle.resize_region.proofs.widening.write_places.Goals as goal

pub write_shares-requires-clause-reach : goal.write_shares-requires-clause-reach
write_shares-requires-clause-reach g c = omega (arith, ap file_length c.widened.ensures, c.requires.reach)

pub write_shares-requires-clause-live : goal.write_shares-requires-clause-live
write_shares-requires-clause-live g c image left =
    subst (λ (l : Layout). IsAt (record { layout = l; region = c.args.place.now.region }) image) (sym c.widened.ensures) (wide_at c.args.place.now image (c.requires.live image left))

pub returns-clause-steps : goal.returns-clause-steps
returns-clause-steps g c =
    let place = c.args.place.now in
    weaken (subst (λ (l : Layout). Steps (Spares l place.region) (g.S.Station.view c.args.station.now) (g.S.Station.view c.write_shares.new.station)) c.widened.ensures c.write_shares.ensures.steps)
    (λ d i left step. wide_spares place.layout place.region d i step)

pub returns-clause-others : goal.returns-clause-others
returns-clause-others g c told i lt =
    let place = c.args.place.now in
    let a = g.S.Station.view c.args.station.now in
    let b = g.S.Station.view c.write_shares.new.station in
    ap (λ (l : Layout). spare_bytes (record { layout = l; region = place.region }) i b.held) (sym c.widened.ensures) ∙ c.write_shares.ensures.others told i lt
    ∙ ap (λ (l : Layout). spare_bytes (record { layout = l; region = place.region }) i a.held) c.widened.ensures

pub returns-clause-writes : goal.returns-clause-writes
returns-clause-writes g c = subst (λ (l : Layout). WritesSpare (segment_size l * c.args.count) (g.S.Station.view c.args.station.now) (g.S.Station.view c.write_shares.new.station)) c.widened.ensures c.write_shares.ensures.writes
