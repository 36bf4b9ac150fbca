-- What `upgrade` came to, by the parts of the store, and how it was ended.
use Rattle.std.proofs.Common.{◌≡◌, ◌-◌, ap, refl, subst, sym, arith}
use Rattle.pma_engine.specs.Upgrading.{UpgradesOpened}
use Rattle.pma_engine.proofs.Closing.{spare_gate, stays_said}
use Rattle.pma_engine.proofs.Parting.{parts_bare, parts_rest, parts_stand}
use Rattle.pma_engine.proofs.Upgrading.{seen, upgraded_from}
use Rattle.pma_engine.proofs.upgrade.upgrade_settled.Goals as goal
use Rattle.pma_store.specs.StoreView.{StoreView, IsOpenOn}

pub upgrade-upgraded-requires-clause-stands : goal.upgrade-upgraded-requires-clause-stands
upgrade-upgraded-requires-clause-stands g c =
    let parts = c.into_parts-parts.result in
    let is = c.into_parts-parts.ensures in
    parts_stand c.args.store parts.place parts.tally (g.S.Station.view c.args.station.now) is.place is.tally c.requires.open

pub upgrade-upgraded-requires-clause-nothing : goal.upgrade-upgraded-requires-clause-nothing
upgrade-upgraded-requires-clause-nothing g c = c.requires.nothing

pub upgrade-upgraded-requires-clause-bare : goal.upgrade-upgraded-requires-clause-bare
upgrade-upgraded-requires-clause-bare g c = parts_bare c.args.store c.into_parts-parts.result.place (g.S.Station.view c.args.station.now) c.into_parts-parts.ensures.place c.requires.bare

pub upgrade-upgraded-requires-clause-rests : goal.upgrade-upgraded-requires-clause-rests
upgrade-upgraded-requires-clause-rests g c =
    let is = c.into_parts-parts.ensures in
    let parts = c.into_parts-parts.result in
    parts_rest c.args.store parts.place parts.frames.turn (g.S.Station.view c.args.station.now) is.place is.turn c.requires.open

pub returns-clause-upgrades : goal.returns-clause-upgrades
returns-clause-upgrades g c =
    let a = g.S.Station.view c.args.station.now in
    let b = g.S.Station.view c.upgrade-upgraded.new.station in
    let d = g.S.Station.view c.end_upgraded.new.station in
    let parts = c.into_parts-parts.result in
    let is = c.into_parts-parts.ensures in
    let does = c.upgrade-upgraded.ensures in
    let s : StoreView = record { place = parts.place; tally = parts.tally; index = parts.index; journal = parts.frames.journal; turn = parts.frames.turn; closed = c.args.store.closed } in
    let same : s ≡ c.args.store = (λ t. record { place = is.place t; tally = is.tally t; index = is.index t; journal = is.journal t; turn = is.turn t; closed = c.args.store.closed }) in
    subst (λ (x : StoreView). UpgradesOpened c.end_upgraded.result x.place.layout x.tally.height 0 a d) same
    (subst (λ n. UpgradesOpened n s.place.layout s.tally.height 0 a d) (sym c.end_upgraded.ensures.status)
    (upgraded_from a s (subst (λ (x : StoreView). IsOpenOn x a) (sym same) c.requires.open) c.requires.nothing c.upgrade-upgraded.new.place b d s.place.region refl c.upgrade-upgraded.result (record {
      already = does.already;
      one_segment = does.one_segment;
      too_many = does.too_many;
      untouched = seen g.S.Station.view c.upgrade-upgraded.new.station c.args.station.now c.upgrade-upgraded.result does.untouched;
      steps = does.steps;
      settled = does.settled;
      array = does.array;
      stands = does.stands;
      place_is = does.place;
      cost = does.cost;
      damaged = does.damaged;
      failed = does.failed;
    }) c.end_upgraded.ensures.says
    (λ none. ap g.S.Station.view (c.end_upgraded.ensures.silent none)) c.end_upgraded.ensures.line))

pub returns-clause-shut : goal.returns-clause-shut
returns-clause-shut g c =
    let place = c.into_parts-parts.result.place in
    stays_said c.upgrade-upgraded.ensures.steps (λ d i upgrades. spare_gate place.layout (1 - place.region) (omega arith) d i upgrades.touched) c.end_upgraded.ensures.says
