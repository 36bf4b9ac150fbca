-- A store that isn't to be upgraded is refused, and any other is widened once nothing is pending.
use Rattle.std.proofs.Common.{◌≡◌, ◌≤◌, ◌-◌, ℕ, Err, Some, ap, subst, sym, ◌∙◌, arith}
use Rattle.header_gate.specs.InPlace.{IsBare}
use Rattle.header_gate.specs.Places.{IsLayout}
use Rattle.header_gate.specs.declared.layout.Layout.{Layout}
use Rattle.redo_journal.specs.declared.place.Place.{Place}
use Rattle.pma_store.specs.StoreView.{StoreView}
use Rattle.std.specs.Prelude.{◌↔◌}
use Rattle.density_rule.specs.Bounds.{upper_of}
use Rattle.key_slot.specs.Format.{narrow, wide}
use Rattle.resize_region.specs.Upgraded.{TooManyFor}
use Rattle.resize_region.specs.declared.outcome.Upgrade.TheVariants.{Already, OneSegment, TooMany}
use Rattle.pma_store.specs.Readying.{clear_cost}
use Rattle.pma_engine.specs.Upgrading.{UpgradesOpened}
use Rattle.pma_engine.proofs.Closing.{clear_gate, shut_says, stays_on, stays_steps}
use Rattle.pma_engine.proofs.SettledUpgrades.{upgrades_behind, upgrades_failed, upgrades_refused}
use Rattle.pma_engine.proofs.upgrade.upgrade_opened.Goals as goal

pub refusal-requires : goal.refusal-requires
refusal-requires g c = subst IsLayout (sym c.layout-layout.ensures.layout) c.layout-layout.ensures.store.layout

pub returns-in-Some-clause-upgrades : goal.returns-in-Some-clause-upgrades
returns-in-Some-clause-upgrades g c =
    let s = c.args.store in
    let a = g.S.Station.view c.args.station.now in
    let d = g.S.Station.view c.end_upgraded.new.station in
    let same : c.layout-layout.result ≡ s.place.layout = c.layout-layout.ensures.layout in
    let does = c.refusal.ensures in
    subst (λ n. UpgradesOpened n s.place.layout s.tally.height (clear_cost s.place.layout) a d) (sym c.end_upgraded.ensures.status)
    (upgrades_refused a s c.requires.open c.requires.nothing c.records-records.result c.records-records.ensures c.refusal.result
    (subst (λ (x : Layout). (c.refusal.result ≡ Some Already) ↔ (x.format ≡ wide)) same does.already)
    (subst (λ (x : Layout). (c.refusal.result ≡ Some OneSegment) ↔ ((x.format ≡ narrow) × (x.hmax ≡ 0))) same does.one_segment)
    (subst (λ (x : Layout). (n : ℕ) → (c.refusal.result ≡ Some (TooMany n)) ↔ TooManyFor x c.records-records.result n) same does.too_many)
    does.done c.into_parts-parts.result.place.region (ap (λ (p : Place). p.region) c.into_parts-parts.ensures.place) c.in-Some.answer c.in-Some.is d c.end_upgraded.ensures.says
    (λ none. ap g.S.Station.view (c.end_upgraded.ensures.silent none)) c.end_upgraded.ensures.line)

pub returns-in-Some-clause-shut : goal.returns-in-Some-clause-shut
returns-in-Some-clause-shut g c = shut_says c.end_upgraded.ensures.says

pub returns-in-Ok-clause-upgrades : goal.returns-in-Ok-clause-upgrades
returns-in-Ok-clause-upgrades g c =
    let s = c.args.store in
    let a = g.S.Station.view c.args.station.now in
    let b = g.S.Station.view c.settle.new.station in
    let d = g.S.Station.view c.upgrade_settled.new.station in
    let same : c.layout-layout.result ≡ s.place.layout = c.layout-layout.ensures.layout in
    let does = c.refusal.ensures in
    let settles = c.in-Ok.ensures.settled in
    upgrades_behind s c.settle.new.self a b (g.met.S.Station.lawful c.args.station.now) c.requires.open settles settles.state c.in-Ok.ensures.open c.upgrade_settled.result d
    (subst (λ (x : StoreView). UpgradesOpened c.upgrade_settled.result x.place.layout x.tally.height 0 b d) settles.store c.upgrade_settled.ensures.upgrades)
    (subst (λ (x : Layout). x.format ≡ narrow) same (does.narrow c.in_default.is))
    (subst (λ (x : Layout). 1 ≤ x.hmax) same (does.limit c.in_default.is))
    (omega (arith, subst (λ (x : Layout). c.records-records.result ≤ upper_of (x.hmax - 1)) same (does.few c.in_default.is), c.records-records.ensures))

pub returns-in-Ok-clause-shut : goal.returns-in-Ok-clause-shut
returns-in-Ok-clause-shut g c =
    let settles = c.in-Ok.ensures.settled in
    stays_on settles.meant.frame.fixed settles.meant.frame.calls (stays_steps settles.touched (λ x i touched. clear_gate c.args.store.place.layout x i touched)) c.upgrade_settled.ensures.shut

pub returns-in-Err-clause-upgrades : goal.returns-in-Err-clause-upgrades
returns-in-Err-clause-upgrades g c =
    let settles = c.in-Err.ensures.settled in
    upgrades_failed c.args.store c.settle.new.self (g.S.Station.view c.args.station.now) (g.S.Station.view c.settle.new.station) (g.met.S.Station.lawful c.args.station.now) c.requires.open settles (c.settle.ensures.failed (c.in-Err.is ∙ ap Err settles.disk))

pub returns-in-Err-clause-shut : goal.returns-in-Err-clause-shut
returns-in-Err-clause-shut g c = stays_steps c.in-Err.ensures.settled.touched (λ x i touched. clear_gate c.args.store.place.layout x i touched)

pub upgrade_settled-requires-clause-bare : goal.upgrade_settled-requires-clause-bare
upgrade_settled-requires-clause-bare g c told =
    let settles = c.in-Ok.ensures.settled in
    subst (λ (x : StoreView). IsBare x.place.layout (g.S.Station.view c.settle.new.station).held) (sym settles.store) (settles.bare told)

pub upgrade_settled-requires-clause-nothing : goal.upgrade_settled-requires-clause-nothing
upgrade_settled-requires-clause-nothing g c = c.in-Ok.ensures.settled.nothing
