use Rattle.std.proofs.Common.{◌≡◌, true, Option, Result, Ok, Err, sym, ap, ◌∙◌, subst}
use Rattle.station.specs.View.{Told}
use Rattle.key_slot.specs.Record.{Bytes}
use Rattle.key_slot.specs.declared.row.Row.{Row}
use Rattle.map_model.specs.Image.{array_of}
use Rattle.range_scan.specs.SeekReads.{ReadsNear, later}
use Rattle.segment.specs.declared.fault.StoreFault.{StoreFault}
use Rattle.header_gate.specs.InPlace.{IsRecovered}
use Rattle.pma_store.specs.StoreSeeks.{kept_region}
use Rattle.pma_store.specs.StoreView.{StoreView, Stands}
use Rattle.pma_store.specs.StoreFields.{view_of}
use Rattle.pma_store.specs.declared.store.Store.TheInside.{Inside}
use Rattle.pma_store.proofs.Making.{kept_open, opens_on, stands_there}
use Rattle.pma_store.proofs.Standing.{rows_ascend, within_region}
use Rattle.pma_store.proofs.Resting.{readable_held}
use Rattle.pma_store.proofs.store.Store.seek.Goals as goal
use Rattle.pma_store.proofs.store.Store.seek.Goals.{After-first_segment-first, After-first_ahead_in}

-- the store is the one that was given
same : (g : _) (c : After-first_segment-first g) → view_of c.self-inside.inside.0.0 ≡ c.args.self.now
same g c = ap (λ (s : Inside). s.array) c.self-inside.view_is ∙ c.self.view_is

-- it stands for the held bytes
stands : (g : _) (c : After-first_segment-first g) → Told (g.S.Station.view c.args.station.now) → Stands (view_of c.self-inside.inside.0.0) (g.S.Station.view c.args.station.now).held
stands g c told = subst (λ (s : StoreView). Stands s (g.S.Station.view c.args.station.now).held) (sym (same g c)) (stands_there c.args.self.now c.requires.open.on told)

-- what was read, by the bounds that were asked for
near : (g : _) (c : After-first_ahead_in g) (r : Result (Option Row) StoreFault) → view_of c.self-inside.inside.0.0 ≡ c.args.self.now
    → ReadsNear c.start_bound-start.result (kept_region (view_of c.self-inside.inside.0.0)) r (g.S.Station.view c.args.station.now) (g.S.Station.view c.first_ahead_in.new.station)
    → ReadsNear (later c.args.low c.args.past) (kept_region c.args.self.now) r (g.S.Station.view c.args.station.now) (g.S.Station.view c.first_ahead_in.new.station)
near g c r own reads =
    let a = g.S.Station.view c.args.station.now in
    let b = g.S.Station.view c.first_ahead_in.new.station in
    subst (λ (start : Option Bytes). ReadsNear start (kept_region c.args.self.now) r a b) c.start_bound-start.ensures
    (subst (λ (s : StoreView). ReadsNear c.start_bound-start.result (kept_region s) r a b) own reads)

pub first_ahead_in-requires-clause-first : goal.first_ahead_in-requires-clause-first
first_ahead_in-requires-clause-first g c = (within_region (view_of c.self-inside.inside.0.0) c.self-inside.invariant c.first_segment-first.result c.first_segment-first.ensures.within).0

pub first_ahead_in-requires-clause-stands : goal.first_ahead_in-requires-clause-stands
first_ahead_in-requires-clause-stands g c told = (stands g (goal.at.first_ahead_in-requires-clause-stands g c).After-first_segment-first told).balanced

pub first_ahead_in-requires-clause-begins : goal.first_ahead_in-requires-clause-begins
first_ahead_in-requires-clause-begins g c told =
    let s = view_of c.self-inside.inside.0.0 in
    let held = (g.S.Station.view c.args.station.now).held in
    let own = stands g (goal.at.first_ahead_in-requires-clause-begins g c).After-first_segment-first told in
    c.first_segment-first.ensures.first (array_of held) own.index (rows_ascend s.place.layout s.place.region s.tally.height s.tally.counts held own.balanced.stands)

pub returns-in-Ok-clause-sought : goal.returns-in-Ok-clause-sought
returns-in-Ok-clause-sought g c =
    let here = goal.at.returns-in-Ok-clause-sought g c in
    record {
      answer = λ told. c.in-Ok.ensures.row told c.args.low c.start_bound-start.ensures;
      steps = c.first_ahead_in.ensures.steps;
      kept = kept_open c.args.self.now (view_of c.self-inside.inside.0.0) (same g here.After-first_segment-first) c.requires.open.opened;
      read = near g here.After-first_ahead_in (Ok c.in-Ok.row) (same g here.After-first_segment-first) c.in-Ok.ensures.reads;
    }

pub returns-in-Ok-clause-open : goal.returns-in-Ok-clause-open
returns-in-Ok-clause-open g c = opens_on c.args.self.now (view_of c.self-inside.inside.0.0) (g.met.S.Station.lawful c.args.station.now) c.requires.open c.first_ahead_in.ensures.steps (same g (goal.at.returns-in-Ok-clause-open g c).After-first_segment-first)

pub returns-in-Err-clause-sought : goal.returns-in-Err-clause-sought
returns-in-Err-clause-sought g c =
    let here = goal.at.returns-in-Err-clause-sought g c in
    record {
      answer = tt;
      steps = c.first_ahead_in.ensures.steps;
      kept = (λ τ. record (same g here.After-first_segment-first τ) { closed = true });
      read = near g here.After-first_ahead_in (Err c.in-Err.fault) (same g here.After-first_segment-first) c.in-Err.ensures.reads;
    }

pub first_ahead_in-requires-clause-readable : goal.first_ahead_in-requires-clause-readable
first_ahead_in-requires-clause-readable g c told =
    subst (λ (s : StoreView). IsRecovered s.place.layout (g.S.Station.view c.args.station.now).held) (sym (ap (λ (s : Inside). s.array) c.self-inside.view_is ∙ c.self.view_is)) (readable_held c.args.self.now c.requires.open.on told)
