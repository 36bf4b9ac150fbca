use Rattle.std.proofs.Common.{◌≡◌, Bool, Option, Result, Ok, Err, OnOk, is_err, refl, sym, ap, ◌∙◌, subst}
use Rattle.std.proofs.lemmas.Result.{IfOk-weaker}
use Rattle.station.specs.View.{View, Told}
use Rattle.key_slot.specs.Record.{Bytes}
use Rattle.key_slot.specs.declared.row.Row.{Row}
use Rattle.map_model.specs.Image.{array_of}
use Rattle.range_scan.specs.SeekReads.{ReadsBehind, earlier}
use Rattle.segment.specs.declared.fault.StoreFault.{StoreFault}
use Rattle.header_gate.specs.InPlace.{IsRecovered}
use Rattle.pma_store.specs.StoreSeeks.{kept_region}
use Rattle.pma_store.specs.StoreView.{StoreView, Stands, IsOpenOn}
use Rattle.pma_store.specs.StoreFields.{view_of}
use Rattle.pma_store.specs.declared.store.Store.TheInside.{Inside}
use Rattle.pma_store.proofs.Making.{opens_on, stands_there}
use Rattle.pma_store.proofs.Standing.{rows_ascend, within_region}
use Rattle.pma_store.proofs.Resting.{readable_held}
use Rattle.pma_store.proofs.store.Store.seek_back.Goals as goal
use Rattle.pma_store.proofs.store.Store.seek_back.Goals.{After-last_segment-last, After-last_behind_in-found}

-- the store is the one that was given
same : (g : _) (c : After-last_segment-last g) → view_of c.self-inside.inside.0.0 ≡ c.args.self.now
same g c = ap (λ (s : Inside). s.array) c.self-inside.view_is ∙ c.self.view_is

-- it stands for the held bytes
stands : (g : _) (c : After-last_segment-last g) → Told (g.S.Station.view c.args.station.now) → Stands (view_of c.self-inside.inside.0.0) (g.S.Station.view c.args.station.now).held
stands g c told = subst (λ (s : StoreView). Stands s (g.S.Station.view c.args.station.now).held) (sym (same g c)) (stands_there c.args.self.now c.requires.open.on told)

-- what was read, by the bounds that were asked for
near : (g : _) (c : After-last_behind_in-found g) (r : Result (Option Row) StoreFault) → view_of c.self-inside.inside.0.0 ≡ c.args.self.now
    → ReadsBehind c.end_bound-end.result (kept_region (view_of c.self-inside.inside.0.0)) r (g.S.Station.view c.args.station.now) (g.S.Station.view c.last_behind_in-found.new.station)
    → ReadsBehind (earlier c.args.past c.args.high) (kept_region c.args.self.now) r (g.S.Station.view c.args.station.now) (g.S.Station.view c.last_behind_in-found.new.station)
near g c r own reads =
    let a = g.S.Station.view c.args.station.now in
    let b = g.S.Station.view c.last_behind_in-found.new.station in
    subst (λ (end : Option Bytes). ReadsBehind end (kept_region c.args.self.now) r a b) c.end_bound-end.ensures
    (subst (λ (s : StoreView). ReadsBehind c.end_bound-end.result (kept_region s) r a b) own reads)

pub last_behind_in-found-requires-clause-last : goal.last_behind_in-found-requires-clause-last
last_behind_in-found-requires-clause-last g c = (within_region (view_of c.self-inside.inside.0.0) c.self-inside.invariant c.last_segment-last.result c.last_segment-last.ensures.within).0

pub last_behind_in-found-requires-clause-stands : goal.last_behind_in-found-requires-clause-stands
last_behind_in-found-requires-clause-stands g c told = (stands g (goal.at.last_behind_in-found-requires-clause-stands g c).After-last_segment-last told).balanced

pub last_behind_in-found-requires-clause-ends : goal.last_behind_in-found-requires-clause-ends
last_behind_in-found-requires-clause-ends g c told =
    let s = view_of c.self-inside.inside.0.0 in
    let held = (g.S.Station.view c.args.station.now).held in
    let own = stands g (goal.at.last_behind_in-found-requires-clause-ends g c).After-last_segment-last told in
    c.last_segment-last.ensures.last (array_of held) own.index (rows_ascend s.place.layout s.place.region s.tally.height s.tally.counts held own.balanced.stands)

-- it is open behind an answer
open_found : {T : Type 0} {b : View} (r : Result T StoreFault) (s t : StoreView) → t ≡ record s { closed = is_err r } → IsOpenOn s b → OnOk r (IsOpenOn t b)
open_found {T} {b} (Ok x) s t same is = subst (λ (v : StoreView). IsOpenOn v b) (sym (same ∙ ap (λ (f : Bool). record s { closed = f }) (sym is.opened))) is
open_found (Err fault) s t same is = tt

pub returns-clause-open : goal.returns-clause-open
returns-clause-open g c =
    let here = goal.at.returns-clause-open g c in
    open_found c.last_behind_in-found.result c.args.self.now (record (view_of c.self-inside.inside.0.0) { closed = c.is_err-self-inside-inside.result })
    (ap (λ (b : Bool). record (view_of c.self-inside.inside.0.0) { closed = b }) c.is_err-self-inside-inside.ensures.value ∙ (λ τ. record (same g here.After-last_segment-last τ) { closed = is_err c.last_behind_in-found.result }))
    (opens_on c.args.self.now c.args.self.now (g.met.S.Station.lawful c.args.station.now) c.requires.open c.last_behind_in-found.ensures.steps refl)

pub returns-clause-sought : goal.returns-clause-sought
returns-clause-sought g c =
    let here = goal.at.returns-clause-sought g c in
    record {
      answer = IfOk-weaker c.last_behind_in-found.result _ _ (λ row is told. is told c.args.past c.args.high c.end_bound-end.ensures) c.last_behind_in-found.ensures.row;
      steps = c.last_behind_in-found.ensures.steps;
      kept =
          ap (λ (b : Bool). record (view_of c.self-inside.inside.0.0) { closed = b }) c.is_err-self-inside-inside.ensures.value
          ∙ (λ τ. record (same g here.After-last_segment-last τ) { closed = is_err c.last_behind_in-found.result });
      read = near g here.After-last_behind_in-found c.last_behind_in-found.result (same g here.After-last_segment-last) c.last_behind_in-found.ensures.reads;
    }

pub last_behind_in-found-requires-clause-readable : goal.last_behind_in-found-requires-clause-readable
last_behind_in-found-requires-clause-readable g c told =
    subst (λ (s : StoreView). IsRecovered s.place.layout (g.S.Station.view c.args.station.now).held) (sym (ap (λ (s : Inside). s.array) c.self-inside.view_is ∙ c.self.view_is)) (readable_held c.args.self.now c.requires.open.on told)
