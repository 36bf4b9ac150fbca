use Rattle.std.proofs.Common.{◌≡◌, ℕ, ◌^◌, ap, refl, sym, subst, ◌∙◌}
use Rattle.std.proofs.lemmas.Result.{IfErr-weaker, on_ok_weaker}
use Rattle.station.specs.Bytes.{Touched}
use Rattle.station.specs.View.{EachHeld}
use Rattle.station.specs.Steps.{Steps}
use Rattle.redo_journal.specs.Frames.{Batch}
use Rattle.redo_journal.specs.Rest.{RestsAt}
use Rattle.segment_frames.specs.FrameStanding.{IsSettledAt}
use Rattle.pma_store.specs.UpdateCalls.{clear_calls}
use Rattle.pma_store.specs.StoreFields.{view_of}
use Rattle.pma_store.specs.Looking.{TellsOther}
use Rattle.pma_store.specs.Readying.{KeepsStore, clear_cost}
use Rattle.pma_store.specs.StoreView.{StoreView, StandsOn, limit_of}
use Rattle.pma_store.specs.Touching.{IsClearPlace}
use Rattle.pma_store.proofs.ClearCosts.{cleared_bytes, cleared_calls}
use Rattle.pma_store.proofs.Clearing.{clear_keeps, clear_touches, stands_cleared}
use Rattle.pma_store.proofs.ReadyStores.{kept_store}
use Rattle.pma_store.proofs.store.OpenArray.clear.Goals as goal
use Rattle.pma_store.proofs.store.OpenArray.clear.Goals.{After-clear_store}

-- what is known by the fields of the store
on : (g : _) (c : After-clear_store g) → StandsOn (view_of c.self.inside) (g.S.Station.view c.args.station.now)
on g c = subst (λ (s : StoreView). StandsOn s (g.S.Station.view c.args.station.now)) (sym c.self.view_is) c.requires.on

journal : (g : _) (c : After-clear_store g) → c.clear_store.new.frames.journal ≡ c.self.inside.frames.journal
journal g c = ap (λ (b : Batch). b.journal) c.clear_store.ensures.frames

-- the store behind it differs in what it notes of the gate alone
same : (g : _) (c : After-clear_store g) → record (view_of c.self.inside) { journal = c.clear_store.new.frames.journal; turn = c.clear_store.new.frames.turn } ≡ record (view_of c.self.inside) { turn = c.clear_store.new.frames.turn }
same g c = ap (λ (j : ℕ). record (view_of c.self.inside) { journal = j; turn = c.clear_store.new.frames.turn }) (journal g c)

pub clear_store-requires-clause-settled : goal.clear_store-requires-clause-settled
clear_store-requires-clause-settled g c image left =
    (subst (λ (s : StoreView). EachHeld (IsSettledAt s.place) (g.S.Station.view c.args.station.now)) (sym c.self.view_is) (λ image left. (c.requires.on.stands image left).balanced.stands.settled)) image left

pub clear_store-requires-clause-rests : goal.clear_store-requires-clause-rests
clear_store-requires-clause-rests g c = subst (λ (s : StoreView). RestsAt s.place.layout s.turn (g.S.Station.view c.args.station.now)) (sym c.self.view_is) c.requires.on.rests

pub invariant_of-self : goal.invariant_of-self
invariant_of-self g c = kept_store (view_of c.self.inside) c.self.invariant c.self.inside.index refl c.clear_store.new.frames.journal c.clear_store.new.frames.turn (journal g (goal.at.invariant_of-self g c).After-clear_store) refl

pub returns-clause-kept : goal.returns-clause-kept
returns-clause-kept g c =
    let here = (goal.at.returns-clause-kept g c).After-clear_store in
    let a = g.S.Station.view c.args.station.now in
    let b = g.S.Station.view c.clear_store.new.station in
    let s = view_of c.self.inside in
    let t = record s { turn = c.clear_store.new.frames.turn } in
    let r = c.clear_store.result in
    let own : KeepsStore r (clear_cost s.place.layout) (clear_calls s.place.layout) s t a b = record {
      steps = clear_keeps s (on g here) c.clear_store.ensures.steps;
      store = on_ok_weaker r (stands_cleared s (on g here) c.clear_store.ensures.steps c.clear_store.new.frames.turn (g.met.S.Station.lawful c.clear_store.new.station)) c.clear_store.ensures.rests;
      layout = refl;
      closed = refl;
      damaged = IfErr-weaker r _ _ (λ fault disk told. disk) c.clear_store.ensures.fault;
      counted = IfErr-weaker r _ _ (λ fault disk. subst (TellsOther (2 ^ limit_of s)) (sym disk) tt) c.clear_store.ensures.fault;
      failed = c.clear_store.ensures.failed;
      cost = cleared_bytes s.place.layout a.travel.written b.travel.written c.clear_store.ensures.cost (λ single. ap (λ x. (g.S.Station.view x).travel.written) (c.clear_store.ensures.untouched single));
      calls = cleared_calls s.place.layout a.calls b.calls c.clear_store.ensures.calls (λ single. ap (λ x. (g.S.Station.view x).calls) (c.clear_store.ensures.untouched single));
    } in
    subst (λ (v : StoreView). KeepsStore r (clear_cost v.place.layout) (clear_calls v.place.layout) v (record s { journal = c.clear_store.new.frames.journal; turn = c.clear_store.new.frames.turn }) a b) c.self.view_is
    (subst (λ (t : StoreView). KeepsStore r (clear_cost s.place.layout) (clear_calls s.place.layout) s t a b) (sym (same g here)) own)

pub returns-clause-touched : goal.returns-clause-touched
returns-clause-touched g c =
    let here = (goal.at.returns-clause-touched g c).After-clear_store in
    subst (λ (s : StoreView). Steps (Touched (IsClearPlace s.place.layout)) (g.S.Station.view c.args.station.now) (g.S.Station.view c.clear_store.new.station)) c.self.view_is
    (clear_touches (view_of c.self.inside) (on g here) c.clear_store.ensures.steps)

pub returns-clause-turned : goal.returns-clause-turned
returns-clause-turned g c =
    let here = (goal.at.returns-clause-turned g c).After-clear_store in
    same g here ∙ ap (λ (s : StoreView). record s { turn = c.clear_store.new.frames.turn }) c.self.view_is

pub returns-clause-untouched : goal.returns-clause-untouched
returns-clause-untouched g c single = c.clear_store.ensures.untouched (λ paired. single (ap (λ (s : StoreView). s.place.layout.version) (sym c.self.view_is) ∙ paired))
