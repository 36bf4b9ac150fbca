use Rattle.std.proofs.Common.{◌≡◌, ℕ, ◌+◌, ◌-◌, ◌^◌, ◌<◌, ◌≤◌, true, sym, ap, subst, ◌∙◌, arith}
use Rattle.station.proofs.Composition.{told_back}
use Rattle.density_rule.specs.Bounds.{IsInBounds}
use Rattle.density_rule.specs.Windows.{IsBalanced}
use Rattle.header_gate.specs.InPlace.{IsBare}
use Rattle.header_gate.specs.declared.layout.Layout.{Layout}
use Rattle.redo_journal.specs.declared.place.Place.{Place}
use Rattle.redo_journal.specs.Rest.{RestsAt}
use Rattle.station.specs.View.{Told}
use Rattle.window_tally.specs.TallyView.{TallyView}
use Rattle.std.specs.Prelude.{sum}
use Rattle.std.proofs.Common.{◌⊎◌}
use Rattle.std.proofs.Math.Pow.{pow_mono}
use Rattle.segment.specs.declared.fault.StoreFault.TheVariants.{Failed}
use Rattle.pma_store.specs.UpdateCalls.{copying_calls}
use Rattle.pma_store.specs.Damaging.{IsMetAmong}
use Rattle.pma_store.specs.Looking.{TellsOther}
use Rattle.pma_store.specs.StoreFields.{view_of}
use Rattle.pma_store.specs.Readying.{copying_cost}
use Rattle.pma_store.specs.StoreView.{StoreView, IsStore, StandsOn, limit_of}
use Rattle.pma_store.specs.Touching.{IsPlaceAfter}
use Rattle.pma_store.proofs.Balancing.{one_power}
use Rattle.pma_store.proofs.ReadyStores.{resize_keeps, resize_among, among_tells, stands_resized, kept_store, resized_store}
use Rattle.pma_store.proofs.Making.{no_fault, stands_again}
use Rattle.pma_store.proofs.Touching.{resize_place}
use Rattle.pma_store.proofs.store.OpenArray.grow_cleared.Goals as goal
use Rattle.pma_store.proofs.store.OpenArray.grow_cleared.Goals.{After-grow}

-- what is known by the fields of the store
limit : (g : _) (c : After-grow g) → c.self.inside.tally.height + 1 ≤ c.self.inside.tally.hmax
limit g c = subst (λ (s : StoreView). s.tally.height + 1 ≤ s.tally.hmax) (sym c.self.view_is) (omega (arith, c.requires.limit))

bounds : (g : _) (c : After-grow g) → IsInBounds (c.self.inside.tally.height + 1) (c.self.inside.tally.height + 1) (sum c.self.inside.tally.counts)
bounds g c = subst (λ (s : StoreView). IsInBounds (s.tally.height + 1) (s.tally.height + 1) (sum s.tally.counts)) (sym c.self.view_is) c.requires.bounds

height : (g : _) (c : After-grow g) → c.grow.new.fences.height ≡ c.self.inside.tally.height + 1
height g c = one_power _ _ c.grow.ensures.same_count ∙ c.reset.ensures.height ∙ ap (λ (h : ℕ). h + 1) c.height-height.ensures.height

hmax : (g : _) (c : After-grow g) → c.grow.new.fences.hmax ≡ c.self.inside.index.hmax
hmax g c = one_power _ _ c.grow.ensures.same_room ∙ c.reset.ensures.hmax

pub invariant_of-self : goal.invariant_of-self
invariant_of-self g c =
    let here = (goal.at.invariant_of-self g c).After-grow in
    let s = c.self.inside in
    let own = resized_store (view_of s) c.self.invariant c.grow.new.fences (hmax g here) c.grow.new.frames.journal c.grow.new.frames.turn c.grow.ensures.same_journal (s.tally.height + 1) (limit g here) (bounds g here) (height g here) in
    let by_tally = subst (λ (t : TallyView). IsStore (record (view_of s) { place = record s.place { region = 1 - s.place.region }; tally = t; index = c.grow.new.fences; journal = c.grow.new.frames.journal; turn = c.grow.new.frames.turn })) (sym c.in-Ok.ensures.tally) own in
    subst (λ (p : Place). IsStore (record (view_of s) { place = p; tally = c.grow.new.tally; index = c.grow.new.fences; journal = c.grow.new.frames.journal; turn = c.grow.new.frames.turn })) (sym c.in-Ok.ensures.place) by_tally

pub reset-requires-in-Err : goal.reset-requires-in-Err
reset-requires-in-Err g c =
    let here = (goal.at.reset-requires-in-Err g c).After-grow in
    omega (arith, c.height-height.ensures.height, hmax g here, c.self.invariant.index_hmax, c.self.invariant.tally.height_is)

pub invariant_of-self-in-Err : goal.invariant_of-self-in-Err
invariant_of-self-in-Err g c =
    let here = (goal.at.invariant_of-self-in-Err g c).After-grow in
    let s = c.self.inside in
    let back = c.reset-in-Err.ensures.height ∙ c.height-height.ensures.height ∙ sym c.self.invariant.index_height in
    let own = kept_store (view_of s) c.self.invariant c.reset-in-Err.new.self (c.reset-in-Err.ensures.hmax ∙ hmax g here) c.grow.new.frames.journal c.grow.new.frames.turn c.grow.ensures.same_journal back in
    let by_tally = subst (λ (t : TallyView). IsStore (record (view_of s) { tally = t; index = c.reset-in-Err.new.self; journal = c.grow.new.frames.journal; turn = c.grow.new.frames.turn })) (sym c.in-Err.ensures.tally_kept) own in
    subst (λ (p : Place). IsStore (record (view_of s) { place = p; tally = c.grow.new.tally; index = c.reset-in-Err.new.self; journal = c.grow.new.frames.journal; turn = c.grow.new.frames.turn })) (sym c.in-Err.ensures.place_kept) by_tally

pub returns-in-Ok-clause-place : goal.returns-in-Ok-clause-place
returns-in-Ok-clause-place g c =
    let s = c.self.inside in
    let next : StoreView = record { place = c.grow.new.place; tally = c.grow.new.tally; index = c.grow.new.fences; journal = c.grow.new.frames.journal; turn = c.grow.new.frames.turn; closed = s.closed } in
    subst (λ (s : StoreView). IsPlaceAfter true s next (g.S.Station.view c.args.station.now) (g.S.Station.view c.grow.new.station)) c.self.view_is
    (resize_place (view_of s) next (s.tally.height + 1) c.in-Ok.ensures.place c.grow.ensures.steps)

pub returns-in-Ok-clause-kept : goal.returns-in-Ok-clause-kept
returns-in-Ok-clause-kept g c =
    let here = (goal.at.returns-in-Ok-clause-kept g c).After-grow in
    let a = g.S.Station.view c.args.station.now in
    let b = g.S.Station.view c.grow.new.station in
    let s = c.self.inside in
    let next : StoreView = record { place = c.grow.new.place; tally = c.grow.new.tally; index = c.grow.new.fences; journal = c.grow.new.frames.journal; turn = c.grow.new.frames.turn; closed = s.closed } in
    let own = resized_store (view_of s) c.self.invariant c.grow.new.fences (hmax g here) c.grow.new.frames.journal c.grow.new.frames.turn c.grow.ensures.same_journal (s.tally.height + 1) (limit g here) (bounds g here) (height g here) in
    let tall : c.grow.new.tally.height ≡ s.tally.height + 1 = ap (λ (t : TallyView). t.height) c.in-Ok.ensures.tally in
    let balanced = subst (λ (t : TallyView). IsBalanced t.height t.counts) (sym c.in-Ok.ensures.tally) own.balanced in
    let stands = stands_resized b next (g.met.S.Station.lawful c.grow.new.station) c.in-Ok.ensures.rests c.in-Ok.ensures.stands balanced (height g here ∙ sym tall)
    (λ told_b i lt some. c.in-Ok.ensures.fences_agree (told_back c.grow.ensures.steps.frame told_b) i (subst (λ (h : ℕ). i < 2 ^ h) tall lt) some) in
    let on = subst (λ (s : StoreView). StandsOn s a) (sym c.self.view_is) c.requires.on in
    let layout = ap (λ (p : Place). p.layout) c.in-Ok.ensures.place in
    record {
      steps = resize_keeps (view_of s) (s.tally.height + 1) on c.grow.ensures.steps;
      store = stands_again (view_of s) next on layout c.grow.ensures.steps.frame stands (subst (λ (l : Layout). RestsAt l c.grow.new.frames.turn b) layout c.in-Ok.ensures.rests);
      layout = layout ∙ ap (λ (s : StoreView). s.place.layout) c.self.view_is;
      closed = ap (λ (s : StoreView). s.closed) c.self.view_is;
      damaged = tt;
      counted = tt;
      failed = no_fault tt;
      calls = subst (λ (s : StoreView). (g.S.Station.view c.grow.new.station).calls ≤ (g.S.Station.view c.args.station.now).calls + copying_calls s.place.layout s.tally.height (s.tally.height + 1)) c.self.view_is c.grow.ensures.calls;
      cost = subst (λ (s : StoreView). (g.S.Station.view c.grow.new.station).travel.written ≤ (g.S.Station.view c.args.station.now).travel.written + copying_cost s.place.layout (s.tally.height + 1)) c.self.view_is c.grow.ensures.cost;
    }

pub returns-in-Err-clause-among : goal.returns-in-Err-clause-among
returns-in-Err-clause-among g c = subst (λ (s : StoreView). (c.in-Err.fault ≡ Failed) ⊎ IsMetAmong s.tally c.in-Err.fault) c.self.view_is (resize_among _ c.self.inside.tally _ c.in-Err.fault c.self.invariant.tally.size c.in-Err.ensures.cause)

pub returns-in-Err-clause-kept : goal.returns-in-Err-clause-kept
returns-in-Err-clause-kept g c = record {
  steps = resize_keeps (view_of c.self.inside) (c.self.inside.tally.height + 1) (subst (λ (s : StoreView). StandsOn s (g.S.Station.view c.args.station.now)) (sym c.self.view_is) c.requires.on) c.grow.ensures.steps;
  store = tt;
  layout = ap (λ (p : Place). p.layout) c.in-Err.ensures.place_kept ∙ ap (λ (s : StoreView). s.place.layout) c.self.view_is;
  closed = ap (λ (s : StoreView). s.closed) c.self.view_is;
  damaged = c.in-Err.ensures.damaged;
  counted = subst (λ (s : StoreView). TellsOther (2 ^ limit_of s) c.in-Err.fault) c.self.view_is (among_tells _ c.self.inside.tally c.in-Err.fault (pow_mono {i = c.self.inside.tally.height} {j = limit_of (view_of c.self.inside)} (omega (arith, c.self.invariant.tally.height_is, c.self.invariant.hmax))) (resize_among _ c.self.inside.tally _ c.in-Err.fault c.self.invariant.tally.size c.in-Err.ensures.cause));
  failed = c.in-Err.ensures.failed;
  calls = subst (λ (s : StoreView). (g.S.Station.view c.grow.new.station).calls ≤ (g.S.Station.view c.args.station.now).calls + copying_calls s.place.layout s.tally.height (s.tally.height + 1)) c.self.view_is c.grow.ensures.calls;
  cost = subst (λ (s : StoreView). (g.S.Station.view c.grow.new.station).travel.written ≤ (g.S.Station.view c.args.station.now).travel.written + copying_cost s.place.layout (s.tally.height + 1)) c.self.view_is c.grow.ensures.cost;
}

pub grow-requires-clause-bare : goal.grow-requires-clause-bare
grow-requires-clause-bare g c = subst (λ (s : StoreView). Told (g.S.Station.view c.args.station.now) → IsBare s.place.layout (g.S.Station.view c.args.station.now).held) (sym c.self.view_is) c.requires.bare

pub grow-requires-clause-rests : goal.grow-requires-clause-rests
grow-requires-clause-rests g c = subst (λ (s : StoreView). RestsAt s.place.layout s.turn (g.S.Station.view c.args.station.now)) (sym c.self.view_is) c.requires.on.rests
