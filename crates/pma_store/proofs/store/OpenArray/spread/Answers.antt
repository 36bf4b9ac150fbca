use Rattle.std.proofs.Common.{◌≡◌, ◌⊎◌, inl, inr, ℕ, ◌+◌, ◌*◌, ◌-◌, ◌^◌, ◌≤◌, Bool, true, false, cond, nat_le, refl, sym, ap, subst, ◌∙◌, arith}
use Rattle.std.specs.Prelude.{OnOk, IfErr}
use Rattle.std.proofs.lemmas.Bool.{leb-true}
use Rattle.std.proofs.Math.Pow.{pow_mono}
use Rattle.segment.specs.declared.fault.StoreFault.TheVariants.{Failed}
use Rattle.redistribute.proofs.SpreadLaws.{window_inside, length-leaves}
use Rattle.header_gate.specs.declared.layout.Layout.{Layout}
use Rattle.segment_frames.specs.Lists.{most_segments}
use Rattle.segment_frames.specs.SegmentParts.{parts}
use Rattle.pma_store.specs.UpdateCalls.{spread_calls}
use Rattle.pma_store.specs.Damaging.{IsMetMoving}
use Rattle.pma_store.specs.Looking.{TellsOther}
use Rattle.std.proofs.lemmas.Result.{IfErr-weaker}
use Rattle.station.proofs.Composition.{told_back}
use Rattle.density_rule.specs.Windows.{IsWindow, IsBalanced}
use Rattle.density_rule.proofs.Places.{window_end}
use Rattle.window_tally.specs.TallyView.{TallyView}
use Rattle.pma_store.specs.StoreFields.{view_of}
use Rattle.pma_store.specs.Readying.{spread_cost}
use Rattle.pma_store.specs.StoreView.{StoreView, IsStore, StandsOn, limit_of}
use Rattle.pma_store.specs.Touching.{IsPlaceAfter}
use Rattle.pma_store.proofs.Balancing.{one_power, spread_balances}
use Rattle.pma_store.proofs.ReadyStores.{rebalance_keeps, rebalance_moving, moving_tells, kept_store, spread_store, spread_tally, either, stands_spread, all_five}
use Rattle.pma_store.proofs.Making.{stands_again}
use Rattle.pma_store.proofs.Touching.{spread_place}
use Rattle.pma_store.proofs.store.OpenArray.spread.Goals as goal
use Rattle.pma_store.proofs.store.OpenArray.spread.Goals.{After-rebalance}

window : (g : _) (c : After-rebalance g) → IsWindow c.self.inside.tally.height c.args.window.height c.args.window.number
window g c = subst (λ (s : StoreView). IsWindow s.tally.height c.args.window.height c.args.window.number) (sym c.self.view_is) c.requires.window

height : (g : _) (c : After-rebalance g) → c.rebalance.new.fences.height ≡ c.self.inside.index.height
height g c = one_power _ _ c.rebalance.ensures.same_count

-- the store with its tally as it was, or spread
by_tally : (g : _) (c : After-rebalance g) → (t : TallyView) → (t ≡ c.self.inside.tally) ⊎ (t ≡ spread_tally c.args.window c.self.inside.tally) → IsStore (record (view_of c.self.inside) { tally = t; index = c.rebalance.new.fences; journal = c.rebalance.new.frames.journal; turn = c.rebalance.new.frames.turn })
by_tally g c t which =
    let s = view_of c.self.inside in
    let hmax = one_power _ _ c.rebalance.ensures.same_room in
    elim which [
      | inl same ↦ subst (λ (t : TallyView). IsStore (record s { tally = t; index = c.rebalance.new.fences; journal = c.rebalance.new.frames.journal; turn = c.rebalance.new.frames.turn })) (sym same) (kept_store s c.self.invariant c.rebalance.new.fences hmax c.rebalance.new.frames.journal c.rebalance.new.frames.turn c.rebalance.ensures.journal (height g c))
      | inr other ↦ subst (λ (t : TallyView). IsStore (record s { tally = t; index = c.rebalance.new.fences; journal = c.rebalance.new.frames.journal; turn = c.rebalance.new.frames.turn })) (sym other) (spread_store s c.self.invariant c.rebalance.new.fences hmax c.rebalance.new.frames.journal c.rebalance.new.frames.turn c.rebalance.ensures.journal c.args.window (window g c) c.requires.larger (height g c))
    ]

pub invariant_of-self : goal.invariant_of-self
invariant_of-self g c =
    by_tally g (goal.at.invariant_of-self g c).After-rebalance c.rebalance.new.tally (either c.rebalance.result c.rebalance.ensures.tally c.rebalance.ensures.unspread)

-- on Ok it stands for its file again
stands : (g : _) (c : After-rebalance g) → OnOk c.rebalance.result (StandsOn (record { place = c.self.inside.place; tally = c.rebalance.new.tally; index = c.rebalance.new.fences; journal = c.rebalance.new.frames.journal; turn = c.rebalance.new.frames.turn; closed = c.self.inside.closed }) (g.S.Station.view c.rebalance.new.station))
stands g here =
    let c = here in
    let a = g.S.Station.view c.args.station.now in
    let b = g.S.Station.view c.rebalance.new.station in
    let s = c.self.inside in
    let next : StoreView = record { place = s.place; tally = c.rebalance.new.tally; index = c.rebalance.new.fences; journal = c.rebalance.new.frames.journal; turn = c.rebalance.new.frames.turn; closed = s.closed } in
    let old = subst (λ (s : StoreView). StandsOn s a) (sym c.self.view_is) c.requires.on in
    all_five c.rebalance.result c.rebalance.ensures.rests c.rebalance.ensures.stands c.rebalance.ensures.tally c.rebalance.ensures.array c.rebalance.ensures.fences_agree (λ rests stands tally array agree.
    let balanced = subst (λ (t : TallyView). IsBalanced t.height t.counts) (sym {b = spread_tally c.args.window s.tally} tally) (spread_balances s.tally.height s.tally.counts c.args.window.height c.args.window.number (omega (arith, c.self.invariant.tally.height_is, c.self.invariant.tally.hmax_is)) c.self.invariant.tally.size c.self.invariant.balanced (window g here) c.requires.larger) in
    let tall : c.rebalance.new.tally.height ≡ s.tally.height = ap (λ (t : TallyView). t.height) {y = spread_tally c.args.window s.tally} tally in
    let at : c.rebalance.new.fences.height ≡ c.rebalance.new.tally.height = height g here ∙ c.self.invariant.index_height ∙ sym tall in
    let end = subst (λ (h : ℕ). (c.args.window.number + 1) * 2 ^ c.args.window.height ≤ 2 ^ h) (sym tall) (window_end s.tally.height c.args.window.height c.args.window.number (window g here)) in
    stands_again (view_of s) next old refl c.rebalance.ensures.steps.frame (stands_spread a b next s.index (g.met.S.Station.lawful c.rebalance.new.station) rests stands balanced at (sym (height g here)) c.args.window end
    (λ told_b. (old.stands a.held (inl (told_back c.rebalance.ensures.steps.frame told_b, refl))).index)
    (λ told_b. array (told_back c.rebalance.ensures.steps.frame told_b))
    (λ told_b. agree (told_back c.rebalance.ensures.steps.frame told_b))
    c.rebalance.ensures.other_fences) rests)

pub returns-clause-place : goal.returns-clause-place
returns-clause-place g c =
    let s = c.self.inside in
    let next : StoreView = record { place = s.place; tally = c.rebalance.new.tally; index = c.rebalance.new.fences; journal = c.rebalance.new.frames.journal; turn = c.rebalance.new.frames.turn; closed = s.closed } in
    subst (λ (s : StoreView). IsPlaceAfter false s next (g.S.Station.view c.args.station.now) (g.S.Station.view c.rebalance.new.station)) c.self.view_is
    (spread_place (view_of s) next refl c.rebalance.ensures.steps)

-- the calls of a spread, by whether it is one batch
spread_few : (l : Layout) (j x y : ℕ) → x ≤ y + (12 * (4 * 2 ^ j - 2) + parts (most_segments l) (2 ^ j)) → (2 ^ j ≤ most_segments l → x ≤ y + 10) → x ≤ y + spread_calls l j
spread_few l j x y many one = by_test (nat_le (2 ^ j) (most_segments l)) refl
  where
    by_test : (b : Bool) → nat_le (2 ^ j) (most_segments l) ≡ b → x ≤ y + cond b 10 (12 * (4 * 2 ^ j - 2) + parts (most_segments l) (2 ^ j))
    by_test true e = one (leb-true (2 ^ j) (most_segments l) e)
    by_test false e = many

-- what is met on the way
moves : (g : _) (c : After-rebalance g) → IfErr c.rebalance.result (λ fault. (fault ≡ Failed) ⊎ IsMetMoving c.args.window c.self.inside.tally.counts fault)
moves g c =
    let t = c.self.inside.tally in
    let w = c.args.window in
    IfErr-weaker c.rebalance.result _ _ (λ fault shown. rebalance_moving _ _ w t.counts fault (length-leaves t c.self.invariant.tally w.height w.number (window g c)) shown) c.rebalance.ensures.cause

-- the window is one of the store
inside : (g : _) (c : After-rebalance g) → c.args.window.number * 2 ^ c.args.window.height + 2 ^ c.args.window.height ≤ 2 ^ limit_of (view_of c.self.inside)
inside g c =
    let s = view_of c.self.inside in
    let w = c.args.window in
    omega (arith, window_inside s.tally c.self.invariant.tally w.height w.number (window g c), pow_mono {i = s.tally.height} {j = limit_of s} (omega (arith, c.self.invariant.tally.height_is, c.self.invariant.hmax)))

pub returns-clause-moving : goal.returns-clause-moving
returns-clause-moving g c = subst (λ (s : StoreView). IfErr c.rebalance.result (λ fault. (fault ≡ Failed) ⊎ IsMetMoving c.args.window s.tally.counts fault)) c.self.view_is (moves g (goal.at.returns-clause-moving g c).After-rebalance)

pub returns-clause-kept : goal.returns-clause-kept
returns-clause-kept g c = record {
  steps = rebalance_keeps (view_of c.self.inside) (subst (λ (s : StoreView). StandsOn s (g.S.Station.view c.args.station.now)) (sym c.self.view_is) c.requires.on) c.rebalance.ensures.steps;
  store = stands g (goal.at.returns-clause-kept g c).After-rebalance;
  layout = ap (λ (s : StoreView). s.place.layout) c.self.view_is;
  closed = ap (λ (s : StoreView). s.closed) c.self.view_is;
  damaged = c.rebalance.ensures.damaged;
  counted = subst (λ (s : StoreView). IfErr c.rebalance.result (TellsOther (2 ^ limit_of s))) c.self.view_is
      (IfErr-weaker c.rebalance.result _ _ (λ fault moving. moving_tells _ c.args.window c.self.inside.tally.counts fault (inside g (goal.at.returns-clause-kept g c).After-rebalance) moving) (moves g (goal.at.returns-clause-kept g c).After-rebalance));
  failed = c.rebalance.ensures.failed;
  calls = subst (λ (s : StoreView). (g.S.Station.view c.rebalance.new.station).calls ≤ (g.S.Station.view c.args.station.now).calls + spread_calls s.place.layout c.args.window.height) c.self.view_is
      (spread_few c.self.inside.place.layout c.args.window.height (g.S.Station.view c.rebalance.new.station).calls (g.S.Station.view c.args.station.now).calls c.rebalance.ensures.calls c.rebalance.ensures.one_batch_calls);
  cost = subst (λ (s : StoreView). (g.S.Station.view c.rebalance.new.station).travel.written ≤ (g.S.Station.view c.args.station.now).travel.written + spread_cost s.place.layout c.args.window.height) c.self.view_is c.rebalance.ensures.cost;
}
