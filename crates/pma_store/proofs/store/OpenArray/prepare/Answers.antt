use Rattle.std.proofs.Common.{◌≡◌, inl, inr, refl, ℕ, ◌+◌, ◌<◌, ◌≤◌, length, sym, ap, subst, ◌∙◌, arith, rules}
use Rattle.std.proofs.lemmas.Result.{IfOk-weaker, err_from_is_err_and}
use Rattle.station.specs.View.{Told}
use Rattle.station.proofs.Composition.{told_on, told_back}
use Rattle.density_rule.specs.Bounds.{upper_of}
use Rattle.map_model.specs.Array.{rows}
use Rattle.map_model.specs.Image.{array_of, map_of}
use Rattle.map_model.proofs.Recovering.{determined}
use Rattle.std.proofs.lemmas.Grind.{common_steps}
use Rattle.window_tally.specs.declared.Pick.TheVariants.{Fits, Spread, Grow, Shrink, AtLimit}
use Rattle.window_tally.specs.declared.Change.TheVariants.{Add}
use Rattle.pma_store.specs.Locations.{IsOwn}
use Rattle.pma_store.specs.StoreView.{StoreView, Stands, limit_of}
use Rattle.pma_store.specs.Updating.{update_of}
use Rattle.pma_store.proofs.Changes.{finds_again}
use Rattle.pma_store.proofs.Outcomes.{records_are, rows_len}
use Rattle.pma_store.proofs.Picks.{low_of, near_of}
use Rattle.pma_store.proofs.Making.{stands_there, finds_keeps, keeps_err}
use Rattle.pma_store.proofs.Steps.{own_of, on_ok_too, all_locations}
use Rattle.window_tally.specs.declared.Pick.{Pick}
use Rattle.pma_store.specs.Damaging.{IsMetMaking}
use Rattle.pma_store.specs.Touching.{place_after}
use Rattle.pma_store.proofs.Meeting.{found_behind}
use Rattle.pma_store.proofs.Touching.{place_before}
use Rattle.pma_store.proofs.store.OpenArray.prepare.Goals as goal
use Rattle.pma_store.proofs.Damages.{asked_first, on_err_too}
use Rattle.pma_store.specs.Readying.{broken_in, ready_cost, resizes, KeepsStore}
use Rattle.pma_store.specs.UpdateCalls.{again_calls, ready_calls}
use Rattle.pma_store.proofs.store.OpenArray.prepare.Goals.{After-make_ready}

stands : (g : _) (c : After-make_ready g) → Told (g.S.Station.view c.args.station.now) → Stands c.args.self.now (g.S.Station.view c.args.station.now).held
stands g c told = stands_there c.args.self.now c.requires.on told

pub find_again-requires-clause-again : goal.find_again-requires-clause-again
find_again-requires-clause-again g c told_b =
    let here = (goal.at.find_again-requires-clause-again g c).After-make_ready in
    let a = g.S.Station.view c.args.station.now in
    let b = g.S.Station.view c.make_ready.new.station in
    let s = c.args.self.now in
    let told = told_back c.make_ready.ensures.kept.steps.frame told_b in
    let own = stands g here told in
    let room : c.args.plan.change ≡ Add → length (rows (array_of a.held)) < upper_of (limit_of s) = λ (add : c.args.plan.change ≡ Add).
    omega (arith, c.requires.few add, records_are s a.held own, rows_len s a.held own, ap (λ (h : ℕ). upper_of h) c.requires.kept.hmax) in
    finds_again s a.held own (update_of c.args.update.now) c.args.plan.change c.args.location c.args.rows.now c.requires.location (c.requires.own told) c.requires.needs room b.held (c.in_ok-make_ready.ensures.array told) c.args.plan.pick c.requires.pick

pub find_again-requires-clause-low : goal.find_again-requires-clause-low
find_again-requires-clause-low g c = low_of c.args.self.now.tally c.args.plan.pick (omega (arith, c.requires.kept.tally.height_is, c.requires.kept.tally.hmax_is)) c.requires.possible

-- the segment is read again
again_one : (pick : Pick) → (pick ≡ Fits → ⊥) → (pick ≡ AtLimit → ⊥) → again_calls pick ≡ 1
again_one Fits some room = absurd (some refl)
again_one (Spread w) some room = refl
again_one Grow some room = refl
again_one Shrink some room = refl
again_one AtLimit some room = absurd (room refl)

pub returns-in_err-make_ready-clause-kept : goal.returns-in_err-make_ready-clause-kept
returns-in_err-make_ready-clause-kept g c =
    let p = err_from_is_err_and c.from_residual.result c.from_residual.ensures.1 in
    rw (p.1, p.2) (
    keeps_err c.in_err-make_ready.field-0.0 _ (ready_calls c.args.self.now.place.layout c.args.self.now.tally.height c.args.plan.pick) _ c.args.self.now _ (omega arith) c.in_err-make_ready.ensures.kept)

pub returns-clause-kept : goal.returns-clause-kept
returns-clause-kept g c =
    let one = again_one c.args.plan.pick (first_of (search rules, grind (arith, common_steps))) c.requires.room in
    subst (λ (n : ℕ). KeepsStore c.find_again.result (ready_cost c.args.self.now.place.layout c.args.self.now.tally.height c.args.plan.pick) (ready_calls c.args.self.now.place.layout c.args.self.now.tally.height c.args.plan.pick + n) c.args.self.now c.find_again.new.self (g.S.Station.view c.args.station.now) (g.S.Station.view c.find_again.new.station)) (sym one) (finds_keeps tt (update_of c.args.update.now) c.find_again.result c.find_again.new.rows (ready_cost c.args.self.now.place.layout c.args.self.now.tally.height c.args.plan.pick) (ready_calls c.args.self.now.place.layout c.args.self.now.tally.height c.args.plan.pick) c.args.self.now c.make_ready.new.self c.find_again.new.self (g.met.S.Station.lawful c.make_ready.new.station)
    c.in_ok-make_ready.ensures.kept c.find_again.ensures.found
    (subst (λ (v : StoreView). v.tally.height ≤ limit_of v) c.find_again.ensures.found.store (omega (arith, c.find_again.ensures.store.tally.height_is, c.find_again.ensures.store.hmax))))

pub returns-clause-place : goal.returns-clause-place
returns-clause-place g c =
    let found = c.find_again.ensures.found in
    on_ok_too c.find_again.result (place_before (resizes c.args.plan.pick) c.args.self.now c.make_ready.new.self c.find_again.new.self c.in_ok-make_ready.ensures.place found.store found.steps)

pub returns-clause-own : goal.returns-clause-own
returns-clause-own g c = IfOk-weaker c.find_again.result _ _ (λ next own told.
    let here = (goal.at.returns-clause-own g c).After-make_ready in
    let a = g.S.Station.view c.args.station.now in
    let b = g.S.Station.view c.make_ready.new.station in
    let d = g.S.Station.view c.find_again.new.station in
    let told_b = told_on c.make_ready.ensures.kept.steps.frame told in
    let same : d.held ≡ b.held = c.find_again.ensures.found.steps.held told_b in
    let kept = (c.make_ready.ensures.kept.steps.held told).map_is (map_of a.held) (own_of c.args.self.now a.held (stands g here told)) in
    record {
      map_is = ap map_of same ∙ sym (determined b.held (map_of a.held) kept.0 kept.1).0;
      array_is = ap array_of same ∙ c.in_ok-make_ready.ensures.array told;
      own = subst (IsOwn (update_of c.args.update.now) next c.find_again.new.rows) (sym same) (own told_b);
    }) c.find_again.ensures.found.own

pub returns-clause-ready : goal.returns-clause-ready
returns-clause-ready g c =
    let some : c.args.plan.pick ≡ Fits → ⊥ = first_of (search rules, grind (arith, common_steps)) in
    all_locations c.find_again.result c.find_again.ensures.found.location c.find_again.ensures.lies c.find_again.ensures.needs (λ next location lies needs. record {
      tally_is = ap (λ (s : StoreView). s.tally) c.find_again.ensures.found.store ∙ c.in_ok-make_ready.ensures.tally;
      near = near_of c.args.plan.change c.args.location.segment c.args.self.now.tally next.segment c.args.plan.pick c.requires.pick some lies;
      is_location = location;
      needs = needs;
    })

pub returns-clause-asks : goal.returns-clause-asks
returns-clause-asks g c =
    let t = c.args.self.now.tally in
    let some : c.args.plan.pick ≡ Fits → ⊥ = first_of (search rules, grind (arith, common_steps)) in
    on_err_too c.find_again.result (asked_first t.hmax t.height c.args.location.segment c.args.plan.change (broken_in c.args.plan.change c.args.location.segment t) c.args.plan.pick c.requires.pick some)

pub returns-clause-late : goal.returns-clause-late
returns-clause-late g c =
    let s = c.args.self.now in
    let t = s.tally in
    let some : c.args.plan.pick ≡ Fits → ⊥ = first_of (search rules, grind (arith, common_steps)) in
    found_behind c.args.plan.change c.args.location.segment s c.make_ready.new.self c.find_again.new.self (update_of c.args.update.now) c.find_again.result c.find_again.new.rows c.find_again.ensures.found
    (asked_first t.hmax t.height c.args.location.segment c.args.plan.change (broken_in c.args.plan.change c.args.location.segment t) c.args.plan.pick c.requires.pick some) c.in_ok-make_ready.ensures.tally
    (subst (λ (p : Pick). c.make_ready.new.self.place ≡ place_after (resizes p) s.place) c.requires.pick c.in_ok-make_ready.ensures.place.place_is)

pub returns-in_err-make_ready-clause-late : goal.returns-in_err-make_ready-clause-late
returns-in_err-make_ready-clause-late g c =
    let p = err_from_is_err_and c.from_residual.result c.from_residual.ensures.1 in
    rw (p.1, p.2) (
    let s = c.args.self.now in
    elim c.in_err-make_ready.ensures.making [
      | inl disk ↦ inl disk
      | inr met ↦ inr (inl (subst (λ (p : Pick). IsMetMaking p s.tally c.in_err-make_ready.field-0.0) c.requires.pick met))
    ])

pub returns-in_err-make_ready-clause-asks : goal.returns-in_err-make_ready-clause-asks
returns-in_err-make_ready-clause-asks g c =
    let p = err_from_is_err_and c.from_residual.result c.from_residual.ensures.1 in
    rw p.1 (
    let t = c.args.self.now.tally in
    let some : c.args.plan.pick ≡ Fits → ⊥ = first_of (search rules, grind (arith, common_steps)) in
    asked_first t.hmax t.height c.args.location.segment c.args.plan.change (broken_in c.args.plan.change c.args.location.segment t) c.args.plan.pick c.requires.pick some)
