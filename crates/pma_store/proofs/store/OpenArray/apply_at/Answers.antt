use Rattle.std.proofs.Common.{◌≡◌, ◌≢◌, inl, inr, ◌+◌, ℕ, ◌^◌, ◌<◌, ◌≤◌, Bool, true, false, length, get_or, Some, sym, ap, subst, ◌∙◌, arith, rules, is_ok, refl}
use Rattle.std.specs.Prelude.{sum}
use Rattle.station.specs.View.{Told}
use Rattle.station.specs.Steps.{Steps}
use Rattle.station.proofs.Composition.{told_on, told_back}
use Rattle.density_rule.specs.Bounds.{upper_of}
use Rattle.density_rule.specs.CountUpdates.{counts_after}
use Rattle.density_rule.specs.Windows.{IsBalanced}
use Rattle.header_gate.specs.declared.layout.Layout.{Layout}
use Rattle.header_gate.specs.Places.{height_limit}
use Rattle.map_model.specs.Array.{rows}
use Rattle.map_model.specs.Holding.{HoldsMap}
use Rattle.map_model.specs.Image.{array_of, map_of, height_of}
use Rattle.map_model.specs.Store.{Update, bind, unbind}
use Rattle.map_model.specs.After.{height_after, map_after}
use Rattle.std.proofs.lemmas.Grind.{common_steps}
use Rattle.pma_store.specs.declared.update.Need.TheVariants as need
use Rattle.window_tally.specs.declared.Change.{Change}
use Rattle.window_tally.specs.declared.Change.TheVariants.{Add}
use Rattle.window_tally.specs.declared.Pick.TheVariants.{AtLimit, Fits}
use Rattle.window_tally.specs.declared.Pick.{Pick}
use Rattle.window_tally.specs.Choice.{adds, IsPossible, pick_of}
use Rattle.window_tally.specs.TallyView.{TallyView}
use Rattle.map_model.specs.ArrayState.{next_state, report_by, report_of}
use Rattle.pma_store.specs.StoreAnswers.{state_in, reported}
use Rattle.pma_store.specs.SegmentCounts.{SumsIf, SumsOne, counted}
use Rattle.pma_store.specs.Changing.{outcome_of, update_cost, picked_height}
use Rattle.pma_store.specs.declared.answers.Outcome.{Outcome}
use Rattle.pma_store.specs.declared.answers.Outcome.TheVariants.{Changed, Replaced, Unchanged}
use Rattle.pma_store.specs.Rewrites.{HasRewritten, Rewrites, rewritten, commit_cost}
use Rattle.pma_store.specs.StoreView.{StoreView, Stands, limit_of}
use Rattle.pma_store.specs.Touching.{Updates, IsPlaceAfter}
use Rattle.map_model.specs.ArrayUpdates.{edited}
use Rattle.pma_store.specs.Updating.{update_of, need_of}
use Rattle.pma_store.proofs.Changes.{outcome_by, taken_some, height_same, report_same, final_array, final_holds, final_marks}
use Rattle.pma_store.proofs.Outcomes.{needs_in, IsQuiet, limit_by, records_are, rows_len, rewritten_represents, state_after, IsReplacing, replaced_by, nothing_by}
use Rattle.pma_store.proofs.Picks.{most_cost, picked_is, limit_adds, balanced_next, sum_next, commit_within}
use Rattle.pma_store.proofs.Steps.{own_of, keeps_updates, keeps_then, rewrite_updates}
use Rattle.pma_store.proofs.Touching.{rewrite_place, place_then}
use Rattle.pma_store.proofs.store.OpenArray.apply_at.Goals as goal
use Rattle.pma_store.specs.Charging.{IsPaid, work_by, changes as changed_by}
use Rattle.pma_store.specs.Costing.{update_cost_in, has_effect}
use Rattle.pma_store.proofs.Charged.{cost_told}
use Rattle.pma_store.proofs.Paying.{paid_changed, paid_quietly}
use Rattle.pma_store.proofs.Damages.{change_is, none_asks}
use Rattle.pma_store.proofs.Making.{no_fault, stands_there, stands_again, quiet_applies, fault_applies, rewrite_faults, changes, quiet_report, quiet_rested, replaces}
use Rattle.pma_store.specs.Readying.{broken_in, readied, ready_cost, resizes}
use Rattle.pma_store.specs.Damaging.{FindsNoRoom, IsMetLate, change_in, picked, report_at}
use Rattle.pma_store.specs.UpdateCalls.{asked_calls, commit_calls, update_calls}
use Rattle.pma_store.proofs.Meeting.{moved_one, quiet_within, replaced_within}
use Rattle.pma_store.proofs.store.OpenArray.apply_at.Goals.{After-prepare, After-rewrite, After-rewrite-2, In-Nothing, Then-eq}
use Rattle.cost_ledger.specs.declared.work.Work.TheVariants as work
use Rattle.std.proofs.lemmas.Result.{err_from_is_err_and}
use Rattle.pma_store.specs.declared.update.Need.TheVariants.{Nothing}
use Rattle.pma_store.proofs.Sums.{nothing_sums, change_sums}

-- Nothing is asked.

quiet_here : (g : _) (c : In-Nothing g) → Told (g.S.Station.view c.args.station.now) → IsQuiet c.args.self.now (g.S.Station.view c.args.station.now).held (update_of c.args.update.now)
quiet_here g c told =
    let a = g.S.Station.view c.args.station.now in
    let s = c.args.self.now in
    let u = update_of c.args.update.now in
    let stands = stands_there s c.requires.on told in
    let asks : need_of u (is_ok c.args.location.found) ≡ Nothing = sym (c.need.ensures ∙ ap (need_of u) c.is_ok.ensures.value) ∙ c.in-Nothing.is in
    nothing_by s a.held stands u (needs_in s a.held stands u c.args.location c.args.rows.now c.requires.location (c.requires.own told) ∙ asks)

pub returns-in-Nothing-clause-applied : goal.returns-in-Nothing-clause-applied
returns-in-Nothing-clause-applied g c =
    quiet_applies (update_of c.args.update.now) c.args.self.now c.requires.on (quiet_here g (goal.at.returns-in-Nothing-clause-applied g c).In-Nothing)

pub returns-in-Nothing-clause-within : goal.returns-in-Nothing-clause-within
returns-in-Nothing-clause-within g c = quiet_within (update_of c.args.update.now) c.args.location.segment c.args.self.now

-- The number of records that is kept.

pub returns-in-Nothing-clause-sums : goal.returns-in-Nothing-clause-sums
returns-in-Nothing-clause-sums g c =
    nothing_sums (update_of c.args.update.now) (is_ok c.args.location.found) _ _ (sym (c.need.ensures ∙ ap (need_of (update_of c.args.update.now)) c.is_ok.ensures.value) ∙ c.in-Nothing.is)

-- A put changes nothing in a full store alone.

nothing_full : (u : Update) (there : Bool) (s : StoreView) → need_of u there ≡ Nothing → FindsNoRoom u Unchanged s
nothing_full (bind key value) true s asks = absurd cc
nothing_full (bind key value) false s asks = absurd cc
nothing_full (unbind key) there s asks = tt

limit_full : (u : Update) (s : StoreView) → sum s.tally.counts ≡ upper_of (limit_of s) → FindsNoRoom u Unchanged s
limit_full (bind key value) s full = λ _. full
limit_full (unbind key) s full = tt

made_full : (u : Update) (outcome : Outcome) (s : StoreView) → ¬ (outcome ≡ Unchanged) → FindsNoRoom u outcome s
made_full (bind key value) outcome s made = λ none. absurd (made none)
made_full (unbind key) outcome s made = tt

pub returns-in-Nothing-clause-full : goal.returns-in-Nothing-clause-full
returns-in-Nothing-clause-full g c =
    nothing_full (update_of c.args.update.now) (is_ok c.args.location.found) c.args.self.now (sym (c.need.ensures ∙ ap (need_of (update_of c.args.update.now)) c.is_ok.ensures.value) ∙ c.in-Nothing.is)

pub returns-in-Replace-clause-full : goal.returns-in-Replace-clause-full
returns-in-Replace-clause-full g c = made_full (update_of c.args.update.now) Replaced c.args.self.now (λ none. absurd cc)

pub returns-clause-full : goal.returns-clause-full
returns-clause-full g c = made_full (update_of c.args.update.now) Changed c.args.self.now (λ none. absurd cc)

-- Another value for a present key.

stands_one : (g : _) (c : After-rewrite g) → Told (g.S.Station.view c.args.station.now) → Stands c.args.self.now (g.S.Station.view c.args.station.now).held
stands_one g c told = stands_there c.args.self.now c.requires.on told

replacing : (g : _) (c : After-rewrite g) → Told (g.S.Station.view c.args.station.now) → IsReplacing c.args.self.now (g.S.Station.view c.args.station.now).held (update_of c.args.update.now) c.args.location c.args.rows.now
replacing g c told =
    let a = g.S.Station.view c.args.station.now in
    let u = update_of c.args.update.now in
    replaced_by c.args.self.now a.held (stands_one g c told) u c.args.location c.args.rows.now (c.requires.own told)
    (needs_in c.args.self.now a.held (stands_one g c told) u c.args.location c.args.rows.now c.requires.location (c.requires.own told) ∙ (sym (c.need.ensures ∙ ap (need_of (update_of c.args.update.now)) c.is_ok.ensures.value) ∙ c.in-Replace.is))

steps_one : (g : _) (c : After-rewrite g) → Steps (Updates (limit_of c.args.self.now) (update_of c.args.update.now)) (g.S.Station.view c.args.station.now) (g.S.Station.view c.rewrite.new.station)
steps_one g c =
    let a = g.S.Station.view c.args.station.now in
    let s = c.args.self.now in
    let u = update_of c.args.update.now in
    let next = map_after (limit_of s) (map_of a.held) u in
    rewrite_updates (limit_of s) u (map_of a.held) s c.args.location.segment (edited u c.args.rows.now) (g.met.S.Station.lawful c.args.station.now) c.requires.on (λ told. own_of s a.held (stands_one g c told))
    (λ told image has. (s.tally.height, (rewritten_represents s a.held image c.args.location.segment (edited u c.args.rows.now) next (stands_one g c told) has (replacing g c told).holds).0))
    c.rewrite.ensures.steps

pub returns-in-Replace-clause-applied : goal.returns-in-Replace-clause-applied
returns-in-Replace-clause-applied g c =
    let here = (goal.at.returns-in-Replace-clause-applied g c).After-rewrite in
    let a = g.S.Station.view c.args.station.now in
    let b = g.S.Station.view c.rewrite.new.station in
    let s = c.args.self.now in
    let t = c.rewrite.new.self in
    let u = update_of c.args.update.now in
    let next = map_after (limit_of s) (map_of a.held) u in
    let one = c.in_ok-rewrite-in-Replace.ensures in
    let layout = ap (λ (t : StoreView). t.place.layout) one.kept in
    let after = λ (told : Told a). rewritten_represents s a.held b.held c.args.location.segment (edited u c.args.rows.now) next (stands_one g here told) (one.laid told) (replacing g here told).holds in
    record {
      update = record {
        state = λ told. let facts = replacing g here told in
            state_after s t a.held b.held u s.tally.height (after told).0 facts.height ((after told).1 ∙ facts.array) (ap (λ (t : TallyView). t.marks) one.counted ∙ facts.marks);
        report = λ told. sym (replacing g here told).report;
        rested = quiet_rested;
        store = stands_again s t c.requires.on layout one.steps.frame (one.store next (λ told. (replacing g here told).holds)) one.rests;
        steps = steps_one g here;
        place = rewrite_place s t c.args.location.segment (edited u c.args.rows.now) (ap (λ (t : StoreView). t.place) one.kept) one.steps;
        layout = layout;
        cost = omega (arith, one.cost);
        most = omega (arith, one.cost, commit_within s.place.layout s.tally.height);
        paid = subst (λ (t : TallyView). IsPaid s.tally t work.Segment) (sym one.counted) (paid_quietly s.tally work.Segment tt (omega arith));
      };
      outcome = λ told. sym (replacing g here told).outcome;
      unchanged = replaces;
      bounded = tt;
      closed = ap (λ (t : StoreView). t.closed) one.kept;
      damaged = tt;
      counted = tt;
      failed = no_fault (Replaced, quiet_report);
    }

-- its bound, by the state
bounded_one : (g : _) (c : After-rewrite g) (n : ℕ) → n ≤ (g.S.Station.view c.args.station.now).travel.written + commit_cost c.args.self.now.place.layout
    → Told (g.S.Station.view c.args.station.now) → n ≤ (g.S.Station.view c.args.station.now).travel.written + update_cost_in c.args.self.now.place.layout (state_in c.args.self.now (g.S.Station.view c.args.station.now).held) (update_of c.args.update.now)
bounded_one g c n few told =
    let a = g.S.Station.view c.args.station.now in
    let s = c.args.self.now in
    let u = update_of c.args.update.now in
    let facts = replacing g c told in
    let effect : true ≡ has_effect (limit_of s) (array_of a.held) u = sym (ap changed_by facts.outcome) in
    omega (arith, few, cost_told s a.held (stands_one g c told) u true effect quiet_report (sym facts.report) (height_after (limit_of s) (height_of a.held) (map_of a.held) u) refl)

pub returns-in_err-rewrite-in-Replace-clause-applied : goal.returns-in_err-rewrite-in-Replace-clause-applied
returns-in_err-rewrite-in-Replace-clause-applied g c =
    let p = err_from_is_err_and c.from_residual.result c.from_residual.ensures.1 in
    rw (p.1, p.2) (
    let here = (goal.at.returns-in_err-rewrite-in-Replace-clause-applied g c).After-rewrite in
    let one = c.in_err-rewrite-in-Replace.ensures in
    rewrite_faults (update_of c.args.update.now) c.in_err-rewrite-in-Replace.field-0.0 c.args.self.now c.rewrite.new.self (steps_one g here) (ap (λ (t : StoreView). t.place.layout) one.kept) (ap (λ (t : StoreView). t.closed) one.kept) (omega (arith, one.cost, commit_within c.args.self.now.place.layout c.args.self.now.tally.height)) (bounded_one g here _ one.cost) one.disk one.failed)

pub returns-in-Replace-clause-within : goal.returns-in-Replace-clause-within
returns-in-Replace-clause-within g c = replaced_within (update_of c.args.update.now) (is_ok c.args.location.found) c.args.location.segment c.args.self.now c.rewrite.new.self (sym (c.need.ensures ∙ ap (need_of (update_of c.args.update.now)) c.is_ok.ensures.value) ∙ c.in-Replace.is) c.in_ok-rewrite-in-Replace.ensures.counted c.rewrite.ensures.calls c.rewrite.ensures.cost

pub returns-in_err-rewrite-in-Replace-clause-within : goal.returns-in_err-rewrite-in-Replace-clause-within
returns-in_err-rewrite-in-Replace-clause-within g c =
    let p = err_from_is_err_and c.from_residual.result c.from_residual.ensures.1 in
    rw (p.1, p.2) (
    record { report = tt; counts = tt; sums = tt; late = inl c.in_err-rewrite-in-Replace.ensures.disk; asked = omega (arith, c.rewrite.ensures.calls); calls = tt; spared = λ none. c.in_err-rewrite-in-Replace.ensures.cost; written = omega (arith, c.in_err-rewrite-in-Replace.ensures.cost) })

-- A store at its limit.

full_here : (g : _) (c : Then-eq g) → Told (g.S.Station.view c.args.station.now) → IsQuiet c.args.self.now (g.S.Station.view c.args.station.now).held (update_of c.args.update.now)
full_here g c told =
    let a = g.S.Station.view c.args.station.now in
    let s = c.args.self.now in
    let u = update_of c.args.update.now in
    let is : c.pick-pick.result ≡ AtLimit = first_of (search rules, grind (arith, common_steps)) in
    let stands_here = stands_there s c.requires.on told in
    let full = (subst (IsPossible s.tally) is c.pick-pick.ensures.possible).1 in
    let add = limit_adds c.in-Change.change c.args.location.segment s.tally (sym c.pick-pick.ensures.answer ∙ is) in
    limit_by s a.held stands_here u
    (needs_in s a.held stands_here u c.args.location c.args.rows.now c.requires.location (c.requires.own told) ∙ (sym (c.need.ensures ∙ ap (need_of (update_of c.args.update.now)) c.is_ok.ensures.value) ∙ c.in-Change.is) ∙ ap (λ (ch : Change). need.Change ch) add)
    (full ∙ ap (λ (h : ℕ). upper_of h) c.requires.kept.hmax)

pub returns-then-eq-clause-applied : goal.returns-then-eq-clause-applied
returns-then-eq-clause-applied g c =
    quiet_applies (update_of c.args.update.now) c.args.self.now c.requires.on (full_here g (goal.at.returns-then-eq-clause-applied g c).Then-eq)

pub returns-then-eq-clause-full : goal.returns-then-eq-clause-full
returns-then-eq-clause-full g c =
    let s = c.args.self.now in
    let is : c.pick-pick.result ≡ AtLimit = first_of (search rules, grind (arith, common_steps)) in
    limit_full (update_of c.args.update.now) s ((subst (IsPossible s.tally) is c.pick-pick.ensures.possible).1 ∙ ap (λ (h : ℕ). upper_of h) c.requires.kept.hmax)

-- What is known of the store before and once it is ready.

stands : (g : _) (c : After-prepare g) → Told (g.S.Station.view c.args.station.now) → Stands c.args.self.now (g.S.Station.view c.args.station.now).held
stands g c told = stands_there c.args.self.now c.requires.on told

not_limit : (g : _) (c : After-prepare g) → c.pick-pick.result ≢ AtLimit
not_limit g c = first_of (search rules, grind (arith, common_steps))

fewer_than : (g : _) (c : After-prepare g) → c.in-Change.change ≡ Add → sum c.args.self.now.tally.counts < upper_of c.args.self.now.tally.hmax
fewer_than g c add = c.pick-pick.ensures.few add (not_limit g c)

room : (g : _) (c : After-prepare g) → Told (g.S.Station.view c.args.station.now) → c.in-Change.change ≡ Add → length (rows (array_of (g.S.Station.view c.args.station.now).held)) < upper_of (limit_of c.args.self.now)
room g c told add =
    let a = g.S.Station.view c.args.station.now in
    let s = c.args.self.now in
    let own = stands g c told in
    omega (arith, fewer_than g c add, records_are s a.held own, rows_len s a.held own, ap (λ (h : ℕ). upper_of h) c.requires.kept.hmax)

outcome : (g : _) (c : After-prepare g) → Told (g.S.Station.view c.args.station.now) → Changed ≡ outcome_of (limit_of c.args.self.now) (array_of (g.S.Station.view c.args.station.now).held) (update_of c.args.update.now)
outcome g c told =
    let a = g.S.Station.view c.args.station.now in
    let s = c.args.self.now in
    let u = update_of c.args.update.now in
    let asks = needs_in s a.held (stands g c told) u c.args.location c.args.rows.now c.requires.location (c.requires.own told) ∙ (sym (c.need.ensures ∙ ap (need_of (update_of c.args.update.now)) c.is_ok.ensures.value) ∙ c.in-Change.is) in
    sym (outcome_by (limit_of s) (height_of a.held) (array_of a.held) u c.in-Change.change asks (room g c told))

report : (g : _) (c : After-prepare g) → Told (g.S.Station.view c.args.station.now) → reported c.report-report.result ≡ report_of (limit_of c.args.self.now) (state_in c.args.self.now (g.S.Station.view c.args.station.now).held) (update_of c.args.update.now)
report g c told =
    let a = g.S.Station.view c.args.station.now in
    report_same c.args.self.now a.held (stands g c told) (update_of c.args.update.now) c.in-Change.change c.args.location c.args.rows.now c.requires.location (c.requires.own told) (sym (c.need.ensures ∙ ap (need_of (update_of c.args.update.now)) c.is_ok.ensures.value) ∙ c.in-Change.is) (room g c told)
    (reported c.report-report.result) c.report-report.ensures.report

pub rewrite-requires-2-clause-balanced : goal.rewrite-requires-2-clause-balanced
rewrite-requires-2-clause-balanced g c =
    let here = (goal.at.rewrite-requires-2-clause-balanced g c).After-prepare in
    let t = c.args.self.now.tally in
    let u = update_of c.args.update.now in
    let ready = c.in_ok-next.ensures.ready in
    let at = c.in_ok-next.next.segment in
    let is = ready.tally_is in
    let kept = c.requires.kept in
    let by_ready = balanced_next c.in-Change.change c.args.location.segment t kept.tally kept.balanced c.requires.location.within
    (taken_some u c.args.self.now c.args.location c.args.rows.now c.in-Change.change c.requires.location (sym (c.need.ensures ∙ ap (need_of (update_of c.args.update.now)) c.is_ok.ensures.value) ∙ c.in-Change.is)) (fewer_than g here)
    at (subst (λ (t : TallyView). at < 2 ^ t.height) is ready.is_location.within) ready.near
    (λ takes. subst (λ (t : TallyView). 1 ≤ get_or t.counts at 0) is (taken_some u c.prepare.new.self c.in_ok-next.next c.prepare.new.rows c.in-Change.change ready.is_location ready.needs takes)) in
    subst (λ (t : TallyView). IsBalanced t.height (counts_after (adds c.in-Change.change) t.counts at)) (sym is) by_ready

-- The store behind the rewriting of a segment.

stood : (g : _) (c : After-rewrite-2 g) → Told (g.S.Station.view c.args.station.now) → Stands c.args.self.now (g.S.Station.view c.args.station.now).held
stood g c told = stands_there c.args.self.now c.requires.on told

had_room : (g : _) (c : After-rewrite-2 g) → Told (g.S.Station.view c.args.station.now) → c.in-Change.change ≡ Add → length (rows (array_of (g.S.Station.view c.args.station.now).held)) < upper_of (limit_of c.args.self.now)
had_room g c told add =
    let a = g.S.Station.view c.args.station.now in
    let s = c.args.self.now in
    let not_at : c.pick-pick.result ≢ AtLimit = first_of (search rules, grind (arith, common_steps)) in
    omega (arith, c.pick-pick.ensures.few add not_at, records_are s a.held (stood g c told), rows_len s a.held (stood g c told), ap (λ (h : ℕ). upper_of h) c.requires.kept.hmax)

-- its map is held by the rewritten array
holds : (g : _) (c : After-rewrite-2 g) → Told (g.S.Station.view c.args.station.now)
    → HoldsMap (limit_of c.prepare.new.self) (map_after (limit_of c.args.self.now) (map_of (g.S.Station.view c.args.station.now).held) (update_of c.args.update.now)) c.prepare.new.self.tally.height (rewritten (g.S.Station.view c.prepare.new.station).held c.in_ok-next.next.segment (edited (update_of c.args.update.now) c.prepare.new.rows))
holds g c told =
    let a = g.S.Station.view c.args.station.now in
    let b = g.S.Station.view c.prepare.new.station in
    let s = c.args.self.now in
    let t = c.prepare.new.self in
    let u = update_of c.args.update.now in
    let has = c.in_ok-next.ensures.own told in
    let held = final_holds s a.held (stood g c told) u c.in-Change.change c.args.location c.args.rows.now c.requires.location (c.requires.own told) (sym (c.need.ensures ∙ ap (need_of (update_of c.args.update.now)) c.is_ok.ensures.value) ∙ c.in-Change.is) (had_room g c told) b.held has.array_is c.in_ok-next.next c.prepare.new.rows has.own
    t.tally.height (ap (λ (t : TallyView). t.height) c.in_ok-next.ensures.ready.tally_is) in
    subst (λ (l : Layout). HoldsMap (height_limit l) (map_after (limit_of s) (map_of a.held) u) t.tally.height (rewritten b.held c.in_ok-next.next.segment (edited u c.prepare.new.rows))) (sym c.prepare.ensures.kept.layout) held

steps : (g : _) (c : After-rewrite-2 g) → Steps (Updates (limit_of c.args.self.now) (update_of c.args.update.now)) (g.S.Station.view c.args.station.now) (g.S.Station.view c.rewrite-2.new.station)
steps g c =
    let a = g.S.Station.view c.args.station.now in
    let b = g.S.Station.view c.prepare.new.station in
    let s = c.args.self.now in
    let t = c.prepare.new.self in
    let u = update_of c.args.update.now in
    let m = map_of a.held in
    let next = map_after (limit_of s) m u in
    let rs = edited u c.prepare.new.rows in
    let frame = c.prepare.ensures.kept.steps.frame in
    keeps_then (limit_of s) u c.prepare.ensures.kept.steps
    (rewrite_updates (limit_of s) u m t c.in_ok-next.next.segment rs (g.met.S.Station.lawful c.prepare.new.station) c.in_ok-next.ensures.kept.store
    (λ told_b. let told = told_back frame told_b in (c.prepare.ensures.kept.steps.held told).map_is m (own_of s a.held (stood g c told)))
    (λ told_b image has. (t.tally.height, (rewritten_represents t b.held image c.in_ok-next.next.segment rs next (stands_there t c.in_ok-next.ensures.kept.store told_b) has (holds g c (told_back frame told_b))).0))
    c.rewrite-2.ensures.steps)

-- its place, by what was picked
place : (g : _) (c : After-rewrite-2 g) → c.rewrite-2.new.self ≡ record c.prepare.new.self { tally = c.rewrite-2.new.self.tally; index = c.rewrite-2.new.self.index; turn = c.rewrite-2.new.self.turn }
    → Steps (Rewrites c.prepare.new.self.place c.in_ok-next.next.segment (edited (update_of c.args.update.now) c.prepare.new.rows)) (g.S.Station.view c.prepare.new.station) (g.S.Station.view c.rewrite-2.new.station)
    → IsPlaceAfter c.report-report.result.resized c.args.self.now c.rewrite-2.new.self (g.S.Station.view c.args.station.now) (g.S.Station.view c.rewrite-2.new.station)
place g c kept laid =
    let s = c.args.self.now in
    let t = c.prepare.new.self in
    let next = c.rewrite-2.new.self in
    let rs = edited (update_of c.args.update.now) c.prepare.new.rows in
    subst (λ (b : Bool). IsPlaceAfter b s next (g.S.Station.view c.args.station.now) (g.S.Station.view c.rewrite-2.new.station)) (sym c.report-report.ensures.resized)
    (place_then (resizes c.pick-pick.result) s t next c.in_ok-next.ensures.place (rewrite_place t next c.in_ok-next.next.segment rs (ap (λ (t : StoreView). t.place) kept) laid))

-- its state
state : (g : _) (c : After-rewrite-2 g) → (Told (g.S.Station.view c.prepare.new.station) → HasRewritten c.in_ok-next.next.segment (edited (update_of c.args.update.now) c.prepare.new.rows) (g.S.Station.view c.prepare.new.station).held (g.S.Station.view c.rewrite-2.new.station).held)
    → c.rewrite-2.new.self.tally ≡ counted (Some c.in-Change.change) c.in_ok-next.next.segment c.prepare.new.self.tally
    → Told (g.S.Station.view c.args.station.now) → state_in c.rewrite-2.new.self (g.S.Station.view c.rewrite-2.new.station).held ≡ next_state (limit_of c.args.self.now) (state_in c.args.self.now (g.S.Station.view c.args.station.now).held) (update_of c.args.update.now)
state g c laid counted told =
    let a = g.S.Station.view c.args.station.now in
    let b = g.S.Station.view c.prepare.new.station in
    let d = g.S.Station.view c.rewrite-2.new.station in
    let s = c.args.self.now in
    let t = c.prepare.new.self in
    let u = update_of c.args.update.now in
    let next = map_after (limit_of s) (map_of a.held) u in
    let rs = edited u c.prepare.new.rows in
    let told_b = told_on c.prepare.ensures.kept.steps.frame told in
    let has = c.in_ok-next.ensures.own told in
    let is = c.in_ok-next.ensures.ready.tally_is in
    let own = stood g c told in
    let room_here = had_room g c told in
    let after = rewritten_represents t b.held d.held c.in_ok-next.next.segment rs next (stands_there t c.in_ok-next.ensures.kept.store told_b) (laid told_b) (holds g c told) in
    let tall = ap (λ (t : TallyView). t.height) is ∙ height_same s a.held own u c.in-Change.change c.args.location c.args.rows.now c.requires.location (c.requires.own told) (sym (c.need.ensures ∙ ap (need_of (update_of c.args.update.now)) c.is_ok.ensures.value) ∙ c.in-Change.is) room_here in
    let array = after.1 ∙ final_array s a.held own u c.in-Change.change c.args.location c.args.rows.now c.requires.location (c.requires.own told) (sym (c.need.ensures ∙ ap (need_of (update_of c.args.update.now)) c.is_ok.ensures.value) ∙ c.in-Change.is) room_here b.held has.array_is c.in_ok-next.next c.prepare.new.rows has.own in
    let marks = ap (λ (t : TallyView). t.marks) counted ∙ final_marks s a.held own u c.in-Change.change c.args.location c.args.rows.now c.requires.location (c.requires.own told) (sym (c.need.ensures ∙ ap (need_of (update_of c.args.update.now)) c.is_ok.ensures.value) ∙ c.in-Change.is) room_here b.held has.array_is c.in_ok-next.next c.prepare.new.rows has.own t.tally is in
    state_after s c.rewrite-2.new.self a.held d.held u t.tally.height after.0 tall array marks

-- its height, by what was picked
tall : (g : _) (c : After-rewrite-2 g) → c.rewrite-2.new.self.tally ≡ counted (Some c.in-Change.change) c.in_ok-next.next.segment c.prepare.new.self.tally → c.rewrite-2.new.self.tally.height ≡ picked_height c.args.self.now.tally.height c.pick-pick.result
tall g c counted =
    let t = c.args.self.now.tally in
    let not_at : c.pick-pick.result ≢ AtLimit = first_of (search rules, grind (arith, common_steps)) in
    ap (λ (t : TallyView). t.height) counted ∙ ap (λ (t : TallyView). t.height) c.in_ok-next.ensures.ready.tally_is
    ∙ picked_is c.in-Change.change c.args.location.segment t c.pick-pick.result c.pick-pick.ensures.answer not_at

-- The update is paid for.

paid : (g : _) (c : After-rewrite-2 g) → c.rewrite-2.new.self.tally ≡ counted (Some c.in-Change.change) c.in_ok-next.next.segment c.prepare.new.self.tally
    → IsPaid c.args.self.now.tally c.rewrite-2.new.self.tally (work_by c.rewrite-2.new.self.tally.height true c.report-report.result)
paid g c counts =
    let t = c.args.self.now.tally in
    let u = update_of c.args.update.now in
    let kept = c.requires.kept in
    let ready = c.in_ok-next.ensures.ready in
    let at = c.in_ok-next.next.segment in
    let is = ready.tally_is in
    let not_at : c.pick-pick.result ≢ AtLimit = first_of (search rules, grind (arith, common_steps)) in
    paid_changed c.in-Change.change c.args.location.segment t kept.tally kept.balanced c.requires.location.within
    (taken_some u c.args.self.now c.args.location c.args.rows.now c.in-Change.change c.requires.location (sym (c.need.ensures ∙ ap (need_of (update_of c.args.update.now)) c.is_ok.ensures.value) ∙ c.in-Change.is)) (λ add. c.pick-pick.ensures.few add not_at)
    at (subst (λ (t : TallyView). at < 2 ^ t.height) is ready.is_location.within)
    (λ takes. subst (λ (t : TallyView). 1 ≤ get_or t.counts at 0) is (taken_some u c.prepare.new.self c.in_ok-next.next c.prepare.new.rows c.in-Change.change ready.is_location ready.needs takes))
    c.rewrite-2.new.self.tally (counts ∙ ap (counted (Some c.in-Change.change) at) is)
    c.report-report.result c.report-report.ensures.report

-- Its bound, by the state.

bounded : (g : _) (c : After-prepare g) (n : ℕ) → n ≤ (g.S.Station.view c.args.station.now).travel.written + (ready_cost c.args.self.now.place.layout c.args.self.now.tally.height c.pick-pick.result + commit_cost c.args.self.now.place.layout)
    → Told (g.S.Station.view c.args.station.now) → n ≤ (g.S.Station.view c.args.station.now).travel.written + update_cost_in c.args.self.now.place.layout (state_in c.args.self.now (g.S.Station.view c.args.station.now).held) (update_of c.args.update.now)
bounded g c n few told =
    let a = g.S.Station.view c.args.station.now in
    let s = c.args.self.now in
    let u = update_of c.args.update.now in
    let own = stands g c told in
    let next : picked_height s.tally.height c.pick-pick.result ≡ height_after (limit_of s) (height_of a.held) (map_of a.held) u =
    sym (picked_is c.in-Change.change c.args.location.segment s.tally c.pick-pick.result c.pick-pick.ensures.answer (not_limit g c))
    ∙ height_same s a.held own u c.in-Change.change c.args.location c.args.rows.now c.requires.location (c.requires.own told) (sym (c.need.ensures ∙ ap (need_of (update_of c.args.update.now)) c.is_ok.ensures.value) ∙ c.in-Change.is) (room g c told) in
    let cost = cost_told s a.held own u true (ap changed_by (outcome g c told)) c.report-report.result (report g c told) (picked_height s.tally.height c.pick-pick.result) next in
    omega (arith, few, c.report-report.ensures.cost, cost)

pub returns-clause-applied : goal.returns-clause-applied
returns-clause-applied g c =
    let here = (goal.at.returns-clause-applied g c).After-rewrite-2 in
    let before = (goal.at.returns-clause-applied g c).After-prepare in
    let a = g.S.Station.view c.args.station.now in
    let s = c.args.self.now in
    let t = c.rewrite-2.new.self in
    let u = update_of c.args.update.now in
    let ready = c.in_ok-next.ensures.kept in
    let one = c.in_ok-rewrite.ensures in
    let layout = ap (λ (t : StoreView). t.place.layout) one.kept ∙ ready.layout in
    record {
      update = record {
        state = state g here one.laid one.counted;
        report = report g before;
        rested = c.report-report.ensures.rested;
        store = stands_again c.prepare.new.self t ready.store (ap (λ (t : StoreView). t.place.layout) one.kept) one.steps.frame
            (one.store (map_after (limit_of s) (map_of a.held) u) (λ told_b. holds g here (told_back ready.steps.frame told_b))) one.rests;
        steps = steps g here;
        place = place g here one.kept one.steps;
        layout = layout;
        cost = omega (arith, ready.cost, one.cost, ap commit_cost ready.layout, c.report-report.ensures.cost, ap (λ (h : ℕ). update_cost s.place.layout h c.report-report.result) (tall g here one.counted));
        most = omega (arith, ready.cost, one.cost, ap commit_cost ready.layout, most_cost s.place.layout s.tally c.pick-pick.result c.pick-pick.ensures.possible);
        paid = paid g here one.counted;
      };
      outcome = outcome g before;
      unchanged = changes;
      bounded = tt;
      closed = ap (λ (t : StoreView). t.closed) one.kept ∙ ready.closed;
      damaged = tt;
      counted = tt;
      failed = no_fault (Changed, c.report-report.result);
    }

pub returns-in_err-rewrite-clause-applied : goal.returns-in_err-rewrite-clause-applied
returns-in_err-rewrite-clause-applied g c =
    let p = err_from_is_err_and c.from_residual-in_err-rewrite.result c.from_residual-in_err-rewrite.ensures.1 in
    rw (p.1, p.2) (
    let here = (goal.at.returns-in_err-rewrite-clause-applied g c).After-rewrite-2 in
    let before = (goal.at.returns-in_err-rewrite-clause-applied g c).After-prepare in
    let s = c.args.self.now in
    let ready = c.prepare.ensures.kept in
    let one = c.in_err-rewrite.ensures in
    rewrite_faults (update_of c.args.update.now) c.in_err-rewrite.field-0.0 s c.rewrite-2.new.self (steps g here) (ap (λ (t : StoreView). t.place.layout) one.kept ∙ ready.layout) (ap (λ (t : StoreView). t.closed) one.kept ∙ ready.closed)
    (omega (arith, ready.cost, one.cost, ap commit_cost ready.layout, most_cost s.place.layout s.tally c.pick-pick.result c.pick-pick.ensures.possible)) (bounded g before _ (omega (arith, ready.cost, one.cost, ap commit_cost ready.layout))) one.disk (omega (arith, one.failed, ready.steps.frame.disk_faults)))

-- The calls that were made.

asked : (g : _) (c : After-prepare g) → c.pick-pick.result ≡ picked (change_in (update_of c.args.update.now)) c.args.location.segment c.args.self.now.tally
asked g c =
    let t = c.args.self.now.tally in
    let own = change_is (update_of c.args.update.now) (is_ok c.args.location.found) c.in-Change.change (sym (c.need.ensures ∙ ap (need_of (update_of c.args.update.now)) c.is_ok.ensures.value) ∙ c.in-Change.is) in
    c.pick-pick.ensures.answer ∙ ap (λ (ch : Change). picked ch c.args.location.segment t) own

few : (g : _) (c : After-prepare g) (n : ℕ) → n ≤ (g.S.Station.view c.args.station.now).calls + asked_calls c.args.self.now.place.layout c.args.self.now.tally.height c.pick-pick.result
    → n ≤ (g.S.Station.view c.args.station.now).calls + asked_calls c.args.self.now.place.layout c.args.self.now.tally.height (picked (change_in (update_of c.args.update.now)) c.args.location.segment c.args.self.now.tally)
few g c n le = subst (λ (p : Pick). n ≤ (g.S.Station.view c.args.station.now).calls + asked_calls c.args.self.now.place.layout c.args.self.now.tally.height p) (asked g c) le

-- and what was written
wide : (g : _) (c : After-prepare g) (n : ℕ) → n ≤ (g.S.Station.view c.args.station.now).travel.written + (ready_cost c.args.self.now.place.layout c.args.self.now.tally.height c.pick-pick.result + commit_cost c.args.self.now.place.layout)
    → n ≤ (g.S.Station.view c.args.station.now).travel.written + (ready_cost c.args.self.now.place.layout c.args.self.now.tally.height (picked (change_in (update_of c.args.update.now)) c.args.location.segment c.args.self.now.tally) + commit_cost c.args.self.now.place.layout)
wide g c n le = subst (λ (p : Pick). n ≤ (g.S.Station.view c.args.station.now).travel.written + (ready_cost c.args.self.now.place.layout c.args.self.now.tally.height p + commit_cost c.args.self.now.place.layout)) (asked g c) le

-- What is kept says it as well.

own : (g : _) (c : After-prepare g) → c.in-Change.change ≡ change_in (update_of c.args.update.now)
own g c = change_is (update_of c.args.update.now) (is_ok c.args.location.found) c.in-Change.change (sym (c.need.ensures ∙ ap (need_of (update_of c.args.update.now)) c.is_ok.ensures.value) ∙ c.in-Change.is)

-- one record more, or one less
summed : (g : _) (c : After-rewrite-2 g) → c.rewrite-2.new.self.tally ≡ counted (Some c.in-Change.change) c.in_ok-next.next.segment c.prepare.new.self.tally → SumsOne c.in-Change.change (sum c.args.self.now.tally.counts) (sum c.rewrite-2.new.self.tally.counts)
summed g c counted_is =
    let t = c.args.self.now.tally in
    let u = update_of c.args.update.now in
    let ready = c.in_ok-next.ensures.ready in
    let at = c.in_ok-next.next.segment in
    let is = ready.tally_is in
    let kept = c.requires.kept in
    let not_at : c.pick-pick.result ≢ AtLimit = first_of (search rules, grind (arith, common_steps)) in
    let next = sum_next c.in-Change.change c.args.location.segment t kept.tally kept.balanced c.requires.location.within
    (taken_some u c.args.self.now c.args.location c.args.rows.now c.in-Change.change c.requires.location (sym (c.need.ensures ∙ ap (need_of (update_of c.args.update.now)) c.is_ok.ensures.value) ∙ c.in-Change.is)) (λ add. c.pick-pick.ensures.few add not_at)
    at (subst (λ (t : TallyView). at < 2 ^ t.height) is ready.is_location.within)
    (λ takes. subst (λ (t : TallyView). 1 ≤ get_or t.counts at 0) is (taken_some u c.prepare.new.self c.in_ok-next.next c.prepare.new.rows c.in-Change.change ready.is_location ready.needs takes)) in
    subst (λ (v : TallyView). SumsOne c.in-Change.change (sum t.counts) (sum v.counts)) (sym (counted_is ∙ ap (counted (Some c.in-Change.change) at) is)) next

pub returns-clause-sums : goal.returns-clause-sums
returns-clause-sums g c = change_sums (update_of c.args.update.now) (is_ok c.args.location.found) c.in-Change.change _ _ _ (sym (c.need.ensures ∙ ap (need_of (update_of c.args.update.now)) c.is_ok.ensures.value) ∙ c.in-Change.is)
    (λ _. summed g (goal.at.returns-clause-sums g c).After-rewrite-2 c.in_ok-rewrite.ensures.counted)

-- a store with room isn't at its limit
pub returns-then-eq-clause-sums : goal.returns-then-eq-clause-sums
returns-then-eq-clause-sums g c = change_sums (update_of c.args.update.now) (is_ok c.args.location.found) c.in-Change.change _ _ _ (sym (c.need.ensures ∙ ap (need_of (update_of c.args.update.now)) c.is_ok.ensures.value) ∙ c.in-Change.is) (λ room.
    let s = c.args.self.now in
    let is : c.pick-pick.result ≡ AtLimit = first_of (search rules, grind (arith, common_steps)) in
    let full = (subst (IsPossible s.tally) is c.pick-pick.ensures.possible).1 in
    let add = limit_adds c.in-Change.change c.args.location.segment s.tally (sym c.pick-pick.ensures.answer ∙ is) in
    absurd (omega (arith, room add, full, ap (λ (h : ℕ). upper_of h) c.requires.kept.hmax)))

pub returns-then-eq-clause-within : goal.returns-then-eq-clause-within
returns-then-eq-clause-within g c = quiet_within (update_of c.args.update.now) c.args.location.segment c.args.self.now

pub returns-clause-within : goal.returns-clause-within
returns-clause-within g c =
    let t = c.args.self.now.tally in
    let u = update_of c.args.update.now in
    let before = (goal.at.returns-clause-within g c).After-prepare in
    record {
      report =
          subst (λ (ch : Change). reported c.report-report.result ≡ report_by t.height c.args.location.segment (broken_in ch c.args.location.segment t) t.marks) (own g before) c.report-report.ensures.report
          ∙ ap (λ (b : Bool). report_at b (change_in u) c.args.location.segment t) (sym (moved_one u));
      counts = inr (record {
        at = c.args.location.segment;
        at_in = c.requires.location.within;
        there = c.in_ok-next.next.segment;
        there_in = subst (λ (h : ℕ). c.in_ok-next.next.segment < 2 ^ h) (sym (ap (λ (t : TallyView). t.height) c.in_ok-rewrite.ensures.counted)) c.in_ok-next.ensures.ready.is_location.within;
        counts = c.in_ok-rewrite.ensures.counted ∙ (λ τ. counted (Some (own g before τ)) c.in_ok-next.next.segment (c.in_ok-next.ensures.ready.tally_is τ)) ∙ ap (λ (ch : Change). counted (Some (change_in u)) c.in_ok-next.next.segment (readied ch c.args.location.segment t)) (own g before);
      });
      sums = subst (λ (b : Bool). SumsIf b (change_in u) (sum t.counts) (sum c.rewrite-2.new.self.tally.counts)) (sym (moved_one u))
          (subst (λ (ch : Change). SumsOne ch (sum t.counts) (sum c.rewrite-2.new.self.tally.counts)) (own g before) (summed g (goal.at.returns-clause-within g c).After-rewrite-2 c.in_ok-rewrite.ensures.counted));
      late = tt;
      asked = few g before _ (omega (arith, c.in_ok-next.ensures.kept.calls, c.in_ok-rewrite.ensures.calls, ap commit_calls c.in_ok-next.ensures.kept.layout));
      calls = omega (arith, c.in_ok-next.ensures.kept.calls, c.in_ok-rewrite.ensures.calls, ap commit_calls c.in_ok-next.ensures.kept.layout, c.report-report.ensures.calls, ap (λ (h : ℕ). update_calls c.args.self.now.place.layout t.height h c.report-report.result) (tall g (goal.at.returns-clause-within g c).After-rewrite-2 c.in_ok-rewrite.ensures.counted));
      spared = λ none. tt;
      written = wide g before _ (omega (arith, c.in_ok-next.ensures.kept.cost, c.in_ok-rewrite.ensures.cost, ap commit_cost c.in_ok-next.ensures.kept.layout));
    }

pub returns-in_err-rewrite-clause-within : goal.returns-in_err-rewrite-clause-within
returns-in_err-rewrite-clause-within g c =
    let p = err_from_is_err_and c.from_residual-in_err-rewrite.result c.from_residual-in_err-rewrite.ensures.1 in
    rw (p.1, p.2) (
    let s = c.args.self.now in
    let before = (goal.at.returns-in_err-rewrite-clause-within g c).After-prepare in
    let ready = c.prepare.ensures.kept in
    let one = c.in_err-rewrite.ensures in
    record {
      report = tt;
      counts = tt;
      sums = tt;
      late = inl one.disk;
      asked = few g before _ (omega (arith, ready.calls, one.calls, ap commit_calls ready.layout));
      calls = tt;
      spared = λ none.
          let fits : c.pick-pick.result ≡ Fits = c.pick-pick.ensures.answer ∙ ap (pick_of s.tally.hmax s.tally.height c.args.location.segment c.in-Change.change) (ap (λ (ch : Change). broken_in ch c.args.location.segment s.tally) (own g before) ∙ none) in
          omega (arith, ready.cost, one.cost, ap commit_cost ready.layout, ap (λ (p : Pick). ready_cost s.place.layout s.tally.height p) fits);
      written = wide g before _ (omega (arith, ready.cost, one.cost, ap commit_cost ready.layout));
    })

pub returns-in_err-next-clause-within : goal.returns-in_err-next-clause-within
returns-in_err-next-clause-within g c =
    let p = err_from_is_err_and c.from_residual-in_err-next.result c.from_residual-in_err-next.ensures.1 in
    rw (p.1, p.2) (
    let s = c.args.self.now in
    let same = change_is (update_of c.args.update.now) (is_ok c.args.location.found) c.in-Change.change (sym (c.need.ensures ∙ ap (need_of (update_of c.args.update.now)) c.is_ok.ensures.value) ∙ c.in-Change.is) in
    record {
      report = tt;
      counts = tt;
      sums = tt;
      late = subst (λ (ch : Change). IsMetLate ch c.args.location.segment s c.prepare.new.self c.in_err-next.field-0.0 (g.S.Station.view c.prepare.new.station)) same c.in_err-next.ensures.late;
      asked = few g (goal.at.returns-in_err-next-clause-within g c).After-prepare _ (omega (arith, c.in_err-next.ensures.kept.calls));
      calls = tt;
      spared = λ none. absurd (none_asks _ (ap (λ (ch : Change). broken_in ch c.args.location.segment s.tally) same ∙ none) c.in_err-next.ensures.asks);
      written = wide g (goal.at.returns-in_err-next-clause-within g c).After-prepare _ (omega (arith, c.in_err-next.ensures.kept.cost));
    })

pub returns-in_err-next-clause-applied : goal.returns-in_err-next-clause-applied
returns-in_err-next-clause-applied g c =
    let p = err_from_is_err_and c.from_residual-in_err-next.result c.from_residual-in_err-next.ensures.1 in
    rw (p.1, p.2) (
    let s = c.args.self.now in
    let u = update_of c.args.update.now in
    let ready = c.in_err-next.ensures.kept in
    fault_applies u c.in_err-next.field-0.0 s c.prepare.new.self
    (keeps_updates (limit_of s) u ready.steps)
    ready.layout ready.closed (omega (arith, ready.cost, most_cost s.place.layout s.tally c.pick-pick.result c.pick-pick.ensures.possible)) (bounded g (goal.at.returns-in_err-next-clause-applied g c).After-prepare _ (omega (arith, ready.cost))) ready.damaged ready.counted
    ready.failed)
