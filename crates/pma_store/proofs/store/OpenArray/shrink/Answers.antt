use Rattle.std.proofs.Common.{◌≡◌, ◌⊎◌, ◌-◌, ◌≤◌, inl, ap, refl, sym, subst, ◌∙◌, arith}
use Rattle.std.specs.Prelude.{sum, OnOk, IfErr}
use Rattle.std.proofs.lemmas.Result.{on_ok_weaker, err_from_is_err_and}
use Rattle.station.specs.View.{Told}
use Rattle.station.proofs.Composition.{told_on}
use Rattle.density_rule.specs.Bounds.{IsInBounds}
use Rattle.density_rule.specs.Marks.{resized_marks}
use Rattle.density_rule.specs.Spread.{resized_counts}
use Rattle.header_gate.specs.InPlace.{IsBare}
use Rattle.map_model.specs.Array.{Array, resized}
use Rattle.map_model.specs.Image.{array_of}
use Rattle.segment.specs.declared.fault.StoreFault.TheVariants.{Failed}
use Rattle.pma_store.specs.UpdateCalls.{clear_calls, copying_calls}
use Rattle.pma_store.specs.Damaging.{IsMetAmong}
use Rattle.pma_store.specs.Readying.{KeepsStore, clear_cost, copying_cost}
use Rattle.pma_store.specs.StoreView.{StoreView}
use Rattle.pma_store.proofs.Clearing.{place_cleared}
use Rattle.pma_store.proofs.Making.{keeps_behind, keeps_within}
use Rattle.pma_store.proofs.store.OpenArray.shrink.Goals as goal

pub shrink_cleared-requires-clause-some : goal.shrink_cleared-requires-clause-some
shrink_cleared-requires-clause-some g c = subst (λ (v : StoreView). 1 ≤ v.tally.height) (sym c.clear.ensures.turned) c.requires.some

pub shrink_cleared-requires-clause-bounds : goal.shrink_cleared-requires-clause-bounds
shrink_cleared-requires-clause-bounds g c = subst (λ (v : StoreView). IsInBounds (v.tally.height - 1) (v.tally.height - 1) (sum v.tally.counts)) (sym c.clear.ensures.turned) c.requires.bounds

pub shrink_cleared-requires-clause-bare : goal.shrink_cleared-requires-clause-bare
shrink_cleared-requires-clause-bare g c = subst (λ (v : StoreView). Told (g.S.Station.view c.clear.new.station) → IsBare v.place.layout (g.S.Station.view c.clear.new.station).held) (sym c.clear.ensures.turned) c.in_ok-clear.ensures.bare

pub returns-clause-kept : goal.returns-clause-kept
returns-clause-kept g c =
    let s = c.args.self.now in
    let t = c.clear.new.self in
    let b = g.S.Station.view c.clear.new.station in
    let d = g.S.Station.view c.shrink_cleared.new.station in
    let first = c.clear.ensures.kept in
    let own = subst (λ (v : StoreView). KeepsStore c.shrink_cleared.result (copying_cost v.place.layout (v.tally.height - 1)) (copying_calls v.place.layout v.tally.height (v.tally.height - 1)) v c.shrink_cleared.new.self b d) c.clear.ensures.turned c.shrink_cleared.ensures.kept in
    keeps_behind c.shrink_cleared.result (clear_cost s.place.layout) (copying_cost s.place.layout (s.tally.height - 1)) (clear_calls s.place.layout) (copying_calls s.place.layout s.tally.height (s.tally.height - 1)) s (record s { turn = t.turn }) c.shrink_cleared.new.self refl refl first.steps first.cost first.calls own

pub returns-clause-among : goal.returns-clause-among
returns-clause-among g c = subst (λ (v : StoreView). IfErr c.shrink_cleared.result (λ fault. (fault ≡ Failed) ⊎ IsMetAmong v.tally fault)) c.clear.ensures.turned c.shrink_cleared.ensures.among

pub returns-clause-place : goal.returns-clause-place
returns-clause-place g c =
    on_ok_weaker c.shrink_cleared.result (place_cleared c.args.self.now c.clear.new.self c.shrink_cleared.new.self (ap (λ (v : StoreView). v.place) c.clear.ensures.turned) c.clear.ensures.touched) c.shrink_cleared.ensures.place

pub returns-clause-array : goal.returns-clause-array
returns-clause-array g c =
    on_ok_weaker c.shrink_cleared.result (λ array told.
    array (told_on c.clear.ensures.kept.steps.frame told)
    ∙ ap (λ (x : Array). resized x (c.clear.new.self.tally.height - 1)) (c.in_ok-clear.ensures.array told)
    ∙ ap (λ (v : StoreView). resized (array_of (g.S.Station.view c.args.station.now).held) (v.tally.height - 1)) c.clear.ensures.turned) c.shrink_cleared.ensures.array

pub returns-clause-tally : goal.returns-clause-tally
returns-clause-tally g c =
    subst (λ (v : StoreView). OnOk c.shrink_cleared.result (c.shrink_cleared.new.self.tally ≡ record v.tally {
      height = v.tally.height - 1;
      counts = resized_counts v.tally.counts (v.tally.height - 1);
      marks = resized_marks (v.tally.height - 1);
    })) c.clear.ensures.turned c.shrink_cleared.ensures.tally

pub returns-in_err-clear-clause-kept : goal.returns-in_err-clear-clause-kept
returns-in_err-clear-clause-kept g c =
    let p = err_from_is_err_and c.from_residual.result c.from_residual.ensures.1 in
    rw (p.1, p.2) (
    keeps_within _ (clear_cost c.args.self.now.place.layout) _ (clear_calls c.args.self.now.place.layout) _ c.args.self.now c.clear.new.self (omega arith) (omega arith) c.in_err-clear.ensures.kept)

pub returns-in_err-clear-clause-among : goal.returns-in_err-clear-clause-among
returns-in_err-clear-clause-among g c =
    let p = err_from_is_err_and c.from_residual.result c.from_residual.ensures.1 in
    rw (p.1, p.2) (
    inl c.in_err-clear.ensures.disk)
