use Rattle.std.proofs.Common.{Bool, Option, Some, None, sym, ap, subst, ◌∙◌}
use Rattle.std.proofs.lemmas.Result.{err_from_is_err_and}
use Rattle.std.specs.Prelude.{is_ok, sum}
use Rattle.density_rule.specs.Bounds.{upper_of}
use Rattle.pma_store.specs.ItemsMade.{ChangesNone, CountsAsFound, IsAsFound}
use Rattle.pma_store.specs.ItemEffects.{SumsItem}
use Rattle.pma_store.specs.StoreView.{StoreView, IsStore, StandsOn, limit_of}
use Rattle.pma_store.proofs.Making.{stands_on}
use Rattle.pma_store.specs.Updating.{update_of}
use Rattle.pma_store.proofs.ItemsApplied.{applied_behind, applied_item, failed_item, unfound_item}
use Rattle.pma_store.specs.Damaging.{moved}
use Rattle.pma_store.proofs.Meeting.{then_met}
use Rattle.pma_store.proofs.Spared.{slot_format}
use Rattle.pma_store.proofs.store.OpenArray.make_item.Goals as goal

pub apply_at-requires-clause-on : goal.apply_at-requires-clause-on
apply_at-requires-clause-on g c =
    let first = c.in_ok-location.ensures.location in
    subst (λ (s : StoreView). StandsOn s (g.S.Station.view c.find_as.new.station)) (sym first.store) (stands_on c.args.self.now (g.met.S.Station.lawful c.args.station.now) c.requires.on first.steps)

pub returns-clause-made : goal.returns-clause-made
returns-clause-made g c =
    let u = update_of c.args.update.now in
    applied_item u c.in_ok-outcome.outcome c.in_ok-outcome.report c.charge_of.result c.args.self.now c.apply_at.new.self (subst IsStore c.find_as.ensures.location.store c.find_as.ensures.store)
    (slot_format c.args.self.now c.find_as.new.self c.find_as.ensures.location.store c.find_as.ensures.store) c.requires.on
    (applied_behind u c.in_ok-location.location _ c.args.self.now c.find_as.new.self c.apply_at.new.self c.find_as.new.rows c.in_ok-location.ensures.location c.in_ok-outcome.ensures.applied)
    (then_met u c.in_ok-location.location _ (λ done. moved u done.0) (λ done. done.1) c.args.self.now c.find_as.new.self c.apply_at.new.self c.find_as.new.rows c.in_ok-location.ensures.location c.in_ok-outcome.ensures.within)
    c.charge_of.ensures.charge c.charge_of.ensures.small

pub returns-in_err-outcome-clause-made : goal.returns-in_err-outcome-clause-made
returns-in_err-outcome-clause-made g c =
    let p = err_from_is_err_and c.from_residual-in_err-outcome.result c.from_residual-in_err-outcome.ensures.1 in
    rw (p.1, p.2) (
    let u = update_of c.args.update.now in
    failed_item u c.in_err-outcome.field-0.0 c.args.self.now c.apply_at.new.self (subst IsStore c.find_as.ensures.location.store c.find_as.ensures.store)
    (applied_behind u c.in_ok-location.location _ c.args.self.now c.find_as.new.self c.apply_at.new.self c.find_as.new.rows c.in_ok-location.ensures.location c.in_err-outcome.ensures.applied)
    (then_met u c.in_ok-location.location _ (λ done. moved u done.0) (λ done. done.1) c.args.self.now c.find_as.new.self c.apply_at.new.self c.find_as.new.rows c.in_ok-location.ensures.location c.in_err-outcome.ensures.within))

pub returns-in_err-location-clause-made : goal.returns-in_err-location-clause-made
returns-in_err-location-clause-made g c =
    let p = err_from_is_err_and c.from_residual.result c.from_residual.ensures.1 in
    rw (p.1, p.2) (
    unfound_item (update_of c.args.update.now) c.in_err-location.field-0.0 c.args.self.now c.find_as.new.self c.find_as.new.rows (subst IsStore c.find_as.ensures.location.store c.find_as.ensures.store) c.in_err-location.ensures.location)

-- counts stay where nothing of its kind was found
pub returns-clause-as_found : goal.returns-clause-as_found
returns-clause-as_found g c = by c.args.found c.in_ok-location.ensures.as_found
  where
    by : (o : Option Bool) → IsAsFound o (is_ok c.in_ok-location.location.found) → CountsAsFound o (update_of c.args.update.now) c.args.self.now.tally c.apply_at.new.self.tally
    by None same = tt
    by (Some present) same = λ none. c.in_ok-outcome.ensures.counts (subst (ChangesNone (update_of c.args.update.now)) (sym same) none) ∙ ap (λ (v : StoreView). v.tally) c.find_as.ensures.location.store

-- and the number of records goes by what was found
pub returns-clause-sums : goal.returns-clause-sums
returns-clause-sums g c = by c.args.found c.in_ok-location.ensures.as_found
  where
    by : (o : Option Bool) → IsAsFound o (is_ok c.in_ok-location.location.found) → SumsItem o (update_of c.args.update.now) (upper_of (limit_of c.args.self.now)) (sum c.args.self.now.tally.counts) (sum c.apply_at.new.self.tally.counts)
    by None same = tt
    by (Some present) same =
        subst (λ (b : Bool). SumsItem (Some b) (update_of c.args.update.now) (upper_of (limit_of c.args.self.now)) (sum c.args.self.now.tally.counts) (sum c.apply_at.new.self.tally.counts)) same
        (subst (λ (s : StoreView). SumsItem (Some (is_ok c.in_ok-location.location.found)) (update_of c.args.update.now) (upper_of (limit_of s)) (sum s.tally.counts) (sum c.apply_at.new.self.tally.counts)) c.find_as.ensures.location.store c.in_ok-outcome.ensures.sums)
