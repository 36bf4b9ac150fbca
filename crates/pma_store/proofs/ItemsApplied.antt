-- The outcome of the making of one item.
use Rattle.std.proofs.Common.{rules, ◌≡◌, ℕ, ◌+◌, ◌*◌, ◌≤◌, T, List, Result, Ok, Err, is_ok, sym, ap, subst, ◌∙◌, arith}
use Rattle.std.specs.Prelude.{IsTrue}
use Rattle.std.specs.FinMap.{contains_key}
use Rattle.station.specs.Bytes.{Same}
use Rattle.station.specs.View.{View, Told, Lawful}
use Rattle.station.specs.Steps.{Steps}
use Rattle.station.proofs.Composition.{told_on}
use Rattle.batch_intent.specs.Spelling.{fits_item}
use Rattle.header_gate.specs.Places.{IsSlotFormat}
use Rattle.key_slot.specs.Record.{Record, is_record}
use Rattle.map_model.specs.ArrayState.{ArrayState}
use Rattle.map_model.specs.Image.{array_of, map_of}
use Rattle.map_model.specs.Store.{Update, bind, unbind, key_of}
use Rattle.segment.specs.declared.fault.StoreFault.{StoreFault}
use Rattle.pma_store.specs.declared.answers.Report.{Report}
use Rattle.pma_store.specs.declared.update.Location.{Location}
use Rattle.pma_store.specs.declared.answers.Outcome.{Outcome}
use Rattle.pma_store.specs.Changing.{update_cost}
use Rattle.pma_store.specs.Charging.{changes, charge_told}
use Rattle.pma_store.specs.ItemsMade.{MakesItem}
use Rattle.pma_store.specs.Makes.{AppliesUpdate}
use Rattle.pma_store.specs.Locations.{FindsLocation, IsLocation}
use Rattle.pma_store.specs.StoreView.{StoreView, IsStore, StandsOn, limit_of}
use Rattle.pma_store.specs.Updating.{FitsFormat}
use Rattle.pma_store.proofs.Charged.{charged, cost_told, effect_is, unchanged_is, written_changed, written_images}
use Rattle.pma_store.specs.Damaging.{UpdatesAt, moved}
use Rattle.pma_store.proofs.Meeting.{item_failed, item_made, item_unfound}
use Rattle.pma_store.proofs.Making.{found_within, applies_behind, no_fault, same_fault, same_goes, stands_on, stands_there}
use Rattle.pma_store.proofs.Outcomes.{has_is, present_in}

-- an item that fits the format has room in its slots
pub fits_format : (f : ℕ) (u : Update) → T (fits_item f u) → FitsFormat f u
fits_format f (bind key value) fits = true_of (is_record f (key, value)) fits
  where
    true_of : (b : _) → T b → IsTrue b
    true_of b t = search rules
fits_format f (unbind key) fits = tt

-- the key of a location is there as the map has it
pub looked : {a b c : View} (s t next : StoreView) (u : Update) (location : Location) (rows : List Record) → StandsOn s a → Lawful a → t ≡ s → Steps Same a b → FindsLocation u (Ok location) t next rows b c → Told a → is_ok location.found ≡ contains_key (map_of a.held) (key_of u)
looked {a} {b} s t next u location rows on law same ab found told =
    let told_b = told_on ab.frame told in
    let stands = stands_there s (stands_on s law on ab) told_b in
    let is_location : IsLocation u s location rows = subst (λ (v : StoreView). IsLocation u v location rows) (found.store ∙ same) found.location in
    sym (present_in s b.held stands u location rows is_location (found.own told_b)) ∙ has_is s b.held stands (key_of u) ∙ ap (λ (x : List ℕ). contains_key (map_of x) (key_of u)) (ab.held told)

-- a store is no higher than it may be
pub tall_of : (s : StoreView) → IsStore s → s.tally.height ≤ limit_of s
tall_of s sound = omega (arith, sound.tally.height_is, sound.hmax)

-- an item that was applied
pub applied_item : {a c : View} (u : Update) (outcome : Outcome) (report : Report) (charge : ℕ) (s t : StoreView) → IsStore s → IsSlotFormat s.place.layout.format → StandsOn s a → AppliesUpdate u (Ok (outcome, report)) s t a c
    → UpdatesAt {T = Outcome × Report} u (Ok (outcome, report)) (λ done. moved u done.0) (λ done. done.1) s t a c → charge ≡ charge_told t.tally.height (changes outcome) report → charge ≤ 1048576 → MakesItem u (Ok charge) s t a c
applied_item {a} {c} u outcome report charge s t sound format on applied met e small =
    let made = applied.update in
    let tall = λ (told : Told a). sym (stands_there t made.store (told_on made.steps.frame told)).balanced.stands.height_is ∙ ap (λ (x : ArrayState). x.height) (made.state told) in
    let effect = λ (told : Told a). ap changes (applied.outcome told) ∙ effect_is (limit_of s) (array_of a.held) u in
    record {
      state = made.state;
      charge = λ told. e ∙ charged s a.held (stands_there s on told) u (changes outcome) (effect told) report (made.report told) t.tally.height (tall told);
      small = small;
      store = made.store;
      steps = made.steps;
      layout = made.layout;
      closed = applied.closed;
      cost = λ told.
          subst (λ (n : ℕ). c.travel.written ≤ a.travel.written + n) (cost_told s a.held (stands_there s on told) u (changes outcome) (effect told) report (made.report told) t.tally.height (tall told))
          (written_changed (changes outcome) (update_cost s.place.layout t.tally.height report) a.travel.written c.travel.written made.cost (λ none. (applied.unchanged (unchanged_is outcome none)).unwritten));
      images = subst (λ (n : ℕ). c.travel.written ≤ a.travel.written + 4101 * s.place.layout.format * n) (sym e)
          (written_images s.place.layout format t.tally.height (changes outcome) report a.travel.written c.travel.written made.cost (λ none. (applied.unchanged (unchanged_is outcome none)).unwritten));
      most = made.most;
      tall = tall_of s sound;
      paid = omega (arith, e, made.paid.pays);
      met = item_made {T = Outcome × Report} u (outcome, report) charge (λ done. moved u done.0) (λ done. done.1) s t met;
      damaged = tt;
      counted = tt;
      failed = no_fault charge;
    }

-- one that failed
pub failed_item : {a c : View} (u : Update) (fault : StoreFault) (s t : StoreView) → IsStore s → AppliesUpdate u (Err fault) s t a c → UpdatesAt {T = Outcome × Report} u (Err fault) (λ done. moved u done.0) (λ done. done.1) s t a c → MakesItem u (Err fault) s t a c
failed_item u fault s t sound applied met = record {
  state = tt;
  charge = tt;
  small = tt;
  store = tt;
  steps = applied.update.steps;
  layout = applied.update.layout;
  closed = applied.closed;
  cost = applied.bounded;
  images = tt;
  most = applied.update.most;
  tall = tall_of s sound;
  paid = tt;
  met = item_failed {T = Outcome × Report} u fault (λ done. moved u done.0) (λ done. done.1) s t met;
  damaged = applied.damaged;
  counted = applied.counted;
  failed = λ failed. applied.failed (same_fault fault (λ e. e) failed);
}

-- one whose location wasn't found
pub unfound_item : {a b : View} (u : Update) (fault : StoreFault) (s t : StoreView) (rows : List Record) → IsStore s → FindsLocation u (Err fault) s t rows a b → MakesItem u (Err fault) s t a b
unfound_item u fault s t rows sound found = record {
  state = tt;
  charge = tt;
  small = tt;
  store = tt;
  steps = same_goes u s found.steps;
  layout = ap (λ (s : StoreView). s.place.layout) found.store;
  closed = ap (λ (s : StoreView). s.closed) found.store;
  cost = λ told. omega (arith, found.unwritten);
  images = tt;
  most = omega (arith, found.unwritten);
  tall = tall_of s sound;
  paid = tt;
  met = item_unfound u fault s t rows found;
  damaged = found.damaged;
  counted = found_within s found.at (tall_of s sound) found.at_in fault found.damage;
  failed = λ failed. found.failed (same_fault fault (λ e. e) failed);
}

-- behind the finding of its location
pub applied_behind : {a b c : View} (u : Update) (location : Location) (r : Result (Outcome × Report) StoreFault) (s t next : StoreView) (rows : List Record) → FindsLocation u (Ok location) s t rows a b → AppliesUpdate u r t next b c → AppliesUpdate u r s next a c
applied_behind {a} {b} {c} u location r s t next rows found applied = applies_behind u r s next found.steps found.unwritten (subst (λ (v : StoreView). AppliesUpdate u r v next b c) found.store applied)
