-- The parts of an open store.
use Rattle.std.proofs.Common.{◌≡◌, ℕ, sym, subst}
use Rattle.station.specs.View.{View, Told, EachHeld}
use Rattle.header_gate.specs.InPlace.{IsBare}
use Rattle.map_model.specs.Standing.{StandsWith}
use Rattle.redo_journal.specs.declared.place.Place.{Place}
use Rattle.redo_journal.specs.Rest.{RestsAt}
use Rattle.window_tally.specs.TallyView.{TallyView}
use Rattle.pma_store.specs.StoreView.{StoreView, IsOpenOn}

-- they stand for its file
pub parts_stand : (s : StoreView) (place : Place) (tally : TallyView) (v : View) → place ≡ s.place → tally ≡ s.tally → IsOpenOn s v → EachHeld (StandsWith place.layout place.region tally.height tally.counts) v
parts_stand s place tally v same_place same_tally is = λ image held.
    subst (λ (p : Place). StandsWith p.layout p.region tally.height tally.counts image) (sym same_place)
    (subst (λ (t : TallyView). StandsWith s.place.layout s.place.region t.height t.counts image) (sym same_tally) (is.on.stands image held).balanced.stands)

-- no page is to be replayed over its live region, where none is over the store's
pub parts_bare : (s : StoreView) (place : Place) (v : View) → place ≡ s.place → (Told v → IsBare s.place.layout v.held) → Told v → IsBare place.layout v.held
parts_bare s place v same bare told = subst (λ (p : Place). IsBare p.layout v.held) (sym same) (bare told)

-- and its station is at rest
pub parts_rest : (s : StoreView) (place : Place) (turn : ℕ) (v : View) → place ≡ s.place → turn ≡ s.turn → IsOpenOn s v → RestsAt place.layout turn v
parts_rest s place turn v same_place same_turn is =
    subst (λ (p : Place). RestsAt p.layout turn v) (sym same_place) (subst (λ (n : ℕ). RestsAt s.place.layout n v) (sym same_turn) is.on.rests)
