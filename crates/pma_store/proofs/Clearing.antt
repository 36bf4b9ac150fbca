-- What comes before a resize: the live one of two journals is cleared.
use Rattle.std.proofs.Common.{◌≡◌, true, inl, inr, ℕ, refl, sym, subst, ◌∙◌}
use Rattle.station.specs.Bytes.{Touched}
use Rattle.station.specs.View.{View, Lawful}
use Rattle.station.specs.Steps.{Steps}
use Rattle.station.proofs.Composition.{told_back, touched_on, weaken}
use Rattle.redo_journal.specs.declared.place.Place.{Place}
use Rattle.redo_journal.specs.Rest.{RestsAt}
use Rattle.resize_region.specs.Resized.{Settles}
use Rattle.segment_frames.proofs.Alike.{alike_cleared}
use Rattle.pma_store.specs.Readying.{KeepsMap}
use Rattle.pma_store.specs.StoreView.{StoreView, StandsOn}
use Rattle.pma_store.specs.Touching.{IsClearPlace, IsTouchedPlace, IsPlaceAfter}
use Rattle.pma_store.proofs.Making.{stands_again}
use Rattle.pma_store.proofs.Resting.{each_rest, stands_like, turned}
use Rattle.pma_store.proofs.Touching.{moves_touch, wider}

module _ {a b : View} (s : StoreView) (on : StandsOn s a) (ab : Steps (Settles s.place) a b) where
  -- it keeps the map
  pub clear_keeps : Steps KeepsMap a b
  clear_keeps = weaken ab (λ d i left step.
      let stands = on.stands d left in
      let settled = stands.balanced.stands.settled in
      record {
        map_is = λ m is. (is.0, step.map_is m is.0 is.1);
        layout_is = (alike_cleared s.place d i settled step.clears).settled.layout_is ∙ sym settled.layout_is;
        touched = moves_touch s d i stands (wider d i (λ k is. elim is [ inl journal ↦ inr (inl journal) | inr gate ↦ inl gate ]) step.clears.touched);
      })

  -- and touches gate and journals alone
  pub clear_touches : Steps (Touched (IsClearPlace s.place.layout)) a b
  clear_touches = weaken ab (λ d i left step. wider d i (λ k is. elim is [ inl journal ↦ inr journal | inr gate ↦ inl gate ]) step.clears.touched)

  -- behind it the store stands for its file, with what it notes of the gate
  pub stands_cleared : (turn : ℕ) → Lawful b → RestsAt s.place.layout turn b → StandsOn (record s { turn = turn }) b
  stands_cleared turn law rests = stands_again s (record s { turn = turn }) on refl ab.frame
      (each_rest (record s { turn = turn }) law rests (λ told_b.
      let told = told_back ab.frame told_b in
      let was = on.stands a.held (inl (told, refl)) in
      turned s turn b.held (stands_like s a.held b.held (alike_cleared s.place a.held b.held was.balanced.stands.settled (ab.held told).clears) was))) rests

-- the place behind a resize that follows
pub place_cleared : {a b c : View} (s w v : StoreView) → w.place ≡ s.place → Steps (Touched (IsClearPlace s.place.layout)) a b → IsPlaceAfter true w v b c → IsPlaceAfter true s v a c
place_cleared {a} {b} {c} s w v same first after =
    let own : IsPlaceAfter true (record w { place = s.place }) v b c = subst (λ (p : Place). IsPlaceAfter true (record w { place = p }) v b c) same after in
    record { place_is = own.place_is; inside = touched_on (IsTouchedPlace true s.place) (λ k is. inr is) (λ k is. is) first own.inside }
