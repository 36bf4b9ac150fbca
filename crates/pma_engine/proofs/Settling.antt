-- What stays of a file while nothing is left pending behind its store.
use Rattle.std.proofs.Common.{◌≡◌, inl, ℕ, List, refl, sym, ◌∙◌, ap, subst}
use Rattle.station.specs.View.{View, Told}
use Rattle.station.proofs.Composition.{told_on}
use Rattle.header_gate.specs.declared.layout.Layout.{Layout}
use Rattle.header_gate.specs.Header.{layout_in}
use Rattle.map_model.specs.ArrayState.{ArrayState}
use Rattle.map_model.specs.Image.{Represents, array_in, array_of, height_of, map_of}
use Rattle.map_model.specs.Store.{Map}
use Rattle.map_model.proofs.Recovering.{determined}
use Rattle.batch_intent.specs.Means.{Means}
use Rattle.segment.specs.declared.fault.StoreFault.{StoreFault}
use Rattle.std.specs.Prelude.{Result}
use Rattle.pma_store.specs.StoreAnswers.{state_in}
use Rattle.pma_store.specs.Settling.{SettlesStore}
use Rattle.pma_store.specs.StoreView.{StoreView, IsOpenOn}
use Rattle.pma_engine.specs.Serving.{IsAtState}
use Rattle.pma_engine.specs.Upgrading.{KeepsMeaning}
use Rattle.pma_engine.proofs.Upgrading.{represents_idle}
use Rattle.batch_intent.proofs.Meanings.{in_layout}

module _ {T : Type 0} {r : Result T StoreFault} (s t : StoreView) (a b : View) (opened : IsOpenOn s a) (settles : SettlesStore r s t a b) where
  pub told_settled : Told a → Told b
  told_settled told = told_on settles.meant.frame told

  pub layout_told : Told a → layout_in a.held ≡ s.place.layout
  layout_told told = (opened.on.stands a.held (inl (told, refl))).balanced.stands.settled.layout_is

  -- the map that the file means is that of its records
  pub means_own : Told a → (l : Layout) (m : Map) → Means l a.held m → m ≡ map_of a.held
  means_own told l m here = (determined a.held m here.height (represents_idle a.held m here (opened.no_intent a.held (inl (told, refl))))).0

  -- so what means it means each map that the file does
  pub image_keeps : Told a → (image : List ℕ) → Means s.place.layout image (map_of a.held) → KeepsMeaning a.held image
  image_keeps told image means m here =
      subst (λ (n : Map). Means (layout_in a.held) image n) (sym (means_own told (layout_in a.held) m here)) (in_layout image (map_of a.held) (sym (layout_told told)) means)

  pub keeps_settled : Told a → KeepsMeaning a.held b.held
  keeps_settled told = image_keeps told b.held (settles.meant.held told)

  pub layout_settled : Told a → layout_in b.held ≡ layout_in a.held
  layout_settled told = (settles.meant.held told).layout_is ∙ sym (layout_told told)

  -- Where it was done, the state stays.
  module _ (state : Told a → state_in t b.held ≡ state_in s a.held) (open_yet : IsOpenOn t b) where
    pub map_settled : Told a → map_of b.held ≡ map_of a.held
    map_settled told = ap (λ (x : ArrayState). x.map) (state told)

    pub height_settled : Told a → height_of b.held ≡ height_of a.held
    height_settled told = ap (λ (x : ArrayState). x.height) (state told)

    pub array_settled : Told a → array_of b.held ≡ array_of a.held
    array_settled told = ap (λ (x : ArrayState). x.array) (state told)

    pub represents_settled : Told a → (m : Map) (height : ℕ) → Represents a.held m height → Represents b.held m height
    represents_settled told m height is =
        let own = determined a.held m height is in
        subst (λ (x : Map × ℕ). Represents b.held x.0 x.1) (λ i. ((map_settled told ∙ sym own.0) i, (height_settled told ∙ sym own.1) i))
        (open_yet.on.stands b.held (inl (told_settled told, refl))).balanced.stands.settled.represents

    -- whatever is said of it
    pub state_kept : Told a → (x : ArrayState) → IsAtState s.place.layout x a.held → IsAtState s.place.layout x b.held
    state_kept told x at = record {
      layout_is = layout_settled told ∙ at.layout_is;
      has = record {
        represents = represents_settled told x.map x.height at.has.represents;
        array_is =
            let own : height_of b.held ≡ x.height = height_settled told ∙ sym (determined a.held x.map x.height at.has.represents).1 in
            ap (array_in b.held) (sym own) ∙ array_settled told ∙ ap (array_in a.held) (sym (determined a.held x.map x.height at.has.represents).1) ∙ at.has.array_is;
      };
      balanced = at.balanced;
    }
