-- How many calls the items make that an opening applies.
use Rattle.std.proofs.Common.{◌≡◌, ℕ, List, [], ◌∷◌, take, inl, refl, sym, ap, subst, ◌∙◌, arith}
use Rattle.std.specs.Prelude.{length}
use Rattle.station.specs.View.{View, Told}
use Rattle.header_gate.specs.declared.layout.Layout.{Layout}
use Rattle.header_gate.specs.Header.{layout_in}
use Rattle.header_gate.specs.Places.{height_limit}
use Rattle.map_model.specs.Array.{counts_of}
use Rattle.map_model.specs.ArrayState.{ArrayState, next_state, opened_state}
use Rattle.map_model.specs.Image.{array_in}
use Rattle.map_model.specs.Store.{Update}
use Rattle.batch_intent.specs.Means.{waiting}
use Rattle.window_tally.specs.TallyView.{TallyView}
use Rattle.pma_store.specs.StoreAnswers.{state_in}
use Rattle.pma_store.specs.BatchCalls.{AreForItems, IsForItem, IsForItems}
use Rattle.pma_store.specs.Opens.{AreForPending, opened_tally}
use Rattle.pma_store.specs.StoreView.{StoreView, StandsOn}

-- seen from before calls that tell as much
pub items_seen : (a b : View) (l : Layout) (x : ArrayState) (t last : TallyView) (items : List Update) (n : ℕ) → (Told a → Told b) → IsForItems l b x t items last n → IsForItems l a x t items last n
items_seen a b l x t last [] n on is = is
items_seen a b l x t last (u ∷ us) n on is =
    let one : IsForItem l b x t u is.1 is.0 = is.3 in
    (is.0, is.1, is.2, record { at = one.at; within = one.within; own = λ told. one.own (on told); nexts = one.nexts; is = one.is }, items_seen a b l (next_state (height_limit l) x u) is.1 last us is.2 on is.4, is.5)

-- the items of an intent, made in a store that was opened so
pub waiting_called : (a b : View) (s : StoreView) (items : List Update) (n : ℕ) → (Told a → Told b) → Told b → StandsOn s b → s.tally.hmax ≡ height_limit s.place.layout → s.place.layout ≡ layout_in a.held → state_in s b.held ≡ opened_state a.held → waiting a.held ≡ items
    → AreForItems items s b n → AreForPending a n
waiting_called a b s items n on told stands hmax layout state same are = record {
  begun = are.begun;
  some = omega (arith, are.some, ap length same);
  last = are.last;
  are_for = subst (λ (x : Type 0). x) (λ t. IsForItems (layout t) a (state t) (tally t) (take are.begun (sym same t)) are.last n)
      (items_seen a b s.place.layout (state_in s b.held) s.tally are.last (take are.begun items) n on are.are_for);
}
  where
    counts : s.tally.counts ≡ counts_of (opened_state a.held).array
    counts =
        let there = (stands.stands b.held (inl (told, refl))).balanced.stands in
        sym (ap (λ (h : ℕ). counts_of (array_in b.held h)) there.height_is ∙ there.counts_are) ∙ ap (λ (x : ArrayState). counts_of x.array) state

    tally : s.tally ≡ opened_tally a.held
    tally =
        let there = (stands.stands b.held (inl (told, refl))).balanced.stands in
        λ t. record { hmax = (hmax ∙ ap height_limit layout) t; height = (sym there.height_is ∙ ap (λ (x : ArrayState). x.height) state) t; counts = counts t; marks = ap (λ (x : ArrayState). x.marks) state t }
