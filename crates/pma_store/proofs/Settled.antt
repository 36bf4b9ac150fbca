-- Nothing is pending behind a store, and no page is to be replayed over its live region.
use Rattle.std.proofs.Common.{◌≡◌, inl, ℕ, ap, Result, Ok, Err, refl, sym, subst, ◌∙◌}
use Rattle.std.specs.Prelude.{OnOk, IfErr, is_err}
use Rattle.station.specs.Bytes.{Touched}
use Rattle.station.specs.View.{View, Told, NothingPending, Lawful}
use Rattle.station.specs.Steps.{Steps}
use Rattle.station.proofs.Composition.{told_on}
use Rattle.header_gate.specs.InPlace.{IsBare}
use Rattle.map_model.specs.Array.{Array}
use Rattle.map_model.specs.Image.{map_of, height_of, array_of}
use Rattle.map_model.specs.Store.{Map}
use Rattle.map_model.proofs.Recovering.{determined}
use Rattle.segment.specs.declared.fault.StoreFault.{StoreFault}
use Rattle.segment.specs.declared.fault.StoreFault.TheVariants.{Failed}
use Rattle.pma_store.specs.StoreAnswers.{state_in}
use Rattle.pma_store.specs.UpdateCalls.{clear_calls}
use Rattle.pma_store.specs.Readying.{KeepsStore, clear_cost}
use Rattle.pma_store.specs.Settling.{SettlesStore}
use Rattle.pma_store.specs.StoreView.{StoreView, StandsOn, IsOpenOn}
use Rattle.pma_store.specs.Touching.{IsClearPlace}
use Rattle.pma_store.proofs.Moments.{keeps_meant, keeps_none}
use Rattle.pma_store.proofs.Steps.{own_of}

-- two facts of a value, where there is one
both_ok : {T : Type 0} {P Q R : Type 0} (r : Result T StoreFault) → OnOk r P → OnOk r Q → (P → Q → R) → OnOk r R
both_ok (Ok x) p q f = f p q
both_ok (Err e) p q f = tt

module _ {T : Type 0} (r : Result T StoreFault) (s : StoreView) (turn : ℕ) (a b : View) (law : Lawful a) (is : IsOpenOn s a)
    (kept : KeepsStore r (clear_cost s.place.layout) (clear_calls s.place.layout) s (record s { turn = turn }) a b)
    (array : OnOk r (Told a → array_of b.held ≡ array_of a.held)) where
  -- the state stays, by its parts
  state_same : StandsOn (record s { turn = turn }) b → (Told a → array_of b.held ≡ array_of a.held) → Told a → state_in s b.held ≡ state_in s a.held
  state_same on same told =
      let was = is.on.stands a.held (inl (told, refl)) in
      let stands = on.stands b.held (inl (told_on kept.steps.frame told, refl)) in
      let next = (kept.steps.held told).map_is (map_of a.held) (own_of s a.held was) in
      let map : map_of b.held ≡ map_of a.held = sym (determined b.held (map_of a.held) next.0 next.1).0 in
      let height : height_of b.held ≡ height_of a.held = stands.balanced.stands.height_is ∙ sym was.balanced.stands.height_is in
      ap (λ (m : Map). record { map = m; height = height_of b.held; array = array_of b.held; marks = s.tally.marks }) map
      ∙ ap (λ (h : ℕ). record { map = map_of a.held; height = h; array = array_of b.held; marks = s.tally.marks }) height
      ∙ ap (λ (x : Array). record { map = map_of a.held; height = height_of a.held; array = x; marks = s.tally.marks }) (same told)

  pub settles_store : OnOk r (NothingPending b) → OnOk r (Told b → IsBare s.place.layout b.held) → Steps (Touched (IsClearPlace s.place.layout)) a b → b.travel.read ≡ a.travel.read → IfErr r (λ fault. fault ≡ Failed)
      → SettlesStore r s (record s { turn = turn; closed = is_err r }) a b
  settles_store nothing bare touched unread disk = record {
    nothing = nothing;
    bare = bare;
    state = both_ok r kept.store array state_same;
    store = refl;
    meant = keeps_meant s law is kept.steps;
    touched = touched;
    cost = kept.cost;
    unread = unread;
    calls = kept.calls;
    disk = disk;
  }

  -- and where it was done, the store is open
  pub settled_open : StandsOn (record s { turn = turn }) b → IsOpenOn (record s { turn = turn }) b
  settled_open on = record { on = on; opened = is.opened; no_intent = keeps_none kept.steps is.no_intent }

-- What it comes to for a store that differs behind it in what it notes of the gate alone.

module _ {T : Type 0} (r : Result T StoreFault) (s n : StoreView) (a b : View) (turned : n ≡ record s { turn = n.turn }) (law : Lawful a) (is : IsOpenOn s a)
    (kept : KeepsStore r (clear_cost s.place.layout) (clear_calls s.place.layout) s n a b) (array : OnOk r (Told a → array_of b.held ≡ array_of a.held)) where
  kept_turned : KeepsStore r (clear_cost s.place.layout) (clear_calls s.place.layout) s (record s { turn = n.turn }) a b
  kept_turned = subst (λ (x : StoreView). KeepsStore r (clear_cost s.place.layout) (clear_calls s.place.layout) s x a b) turned kept

  pub settled_by : OnOk r (NothingPending b) → OnOk r (Told b → IsBare s.place.layout b.held) → Steps (Touched (IsClearPlace s.place.layout)) a b → b.travel.read ≡ a.travel.read → IfErr r (λ fault. fault ≡ Failed)
      → SettlesStore r s (record n { closed = is_err r }) a b
  settled_by nothing bare touched unread disk =
      subst (λ (x : StoreView). SettlesStore r s (record x { closed = is_err r }) a b) (sym turned) (settles_store r s n.turn a b law is kept_turned array nothing bare touched unread disk)

  -- where it was done, the store is as open as before
  pub open_by : StandsOn n b → IsOpenOn n b
  open_by on =
      subst (λ (x : StoreView). IsOpenOn x b) (sym turned) (settled_open r s n.turn a b law is kept_turned array (subst (λ (x : StoreView). StandsOn x b) turned on))
