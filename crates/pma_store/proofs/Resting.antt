-- What a store's station may hold, and its held bytes: each image stands for the same array and the same map.
use Rattle.std.proofs.Common.{◌≡◌, ◌*◌, ◌^◌, ◌<◌, inl, inr, arith, ℕ, List, refl, sym, ◌∙◌, ap, subst}
use Rattle.std.specs.Prelude.{slice_set}
use Rattle.station.specs.Bytes.{InRange, Touched}
use Rattle.station.specs.View.{View, Told, MayHold, EachHeld, NothingPending, Lawful}
use Rattle.station.specs.Steps.{Steps}
use Rattle.station.proofs.Composition.{told_of, weaken}
use Rattle.batch_intent.specs.Gate.{IsIntentGatePlace, IsIntentPlace, Intends}
use Rattle.header_gate.specs.declared.layout.Layout.{Layout}
use Rattle.header_gate.specs.Header.{layout_in, live_copy}
use Rattle.header_gate.specs.Recovered.{live_table, recovered, IsJournalSound}
use Rattle.header_gate.proofs.Recoveries.{laid_paired}
use Rattle.header_gate.proofs.Journals.{sound_alike}
use Rattle.header_gate.specs.InPlace.{IsRecovered}
use Rattle.header_gate.specs.Places.{height_limit, page_size, region_place}
use Rattle.key_slot.specs.Record.{Record}
use Rattle.map_model.specs.Array.{Array}
use Rattle.map_model.specs.Holding.{HoldsMap}
use Rattle.map_model.specs.Image.{Represents, RepresentsMap, height_of, map_of}
use Rattle.map_model.specs.Store.{Map, Update}
use Rattle.map_model.proofs.Recovering.{determined, kept}
use Rattle.recovery.proofs.Resting.{IsOutsideAll, rests_apart}
use Rattle.redo_journal.specs.declared.place.Place.{Place}
use Rattle.redo_journal.specs.Rest.{RestsAt}
use Rattle.redo_journal.proofs.Live.{rest_each, rest_held, rest_live, rest_recovers}
use Rattle.redistribute.specs.Rearranged.{IsMovePlace}
use Rattle.segment_frames.specs.FrameStanding.{IsSettledAt}
use Rattle.segment_frames.proofs.Alike.{Alike, alike_rest, each_alike, stands_alike}
use Rattle.veb_index.specs.Arrays.{IsIndexOf}
use Rattle.pma_store.specs.Rewrites.{HasRewritten, rewritten}
use Rattle.pma_store.specs.StoreView.{StoreView, Stands, StandsOn}
use Rattle.pma_store.proofs.Rewriting.{named_inside}
use Rattle.pma_store.proofs.Touching.{wider}

-- it stands for an image with the same array
pub stands_like : (s : StoreView) (old new : List ℕ) → Alike s.place old new → Stands s old → Stands s new
stands_like s old new alike is = record {
  balanced = record { stands = stands_alike s.place s.tally old new alike is.balanced.stands; balanced = is.balanced.balanced };
  index = subst (IsIndexOf s.index) (sym alike.array) is.index;
}

-- whatever it notes of the gate
pub turned : (s : StoreView) (turn : ℕ) (image : List ℕ) → Stands s image → Stands (record s { turn = turn }) image
turned s turn image is = record { balanced = is.balanced; index = is.index }

-- so at rest it stands for each image if it stands for the held bytes
pub each_rest : {b : View} (s : StoreView) → Lawful b → RestsAt s.place.layout s.turn b → (Told b → Stands s b.held) → EachHeld (Stands s) b
each_rest {b} s law rests held = each_alike s.place s.turn (Stands s) law rests (λ told. (held told).balanced.stands.settled) (stands_like s b.held) held

-- What was made of an image with the same array, layout and live copy was made of the other one.
pub rewritten_like : (place : Place) (at : ℕ) (rows : List Record) (old new image : List ℕ) → IsSettledAt place old → Alike place old new → HasRewritten at rows new image → HasRewritten at rows old image
rewritten_like place at rows old new image was alike has =
    let layout : layout_in new ≡ layout_in old = alike.settled.layout_is ∙ sym was.layout_is in
    let own = λ (next : Map) (holds : HoldsMap (height_limit (layout_in old)) next (height_of old) (rewritten old at rows)).
    subst (λ (x : Array). HoldsMap (height_limit (layout_in new)) next (height_of new) (slice_set x at rows)) (sym alike.array)
    (subst (λ (h : ℕ). HoldsMap (height_limit (layout_in new)) next h (rewritten old at rows)) (sym alike.height)
    (subst (λ (l : Layout). HoldsMap (height_limit l) next (height_of old) (rewritten old at rows)) (sym layout) holds)) in
    record {
      layout_is = has.layout_is ∙ layout;
      region_is = has.region_is ∙ alike.settled.region_is ∙ sym was.region_is;
      holds = λ next holds. subst (Represents image next) alike.height (has.holds next (own next holds));
      array_is = λ next holds. has.array_is next (own next holds) ∙ ap (λ (x : Array). slice_set x at rows) alike.array;
    }

-- what is read of its regions is what its recovered image has there
pub readable_held : {a : View} (s : StoreView) → StandsOn s a → Told a → IsRecovered s.place.layout a.held
readable_held {a} s on = rest_held s.place.layout a on.rests.rest

module _ {a : View} (s : StoreView) (law : Lawful a) (on : StandsOn s a) (d : List ℕ) (left : MayHold a d) where
  told_there : Told a
  told_there = told_of law d left

  held_stands : Stands s a.held
  held_stands = on.stands a.held (inl (told_there, refl))

  pub held_layout : layout_in a.held ≡ s.place.layout
  held_layout = held_stands.balanced.stands.settled.layout_is

  pub held_settled : IsSettledAt s.place a.held
  held_settled = held_stands.balanced.stands.settled

  pub alike_held : Alike s.place a.held d
  alike_held = alike_rest s.place s.turn law on.rests (λ told. (on.stands a.held (inl (told, refl))).balanced.stands.settled) d left

  -- it differs from them in places of its live region alone
  pub covered_held : Touched (IsMovePlace s.place) a.held d
  covered_held =
      let there = rest_each s.place.layout a law on.rests.rest d left in
      wider a.held d (λ k covered.
      let table = (on.rests.rest.done there.0 (laid_paired s.place.layout a.held covered.0)).table in
      let range = named_inside (region_place s.place.layout (live_copy a.held)) (2 ^ s.place.layout.hmax) k (live_table s.place.layout a.held) (λ j lt. table.below j 0 lt) covered.1 in
      inr (inr (subst (λ (r : ℕ). InRange (region_place s.place.layout r) (page_size * 2 ^ s.place.layout.hmax) k) held_settled.region_is range))) there.1

  -- it represents what the held bytes do
  pub represents_held : (m : Map) (height : ℕ) → Represents a.held m height → Represents d m height
  represents_held m height is =
      let same : recovered (layout_in a.held) d ≡ recovered (layout_in a.held) a.held = subst (λ (l : Layout). recovered l d ≡ recovered l a.held) (sym held_layout) (rest_recovers s.place.layout a law on.rests.rest d left) in
      let own : IsJournalSound s.place.layout height a.held = subst (λ (l : Layout). IsJournalSound l height a.held) held_layout is.journal in
      let sound : IsJournalSound s.place.layout height d = sound_alike s.place.layout height a.held d (rest_live s.place.layout a law on.rests.rest d left) own in
      kept a.held d m height is same (subst (λ (l : Layout). IsJournalSound l height d) (sym held_layout) sound)

  pub map_held : map_of d ≡ map_of a.held
  map_held = sym (determined d (map_of a.held) (height_of a.held) (represents_held (map_of a.held) (height_of a.held) held_stands.balanced.stands.settled.represents)).0

  pub map_of_held : (m : Map) → RepresentsMap a.held m → RepresentsMap d m
  map_of_held m is = (is.0, represents_held m is.0 is.1)

-- It stays at rest while an intent is written, and while its gate is closed.

before_gate : (n : ℕ) → n < 600 → IsIntentPlace n → ⊥
before_gate n small (inl there) = omega (arith, small, there.0)
before_gate n small (inr at_gate) = omega (arith, small, at_gate)

on_page : (l : Layout) (p : ℕ) → IsIntentPlace p → IsOutsideAll l p
on_page l p (inl there) = inl (omega (arith, there.1))
on_page l p (inr at_gate) = inl (omega (arith, at_gate))

pub rests_written : {a b : View} (l : Layout) (turn : ℕ) (items : List Update) → Lawful b → RestsAt l turn a → NothingPending b → Steps (Intends items) a b → RestsAt l turn b
rests_written l turn items law rests nothing ab = rests_apart l IsIntentPlace (before_gate 0 (omega arith)) (before_gate 512 (omega arith)) (on_page l) turn law rests nothing (weaken ab (λ d i left step. step.touched))

pub rests_closed : {a b : View} (l : Layout) (turn : ℕ) → Lawful b → RestsAt l turn a → NothingPending b → Steps (Touched IsIntentGatePlace) a b → RestsAt l turn b
rests_closed l turn law rests nothing ab = rests_apart l IsIntentPlace (before_gate 0 (omega arith)) (before_gate 512 (omega arith)) (on_page l) turn law rests nothing (weaken ab (λ d i left touched. wider d i (λ k is. inr is) touched))
