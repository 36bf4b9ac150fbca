-- A store stands for each file that differs in the intent and its gate alone.
use Rattle.std.proofs.Common.{◌≡◌, ℕ, ◌^◌, ◌<◌, List, [], refl, sym, ap, subst, ◌∙◌, arith}
use Rattle.std.proofs.Math.Pow.{pow_mono}
use Rattle.std.proofs.lemmas.List.{ext_get_or}
use Rattle.station.specs.Bytes.{Touched}
use Rattle.header_gate.specs.Header.{layout_in}
use Rattle.header_gate.specs.Places.{IsSlotFormat, height_limit}
use Rattle.key_slot.specs.Segment.{segment_of}
use Rattle.batch_intent.specs.Gate.{IsIntentPlace}
use Rattle.batch_intent.proofs.Meanings.{unnamed_touched}
use Rattle.map_model.specs.Array.{counts_of}
use Rattle.map_model.specs.Batches.{IsUnnamed}
use Rattle.map_model.specs.Image.{Represents, array_in, array_of, height_of, live_segment, map_of}
use Rattle.map_model.specs.Store.{Map}
use Rattle.map_model.specs.Standing.{IsSettled, StandsWith}
use Rattle.map_model.proofs.Recovering.{determined}
use Rattle.map_model.proofs.Unnamed.{unnamed_represents, layout_same, live_same, gate_same, format_same, segment_same}
use Rattle.range_scan.proofs.Standing.{array_size, array_at}
use Rattle.veb_index.specs.Arrays.{IsIndexOf}
use Rattle.pma_store.specs.StoreAnswers.{state_in}
use Rattle.pma_store.specs.StoreView.{StoreView, IsStore, Stands}

module _ (s : StoreView) (old new : List ℕ) (is : Stands s old) (touched : Touched IsIntentPlace old new) where
  was : Represents old (map_of old) (height_of old)
  was = is.balanced.stands.settled.represents

  spares : Touched IsUnnamed old new
  spares = unnamed_touched old new touched

  own : (map_of old ≡ map_of new) × (height_of old ≡ height_of new)
  own = determined new (map_of old) (height_of old) (unnamed_represents old new (map_of old) (height_of old) was spares)

  settled : IsSettled s.place.layout s.place.region new
  settled = record {
    represents = subst (λ (h : ℕ). Represents new (map_of new) h) own.1 (subst (λ (m : Map). Represents new m (height_of old)) own.0 (unnamed_represents old new (map_of old) (height_of old) was spares));
    gate_even = λ single. gate_same old new was.header spares ∙ is.balanced.stands.settled.gate_even single;
    layout_is = layout_same old new was.header spares ∙ is.balanced.stands.settled.layout_is;
    region_is = live_same old new was.header spares ∙ is.balanced.stands.settled.region_is;
  }

  tall : height_of new ≡ s.tally.height
  tall = sym own.1 ∙ is.balanced.stands.height_is

  by_counts : StandsWith s.place.layout s.place.region s.tally.height (counts_of (array_in new s.tally.height)) new
  by_counts = record { settled = settled; height_is = tall; counts_are = refl }

  kept_segment : (i : ℕ) → i < 2 ^ s.tally.height → live_segment new i ≡ live_segment old i
  kept_segment i lt = segment_same old new was.header spares i (omega (arith, lt, pow_mono {i = s.tally.height} {j = height_limit (layout_in old)} (omega (arith, was.header.height, is.balanced.stands.height_is))))

  array_kept : array_in new s.tally.height ≡ array_in old s.tally.height
  array_kept =
      let counts = counts_of (array_in new s.tally.height) in
      let size = array_size s.place.layout s.place.region s.tally.height counts new by_counts in
      ext_get_or [] (array_in new s.tally.height) (array_in old s.tally.height) (size ∙ sym (array_size s.place.layout s.place.region s.tally.height s.tally.counts old is.balanced.stands)) (λ i lt.
      let inside : i < 2 ^ s.tally.height = omega (arith, lt, size) in
      array_at s.place.layout s.place.region s.tally.height counts new by_counts i inside
      ∙ (λ t. segment_of (format_same old new was.header spares t) (kept_segment i inside t))
      ∙ sym (array_at s.place.layout s.place.region s.tally.height s.tally.counts old is.balanced.stands i inside))

  own_array : array_of new ≡ array_of old
  own_array = ap (array_in new) tall ∙ array_kept ∙ sym (ap (array_in old) is.balanced.stands.height_is)

  pub spared_stands : Stands s new
  spared_stands = record {
    balanced = record {
      stands = record { settled = settled; height_is = tall; counts_are = ap counts_of array_kept ∙ is.balanced.stands.counts_are };
      balanced = is.balanced.balanced;
    };
    index = subst (IsIndexOf s.index) (sym own_array) is.index;
  }

  pub spared_state : state_in s new ≡ state_in s old
  spared_state = λ t. record { map = sym own.0 t; height = sym own.1 t; array = own_array t; marks = s.tally.marks }

-- the slot format of a store, by one that is the same
pub slot_format : (s t : StoreView) → t ≡ s → IsStore t → IsSlotFormat s.place.layout.format
slot_format s t same is = subst (λ (v : StoreView). IsSlotFormat v.place.layout.format) same (record { least = is.layout.format.least; most = is.layout.format.most })
