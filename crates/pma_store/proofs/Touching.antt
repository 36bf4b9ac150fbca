-- Which bytes an update touches, call by call.
use Rattle.std.proofs.Common.{◌≡◌, inl, inr, ℕ, zero, suc, ◌+◌, ◌-◌, ◌*◌, ◌%◌, ◌^◌, ◌<◌, ◌≤◌, List, length, Bool, true, false, refl, sym, ap, subst, ◌∙◌, arith}
use Rattle.station.specs.Bytes.{byte, InRange, Touched, Same}
use Rattle.station.specs.View.{View}
use Rattle.station.specs.Steps.{Steps}
use Rattle.station.proofs.Composition.{weaken, touched_on, on_same, same_on}
use Rattle.header_gate.specs.declared.layout.Layout.{Layout}
use Rattle.header_gate.specs.Header.{number, format_in, layout_in, live_copy}
use Rattle.header_gate.specs.Places.{area_place, copy_place, image_place, journal_end, journal_shift, page_size, region_place}
use Rattle.header_gate.proofs.NumberLaws.{number_same}
use Rattle.key_slot.specs.Record.{Record}
use Rattle.map_model.specs.Regions.{IsSparePlace}
use Rattle.redo_journal.specs.Commit.{IsRegionPlace}
use Rattle.redo_journal.specs.declared.place.Place.{Place}
use Rattle.redistribute.specs.Rearranged.{Rearranges, IsMovePlace}
use Rattle.resize_region.specs.Resized.{Resizes}
use Rattle.pma_store.specs.Rewrites.{Rewrites}
use Rattle.pma_store.specs.StoreView.{StoreView, Stands}
use Rattle.pma_store.specs.Touching.{IsUpdatePlace, place_after, IsTouchedPlace, IsPlaceAfter}

-- what is touched at these places is touched at wider ones
pub wider : {X Z : ℕ → Type 0} (old new : List ℕ) → ((k : ℕ) → X k → Z k) → Touched X old new → Touched Z old new
wider old new xz touched = record { size = touched.size; rest = λ k out. touched.rest k (λ x. out (xz k x)) }

pub untouched : {X : ℕ → Type 0} (old new : List ℕ) → new ≡ old → Touched X old new
untouched old new same = record { size = ap length same; rest = λ k out. ap (λ (file : List ℕ). byte file k) same }

-- The parts of a file are places of an update.

in_regions : (l : Layout) (region k : ℕ) → region < 2 → InRange (region_place l region) (page_size * 2 ^ l.hmax) k → IsRegionPlace l k
in_regions l zero k small range = (omega (arith, range.0), omega (arith, range.1))
in_regions l (suc zero) k small range = (omega (arith, range.0), omega (arith, range.1))
in_regions l (suc (suc region)) k small range = absurd (omega (arith, small))

in_copies : (l : Layout) (copy k : ℕ) → copy < 2 → InRange (copy_place copy) 8 k → IsUpdatePlace l k
in_copies l zero k small range = inr (inl range)
in_copies l (suc zero) k small range = inr (inr (inl range))
in_copies l (suc (suc copy)) k small range = absurd (omega (arith, small))

moved_places : (place : Place) → place.region < 2 → (k : ℕ) → IsMovePlace place k → IsUpdatePlace place.layout k
moved_places place small k (inl gate) = inr (inr (inr (inl gate)))
moved_places place small k (inr (inl journal)) = inr (inr (inr (inr (inl journal))))
moved_places place small k (inr (inr range)) = inr (inr (inr (inr (inr (in_regions place.layout place.region k small range)))))

spare_places : (l : Layout) (spare k : ℕ) → spare < 2 → IsSparePlace l spare k → IsUpdatePlace l k
spare_places l spare k small (inl first) = inl first
spare_places l spare k small (inr (inl copy)) = in_copies l spare k small copy
spare_places l spare k small (inr (inr range)) = inr (inr (inr (inr (inr (in_regions l spare k small range)))))

-- The sizes of the parts stand where no update touches a byte, so the parts end where they did.

-- the second journal's place goes by the journal's size and the version
reshift : (l m : Layout) → l.journal ≡ m.journal → l.version ≡ m.version → journal_shift l 1 ≡ journal_shift m 1
unfolding journal_shift
reshift l m journal version = λ t. journal_shift (record { hmax = 0; journal = journal t; version = version t; format = 0 }) 1

module _ (l : Layout) (old new : List ℕ) (touched : Touched (IsUpdatePlace l) old new) where
  outside : (k : ℕ) → 3072 ≤ k → k < 4096 → IsUpdatePlace l k → ⊥
  outside k from low (inl is) = omega (arith, is, from)
  outside k from low (inr (inl is)) = omega (arith, is.1, from)
  outside k from low (inr (inr (inl is))) = omega (arith, is.1, from)
  outside k from low (inr (inr (inr (inl is)))) = let e : k ≡ 512 = is in omega (arith, e, from)
  outside k from low (inr (inr (inr (inr (inl is))))) = omega (arith, is.0, low)
  outside k from low (inr (inr (inr (inr (inr is))))) = omega (arith, is.0, low)

  at : (k : ℕ) → 3072 ≤ k → k + 4 ≤ 4096 → number new k ≡ number old k
  at k from high = number_same new old k k (λ n x y lt ex ey. let e : x ≡ y = omega arith in touched.rest x (outside x (omega arith) (omega arith)) ∙ ap (byte old) e)

  hmax_stays : (layout_in new).hmax ≡ (layout_in old).hmax
  hmax_stays = at 3084 (omega arith) (omega arith)

  size_stays : (layout_in new).journal ≡ (layout_in old).journal
  size_stays = at 3088 (omega arith) (omega arith)

  shift_stays : journal_shift (layout_in new) 1 ≡ journal_shift (layout_in old) 1
  shift_stays = reshift (layout_in new) (layout_in old) size_stays (at 3080 (omega arith) (omega arith))

  journals_end : journal_end (layout_in new) ≡ journal_end (layout_in old)
  journals_end = λ t. image_place (record { hmax = 0; journal = size_stays t; version = 0; format = 0 }) (size_stays t) + shift_stays t

  regions_end : area_place (layout_in new) ≡ area_place (layout_in old)
  regions_end = λ t. journals_end t + page_size * 2 ^ hmax_stays t * 2

  same_places : (k : ℕ) → IsUpdatePlace (layout_in new) k → IsUpdatePlace (layout_in old) k
  same_places k (inl selector) = inl selector
  same_places k (inr (inl copy)) = inr (inl copy)
  same_places k (inr (inr (inl copy))) = inr (inr (inl copy))
  same_places k (inr (inr (inr (inl gate)))) = inr (inr (inr (inl gate)))
  same_places k (inr (inr (inr (inr (inl journal))))) = inr (inr (inr (inr (inl (journal.0, subst (λ (n : ℕ). k < n) journals_end journal.1)))))
  same_places k (inr (inr (inr (inr (inr region))))) = inr (inr (inr (inr (inr (subst (λ (n : ℕ). n ≤ k) journals_end region.0, subst (λ (n : ℕ). k < n) regions_end region.1)))))

pub touched_then : (old mid new : List ℕ) → Touched (IsUpdatePlace (layout_in old)) old mid → Touched (IsUpdatePlace (layout_in mid)) mid new → Touched (IsUpdatePlace (layout_in old)) old new
touched_then old mid new one two = record {
  size = two.size ∙ one.size;
  rest = λ k out. two.rest k (λ is. out (same_places (layout_in old) old mid one k is)) ∙ one.rest k out;
}

-- Moves of records touch neither selector, copies nor identity, so the layout stays.

module _ (place : Place) (old new : List ℕ) (touched : Touched (IsMovePlace place) old new) where
  unmoved : (k : ℕ) → k < 4096 → (k ≡ 512 → ⊥) → byte new k ≡ byte old k
  unmoved k low other = touched.rest k (λ is. not_moved is)
    where
      not_moved : IsMovePlace place k → ⊥
      not_moved (inl gate) = other gate
      not_moved (inr (inl journal)) = omega (arith, journal.0, low)
      not_moved (inr (inr range)) = omega (arith, range.0, low)

  number_stays : (k : ℕ) → 1024 ≤ k → k + 4 ≤ 4096 → number new k ≡ number old k
  number_stays k low high = number_same new old k k (λ n x y lt ex ey. let e : x ≡ y = omega arith in unmoved x (omega arith) (λ is. omega (arith, is)) ∙ ap (byte old) e)

  live_stays : live_copy new ≡ live_copy old
  live_stays = ap (λ (b : ℕ). b % 2) (unmoved 0 (omega arith) (λ is. omega (arith, is)))

  format_stays : format_in (live_copy new) new ≡ format_in (live_copy old) old
  format_stays = ap (λ (c : ℕ). format_in c new) live_stays ∙ number_stays (copy_place (live_copy old) + 4) (omega arith) (omega arith)

  pub moves_layout : layout_in new ≡ layout_in old
  moves_layout = λ t. record { hmax = number_stays 3084 (omega arith) (omega arith) t; journal = number_stays 3088 (omega arith) (omega arith) t; version = number_stays 3080 (omega arith) (omega arith) t; format = format_stays t }

-- From a file for which a store stands.

module _ (s : StoreView) (start image : List ℕ) (stands : Stands s start) where
  small : s.place.region < 2
  small = omega (arith, stands.balanced.stands.settled.region_is)

  own : Touched (IsUpdatePlace s.place.layout) start image → Touched (IsUpdatePlace (layout_in start)) start image
  own touched = subst (λ (l : Layout). Touched (IsUpdatePlace l) start image) (sym stands.balanced.stands.settled.layout_is) touched

  pub moves_touch : Touched (IsMovePlace s.place) start image → Touched (IsUpdatePlace (layout_in start)) start image
  moves_touch touched = own (wider start image (moved_places s.place small) touched)

  pub spares_touch : Touched (IsSparePlace s.place.layout (1 - s.place.region)) start image → Touched (IsUpdatePlace (layout_in start)) start image
  spares_touch touched = own (wider start image (λ k is. spare_places s.place.layout (1 - s.place.region) k (omega arith) is) touched)

-- Where the store is behind it.

pub same_place : {a b : View} (s t : StoreView) → t.place ≡ s.place → Steps Same a b → IsPlaceAfter false s t a b
same_place s t is ab = record { place_is = is; inside = weaken ab (λ d i left same. untouched d i same) }

pub spread_place : {a b : View} (s t : StoreView) → t.place ≡ s.place → Steps (Rearranges s.place) a b → IsPlaceAfter false s t a b
spread_place s t is ab = record { place_is = is; inside = weaken ab (λ d i left step. step.touched) }

pub rewrite_place : {a b : View} (s t : StoreView) (at : ℕ) (rows : List Record) → t.place ≡ s.place → Steps (Rewrites s.place at rows) a b → IsPlaceAfter false s t a b
rewrite_place s t at rows is ab = record { place_is = is; inside = weaken ab (λ d i left step. step.touched) }

pub resize_place : {a b : View} (s t : StoreView) (height : ℕ) → t.place ≡ record s.place { region = 1 - s.place.region } → Steps (Resizes s.place height) a b → IsPlaceAfter true s t a b
resize_place s t height is ab = record { place_is = is; inside = weaken ab (λ d i left step. wider d i (λ k spare. inl spare) step.touched) }

-- behind calls that change no byte, and before them
pub place_behind : {a b c : View} (resized : Bool) (s t : StoreView) → Steps Same a b → IsPlaceAfter resized s t b c → IsPlaceAfter resized s t a c
place_behind resized s t ab after = record { place_is = after.place_is; inside = on_same ab after.inside (λ d. untouched d d refl) }

pub place_before : {a b c : View} (resized : Bool) (s t next : StoreView) → IsPlaceAfter resized s t a b → next ≡ t → Steps Same b c → IsPlaceAfter resized s next a c
place_before resized s t next after same bc = record { place_is = ap (λ (s : StoreView). s.place) same ∙ after.place_is; inside = same_on after.inside bc }

-- and then its segment is rewritten
moved_touches : (resized : Bool) (s t : StoreView) (k : ℕ) → t.place ≡ place_after resized s.place → IsMovePlace t.place k → IsTouchedPlace resized s.place k
moved_touches resized s t k is at = by_place resized (subst (λ (p : Place). IsMovePlace p k) is at)
  where
    by_place : (resized : Bool) → IsMovePlace (place_after resized s.place) k → IsTouchedPlace resized s.place k
    by_place false at = at
    by_place true (inl gate) = inr (inl gate)
    by_place true (inr (inl journal)) = inr (inr journal)
    by_place true (inr (inr range)) = inl (inr (inr range))

pub place_then : {a b c : View} (resized : Bool) (s t next : StoreView) → IsPlaceAfter resized s t a b → IsPlaceAfter false t next b c → IsPlaceAfter resized s next a c
place_then resized s t next before after = record {
  place_is = after.place_is ∙ before.place_is;
  inside = touched_on (IsTouchedPlace resized s.place) (λ k is. is) (λ k is. moved_touches resized s t k before.place_is is) before.inside after.inside;
}
