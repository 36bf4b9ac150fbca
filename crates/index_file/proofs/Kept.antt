-- Images that differ in the clean gate and in the index alone: they represent the same map, by the same array.
use Rattle.std.proofs.Common.{◌≡◌, ◌⊎◌, inl, inr, ℕ, ◌+◌, ◌%◌, ◌^◌, ◌<◌, ◌≤◌, List, [], length, slice_range, sym, ap, subst, ◌∙◌, arith}
use Rattle.std.proofs.lemmas.List.{ext_get_or}
use Rattle.std.proofs.Math.Pow.{pow_mono}
use Rattle.station.specs.Bytes.{byte, Touched}
use Rattle.station.proofs.Ranges.{range_same}
use Rattle.key_slot.specs.Segment.{IsSegment, segment_of}
use Rattle.header_gate.specs.declared.layout.Layout.{Layout}
use Rattle.header_gate.specs.declared.layout.TheConstants.{PAIRED}
use Rattle.header_gate.specs.InPlace.{IsBare}
use Rattle.header_gate.proofs.Journals.{bare_recovered, bare_sound, bare_still}
use Rattle.header_gate.proofs.Recoveries.{laid_odd}
use Rattle.std.proofs.lemmas.Bool.{cases_eq}
use Rattle.header_gate.specs.Header.{gate, intent_gate, live_copy, layout_in, format_in, number}
use Rattle.header_gate.specs.Places.{IsFormat, segment_size, segment_place, copy_place, journal_end, area_place, height_limit, page_size}
use Rattle.header_gate.specs.Reasons.{IsSoundHeader}
use Rattle.header_gate.proofs.NumberLaws.{number_same}
use Rattle.header_gate.proofs.RecoveredPages.{page_before}
use Rattle.header_gate.proofs.PagedSegments.{segment_within, segment_before_area}
use Rattle.header_gate.proofs.Soundness.{sound_same}
use Rattle.map_model.specs.Store.{Map}
use Rattle.map_model.specs.Array.{segment_at}
use Rattle.map_model.specs.Image.{Represents, array_in, array_of, height_of, map_of, slot_format, live_segment}
use Rattle.map_model.proofs.Headers.{even_segment}
use Rattle.map_model.proofs.Reasonings.{length-array_in, segment_at-array_in}
use Rattle.map_model.proofs.Recovering.{represents_own}
use Rattle.index_file.specs.Clean.{IsCleanPlace, IsAreaPlace}

-- with one journal the gate is even then
pub even_of_bare : (l : Layout) (file : List ℕ) → (l.version ≡ PAIRED → ⊥) → IsBare l file → gate file ≡ 0
even_of_bare l file single bare = elim (cases_eq (gate file) 1) [
  | inl odd ↦ absurd (single (bare (laid_odd l file odd)).0)
  | inr isnt ↦ omega (arith, isnt)
]

module _ (l : Layout) (old new : List ℕ) (m : Map) (height : ℕ) (is : Represents old m height) (bare : IsBare (layout_in old) old) (layout_is : layout_in old ≡ l) (touched : Touched (λ k. IsCleanPlace k ⊎ IsAreaPlace l k) old new) where
  -- the header page lies before the index
  before : page_size ≤ area_place l
  before = omega (arith, page_before l 2)

  same : (k : ℕ) → (k ≡ 704 → ⊥) → k < area_place l → byte new k ≡ byte old k
  same k other low = touched.rest k (λ there. out there)
    where
      out : (k ≡ 704) ⊎ (area_place l ≤ k) → ⊥
      out (inl at) = other at
      out (inr behind) = omega (arith, behind, low)

  page : (k : ℕ) → k < page_size → (k ≡ 704 → ⊥) → byte new k ≡ byte old k
  page k low other = same k other (omega (arith, low, before))

  behind : (k : ℕ) → 705 ≤ k → k + 4 ≤ page_size → number new k ≡ number old k
  behind k low high = number_same new old k k (λ n x y lt ex ey. let e : x ≡ y = omega (arith, ex, ey) in page x (omega (arith, ex, lt, high)) (λ at. omega (arith, at, ex, low)) ∙ ap (byte old) e)

  pub live_same : live_copy new ≡ live_copy old
  live_same = ap (λ (b : ℕ). b % 2) (page 0 (omega arith) (λ at. omega (arith, at)))

  pub height_same : height_of new ≡ height_of old
  height_same = behind (copy_place (live_copy new)) (omega arith) (omega arith) ∙ ap (λ (c : ℕ). number old (copy_place c)) live_same

  format_same : format_in (live_copy new) new ≡ format_in (live_copy old) old
  format_same = behind (copy_place (live_copy new) + 4) (omega arith) (omega arith) ∙ ap (λ (c : ℕ). number old (copy_place c + 4)) live_same

  pub layout_same : layout_in new ≡ layout_in old
  layout_same = λ t. record { hmax = behind 3084 (omega arith) (omega arith) t; journal = behind 3088 (omega arith) (omega arith) t; version = behind 3080 (omega arith) (omega arith) t; format = format_same t }

  sound : IsSoundHeader new
  sound = sound_same old new is.header touched.size (λ k low high. page k (omega (arith, high)) (λ at. omega (arith, at, low))) (subst (IsFormat (number old 3084)) (sym format_same) is.header.layout.format) (omega (arith, height_same, format_same, is.header.height, is.header.layout.format.room))

  pub still_bare : IsBare (layout_in new) new
  still_bare =
      let first : journal_end (layout_in old) ≤ area_place l = subst (λ (x : Layout). journal_end (layout_in old) ≤ area_place x) layout_is (omega arith) in
      subst (λ (x : Layout). IsBare x new) (sym layout_same)
      (bare_still (layout_in old) old new (page 512 (omega arith) (λ at. omega (arith, at))) (λ k low high. same k (λ at. omega (arith, at, low)) (omega (arith, high, first))) bare)

  pub intent_same : intent_gate new ≡ intent_gate old
  intent_same = ap (λ (b : ℕ). b % 2) (page 640 (omega arith) (λ at. omega (arith, at)))

  -- the live segments stay
  segment_same : (i : ℕ) → i < 2 ^ height → live_segment new i ≡ live_segment old i
  segment_same i lt =
      let tall : 2 ^ height ≤ 2 ^ height_limit (layout_in old) = pow_mono {i = height} {j = height_limit (layout_in old)} (omega (arith, is.height_is, is.header.height)) in
      let low : i < 2 ^ height_limit (layout_in old) = omega (arith, lt, tall) in
      let here : i < 2 ^ height_limit (layout_in new) = subst (λ (x : Layout). i < 2 ^ height_limit x) (sym layout_same) low in
      let at = segment_place (layout_in old) (live_copy old) i in
      let own = segment_size (layout_in old) in
      let end : at + own ≤ length old = omega (arith, is.header.size, segment_within (layout_in old) (live_copy old) i is.header.layout.format (omega arith) low) in
      let area : at + own ≤ area_place l = subst (λ (x : Layout). at + own ≤ area_place x) layout_is (segment_before_area (layout_in old) (live_copy old) i is.header.layout.format (omega arith) low) in
      even_segment new sound (bare_recovered (layout_in new) new still_bare) i here
      ∙ (λ t. slice_range new (segment_place (layout_same t) (live_same t) i) (segment_place (layout_same t) (live_same t) i + segment_size (layout_same t)))
      ∙ range_same old new at (at + own) (omega arith) end (omega (arith, end, touched.size)) (λ k from to. same k (λ e. omega (arith, e, from, page_before (layout_in old) (live_copy old))) (omega (arith, to, area)))
      ∙ sym (even_segment old is.header (bare_recovered (layout_in old) old bare) i low)

  slots_same : slot_format new ≡ slot_format old
  slots_same = ap (λ (x : Layout). x.format) layout_same

  pub array_same : array_in new height ≡ array_in old height
  array_same =
      ext_get_or [] (array_in new height) (array_in old height) (length-array_in new height ∙ sym (length-array_in old height)) (λ i lt.
      let inside : i < 2 ^ height = omega (arith, lt, length-array_in new height) in
      segment_at-array_in new height i inside ∙ (λ t. segment_of (slots_same t) (segment_same i inside t)) ∙ sym (segment_at-array_in old height i inside))

  pub still_represents : Represents new m height
  still_represents = record {
    header = sound;
    height_is = height_same ∙ is.height_is;
    journal = bare_sound (layout_in new) height new still_bare;
    array = is.array;
    size = is.size;
    segments = λ i lt. subst (λ (f : ℕ). IsSegment f (segment_at is.array i) (live_segment new i)) (sym slots_same) (subst (IsSegment (slot_format old) (segment_at is.array i)) (sym (segment_same i lt)) (is.segments i lt));
    rows_are = is.rows_are;
    least_is = is.least_is;
    most_is = is.most_is;
  }

  pub own : Represents new (map_of new) (height_of new)
  own = represents_own new m height still_represents

  -- the array of the height that each names
  pub array_of-same : array_of new ≡ array_of old
  array_of-same = ap (array_in new) (height_same ∙ is.height_is) ∙ array_same ∙ ap (array_in old) (sym is.height_is)
