-- Images that differ beside the live parts, and images that name the other region.
use Rattle.std.proofs.Common.{◌≡◌, ◌⊎◌, inl, inr, ℕ, zero, suc, ◌+◌, ◌-◌, ◌*◌, ◌^◌, ◌<◌, ◌≤◌, List, [], length, slice_range, refl, sym, ap, subst, ◌∙◌, arith}
use Rattle.std.proofs.lemmas.List.{ext_get_or}
use Rattle.std.proofs.Math.Pow.{pow_mono}
use Rattle.station.specs.Bytes.{byte, InRange}
use Rattle.station.proofs.Ranges.{range_same}
use Rattle.key_slot.specs.Segment.{IsSegment, segment_of}
use Rattle.header_gate.specs.declared.layout.Layout.{Layout}
use Rattle.header_gate.specs.Flip.{Flipped, FlipPlaces}
use Rattle.header_gate.specs.Header.{live_copy, layout_in, height_in, format_in, number}
use Rattle.header_gate.specs.InPlace.{IsRecovered, IsBare}
use Rattle.header_gate.specs.Recovered.{IsJournalSound}
use Rattle.header_gate.proofs.Journals.{bare_recovered, bare_sound, bare_still}
use Rattle.header_gate.specs.Places.{IsFormat, segment_size, segment_place, copy_place, table_place, journal_end, file_length, height_limit, page_size}
use Rattle.header_gate.specs.Reasons.{IsSoundHeader}
use Rattle.header_gate.proofs.NumberLaws.{number_same}
use Rattle.header_gate.proofs.RecoveredPages.{page_before}
use Rattle.header_gate.proofs.PagedSegments.{segment_within, page_of_segment, pages_fit}
use Rattle.header_gate.proofs.Soundness.{sound_same, same_length}
use Rattle.map_model.specs.Store.{Map}
use Rattle.map_model.specs.Array.{Array, segment_at}
use Rattle.map_model.specs.Image.{Represents, slot_format, array_in, live_segment}
use Rattle.map_model.specs.Regions.{IsSparePlace, Spares, HoldsArray, region_bytes}
use Rattle.map_model.proofs.ArrayImages.{array_is, represents_array}
use Rattle.map_model.proofs.Headers.{even_segment, within_file}
use Rattle.map_model.proofs.Reasonings.{length-array_in, segment_at-array_in}

-- a part of one region lies in no other
apart : (n r start size k base : ℕ) → r < 2 → start + size ≤ page_size * n → base + page_size * n * r + start ≤ k → k < base + page_size * n * r + start + size → base + page_size * n * (1 - r) ≤ k → k < base + page_size * n * (1 - r) + page_size * n → ⊥
apart n zero start size k base small inside low high from to = omega arith
apart n (suc zero) start size k base small inside low high from to = omega arith
apart n (suc (suc r)) start size k base small inside low high from to = omega arith

-- a segment lies within its region
in_region : (l : Layout) (i : ℕ) → IsFormat l.hmax l.format → i < 2 ^ height_limit l → segment_size l * i + segment_size l ≤ page_size * 2 ^ l.hmax
in_region l i is below =
    let last = page_of_segment l.format (2 ^ height_limit l) i (l.format - 1) below (omega (arith, is.least)) in
    omega (arith, is.least, last, pages_fit l.hmax l.format (height_limit l) is (omega arith))

-- a copy is not the other one
copies_apart : (r k : ℕ) → r < 2 → copy_place r ≤ k → k < copy_place r + 8 → InRange (copy_place (1 - r)) 8 k → ⊥
copies_apart zero k small low high there = omega (arith, there.0, there.1, low, high)
copies_apart (suc zero) k small low high there = omega (arith, there.0, there.1, low, high)
copies_apart (suc (suc r)) k small low high there = omega arith

-- a place of the page that is neither selector nor in a copy
on_page : (l : Layout) (spare k : ℕ) → spare < 2 → 1 ≤ k → k < page_size → (k < 1024) ⊎ (3072 ≤ k) → IsSparePlace l spare k → ⊥
on_page l spare k small low high out (inl first) = omega (arith, first, low)
on_page l spare k small low high (inl below) (inr (inl copy)) = omega (arith, copy.0, below)
on_page l spare k small low high (inr above) (inr (inl copy)) = omega (arith, copy.1, above, small)
on_page l spare k small low high out (inr (inr region)) = omega (arith, region.0, high, page_before l spare)

module _ (l : Layout) (old new : List ℕ) (m : Map) (height : ℕ) (is : Represents old m height) (bare : IsBare l old) (layout_is : layout_in old ≡ l) (spares : Spares l (live_copy old) old new) where
  small : live_copy old < 2
  small = omega arith

  spare_small : 1 - live_copy old < 2
  spare_small = omega arith

  same : (k : ℕ) → (IsSparePlace l (1 - live_copy old) k → ⊥) → byte new k ≡ byte old k
  same = spares.touched.rest

  -- the live copy stays
  in_copy : (k : ℕ) → copy_place (live_copy old) ≤ k → k < copy_place (live_copy old) + 8 → byte new k ≡ byte old k
  in_copy k low high = same k (λ there. spare_not there)
    where
      spare_not : IsSparePlace l (1 - live_copy old) k → ⊥
      spare_not (inl first) = omega (arith, first, low)
      spare_not (inr (inl copy)) = copies_apart (live_copy old) k (omega arith) low high copy
      spare_not (inr (inr region)) = omega (arith, region.0, high, small, page_before l (1 - live_copy old))

  height_same : height_in (live_copy new) new ≡ height_in (live_copy old) old
  height_same =
      ap (λ (c : ℕ). height_in c new) spares.live_is
      ∙ number_same new old (copy_place (live_copy old)) (copy_place (live_copy old)) (λ n x y lt ex ey. let e : x ≡ y = omega arith in in_copy x (omega (arith, ex)) (omega (arith, ex, lt)) ∙ ap (byte old) e)

  format_same : format_in (live_copy new) new ≡ format_in (live_copy old) old
  format_same =
      ap (λ (c : ℕ). format_in c new) spares.live_is
      ∙ number_same new old (copy_place (live_copy old) + 4) (copy_place (live_copy old) + 4) (λ n x y lt ex ey. let e : x ≡ y = omega arith in in_copy x (omega (arith, ex)) (omega (arith, ex, lt)) ∙ ap (byte old) e)

  behind : (k : ℕ) → 3072 ≤ k → k < page_size → byte new k ≡ byte old k
  behind k low high = same k (on_page l (1 - live_copy old) k spare_small (omega (arith, low)) high (inr low))

  numbers : (k : ℕ) → 3072 ≤ k → k + 4 ≤ page_size → number new k ≡ number old k
  numbers k low high = number_same new old k k (λ n x y lt ex ey. let e : x ≡ y = omega arith in behind x (omega (arith, ex, low)) (omega (arith, ex, lt, high)) ∙ ap (byte old) e)

  pub layout_same : layout_in new ≡ layout_in old
  layout_same = λ t. record { hmax = numbers 3084 (omega arith) (omega arith) t; journal = numbers 3088 (omega arith) (omega arith) t; format = format_same t; version = numbers 3080 (omega arith) (omega arith) t }

  sound : IsSoundHeader new
  sound = sound_same old new is.header spares.touched.size (λ k low high. behind k low (omega (arith, high))) (subst (IsFormat (number old 3084)) (sym format_same) is.header.layout.format) (omega (arith, height_same, format_same, is.header.height, is.header.layout.format.room))

  -- the journals stay
  in_journal : (k : ℕ) → table_place ≤ k → k < journal_end l → IsSparePlace l (1 - live_copy old) k → ⊥
  in_journal k low high (inl first) = omega (arith, first, low)
  in_journal k low high (inr (inl copy)) = omega (arith, copy.1, low, spare_small)
  in_journal k low high (inr (inr region)) = omega (arith, region.0, high, page_before l (1 - live_copy old))

  pub still_bare : IsBare l new
  still_bare = bare_still l old new (same 512 (on_page l (1 - live_copy old) 512 spare_small (omega arith) (omega arith) (inl (omega arith)))) (λ k low high. same k (in_journal k low high)) bare

  -- a place of a live segment isn't spare
  not_spare : (i k : ℕ) → i < 2 ^ height_limit l → IsFormat l.hmax l.format → segment_place l (live_copy old) i ≤ k → k < segment_place l (live_copy old) i + segment_size l → IsSparePlace l (1 - live_copy old) k → ⊥
  not_spare i k there format from to (inl first) = omega (arith, first, from, page_before l (live_copy old))
  not_spare i k there format from to (inr (inl copy)) = omega (arith, copy.1, from, page_before l (live_copy old))
  not_spare i k there format from to (inr (inr region)) = apart (2 ^ l.hmax) (live_copy old) (segment_size l * i) (segment_size l) k (journal_end l) (omega arith) (in_region l i format there) from to region.0 region.1

  -- the live segments stay
  segment_same : (i : ℕ) → i < 2 ^ height → live_segment new i ≡ live_segment old i
  segment_same i lt =
      let low : i < 2 ^ height_limit (layout_in old) = omega (arith, lt, pow_mono {i = height} {j = height_limit (layout_in old)} (omega (arith, is.height_is, is.header.height))) in
      let there : i < 2 ^ height_limit l = subst (λ (x : Layout). i < 2 ^ height_limit x) layout_is low in
      let here : i < 2 ^ height_limit (layout_in new) = subst (λ (x : Layout). i < 2 ^ height_limit x) (sym layout_same) low in
      let format : IsFormat l.hmax l.format = subst (λ (x : Layout). IsFormat x.hmax x.format) layout_is is.header.layout.format in
      let at = segment_place (layout_in old) (live_copy old) i in
      let size = segment_size (layout_in old) in
      let end = within_file old is.header i low in
      even_segment new sound (subst (λ (x : Layout). IsRecovered x new) (sym (layout_same ∙ layout_is)) (bare_recovered l new still_bare)) i here
      ∙ (λ t. slice_range new (segment_place (layout_same t) (spares.live_is t) i) (segment_place (layout_same t) (spares.live_is t) i + segment_size (layout_same t)))
      ∙ range_same old new at (at + size) (omega arith) end (omega (arith, end, spares.touched.size)) (λ k from to. same k (λ spare. not_spare i k there format (subst (λ (x : Layout). segment_place x (live_copy old) i ≤ k) layout_is from) (subst (λ (x : Layout). k < segment_place x (live_copy old) i + segment_size x) layout_is to) spare))
      ∙ sym (even_segment old is.header (subst (λ (x : Layout). IsRecovered x old) (sym layout_is) (bare_recovered l old bare)) i low)

  same_format : slot_format new ≡ slot_format old
  same_format = format_same

  pub array_same : array_in new height ≡ array_in old height
  array_same =
      ext_get_or [] (array_in new height) (array_in old height) (length-array_in new height ∙ sym (length-array_in old height)) (λ i lt.
      let inside : i < 2 ^ height = omega (arith, lt, length-array_in new height) in
      segment_at-array_in new height i inside ∙ (λ t. segment_of (same_format t) (segment_same i inside t)) ∙ sym (segment_at-array_in old height i inside))

  pub still_represents : Represents new m height
  still_represents = record {
    header = sound;
    height_is = height_same ∙ is.height_is;
    journal = subst (λ (x : Layout). IsJournalSound x height new) (sym (layout_same ∙ layout_is)) (bare_sound l height new still_bare);
    array = is.array;
    size = is.size;
    segments = λ i lt. subst (λ (f : ℕ). IsSegment f (segment_at is.array i) (live_segment new i)) (sym same_format) (subst (IsSegment (slot_format old) (segment_at is.array i)) (sym (segment_same i lt)) (is.segments i lt));
    rows_are = is.rows_are;
    least_is = is.least_is;
    most_is = is.most_is;
  }

module _ (l : Layout) (copy height : ℕ) (m : Map) (segments : Array) (held new : List ℕ) (copy_in : copy < 2) (holds : HoldsArray l copy height m segments held) (flipped : Flipped copy height l.format held new) where
  kept : (k : ℕ) → (FlipPlaces copy k → ⊥) → byte new k ≡ byte held k
  kept = flipped.touched.rest

  not_flipped : (k : ℕ) → 1 ≤ k → (k < 1024) ⊎ (3072 ≤ k) → FlipPlaces copy k → ⊥
  not_flipped k low out (inl first) = omega (arith, first, low)
  not_flipped k low (inl below) (inr there) = omega (arith, there.0, below)
  not_flipped k low (inr above) (inr there) = omega (arith, there.1, above, copy_in)

  names : (k : ℕ) → 3072 ≤ k → number new k ≡ number held k
  names k low = number_same new held k k (λ n x y lt ex ey. let e : x ≡ y = omega arith in kept x (not_flipped x (omega (arith, ex, low)) (inr (omega (arith, ex, low)))) ∙ ap (byte held) e)

  format_new : format_in (live_copy new) new ≡ l.format
  format_new = ap (λ (c : ℕ). format_in c new) flipped.names ∙ flipped.format_is

  hmax_is : number held 3084 ≡ l.hmax
  hmax_is = ap (λ (x : Layout). x.hmax) holds.layout_is

  -- the file has the layout, once it names the region
  pub layout_new : layout_in new ≡ l
  layout_new = (λ t. record { hmax = names 3084 (omega arith) t; journal = names 3088 (omega arith) t; format = format_new t; version = names 3080 (omega arith) t }) ∙ holds.layout_is

  pub tall : height_in (live_copy new) new ≡ height
  tall = ap (λ (c : ℕ). height_in c new) flipped.names ∙ flipped.height_is

  sound_new : IsSoundHeader new
  sound_new = sound_same held new holds.sound flipped.touched.size (λ k low high. kept k (not_flipped k (omega (arith, low)) (inr low)))
      (subst (λ (n : ℕ). IsFormat n (format_in (live_copy new) new)) (sym hmax_is) (subst (IsFormat l.hmax) (sym format_new) holds.format))
      (omega (arith, tall, format_new, hmax_is, holds.holds.within.height_is, holds.format.room))

  pub flipped_bare : IsBare l new
  flipped_bare = bare_still l held new (kept 512 (not_flipped 512 (omega arith) (inl (omega arith)))) (λ k low high. kept k (not_flipped k (omega (arith, low)) (inr (omega (arith, low))))) holds.bare

  segment_new : (i : ℕ) → i < 2 ^ height → IsSegment (slot_format new) (segment_at segments i) (live_segment new i)
  segment_new i lt =
      let there : i < 2 ^ height_limit l = omega (arith, lt, pow_mono {i = height} {j = height_limit l} holds.holds.within.height_is) in
      let here : i < 2 ^ height_limit (layout_in new) = subst (λ (x : Layout). i < 2 ^ height_limit x) (sym layout_new) there in
      let at = segment_place l copy i in
      let end : at + segment_size l ≤ length held = omega (arith, holds.sound.size, same_length (layout_in held) (record (layout_in held) { format = l.format }) refl refl refl, ap file_length holds.layout_is, segment_within l copy i holds.format copy_in there) in
      let same : live_segment new i ≡ region_bytes l copy i held =
      even_segment new sound_new (subst (λ (x : Layout). IsRecovered x new) (sym layout_new) (bare_recovered l new flipped_bare)) i here
      ∙ (λ t. region_bytes (layout_new t) (flipped.names t) i new)
      ∙ range_same held new at (at + segment_size l) (omega arith) end (omega (arith, end, flipped.touched.size)) (λ k from to. kept k (not_flipped k (omega (arith, from, page_before l copy)) (inr (omega (arith, from, page_before l copy))))) in
      subst (λ (f : ℕ). IsSegment f (segment_at segments i) (live_segment new i)) (sym format_new) (subst (IsSegment l.format (segment_at segments i)) (sym same) (holds.each i lt))

  pub flipped_array : array_in new height ≡ segments
  flipped_array = array_is new (height_limit l) m height segments segment_new holds.holds

  pub flipped_represents : Represents new m height
  flipped_represents = represents_array new (height_limit l) m height segments segment_new holds.holds sound_new tall (subst (λ (x : Layout). IsJournalSound x height new) (sym layout_new) (bare_sound l height new flipped_bare))
