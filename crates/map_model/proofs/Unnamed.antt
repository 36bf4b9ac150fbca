-- Bytes of the header page that the format doesn't name: what a file represents doesn't depend on them.
use Rattle.std.proofs.Common.{◌≡◌, ℕ, ◌+◌, ◌*◌, ◌%◌, ◌^◌, ◌<◌, ◌≤◌, List, length, refl, sym, ◌∙◌, ap, subst, arith, cond}
use Rattle.std.specs.Prelude.{◌==◌, ◌&&◌, ◌||◌, not}
use Rattle.header_gate.specs.declared.layout.TheConstants.{PAIRED}
use Rattle.std.proofs.lemmas.List.{ext_get_or}
use Rattle.std.proofs.Math.Pow.{pow_mono}
use Rattle.key_slot.specs.Segment.{IsSegment}
use Rattle.station.specs.Bytes.{byte, InRange, Touched}
use Rattle.header_gate.specs.declared.layout.Layout.{Layout}
use Rattle.header_gate.specs.Header.{number, gate, live_copy, height_in, format_in, layout_in}
use Rattle.header_gate.specs.Places.{IsFormat, page_size, segment_size, table_place, image_place, journal_shift, region_place, segment_place, copy_place, height_limit, pages_at}
use Rattle.header_gate.specs.Reasons.{IsSoundHeader}
use Rattle.header_gate.specs.Recovered.{IsBatch, laid_byte, is_journal, recovered, recovered_byte, numbers_at, live_shift, live_table, is_laid, names_some}
use Rattle.header_gate.proofs.NumberLaws.{number_same}
use Rattle.header_gate.proofs.Soundness.{sound_same}
use Rattle.header_gate.proofs.Recoveries.{table_same}
use Rattle.header_gate.proofs.RecoveredBytes.{byte-recovered}
use Rattle.header_gate.proofs.RecoveredPages.{page_before}
use Rattle.map_model.specs.Store.{Map}
use Rattle.map_model.specs.Array.{segment_at}
use Rattle.map_model.specs.Image.{Represents, live_segment, slot_format, height_of}
use Rattle.map_model.specs.Batches.{IsUnnamed, KeepsHeader}
use Rattle.map_model.proofs.Headers.{within_file, length-live_segment, byte-live_segment}

module _ (old new : List ℕ) (was : IsSoundHeader old) (touched : Touched IsUnnamed old new) where
  -- what is named stays
  at_identity : (k : ℕ) → 3072 ≤ k → k < 3092 → byte new k ≡ byte old k
  at_identity k low high = touched.rest k (λ un. un.identity (low, high))

  at_copy : (copy k : ℕ) → copy < 2 → InRange (copy_place copy) 8 k → byte new k ≡ byte old k
  at_copy copy k small there = touched.rest k (λ un. un.copy copy small there)

  pub behind : (k : ℕ) → page_size ≤ k → byte new k ≡ byte old k
  behind k high = touched.rest k (λ un. omega (arith, un.on_page, high))

  pub live_same : live_copy new ≡ live_copy old
  live_same = ap (λ (b : ℕ). b % 2) (touched.rest 0 (λ un. un.selector refl))

  pub gate_same : gate new ≡ gate old
  gate_same = ap (λ (b : ℕ). b % 2) (touched.rest 512 (λ un. un.gate refl))

  numbers : (k : ℕ) → 3072 ≤ k → k + 4 ≤ 3092 → number new k ≡ number old k
  numbers k low high = number_same new old k k (λ n x y lt ex ey. let e : x ≡ y = omega arith in at_identity x (omega arith) (omega arith) ∙ ap (byte old) e)

  pub height_same : height_of new ≡ height_of old
  height_same =
      ap (λ (c : ℕ). height_in c new) live_same
      ∙ number_same new old (copy_place (live_copy old)) (copy_place (live_copy old)) (λ n x y lt ex ey. let e : x ≡ y = omega arith in at_copy (live_copy old) x (omega arith) (omega arith, omega arith) ∙ ap (byte old) e)

  pub format_same : format_in (live_copy new) new ≡ format_in (live_copy old) old
  format_same =
      ap (λ (c : ℕ). format_in c new) live_same
      ∙ number_same new old (copy_place (live_copy old) + 4) (copy_place (live_copy old) + 4) (λ n x y lt ex ey. let e : x ≡ y = omega arith in at_copy (live_copy old) x (omega arith) (omega arith, omega arith) ∙ ap (byte old) e)

  pub layout_same : layout_in new ≡ layout_in old
  layout_same t = record { hmax = numbers 3084 (omega arith) (omega arith) t; journal = numbers 3088 (omega arith) (omega arith) t; version = numbers 3080 (omega arith) (omega arith) t; format = format_same t }

  pub sound_new : IsSoundHeader new
  sound_new = sound_same old new was touched.size (λ k low high. at_identity k low high) (subst (IsFormat (number old 3084)) (sym format_same) was.layout.format) (omega (arith, height_same, format_same, was.height, was.layout.format.room))

  pub page_kept : KeepsHeader old new
  page_kept = record { sound = sound_new; layout_is = layout_same; live_is = live_same; height_is = height_same }

  -- so is what the journals say
  pub shift_same : live_shift (layout_in new) new ≡ live_shift (layout_in old) old
  shift_same t = journal_shift (layout_same t) (gate_same t)

  pub laid_same : is_laid (layout_in new) new ≡ is_laid (layout_in old) old
  laid_same t = ((layout_same t).version == PAIRED) || (gate_same t == 1)

  pub count_same : (s : ℕ) → table_place ≤ s → number new s ≡ number old s
  count_same s low = number_same new old s s (λ n x y lt ex ey. let e : x ≡ y = omega arith in behind x (omega arith) ∙ ap (byte old) e)

  pub numbers_same : live_table (layout_in new) new ≡ live_table (layout_in old) old
  numbers_same =
      let start = table_place + live_shift (layout_in old) old in
      ap (λ (s : ℕ). numbers_at (table_place + s) new) shift_same
      ∙ table_same new old start (start + 4 + 4 * length (live_table (layout_in old) old)) (λ k low high. behind k (omega (arith, low))) (omega arith)

  pub named_same : names_some (layout_in new) new ≡ names_some (layout_in old) old
  named_same =
      let start = table_place + live_shift (layout_in old) old in
      ap (λ (s : ℕ). is_laid (layout_in new) new && not (((layout_in new).version == PAIRED) && (number new (table_place + s) == 0))) shift_same
      ∙ (λ t. laid_same t && not (((layout_same t).version == PAIRED) && (count_same start (omega arith) t == 0)))

  -- behind the page the recovered images are the same
  recovered_same : (p : ℕ) → page_size ≤ p → recovered_byte (layout_in new) new p ≡ recovered_byte (layout_in old) old p
  recovered_same p high t =
      cond (is_journal (layout_same t) p) 0
      (cond (laid_same t)
      (laid_byte (region_place (layout_same t) (live_same t)) (λ k o. image_same k o t) (behind p high t) p 0 (numbers_same t))
      (behind p high t))
    where
      image_same : (k o : ℕ) → byte new (image_place (layout_in new) k + live_shift (layout_in new) new + o) ≡ byte old (image_place (layout_in old) k + live_shift (layout_in old) old + o)
      image_same k o = behind (image_place (layout_in new) k + live_shift (layout_in new) new + o) (omega arith) ∙ (λ t. byte old (image_place (layout_same t) k + shift_same t + o))

  -- so are the live segments
  pub segment_same : (i : ℕ) → i < 2 ^ height_limit (layout_in old) → live_segment new i ≡ live_segment old i
  segment_same i below =
      let low : i < 2 ^ height_limit (layout_in new) = subst (λ (l : Layout). i < 2 ^ height_limit l) (sym layout_same) below in
      let long = length-live_segment new sound_new i low in
      ext_get_or 0 (live_segment new i) (live_segment old i) (long ∙ ap (λ (l : Layout). segment_size l) layout_same ∙ sym (length-live_segment old was i below)) (λ o lt.
      let small : o < segment_size (layout_in new) = omega (arith, lt, long) in
      let few : o < segment_size (layout_in old) = subst (λ (l : Layout). o < segment_size l) layout_same small in
      let at = segment_place (layout_in old) (live_copy old) i + o in
      let there : at < length old = omega (arith, within_file old was i below, few) in
      byte-live_segment new (recovered (layout_in new) new) sound_new refl i o small
      ∙ ap (λ (l : Layout). byte (recovered (layout_in new) new) (segment_place l (live_copy new) i + o)) layout_same
      ∙ ap (λ (c : ℕ). byte (recovered (layout_in new) new) (segment_place (layout_in old) c i + o)) live_same
      ∙ byte-recovered (layout_in new) new at (omega (arith, there, touched.size))
      ∙ recovered_same at (omega (arith, page_before (layout_in old) (live_copy old)))
      ∙ sym (byte-recovered (layout_in old) old at there)
      ∙ sym (byte-live_segment old (recovered (layout_in old) old) was refl i o few))

-- the file represents what it did
pub unnamed_represents : (old new : List ℕ) (m : Map) (height : ℕ) → Represents old m height → Touched IsUnnamed old new → Represents new m height
unnamed_represents old new m height is touched =
    let was = is.header in
    let tall : 2 ^ height ≤ 2 ^ height_limit (layout_in old) = pow_mono {i = height} {j = height_limit (layout_in old)} (omega (arith, is.height_is, was.height)) in
    let same = λ (i : ℕ) (lt : i < 2 ^ height). segment_same old new was touched i (omega (arith, lt, tall)) in
    let format : slot_format new ≡ slot_format old = format_same old new was touched in
    record {
      header = sound_new old new was touched;
      height_is = height_same old new was touched ∙ is.height_is;
      journal = λ named.
          let table = subst (IsBatch (layout_in old).journal (pages_at (layout_in old) height)) (sym (numbers_same old new was touched)) (is.journal (sym (named_same old new was touched) ∙ named)) in
          subst (λ (l : Layout). IsBatch l.journal (pages_at l height) (live_table (layout_in new) new)) (sym (layout_same old new was touched)) table;
      array = is.array;
      size = is.size;
      segments = λ i lt. subst (λ (f : ℕ). IsSegment f (segment_at is.array i) (live_segment new i)) (sym format) (subst (IsSegment (slot_format old) (segment_at is.array i)) (sym (same i lt)) (is.segments i lt));
      rows_are = is.rows_are;
      least_is = is.least_is;
      most_is = is.most_is;
    }
