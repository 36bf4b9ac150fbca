-- Files that differ in the clean gate alone: an opening makes the same of them.
use Rattle.std.proofs.Common.{◌≡◌, inl, inr, ℕ, ◌+◌, ◌-◌, ◌*◌, ◌^◌, ◌%◌, ◌≤◌, ◌&&◌, nat_le, nat_lt, cond, List, [], length, take, drop, length-drop, get_or-drop, sym, ap, subst, ◌∙◌, arith, Some, None}
use Rattle.std.specs.Prelude.{◌==◌, ◌||◌, not}
use Rattle.std.specs.FinMap.{from_sorted}
use Rattle.std.proofs.lemmas.Bool.{cases_lt}
use Rattle.std.proofs.lemmas.List.{ext_get_or, get_or_past}
use Rattle.station.specs.Bytes.{byte, Touched}
use Rattle.density_rule.specs.Marks.{no_marks}
use Rattle.header_gate.specs.declared.layout.Layout.{Layout}
use Rattle.header_gate.specs.declared.layout.TheConstants.{INTENT_VERSION, PAIRED}
use Rattle.header_gate.specs.declared.reason.Reason.TheVariants.{Length}
use Rattle.header_gate.specs.InPlace.{IsBare}
use Rattle.header_gate.specs.Header.{number, gate, intent_gate, live_copy, layout_in, height_in, format_in, segment_in}
use Rattle.header_gate.specs.Places.{page_size, table_place, image_place, region_place, segment_place, segment_size, copy_place, height_limit, pages_at, journal_shift}
use Rattle.header_gate.specs.Reasons.{copy_reason, header_reason, identity_reason, or_else}
use Rattle.header_gate.specs.Recovered.{is_journal, journal_reason, laid_byte, live_shift, live_table, names_some, numbers_at, recovered, recovered_byte, table_reason}
use Rattle.header_gate.proofs.Journals.{bare_still}
use Rattle.header_gate.proofs.NumberLaws.{number_same}
use Rattle.header_gate.proofs.Recoveries.{table_same}
use Rattle.header_gate.proofs.RecoveredBytes.{byte-recovered, length-recovered}
use Rattle.header_gate.proofs.RecoveredPages.{page_before}
use Rattle.map_model.specs.Array.{Array, rows}
use Rattle.map_model.specs.ArrayState.{next_states, opened_state}
use Rattle.map_model.specs.Batches.{IsUnnamed}
use Rattle.map_model.specs.Holding.{IsBalancedArray}
use Rattle.map_model.specs.Image.{Represents, array_from, array_in, array_of, height_of, live_segment, map_of}
use Rattle.map_model.specs.Items.{first_full}
use Rattle.map_model.specs.FileReasons.{array_reason, reason_of}
use Rattle.map_model.specs.Repairing.{repair}
use Rattle.map_model.specs.Store.{Map}
use Rattle.map_model.proofs.Reasonings.{represents_of_none, none_of_represents}
use Rattle.map_model.proofs.Unnamed.{unnamed_represents}
use Rattle.batch_intent.specs.declared.places.TheConstants.{INTENT}
use Rattle.batch_intent.specs.Gate.{form_reason, has_intent, intent_area, reason_at}
use Rattle.batch_intent.specs.IntentReasons.{wrong_place}
use Rattle.batch_intent.specs.Means.{Means, full_reason, fullness_reason, has_waiting, opened_items_state, opening_reason, waiting}
use Rattle.batch_intent.specs.Spelling.{Spells, items_in}
use Rattle.batch_intent.proofs.Gates.{area_same}
use Rattle.recovery.specs.OpeningCosts.{opening_cost}
use Rattle.pma_store.specs.Costing.{updates_cost}
use Rattle.pma_store.specs.Opens.{IsAllAtRest}
use Rattle.index_file.specs.Clean.{IsCleanPlace}
use Rattle.command_text.specs.declared.command.Command.TheVariants.{Batch}
use Rattle.pma_engine.specs.CommandCosts.{most_of_one}
use Rattle.pma_engine.specs.RunOpening.{waiting_cost}

-- ranges that begin behind the header page
range_behind : (old new : List ℕ) (at n : ℕ) → page_size ≤ at → Touched IsCleanPlace old new → take n (drop at new) ≡ take n (drop at old)
range_behind old new at n behind touched =
    ap (take n)
    (ext_get_or 0 (drop at new) (drop at old) (length-drop at new ∙ ap (λ (k : ℕ). k - at) touched.size ∙ sym (length-drop at old))
    (λ i lt. get_or-drop at new i 0 ∙ touched.rest (at + i) (λ here. omega (arith, here, behind)) ∙ sym (get_or-drop at old i 0)))

module _ (old new : List ℕ) (touched : Touched IsCleanPlace old new) where
  same : (k : ℕ) → (k ≡ 704 → ⊥) → byte new k ≡ byte old k
  same k other = touched.rest k other

  behind : (k : ℕ) → 705 ≤ k → number new k ≡ number old k
  behind k low = number_same new old k k (λ n x y lt ex ey. let e : x ≡ y = omega (arith, ex, ey) in same x (λ at. omega (arith, at, ex, low)) ∙ ap (byte old) e)

  pub live_same : live_copy new ≡ live_copy old
  live_same = ap (λ (b : ℕ). b % 2) (same 0 (λ at. omega (arith, at)))

  pub gate_same : gate new ≡ gate old
  gate_same = ap (λ (b : ℕ). b % 2) (same 512 (λ at. omega (arith, at)))

  intent_same : intent_gate new ≡ intent_gate old
  intent_same = ap (λ (b : ℕ). b % 2) (same 640 (λ at. omega (arith, at)))

  pub height_same : height_of new ≡ height_of old
  height_same = behind (copy_place (live_copy new)) (omega arith) ∙ ap (λ (c : ℕ). height_in c old) live_same

  format_same : format_in (live_copy new) new ≡ format_in (live_copy old) old
  format_same = behind (copy_place (live_copy new) + 4) (omega arith) ∙ ap (λ (c : ℕ). format_in c old) live_same

  pub layout_same : layout_in new ≡ layout_in old
  layout_same t = record { hmax = behind 3084 (omega arith) t; journal = behind 3088 (omega arith) t; version = behind 3080 (omega arith) t; format = format_same t }

  pub header_same : header_reason new ≡ header_reason old
  unfolding header_reason
  header_same t =
      cond (nat_lt (touched.size t) page_size) (Some (Length (touched.size t)))
      (or_else (identity_reason (behind 3072 (omega arith) t) (behind 3076 (omega arith) t) (behind 3080 (omega arith) t) (behind 3084 (omega arith) t) (behind 3088 (omega arith) t))
      (copy_reason (touched.size t) (layout_same t) (live_same t) (height_same t) (format_same t)))

  -- The recovered image.

  shift_same : (l : Layout) → live_shift l new ≡ live_shift l old
  shift_same l = ap (journal_shift l) gate_same

  numbers_same : (l : Layout) → live_table l new ≡ live_table l old
  numbers_same l =
      let start = table_place + live_shift l old in
      ap (λ (n : ℕ). numbers_at (table_place + n) new) (shift_same l)
      ∙ table_same new old start (start + 4 + 4 * length (live_table l old)) (λ k low high. same k (λ at. omega (arith, at, low))) (omega arith)

  image_same : (l : Layout) (k o : ℕ) → byte new (image_place l k + live_shift l new + o) ≡ byte old (image_place l k + live_shift l old + o)
  image_same l k o = ap (λ (n : ℕ). byte new (image_place l k + n + o)) (shift_same l) ∙ same (image_place l k + live_shift l old + o) (λ at. omega (arith, at))

  byte_same : (l : Layout) (p : ℕ) → (p ≡ 704 → ⊥) → recovered_byte l new p ≡ recovered_byte l old p
  byte_same l p other t =
      cond (is_journal l p) 0
      (cond ((l.version == PAIRED) || (gate_same t == 1))
      (laid_byte (region_place l (live_same t)) (λ k o. image_same l k o t) (same p other t) p 0 (numbers_same l t))
      (same p other t))

  pub recovered_touched : (l : Layout) → Touched IsCleanPlace (recovered l old) (recovered l new)
  recovered_touched l = record {
    size = length-recovered l new ∙ touched.size ∙ sym (length-recovered l old);
    rest = λ p out. elim (cases_lt p (length old)) [
      | inl lt ↦ byte-recovered l new p (omega (arith, lt, touched.size)) ∙ byte_same l p out ∙ sym (byte-recovered l old p lt)
      | inr past ↦ get_or_past (recovered l new) p 0 (omega (arith, past, touched.size, length-recovered l new)) ∙ sym (get_or_past (recovered l old) p 0 (omega (arith, past, length-recovered l old)))
    ];
  }

  -- The live segments.

  segment_same : (i : ℕ) → live_segment new i ≡ live_segment old i
  unfolding segment_in
  segment_same i =
      let l = layout_in old in
      let now = recovered l new in
      let was = recovered l old in
      let live : live_copy now ≡ live_copy was = ap (λ (b : ℕ). b % 2) ((recovered_touched l).rest 0 (λ at. omega (arith, at))) in
      let at = segment_place l (live_copy was) i in
      ap (λ (x : Layout). segment_in x (recovered x new) i) layout_same
      ∙ ap (λ (c : ℕ). take (segment_place l c i + segment_size l - segment_place l c i) (drop (segment_place l c i) now)) live
      ∙ range_behind was now at (at + segment_size l - at) (omega (arith, page_before l (live_copy was))) (recovered_touched l)

  segments_same : live_segment new ≡ live_segment old
  segments_same t i = segment_same i t

  pub array_at : (height : ℕ) → array_in new height ≡ array_in old height
  unfolding array_in
  array_at height t = array_from ((layout_same t).format) (segments_same t) (2 ^ height)

  pub array_same : array_of new ≡ array_of old
  array_same = ap (array_in new) height_same ∙ array_at (height_of old)

  pub map_same : map_of new ≡ map_of old
  unfolding map_of
  map_same = ap (λ (a : Array). from_sorted (rows a)) array_same

  -- The journal that its gate names.

  start_same : live_shift (layout_in new) new ≡ live_shift (layout_in old) old
  start_same t = journal_shift (layout_same t) (gate_same t)

  count_same : number new (table_place + live_shift (layout_in new) new) ≡ number old (table_place + live_shift (layout_in old) old)
  count_same = ap (λ (n : ℕ). number new (table_place + n)) start_same ∙ behind (table_place + live_shift (layout_in old) old) (omega arith)

  pub live_table_same : live_table (layout_in new) new ≡ live_table (layout_in old) old
  live_table_same = ap (λ (l : Layout). live_table l new) layout_same ∙ numbers_same (layout_in old)

  pub names_same : names_some (layout_in new) new ≡ names_some (layout_in old) old
  names_same t = (((layout_same t).version == PAIRED) || (gate_same t == 1)) && not (((layout_same t).version == PAIRED) && (count_same t == 0))

  -- The reasons against the file.

  journal_same : journal_reason (layout_in new) (height_of new) new ≡ journal_reason (layout_in old) (height_of old) old
  unfolding journal_reason
  journal_same t =
      cond (names_same t) (table_reason (table_place + start_same t) ((layout_same t).journal) (pages_at (layout_same t) (height_same t)) (count_same t) (live_table_same t)) None

  reason_same : reason_of new ≡ reason_of old
  unfolding reason_of
  reason_same t = or_else (header_same t) (or_else (journal_same t) (array_reason ((layout_same t).format) (segments_same t) (height_same t)))

  -- The intent.

  pub has_same : has_waiting new ≡ has_waiting old
  has_same t = nat_le INTENT_VERSION ((layout_same t).version) && (intent_same t == 1)

  intent_area_same : intent_area new ≡ intent_area old
  intent_area_same = area_same old new (λ k lt. same (INTENT + k) (λ at. omega (arith, at)))

  pub waiting_same : waiting new ≡ waiting old
  unfolding waiting
  waiting_same t = cond (has_same t) (items_in (intent_area_same t)) []

  form_same : form_reason (layout_in new) new ≡ form_reason (layout_in old) old
  form_same t = cond (has_same t) (reason_at (wrong_place ((layout_same t).format) (intent_area_same t))) None

  full_same : fullness_reason new ≡ fullness_reason old
  full_same t = full_reason (intent_area_same t) (first_full (height_limit (layout_same t)) (map_same t) (waiting_same t))

  pub opening_same : opening_reason new ≡ opening_reason old
  unfolding opening_reason
  opening_same t = or_else (reason_same t) (or_else (form_same t) (full_same t))

  -- What an opening makes of it.

  pub first_same : opened_state new ≡ opened_state old
  first_same t = record { map = map_same t; height = height_same t; array = repair (height_same t) (array_same t); marks = no_marks (height_same t) }

  pub state_same : opened_items_state new ≡ opened_items_state old
  state_same t = next_states (height_limit (layout_same t)) (first_same t) (waiting_same t)

  pub cost_same : opening_cost (layout_in new) + waiting_cost new ≡ opening_cost (layout_in old) + waiting_cost old
  cost_same t = opening_cost (layout_same t) + cond (has_same t) (updates_cost (layout_same t) (first_same t) (waiting_same t) + 1 + most_of_one (layout_same t) (Batch (waiting_same t))) 0

  -- no page is to be replayed over the live region
  pub bare_same : IsBare (layout_in old) old → IsBare (layout_in new) new
  bare_same bare = subst (λ (l : Layout). IsBare l new) (sym layout_same) (bare_still (layout_in old) old new (same 512 (λ at. omega (arith, at))) (λ k low high. same k (λ at. omega (arith, at, low))) bare)

  pub rests : IsAllAtRest old → IsAllAtRest new
  rests rest = record {
    rest = record {
      bare = bare_same rest.rest.bare;
      balanced = λ is. subst (λ (x : ℕ × Array). IsBalancedArray x.0 x.1) (λ t. (sym height_same t, sym array_same t)) (rest.rest.balanced (height_of old, represents_of_none old (sym reason_same ∙ none_of_represents new (map_of new) is.0 is.1)));
    };
    no_intent = has_same ∙ rest.no_intent;
  }

  -- What it means.

  pub clean_unnamed : Touched IsUnnamed old new
  clean_unnamed = record {
    size = touched.size;
    rest = λ k out. touched.rest k (λ is. out (record {
      on_page = omega (arith, is);
      selector = λ e. omega (arith, e, is);
      gate = λ e. omega (arith, e, is);
      copy = λ copy small r. omega (arith, r.0, is);
      identity = λ r. omega (arith, r.0, is);
    }));
  }

  pub represents_same : (m : Map) (height : ℕ) → Represents old m height → Represents new m height
  represents_same m height is = unnamed_represents old new m height is clean_unnamed

  pub map_meant : {l : Layout} (m : Map) → Means l old m → Means l new m
  map_meant {l} m means =
      let same : has_intent l new ≡ has_intent l old = λ t. nat_le INTENT_VERSION l.version && (intent_same t == 1) in
      record {
        layout_is = layout_same ∙ means.layout_is;
        height = means.height;
        base = means.base;
        items = means.items;
        represents = represents_same means.base means.height means.represents;
        idle = λ none. means.idle (sym same ∙ none);
        form = λ some. subst (Spells l.format means.items) (sym intent_area_same) (means.form (sym same ∙ some));
        admitted = means.admitted;
        begins = means.begins;
        begins_is = means.begins_is;
        map_is = means.map_is;
      }
