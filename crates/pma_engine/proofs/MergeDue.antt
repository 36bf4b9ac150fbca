-- What is due where merge lines are read so far: their updates, and how many records result. And that one refusal is.
use Rattle.std.proofs.Common.{◌≡◌, inl, inr, ℕ, zero, suc, ◌+◌, ◌-◌, ◌<◌, ◌≤◌, nat_lt, ◌==◌, not, Bool, true, false, cond, List, [], ◌∷◌, ◌++◌, length, take, drop, Option, Some, None, refl, sym, ap, subst, ◌∙◌, arith, append_assoc}
use Rattle.std.specs.List.{cons_option}
use Rattle.std.specs.FinMap.{entries}
use Rattle.std.proofs.lemmas.Bool.{lt-ltb, cases_lt}
use Rattle.std.proofs.lemmas.List.{append-nil, take_at, take-append-drop}
use Rattle.std.proofs.lemmas.List.Elements.{filter_map-append}
use Rattle.key_slot.specs.Record.{Record}
use Rattle.map_model.specs.Store.{Map, Update, bind, unbind}
use Rattle.command_text.specs.Merge.{merge_line_raw}
use Rattle.command_text.specs.declared.merge.MergeLine.{MergeLine}
use Rattle.command_text.specs.declared.merge.MergeLine.TheVariants.{Nothing, Bind, Remove, End, Bad}
use Rattle.bulk_load.specs.MergeText.{BeginsMerge, IsMergeText, edit_of_line, edits_in, front_rows}
use Rattle.bulk_load.specs.MergeLines.{Merging, reads, wrong, full, may_follow, after_merge_line, merge_step, merge_from, merging, IsOverfull, IsUnmergedLine}
use Rattle.bulk_load.proofs.DueLaws.{front_of}
use Rattle.bulk_load.proofs.MergeLaws.{front_longer}
use Rattle.bulk_load.proofs.MergeFaults.{first_unmerged, merged_full, own_number, unfinished}
use Rattle.bulk_load.proofs.MergeReading.{no_wrong, no_full, full_no_wrong, number_of, same_edits, stays_full, stays_wrong, text_of}
use Rattle.pma_engine.specs.MergeOutcome.{IsUpdateRefusedAt, MayMergeOn, ResultsInMore}

module _ (format most : ℕ) (rows : List Record) where
  abbrev Few : List Update → Type 0
  Few edits = length (front_rows edits rows) ≤ most

  not_over : (n : ℕ) → nat_lt most n ≡ false → n ≤ most
  not_over n e = elim (cases_lt most n) [ inl less ↦ absurd (apart (sym (lt-ltb most n less) ∙ e)) | inr few ↦ few ]
    where
      apart : true ≡ false → ⊥
      apart e = cc

  -- One line.

  by_edit : (k : ℕ) (edits now : List Update) (is : Bool) (u : Update) (goes fills : Bool) → nat_lt most (length (front_rows (edits ++ u ∷ []) rows)) ≡ fills
      → cond (not goes) (wrong k) (cond fills full (reads (edits ++ u ∷ []) false)) ≡ reads now is → (now ≡ edits ++ u ∷ []) × Few now
  by_edit k edits now is u false fills fills_is e = absurd (no_wrong e)
  by_edit k edits now is u true true fills_is e = absurd (no_full e)
  by_edit k edits now is u true false fills_is e = (sym (same_edits e), subst Few (same_edits e) (not_over (length (front_rows (edits ++ u ∷ []) rows)) fills_is))

  module _ (k : ℕ) (edits now : List Update) (is : Bool) (few : Few edits) where
    same : (ended : Bool) → reads edits ended ≡ reads now is → (now ≡ edits ++ []) × Few now
    same ended e = (sym (same_edits e) ∙ sym (append-nil edits), subst Few (same_edits e) few)

    by_end : (b : Bool) → cond b (reads edits true) (wrong k) ≡ reads now is → (now ≡ edits ++ []) × Few now
    by_end true e = same true e
    by_end false e = absurd (no_wrong e)

    by_line : (ended : Bool) (line : MergeLine) → after_merge_line most rows k edits ended line ≡ reads now is → (now ≡ edits ++ cons_option (edit_of_line line) []) × Few now
    by_line false Nothing e = same false e
    by_line true Nothing e = same true e
    by_line false (Bind row) e = let u = bind row.key row.value in by_edit k edits now is u (may_follow edits u) (nat_lt most (length (front_rows (edits ++ u ∷ []) rows))) refl e
    by_line true (Bind row) e = absurd (no_wrong e)
    by_line false (Remove key) e = let u = unbind key in by_edit k edits now is u (may_follow edits u) (nat_lt most (length (front_rows (edits ++ u ∷ []) rows))) refl e
    by_line true (Remove key) e = absurd (no_wrong e)
    by_line false (End n) e = by_end (n == length edits) e
    by_line true (End n) e = absurd (no_wrong e)
    by_line false Bad e = absurd (no_wrong e)
    by_line true Bad e = absurd (no_wrong e)

  -- All lines.

  behind_one : (edits : List Update) (o : Option Update) (behind : List Update) → (edits ++ cons_option o []) ++ behind ≡ edits ++ cons_option o behind
  behind_one edits None behind = ap (λ (l : List Update). l ++ behind) (append-nil edits)
  behind_one edits (Some u) behind = append_assoc edits (u ∷ []) behind

  read_on : (k : ℕ) (edits now : List Update) (ended is : Bool) (lines : List (List ℕ)) → Few edits → merge_from format most rows k (reads edits ended) lines ≡ reads now is → (now ≡ edits ++ edits_in format lines) × Few now
  read_on k edits now ended is [] few e = same k edits now is few ended e
  read_on k edits now ended is (raw ∷ lines) few e = by (λ mid mid_ended mid_few f. read_on (k + 1) mid now mid_ended is lines mid_few f) (merge_step format most rows k (reads edits ended) raw) refl
    where
      by : ((mid : List Update) (mid_ended : Bool) → Few mid → merge_from format most rows (k + 1) (reads mid mid_ended) lines ≡ reads now is → (now ≡ mid ++ edits_in format lines) × Few now)
          → (s : Merging) → merge_step format most rows k (reads edits ended) raw ≡ s → (now ≡ edits ++ edits_in format (raw ∷ lines)) × Few now
      by again (reads mid mid_ended) step =
          let one = by_line k edits mid mid_ended few ended (merge_line_raw format raw) step in
          let all = again mid mid_ended one.1 (ap (λ (s : Merging). merge_from format most rows (k + 1) s lines) (sym step) ∙ e) in
          (all.0 ∙ ap (λ (l : List Update). l ++ edits_in format lines) one.0 ∙ behind_one edits (edit_of_line (merge_line_raw format raw)) (edits_in format lines), all.1)
      by again (wrong n) step = absurd (no_wrong (sym (stays_wrong format most rows (k + 1) n lines) ∙ ap (λ (s : Merging). merge_from format most rows (k + 1) s lines) (sym step) ∙ e))
      by again full step = absurd (no_full (sym (stays_full format most rows (k + 1) lines) ∙ ap (λ (s : Merging). merge_from format most rows (k + 1) s lines) (sym step) ∙ e))

  -- up to the key of the last update
  few_results : (lines : List (List ℕ)) (edits : List Update) (is : Bool) → merging format most rows lines ≡ reads edits is → Few (edits_in format lines)
  few_results lines edits is e = let read = read_on 1 [] edits false is lines (omega arith) e in subst Few read.0 read.1

  -- The lines before a wrong one.

  pub record Before (k n : ℕ) (edits : List Update) (ended : Bool) (lines : List (List ℕ)) : Type 0 where
    pub count : ℕ
    pub number : n ≡ k + count
    pub now : List Update
    pub is : Bool
    pub reading : merge_from format most rows k (reads edits ended) (take count lines) ≡ reads now is

  before : (k n : ℕ) (edits : List Update) (ended : Bool) (lines : List (List ℕ)) → merge_from format most rows k (reads edits ended) lines ≡ wrong n → Before k n edits ended lines
  before k n edits ended [] e = absurd (no_wrong (sym e))
  before k n edits ended (raw ∷ lines) e = by (λ mid mid_ended f. before (k + 1) n mid mid_ended lines f) (merge_step format most rows k (reads edits ended) raw) refl
    where
      by : ((mid : List Update) (mid_ended : Bool) → merge_from format most rows (k + 1) (reads mid mid_ended) lines ≡ wrong n → Before (k + 1) n mid mid_ended lines)
          → (s : Merging) → merge_step format most rows k (reads edits ended) raw ≡ s → Before k n edits ended (raw ∷ lines)
      by again (reads mid mid_ended) step =
          let there = again mid mid_ended (ap (λ (s : Merging). merge_from format most rows (k + 1) s lines) (sym step) ∙ e) in
          record {
            count = suc there.count;
            number = omega (arith, there.number);
            now = there.now;
            is = there.is;
            reading = ap (λ (s : Merging). merge_from format most rows (k + 1) s (take there.count lines)) step ∙ there.reading;
          }
      by again (wrong m) step =
          let same : wrong m ≡ wrong n = sym (stays_wrong format most rows (k + 1) m lines) ∙ ap (λ (s : Merging). merge_from format most rows (k + 1) s lines) (sym step) ∙ e in
          let one : suc m ≡ suc n = ap number_of same in
          let own : m ≡ k = own_number most rows k m edits ended (merge_line_raw format raw) step in
          record { count = 0; number = omega (arith, one, own); now = edits; is = ended; reading = refl }
      by again full step = absurd (full_no_wrong (sym (stays_full format most rows (k + 1) lines) ∙ ap (λ (s : Merging). merge_from format most rows (k + 1) s lines) (sym step) ∙ e))

-- The refusals that are due.

module _ (format most : ℕ) (m : Map) (lines : List (List ℕ)) where
  abbrev rows : List Record
  rows = entries m

  pub refused_at : (n : ℕ) → IsUnmergedLine format most (entries m) lines n → IsUpdateRefusedAt format most m lines n
  refused_at n (inl is) =
      let front = before format most rows 1 n [] false lines is in
      record {
        why = inl (first_unmerged format most n rows lines is);
        few = subst (λ (d : ℕ). length (front_rows (edits_in format (take d lines)) rows) ≤ most) {x = front.count} {y = n - 1} (omega (arith, front.number)) (few_results format most rows (take front.count lines) front.now front.is front.reading);
      }
  refused_at n (inr is) = record {
    why = inr (unfinished format most rows lines is.0 is.1, is.2);
    few = subst (λ (l : List (List ℕ)). length (front_rows (edits_in format l) rows) ≤ most) (sym all) (few_results format most rows lines is.0 false is.1);
  }
    where
      all : take (n - 1) lines ≡ lines
      all = ap (take (n - 1)) (sym (append-nil lines)) ∙ take_at lines [] (n - 1) (omega (arith, is.2))

  pub results_in_more : IsOverfull format most m lines → ResultsInMore format most m lines
  results_in_more (inl is) = inl (merged_full format most m lines is)
  results_in_more (inr is) = inr (is.0, text_of format most rows lines is.0 is.1, is.2)

  pub may_go_on : (edits : List Update) (ended : Bool) → merging format most (entries m) lines ≡ reads edits ended → MayMergeOn format most m lines
  may_go_on edits true is = record {
    begins = record { behind = []; edits = edits; text = subst (λ (l : List (List ℕ)). IsMergeText format l edits) (sym (append-nil lines)) (text_of format most rows lines edits is) };
    few = few_results format most rows lines edits true is;
  }
  may_go_on edits false is = record { begins = (unfinished format most rows lines edits is).begins; few = few_results format most rows lines edits false is }

  -- No text has both refusals.

  abbrev front : ℕ → List Update
  front k = edits_in format (take k lines)

  front_rises : (k j : ℕ) → k ≤ j → length (front_rows (front k) rows) ≤ length (front_rows (front j) rows)
  front_rises k j le =
      let more = drop k (take j lines) in
      let same : front j ≡ front k ++ edits_in format more = ap (edits_in format) (front_of k j lines le) ∙ filter_map-append (λ raw. edit_of_line (merge_line_raw format raw)) (take k lines) more in
      omega (arith, front_longer (front k) (edits_in format more) rows, ap (λ (l : List Update). length (front_rows l rows)) same)

  begins_front : (some more : List (List ℕ)) → BeginsMerge format (some ++ more) → BeginsMerge format some
  begins_front some more b = record { behind = more ++ b.behind; edits = b.edits; text = subst (λ (l : List (List ℕ)). IsMergeText format l b.edits) (append_assoc some more b.behind) b.text }

  pub exclude : (n : ℕ) → IsUpdateRefusedAt format most m lines n → ResultsInMore format most m lines → ⊥
  exclude n refused (inl over) = elim refused.why [
    | inl first ↦ elim (cases_lt over.n n) [
      | inl before ↦ more_before (omega (arith, before))
      | inr behind ↦ first.wrong (begins_front (take n lines) (drop n (take over.n lines)) (subst (BeginsMerge format) (front_of n over.n lines behind) over.begins))
    ]
    | inr end ↦ more_before (omega (arith, over.there, end.1))
  ]
    where
      more_before : over.n ≤ n - 1 → ⊥
      more_before le = omega (arith, refused.few, over.many, front_rises over.n (n - 1) le)
  exclude n refused (inr is) = elim refused.why [
    | inl first ↦ first.wrong (record { behind = drop n lines; edits = is.0; text = subst (λ (l : List (List ℕ)). IsMergeText format l is.0) (sym (take-append-drop n lines)) is.1 })
    | inr end ↦ end.0.no_text is.0 is.1
  ]
