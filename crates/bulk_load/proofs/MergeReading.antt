-- What comes of merge lines that are read one at a time is what they are as a merge text.
use Rattle.std.proofs.Common.{rules, ◌≡◌, ℕ, zero, suc, ◌+◌, ◌^◌, ◌<◌, ◌≤◌, nat_lt, ◌&&◌, ◌==◌, not, Bool, true, false, cond, List, [], ◌∷◌, ◌++◌, length, map, All, Option, Some, None, refl, sym, ap, subst, ◌∙◌, arith, append_assoc}
use Rattle.std.specs.List.{cons_option}
use Rattle.std.proofs.lemmas.Bool.{lt-ltb, le-ltb}
use Rattle.std.proofs.lemmas.Bool.Decides.{nat_tests}
use Rattle.std.proofs.lemmas.List.{append-nil, length-append, map-append}
use Rattle.std.proofs.lemmas.List.Elements.{All-append, filter_map-append}
use Rattle.key_slot.specs.Record.{Bytes, Record, IsAscending}
use Rattle.map_model.specs.FileReasons.{last_key, begins_above}
use Rattle.map_model.specs.Store.{Update, bind, unbind}
use Rattle.map_model.proofs.Ends.{joined, parted}
use Rattle.command_text.specs.Merge.{merge_line_raw}
use Rattle.command_text.specs.declared.merge.MergeLine.{MergeLine}
use Rattle.command_text.specs.declared.merge.MergeLine.TheVariants.{Nothing, Bind, Remove, End, Bad}
use Rattle.bulk_load.specs.MergeText.{edit_of_line, edits_in, IsEdit, mark_of, AreAscending, IsMergeText, front_rows}
use Rattle.bulk_load.specs.MergeLines.{Merging, reads, wrong, full, may_follow, after_edit, after_merge_line, merge_step, merge_from, merging}
use Rattle.bulk_load.proofs.MergeLaws.{front_longer}

-- Answers apart.

abbrev edits_of : Merging → List Update
edits_of (reads edits ended) = edits
edits_of (wrong n) = []
edits_of full = []

abbrev ended_of : Merging → Bool
ended_of (reads edits ended) = ended
ended_of (wrong n) = false
ended_of full = false

abbrev pub number_of : Merging → ℕ
number_of (reads edits ended) = 0
number_of (wrong n) = suc n
number_of full = 0

abbrev kind_of : Merging → ℕ
kind_of (reads edits ended) = 0
kind_of (wrong n) = 1
kind_of full = 2

pub no_wrong : {n : ℕ} {edits : List Update} {ended : Bool} → wrong n ≡ reads edits ended → ⊥
no_wrong e = let k : 1 ≡ 0 = ap kind_of e in omega (arith, k)

pub no_full : {edits : List Update} {ended : Bool} → full ≡ reads edits ended → ⊥
no_full e = let k : 2 ≡ 0 = ap kind_of e in omega (arith, k)

pub full_no_wrong : {n : ℕ} → full ≡ wrong n → ⊥
full_no_wrong e = let k : 2 ≡ 1 = ap kind_of e in omega (arith, k)

pub same_edits : {edits now : List Update} {ended is : Bool} → reads edits ended ≡ reads now is → edits ≡ now
same_edits e = ap edits_of e

pub same_end : {edits now : List Update} {ended is : Bool} → reads edits ended ≡ reads now is → ended ≡ is
same_end e = ap ended_of e

-- Where reading stopped it stays stopped.

pub stays_wrong : (format most : ℕ) (rows : List Record) (k n : ℕ) (lines : List (List ℕ)) → merge_from format most rows k (wrong n) lines ≡ wrong n
stays_wrong format most rows k n [] = refl
stays_wrong format most rows k n (raw ∷ lines) = stays_wrong format most rows (k + 1) n lines

pub stays_full : (format most : ℕ) (rows : List Record) (k : ℕ) (lines : List (List ℕ)) → merge_from format most rows k full lines ≡ full
stays_full format most rows k [] = refl
stays_full format most rows k (raw ∷ lines) = stays_full format most rows (k + 1) lines

-- Lines that are put together.

from_append : (format most : ℕ) (rows : List Record) (k : ℕ) (s : Merging) (xs ys : List (List ℕ)) → merge_from format most rows k s (xs ++ ys) ≡ merge_from format most rows (k + length xs) (merge_from format most rows k s xs) ys
from_append format most rows k s [] ys = ap (λ (n : ℕ). merge_from format most rows n s ys) (omega arith)
from_append format most rows k s (raw ∷ xs) ys =
    from_append format most rows (k + 1) (merge_step format most rows k s raw) xs ys
    ∙ ap (λ (n : ℕ). merge_from format most rows n (merge_from format most rows (k + 1) (merge_step format most rows k s raw) xs) ys) (omega arith)

pub merging_append : (format most : ℕ) (rows : List Record) (xs ys : List (List ℕ)) → merging format most rows (xs ++ ys) ≡ merge_from format most rows (1 + length xs) (merging format most rows xs) ys
merging_append format most rows xs ys = from_append format most rows 1 (reads [] false) xs ys

-- What was read, as a text or the beginning of one.

pub record AreEdits (format : ℕ) (lines : List (List ℕ)) (edits : List Update) : Type 0 where
  pub entries : All (λ raw. IsEdit (merge_line_raw format raw)) lines
  pub edits_are : edits_in format lines ≡ edits
  pub ascending : AreAscending edits
  pub few : length edits < 2 ^ 32

abbrev pub Reads : ℕ → List (List ℕ) → List Update → Bool → Type 0
Reads format lines edits true = IsMergeText format lines edits
Reads format lines edits false = AreEdits format lines edits

one : (P : List ℕ → Type 0) (raw : List ℕ) → P raw → All P (raw ∷ [])
one P raw is zero d lt = is
one P raw is (suc k) d lt = absurd (omega arith)

pub none : (P : List ℕ → Type 0) → All P []
none P k d lt = absurd (omega arith)

-- what a test of both tells
pub follows : (edits : List Update) (u : Update) → may_follow edits u ≡ true → (length edits + 1 < 2 ^ 32) × (begins_above (last_key (map mark_of edits)) (mark_of u ∷ []) ≡ true)
follows edits u e = by (nat_lt (length edits + 1) (2 ^ 32)) (begins_above (last_key (map mark_of edits)) (mark_of u ∷ [])) refl refl e
  where
    lt_of : (a b : ℕ) → nat_lt a b ≡ true → a < b
    lt_of a b h = grind (arith, nat_tests)

    by : (small above : Bool) → nat_lt (length edits + 1) (2 ^ 32) ≡ small → begins_above (last_key (map mark_of edits)) (mark_of u ∷ []) ≡ above → (small && above) ≡ true
        → (length edits + 1 < 2 ^ 32) × (begins_above (last_key (map mark_of edits)) (mark_of u ∷ []) ≡ true)
    by true above s a h = (lt_of (length edits + 1) (2 ^ 32) s, a ∙ h)
    by false above s a h = absurd cc

pub marks_more : (edits : List Update) (u : Update) → map mark_of (edits ++ u ∷ []) ≡ map mark_of edits ++ mark_of u ∷ []
marks_more edits u = map-append mark_of edits (u ∷ [])

module _ (format : ℕ) (lines : List (List ℕ)) (raw : List ℕ) (edits : List Update) where
  edits_more : (line : MergeLine) → merge_line_raw format raw ≡ line → edits_in format (lines ++ raw ∷ []) ≡ edits_in format lines ++ cons_option (edit_of_line line) []
  edits_more line is =
      filter_map-append (λ r. edit_of_line (merge_line_raw format r)) lines (raw ∷ [])
      ∙ ap (λ (l : MergeLine). edits_in format lines ++ cons_option (edit_of_line l) []) is

  skipped : merge_line_raw format raw ≡ Nothing → (ended : Bool) → Reads format lines edits ended → Reads format (lines ++ raw ∷ []) edits ended
  skipped is false so = record {
    entries = All-append (λ r. IsEdit (merge_line_raw format r)) lines (raw ∷ []) so.entries (one (λ r. IsEdit (merge_line_raw format r)) raw (subst IsEdit (sym is) (record {})));
    edits_are = edits_more Nothing is ∙ append-nil (edits_in format lines) ∙ so.edits_are;
    ascending = so.ascending;
    few = so.few;
  }
  skipped is true so = record {
    front = so.front;
    last = so.last;
    behind = so.behind ++ raw ∷ [];
    lines_are = ap (λ (l : List (List ℕ)). l ++ raw ∷ []) so.lines_are ∙ append_assoc so.front (so.last ∷ so.behind) (raw ∷ []);
    front_is = so.front_is;
    end_is = so.end_is;
    behind_is = All-append (λ r. merge_line_raw format r ≡ Nothing) so.behind (raw ∷ []) so.behind_is (one (λ r. merge_line_raw format r ≡ Nothing) raw is);
    edits_are = so.edits_are;
    ascending = so.ascending;
    few = so.few;
  }

  pub taken : (u : Update) (line : MergeLine) → merge_line_raw format raw ≡ line → edit_of_line line ≡ Some u → IsEdit line → may_follow edits u ≡ true → AreEdits format lines edits
      → AreEdits format (lines ++ raw ∷ []) (edits ++ u ∷ [])
  taken u line is u_is entry goes so = record {
    entries = All-append (λ r. IsEdit (merge_line_raw format r)) lines (raw ∷ []) so.entries (one (λ r. IsEdit (merge_line_raw format r)) raw (subst IsEdit (sym is) entry));
    edits_are = edits_more line is ∙ ap (λ (o : Option Update). edits_in format lines ++ cons_option o []) u_is ∙ ap (λ (l : List Update). l ++ u ∷ []) so.edits_are;
    ascending = subst IsAscending (sym (marks_more edits u)) (joined (map mark_of edits) (mark_of u ∷ []) so.ascending tt (follows edits u goes).1);
    few = omega (arith, (follows edits u goes).0, length-append edits (u ∷ []));
  }

  pub ended_by : merge_line_raw format raw ≡ End (length edits) → AreEdits format lines edits → IsMergeText format (lines ++ raw ∷ []) edits
  ended_by is so = record {
    front = lines;
    last = raw;
    behind = [];
    lines_are = refl;
    front_is = so.entries;
    end_is = is;
    behind_is = none (λ r. merge_line_raw format r ≡ Nothing);
    edits_are = so.edits_are;
    ascending = so.ascending;
    few = so.few;
  }

-- One line.

module _ (format most : ℕ) (rows : List Record) (k : ℕ) (lines : List (List ℕ)) (raw : List ℕ) (edits now : List Update) (is_ended : Bool) where
  by_edit : (u : Update) (line : MergeLine) → merge_line_raw format raw ≡ line → edit_of_line line ≡ Some u → IsEdit line → AreEdits format lines edits → (goes fills : Bool) → may_follow edits u ≡ goes
      → cond (not goes) (wrong k) (cond fills full (reads (edits ++ u ∷ []) false)) ≡ reads now is_ended → Reads format (lines ++ raw ∷ []) now is_ended
  by_edit u line is u_is entry so false fills goes_is e = absurd (no_wrong e)
  by_edit u line is u_is entry so true true goes_is e = absurd (no_full e)
  by_edit u line is u_is entry so true false goes_is e =
      subst (Reads format (lines ++ raw ∷ []) now) (same_end e) (subst (AreEdits format (lines ++ raw ∷ [])) (same_edits e) (taken format lines raw edits u line is u_is entry goes_is so))

  by_end : (n : ℕ) → merge_line_raw format raw ≡ End n → AreEdits format lines edits → (same : Bool) → (n == length edits) ≡ same → cond same (reads edits true) (wrong k) ≡ reads now is_ended
      → Reads format (lines ++ raw ∷ []) now is_ended
  by_end n is so false same e = absurd (no_wrong e)
  by_end n is so true same e =
      let n_is : n ≡ length edits = eq_of n (length edits) same in
      subst (Reads format (lines ++ raw ∷ []) now) (same_end e) (subst (IsMergeText format (lines ++ raw ∷ [])) (same_edits e) (ended_by format lines raw edits (is ∙ ap End n_is) so))
    where
      eq_of : (a b : ℕ) → (a == b) ≡ true → a ≡ b
      eq_of a b h = grind (arith, nat_tests)

  by_line : (line : MergeLine) → merge_line_raw format raw ≡ line → (ended : Bool) → Reads format lines edits ended → after_merge_line most rows k edits ended line ≡ reads now is_ended → Reads format (lines ++ raw ∷ []) now is_ended
  by_line Nothing is false so e = subst (Reads format (lines ++ raw ∷ []) now) (same_end e) (subst (AreEdits format (lines ++ raw ∷ [])) (same_edits e) (skipped format lines raw edits is false so))
  by_line Nothing is true so e = subst (Reads format (lines ++ raw ∷ []) now) (same_end e) (subst (IsMergeText format (lines ++ raw ∷ [])) (same_edits e) (skipped format lines raw edits is true so))
  by_line (Bind row) is false so e = let u = bind row.key row.value in by_edit u (Bind row) is refl (record {}) so (may_follow edits u) (nat_lt most (length (front_rows (edits ++ u ∷ []) rows))) refl e
  by_line (Bind row) is true so e = absurd (no_wrong e)
  by_line (Remove key) is false so e = let u = unbind key in by_edit u (Remove key) is refl (record {}) so (may_follow edits u) (nat_lt most (length (front_rows (edits ++ u ∷ []) rows))) refl e
  by_line (Remove key) is true so e = absurd (no_wrong e)
  by_line (End n) is false so e = by_end n is so (n == length edits) refl e
  by_line (End n) is true so e = absurd (no_wrong e)
  by_line Bad is false so e = absurd (no_wrong e)
  by_line Bad is true so e = absurd (no_wrong e)

-- All lines.

pub reads_all : (format most : ℕ) (rows : List Record) (k : ℕ) (done : List (List ℕ)) (edits now : List Update) (ended is_ended : Bool) (lines : List (List ℕ)) → Reads format done edits ended
    → merge_from format most rows k (reads edits ended) lines ≡ reads now is_ended → Reads format (done ++ lines) now is_ended
reads_all format most rows k done edits now ended is_ended [] so e =
    subst (λ (l : List (List ℕ)). Reads format l now is_ended) (sym (append-nil done)) (subst (Reads format done now) (same_end e) (subst (λ (r : List Update). Reads format done r ended) (same_edits e) so))
reads_all format most rows k done edits now ended is_ended (raw ∷ lines) so e =
    by_step (λ mid mid_ended here f. reads_all format most rows (k + 1) (done ++ raw ∷ []) mid now mid_ended is_ended lines here f) (merge_step format most rows k (reads edits ended) raw) refl
  where
    by_step : ((mid : List Update) (mid_ended : Bool) → Reads format (done ++ raw ∷ []) mid mid_ended → merge_from format most rows (k + 1) (reads mid mid_ended) lines ≡ reads now is_ended → Reads format ((done ++ raw ∷ []) ++ lines) now is_ended)
        → (s : Merging) → merge_step format most rows k (reads edits ended) raw ≡ s → Reads format (done ++ raw ∷ lines) now is_ended
    by_step again (reads mid mid_ended) is =
        let here = by_line format most rows k done raw edits mid mid_ended (merge_line_raw format raw) refl ended so is in
        subst (λ (l : List (List ℕ)). Reads format l now is_ended) (append_assoc done (raw ∷ []) lines)
        (again mid mid_ended here (ap (λ (s : Merging). merge_from format most rows (k + 1) s lines) (sym is) ∙ e))
    by_step again (wrong n) is = absurd (no_wrong (sym (stays_wrong format most rows (k + 1) n lines) ∙ ap (λ (s : Merging). merge_from format most rows (k + 1) s lines) (sym is) ∙ e))
    by_step again full is = absurd (no_full (sym (stays_full format most rows (k + 1) lines) ∙ ap (λ (s : Merging). merge_from format most rows (k + 1) s lines) (sym is) ∙ e))

pub start : (format : ℕ) → Reads format [] [] false
start format = record { entries = none (λ r. IsEdit (merge_line_raw format r)); edits_are = refl; ascending = tt; few = omega arith }

pub text_of : (format most : ℕ) (rows : List Record) (lines : List (List ℕ)) (edits : List Update) → merging format most rows lines ≡ reads edits true → IsMergeText format lines edits
text_of format most rows lines edits e = reads_all format most rows 1 [] [] edits false true lines (start format) e

pub begun_of : (format most : ℕ) (rows : List Record) (lines : List (List ℕ)) (edits : List Update) → merging format most rows lines ≡ reads edits false → AreEdits format lines edits
begun_of format most rows lines edits e = reads_all format most rows 1 [] [] edits false false lines (start format) e

-- And back: what is a text is read whole.

head_above : (key : Option Bytes) (r : Record) (rest : List Record) → begins_above key (r ∷ rest) ≡ true → begins_above key (r ∷ []) ≡ true
head_above None r rest h = refl
head_above (Some key) r rest h = h

may : (edits : List Update) (u : Update) (behind : List Update) → AreAscending (edits ++ u ∷ behind) → length (edits ++ u ∷ behind) < 2 ^ 32 → may_follow edits u ≡ true
may edits u behind up few =
    let up_marks = subst IsAscending (map-append mark_of edits (u ∷ behind)) up in
    let above = head_above (last_key (map mark_of edits)) (mark_of u) (map mark_of behind) (parted (map mark_of edits) (mark_of u ∷ map mark_of behind) up_marks) in
    ap (λ b. b && begins_above (last_key (map mark_of edits)) (mark_of u ∷ [])) (lt-ltb (length edits + 1) (2 ^ 32) (omega (arith, few, length-append edits (u ∷ behind)))) ∙ above

module _ (format most : ℕ) (rows : List Record) where
  -- the outcome of a line with an update
  edit_line : (k : ℕ) (edits : List Update) (line : MergeLine) (u : Update) → edit_of_line line ≡ Some u → IsEdit line → after_merge_line most rows k edits false line ≡ after_edit most rows k edits u
  edit_line k edits Nothing u e entry = cc
  edit_line k edits (Bind row) u e entry = ap (after_edit most rows k edits) (some e)
    where
      some : {a b : Update} → Some a ≡ Some b → a ≡ b
      some e = cc
  edit_line k edits (Remove key) u e entry = ap (after_edit most rows k edits) (some e)
    where
      some : {a b : Update} → Some a ≡ Some b → a ≡ b
      some e = cc
  edit_line k edits (End n) u e entry = absurd entry
  edit_line k edits Bad u e entry = absurd entry

  read_front : (k : ℕ) (edits : List Update) (front : List (List ℕ)) → All (λ raw. IsEdit (merge_line_raw format raw)) front → AreAscending (edits ++ edits_in format front) → length (edits ++ edits_in format front) < 2 ^ 32
      → length (front_rows (edits ++ edits_in format front) rows) ≤ most → merge_from format most rows k (reads edits false) front ≡ reads (edits ++ edits_in format front) false
  read_front k edits [] all up few room = ap (λ (l : List Update). reads l false) (sym (append-nil edits))
  read_front k edits (raw ∷ front) all up few room =
      by (λ next above small fits. read_front (k + 1) next front (λ i d lt. all (suc i) d (omega (arith, lt))) above small fits) (merge_line_raw format raw) refl (all 0 [] (omega arith))
    where
      one_more : ((next : List Update) → AreAscending (next ++ edits_in format front) → length (next ++ edits_in format front) < 2 ^ 32 → length (front_rows (next ++ edits_in format front) rows) ≤ most → merge_from format most rows (k + 1) (reads next false) front ≡ reads (next ++ edits_in format front) false)
          → (line : MergeLine) (u : Update) → merge_line_raw format raw ≡ line → edit_of_line line ≡ Some u → IsEdit line
          → merge_from format most rows k (reads edits false) (raw ∷ front) ≡ reads (edits ++ edits_in format (raw ∷ front)) false
      one_more again line u is u_is entry =
          let rest = edits_in format front in
          let same : edits_in format (raw ∷ front) ≡ u ∷ rest = ap (λ (l : MergeLine). cons_option (edit_of_line l) rest) is ∙ ap (λ (o : Option Update). cons_option o rest) u_is in
          let joint : (edits ++ u ∷ []) ++ rest ≡ edits ++ u ∷ rest = append_assoc edits (u ∷ []) rest in
          let whole = subst (λ (l : List Update). AreAscending (edits ++ l)) same up in
          let all_is : edits ++ edits_in format (raw ∷ front) ≡ (edits ++ u ∷ []) ++ rest = ap (λ (l : List Update). edits ++ l) same ∙ sym joint in
          let small : length ((edits ++ u ∷ []) ++ rest) < 2 ^ 32 = omega (arith, few, ap length all_is) in
          let fits : length (front_rows ((edits ++ u ∷ []) ++ rest) rows) ≤ most = omega (arith, room, ap (λ (l : List Update). length (front_rows l rows)) all_is) in
          let goes = may edits u rest whole (omega (arith, small, ap length joint)) in
          let here : nat_lt most (length (front_rows (edits ++ u ∷ []) rows)) ≡ false = le-ltb most (length (front_rows (edits ++ u ∷ []) rows)) (omega (arith, fits, front_longer (edits ++ u ∷ []) rest rows)) in
          ap (λ (l : MergeLine). merge_from format most rows (k + 1) (after_merge_line most rows k edits false l) front) is
          ∙ ap (λ (s : Merging). merge_from format most rows (k + 1) s front) (edit_line k edits line u u_is entry)
          ∙ ap (λ b. merge_from format most rows (k + 1) (cond (not b) (wrong k) (cond (nat_lt most (length (front_rows (edits ++ u ∷ []) rows))) full (reads (edits ++ u ∷ []) false))) front) goes
          ∙ ap (λ b. merge_from format most rows (k + 1) (cond b full (reads (edits ++ u ∷ []) false)) front) here
          ∙ again (edits ++ u ∷ []) (subst AreAscending (sym joint) whole) small fits
          ∙ ap (λ (l : List Update). reads l false) (sym all_is)

      by : ((next : List Update) → AreAscending (next ++ edits_in format front) → length (next ++ edits_in format front) < 2 ^ 32 → length (front_rows (next ++ edits_in format front) rows) ≤ most → merge_from format most rows (k + 1) (reads next false) front ≡ reads (next ++ edits_in format front) false)
          → (line : MergeLine) → merge_line_raw format raw ≡ line → IsEdit (merge_line_raw format raw) → merge_from format most rows k (reads edits false) (raw ∷ front) ≡ reads (edits ++ edits_in format (raw ∷ front)) false
      by again Nothing is entry =
          let same : edits_in format (raw ∷ front) ≡ edits_in format front = ap (λ (l : MergeLine). cons_option (edit_of_line l) (edits_in format front)) is in
          ap (λ (l : MergeLine). merge_from format most rows (k + 1) (after_merge_line most rows k edits false l) front) is
          ∙ again edits (subst (λ (l : List Update). AreAscending (edits ++ l)) same up) (omega (arith, few, ap (λ (l : List Update). length (edits ++ l)) same)) (omega (arith, room, ap (λ (l : List Update). length (front_rows (edits ++ l) rows)) same))
          ∙ ap (λ (l : List Update). reads (edits ++ l) false) (sym same)
      by again (Bind row) is entry = one_more again (Bind row) (bind row.key row.value) is refl (record {})
      by again (Remove key) is entry = one_more again (Remove key) (unbind key) is refl (record {})
      by again (End n) is entry = absurd (subst IsEdit is entry)
      by again Bad is entry = absurd (subst IsEdit is entry)

  read_behind : (k : ℕ) (edits : List Update) (behind : List (List ℕ)) → All (λ raw. merge_line_raw format raw ≡ Nothing) behind → merge_from format most rows k (reads edits true) behind ≡ reads edits true
  read_behind k edits [] all = refl
  read_behind k edits (raw ∷ behind) all =
      ap (λ (l : MergeLine). merge_from format most rows (k + 1) (after_merge_line most rows k edits true l) behind) (all 0 [] (omega arith)) ∙ read_behind (k + 1) edits behind (λ i d lt. all (suc i) d (omega (arith, lt)))

  pub text_read : (lines : List (List ℕ)) (edits : List Update) → IsMergeText format lines edits → length (front_rows edits rows) ≤ most → merging format most rows lines ≡ reads edits true
  text_read lines edits text room =
      ap (merging format most rows) text.lines_are ∙ merging_append format most rows text.front (text.last ∷ text.behind)
      ∙ ap (λ (s : Merging). merge_from format most rows (1 + length text.front) s (text.last ∷ text.behind))
      (read_front 1 [] text.front text.front_is (subst AreAscending (sym text.edits_are) text.ascending) (omega (arith, text.few, ap length text.edits_are)) (omega (arith, room, ap (λ (l : List Update). length (front_rows l rows)) text.edits_are)) ∙ ap (λ (l : List Update). reads l false) text.edits_are)
      ∙ ap (λ (l : MergeLine). merge_from format most rows (1 + length text.front + 1) (after_merge_line most rows (1 + length text.front) edits false l) text.behind) text.end_is
      ∙ ap (λ b. merge_from format most rows (1 + length text.front + 1) (cond b (reads edits true) (wrong (1 + length text.front))) text.behind) (eq_self (length edits))
      ∙ read_behind (1 + length text.front + 1) edits text.behind text.behind_is
    where
      eq_self : (n : ℕ) → (n == n) ≡ true
      eq_self n = search rules
