-- What comes of lines that are read one at a time is what they are as a load text.
use Rattle.std.proofs.Common.{rules, ◌≡◌, ℕ, zero, suc, ◌+◌, ◌≤◌, ◌==◌, not, Bool, true, false, cond, List, [], ◌∷◌, ◌++◌, length, All, Option, Some, None, refl, sym, ap, subst, ◌∙◌, arith, append_assoc, ne_eqb}
use Rattle.std.specs.List.{cons_option}
use Rattle.std.proofs.lemmas.Bool.Decides.{nat_tests}
use Rattle.std.proofs.lemmas.List.{append-nil, length-append}
use Rattle.std.proofs.lemmas.List.Elements.{All-append, filter_map-append}
use Rattle.key_slot.specs.Record.{Bytes, Record, IsAscending}
use Rattle.key_slot.specs.Row.{record_of}
use Rattle.key_slot.specs.declared.row.Row.{Row as RowData}
use Rattle.map_model.specs.FileReasons.{last_key, begins_above}
use Rattle.map_model.proofs.Ends.{joined, parted}
use Rattle.command_text.specs.Load.{load_line_raw}
use Rattle.command_text.specs.declared.load.LoadLine.{LoadLine}
use Rattle.command_text.specs.declared.load.LoadLine.TheVariants.{Nothing, Row, End, Bad}
use Rattle.bulk_load.specs.LoadText.{record_of_line, records_in, IsEntry, IsLoadText}
use Rattle.bulk_load.specs.LoadLines.{Loading, reads, wrong, full, after_line, load_step, load_from, loading}
use Rattle.bulk_load.proofs.ReadLaws.{stays_wrong, stays_full, loading_append}

-- Answers apart.

abbrev pub rows_of : Loading → List Record
rows_of (reads rows ended) = rows
rows_of (wrong n) = []
rows_of full = []

abbrev pub ended_of : Loading → Bool
ended_of (reads rows ended) = ended
ended_of (wrong n) = false
ended_of full = false

abbrev pub number_of : Loading → ℕ
number_of (reads rows ended) = 0
number_of (wrong n) = suc n
number_of full = 0

abbrev pub kind_of : Loading → ℕ
kind_of (reads rows ended) = 0
kind_of (wrong n) = 1
kind_of full = 2

pub no_wrong : {n : ℕ} {rows : List Record} {ended : Bool} → wrong n ≡ reads rows ended → ⊥
no_wrong e = let k : 1 ≡ 0 = ap kind_of e in omega (arith, k)

pub no_full : {rows : List Record} {ended : Bool} → full ≡ reads rows ended → ⊥
no_full e = let k : 2 ≡ 0 = ap kind_of e in omega (arith, k)

pub full_no_wrong : {n : ℕ} → full ≡ wrong n → ⊥
full_no_wrong e = let k : 2 ≡ 1 = ap kind_of e in omega (arith, k)

pub same_rows : {rows now : List Record} {ended is : Bool} → reads rows ended ≡ reads now is → rows ≡ now
same_rows e = ap rows_of e

pub same_end : {rows now : List Record} {ended is : Bool} → reads rows ended ≡ reads now is → ended ≡ is
same_end e = ap ended_of e

pub true_false : true ≡ false → ⊥
true_false e = cc

-- What was read, as a text or the beginning of one.

pub record AreEntries (format : ℕ) (lines : List (List ℕ)) (rows : List Record) : Type 0 where
  pub entries : All (λ raw. IsEntry (load_line_raw format raw)) lines
  pub rows_are : records_in format lines ≡ rows
  pub ascending : IsAscending rows

abbrev pub Reads : ℕ → List (List ℕ) → List Record → Bool → Type 0
Reads format lines rows true = IsLoadText format lines rows
Reads format lines rows false = AreEntries format lines rows

one : (P : List ℕ → Type 0) (raw : List ℕ) → P raw → All P (raw ∷ [])
one P raw is zero d lt = is
one P raw is (suc k) d lt = absurd (omega arith)

pub none : (P : List ℕ → Type 0) → All P []
none P k d lt = absurd (omega arith)

records_more : (format : ℕ) (lines : List (List ℕ)) (raw : List ℕ) → records_in format (lines ++ raw ∷ []) ≡ records_in format lines ++ cons_option (record_of_line (load_line_raw format raw)) []
records_more format lines raw = filter_map-append (λ r. record_of_line (load_line_raw format r)) lines (raw ∷ [])

module _ (format : ℕ) (lines : List (List ℕ)) (raw : List ℕ) (rows : List Record) where
  skipped : load_line_raw format raw ≡ Nothing → (ended : Bool) → Reads format lines rows ended → Reads format (lines ++ raw ∷ []) rows ended
  skipped is false so = record {
    entries = All-append (λ r. IsEntry (load_line_raw format r)) lines (raw ∷ []) so.entries (one (λ r. IsEntry (load_line_raw format r)) raw (subst IsEntry (sym is) (record {})));
    rows_are = records_more format lines raw ∙ ap (λ (l : LoadLine). records_in format lines ++ cons_option (record_of_line l) []) is ∙ append-nil (records_in format lines) ∙ so.rows_are;
    ascending = so.ascending;
  }
  skipped is true so = record {
    front = so.front;
    last = so.last;
    behind = so.behind ++ raw ∷ [];
    lines_are = ap (λ (l : List (List ℕ)). l ++ raw ∷ []) so.lines_are ∙ append_assoc so.front (so.last ∷ so.behind) (raw ∷ []);
    front_is = so.front_is;
    end_is = so.end_is;
    behind_is = All-append (λ r. load_line_raw format r ≡ Nothing) so.behind (raw ∷ []) so.behind_is (one (λ r. load_line_raw format r ≡ Nothing) raw is);
    rows_are = so.rows_are;
    ascending = so.ascending;
  }

  pub taken : (row : RowData) → load_line_raw format raw ≡ Row row → begins_above (last_key rows) (record_of row ∷ []) ≡ true → AreEntries format lines rows → AreEntries format (lines ++ raw ∷ []) (rows ++ record_of row ∷ [])
  taken row is above so = record {
    entries = All-append (λ r. IsEntry (load_line_raw format r)) lines (raw ∷ []) so.entries (one (λ r. IsEntry (load_line_raw format r)) raw (subst IsEntry (sym is) (record {})));
    rows_are = records_more format lines raw ∙ ap (λ (l : LoadLine). records_in format lines ++ cons_option (record_of_line l) []) is ∙ ap (λ (l : List Record). l ++ record_of row ∷ []) so.rows_are;
    ascending = joined rows (record_of row ∷ []) so.ascending tt above;
  }

  pub ended_by : load_line_raw format raw ≡ End (length rows) → AreEntries format lines rows → IsLoadText format (lines ++ raw ∷ []) rows
  ended_by is so = record {
    front = lines;
    last = raw;
    behind = [];
    lines_are = refl;
    front_is = so.entries;
    end_is = is;
    behind_is = none (λ r. load_line_raw format r ≡ Nothing);
    rows_are = so.rows_are;
    ascending = so.ascending;
  }

-- One line.

module _ (format most k : ℕ) (lines : List (List ℕ)) (raw : List ℕ) (rows now : List Record) (is_ended : Bool) where
  by_record : (row : RowData) → load_line_raw format raw ≡ Row row → AreEntries format lines rows → (goes fills : Bool) → begins_above (last_key rows) (record_of row ∷ []) ≡ goes
      → cond (not goes) (wrong k) (cond fills full (reads (rows ++ record_of row ∷ []) false)) ≡ reads now is_ended → Reads format (lines ++ raw ∷ []) now is_ended
  by_record row is so false fills above e = absurd (no_wrong e)
  by_record row is so true true above e = absurd (no_full e)
  by_record row is so true false above e =
      subst (Reads format (lines ++ raw ∷ []) now) (same_end e) (subst (AreEntries format (lines ++ raw ∷ [])) (same_rows e) (taken format lines raw rows row is above so))

  by_end : (n : ℕ) → load_line_raw format raw ≡ End n → AreEntries format lines rows → (same : Bool) → (n == length rows) ≡ same → cond same (reads rows true) (wrong k) ≡ reads now is_ended → Reads format (lines ++ raw ∷ []) now is_ended
  by_end n is so false same e = absurd (no_wrong e)
  by_end n is so true same e =
      let n_is : n ≡ length rows = eq_of n (length rows) same in
      subst (Reads format (lines ++ raw ∷ []) now) (same_end e) (subst (IsLoadText format (lines ++ raw ∷ [])) (same_rows e) (ended_by format lines raw rows (is ∙ ap End n_is) so))
    where
      eq_of : (a b : ℕ) → (a == b) ≡ true → a ≡ b
      eq_of a b h = grind (arith, nat_tests)

  by_line : (line : LoadLine) → load_line_raw format raw ≡ line → (ended : Bool) → Reads format lines rows ended → after_line most k rows ended line ≡ reads now is_ended → Reads format (lines ++ raw ∷ []) now is_ended
  by_line Nothing is false so e = subst (Reads format (lines ++ raw ∷ []) now) (same_end e) (subst (AreEntries format (lines ++ raw ∷ [])) (same_rows e) (skipped format lines raw rows is false so))
  by_line Nothing is true so e = subst (Reads format (lines ++ raw ∷ []) now) (same_end e) (subst (IsLoadText format (lines ++ raw ∷ [])) (same_rows e) (skipped format lines raw rows is true so))
  by_line (Row row) is false so e = by_record row is so (begins_above (last_key rows) (record_of row ∷ [])) (length rows == most) refl e
  by_line (Row row) is true so e = absurd (no_wrong e)
  by_line (End n) is false so e = by_end n is so (n == length rows) refl e
  by_line (End n) is true so e = absurd (no_wrong e)
  by_line Bad is false so e = absurd (no_wrong e)
  by_line Bad is true so e = absurd (no_wrong e)

-- All lines.

pub reads_all : (format most k : ℕ) (done : List (List ℕ)) (rows now : List Record) (ended is_ended : Bool) (lines : List (List ℕ)) → Reads format done rows ended → load_from format most k (reads rows ended) lines ≡ reads now is_ended → Reads format (done ++ lines) now is_ended
reads_all format most k done rows now ended is_ended [] so e = subst (λ (l : List (List ℕ)). Reads format l now is_ended) (sym (append-nil done)) (subst (Reads format done now) (same_end e) (subst (λ (r : List Record). Reads format done r ended) (same_rows e) so))
reads_all format most k done rows now ended is_ended (raw ∷ lines) so e =
    by_step (λ mid mid_ended here f. reads_all format most (k + 1) (done ++ raw ∷ []) mid now mid_ended is_ended lines here f) (load_step format most k (reads rows ended) raw) refl
  where
    by_step : ((mid : List Record) (mid_ended : Bool) → Reads format (done ++ raw ∷ []) mid mid_ended → load_from format most (k + 1) (reads mid mid_ended) lines ≡ reads now is_ended → Reads format ((done ++ raw ∷ []) ++ lines) now is_ended)
        → (s : Loading) → load_step format most k (reads rows ended) raw ≡ s → Reads format (done ++ raw ∷ lines) now is_ended
    by_step again (reads mid mid_ended) is =
        let here = by_line format most k done raw rows mid mid_ended (load_line_raw format raw) refl ended so is in
        subst (λ (l : List (List ℕ)). Reads format l now is_ended) (append_assoc done (raw ∷ []) lines)
        (again mid mid_ended here (ap (λ (s : Loading). load_from format most (k + 1) s lines) (sym is) ∙ e))
    by_step again (wrong n) is = absurd (no_wrong (sym (stays_wrong format most (k + 1) n lines) ∙ ap (λ (s : Loading). load_from format most (k + 1) s lines) (sym is) ∙ e))
    by_step again full is = absurd (no_full (sym (stays_full format most (k + 1) lines) ∙ ap (λ (s : Loading). load_from format most (k + 1) s lines) (sym is) ∙ e))

pub start : (format : ℕ) → Reads format [] [] false
start format = record { entries = none (λ r. IsEntry (load_line_raw format r)); rows_are = refl; ascending = tt }

pub text_of : (format most : ℕ) (lines : List (List ℕ)) (rows : List Record) → loading format most lines ≡ reads rows true → IsLoadText format lines rows
text_of format most lines rows e = reads_all format most 1 [] [] rows false true lines (start format) e

pub entries_of : (format most : ℕ) (lines : List (List ℕ)) (rows : List Record) → loading format most lines ≡ reads rows false → AreEntries format lines rows
entries_of format most lines rows e = reads_all format most 1 [] [] rows false false lines (start format) e

-- And back: what is a text is read whole.

head_above : (key : Option Bytes) (r : Record) (rest : List Record) → begins_above key (r ∷ rest) ≡ true → begins_above key (r ∷ []) ≡ true
head_above None r rest h = refl
head_above (Some key) r rest h = h

module _ (format most : ℕ) where
  read_front : (k : ℕ) (rows : List Record) (front : List (List ℕ)) → All (λ raw. IsEntry (load_line_raw format raw)) front → IsAscending (rows ++ records_in format front) → length (rows ++ records_in format front) ≤ most
      → load_from format most k (reads rows false) front ≡ reads (rows ++ records_in format front) false
  read_front k rows [] all up few = ap (λ (l : List Record). reads l false) (sym (append-nil rows))
  read_front k rows (raw ∷ front) all up few =
      by (λ next above room. read_front (k + 1) next front (λ i d lt. all (suc i) d (omega (arith, lt))) above room) (load_line_raw format raw) refl (all 0 [] (omega arith))
    where
      by : ((next : List Record) → IsAscending (next ++ records_in format front) → length (next ++ records_in format front) ≤ most → load_from format most (k + 1) (reads next false) front ≡ reads (next ++ records_in format front) false)
          → (line : LoadLine) → load_line_raw format raw ≡ line → IsEntry (load_line_raw format raw) → load_from format most k (reads rows false) (raw ∷ front) ≡ reads (rows ++ records_in format (raw ∷ front)) false
      by again Nothing is entry =
          let same : records_in format (raw ∷ front) ≡ records_in format front = ap (λ (l : LoadLine). cons_option (record_of_line l) (records_in format front)) is in
          ap (λ (l : LoadLine). load_from format most (k + 1) (after_line most k rows false l) front) is
          ∙ again rows (subst (λ (l : List Record). IsAscending (rows ++ l)) same up) (omega (arith, few, ap (λ (l : List Record). length (rows ++ l)) same))
          ∙ ap (λ (l : List Record). reads (rows ++ l) false) (sym same)
      by again (Row row) is entry =
          let r = record_of row in
          let rest = records_in format front in
          let same : records_in format (raw ∷ front) ≡ r ∷ rest = ap (λ (l : LoadLine). cons_option (record_of_line l) (records_in format front)) is in
          let joint : (rows ++ r ∷ []) ++ rest ≡ rows ++ r ∷ rest = append_assoc rows (r ∷ []) rest in
          let whole = subst (λ (l : List Record). IsAscending (rows ++ l)) same up in
          let above = head_above (last_key rows) r rest (parted rows (r ∷ rest) whole) in
          let room : (length rows == most) ≡ false = ne_eqb (length rows) most (λ e. omega (arith, e, few, ap (λ (l : List Record). length (rows ++ l)) same, length-append rows (r ∷ rest))) in
          ap (λ (l : LoadLine). load_from format most (k + 1) (after_line most k rows false l) front) is
          ∙ ap (λ b. load_from format most (k + 1) (cond (not b) (wrong k) (cond (length rows == most) full (reads (rows ++ r ∷ []) false))) front) above
          ∙ ap (λ b. load_from format most (k + 1) (cond b full (reads (rows ++ r ∷ []) false)) front) room
          ∙ again (rows ++ r ∷ []) (subst IsAscending (sym joint) whole) (omega (arith, few, ap (λ (l : List Record). length (rows ++ l)) same, ap length joint))
          ∙ ap (λ (l : List Record). reads l false) (joint ∙ ap (λ (l : List Record). rows ++ l) (sym same))
      by again (End n) is entry = absurd (subst IsEntry is entry)
      by again Bad is entry = absurd (subst IsEntry is entry)

  read_behind : (k : ℕ) (rows : List Record) (behind : List (List ℕ)) → All (λ raw. load_line_raw format raw ≡ Nothing) behind → load_from format most k (reads rows true) behind ≡ reads rows true
  read_behind k rows [] all = refl
  read_behind k rows (raw ∷ behind) all =
      ap (λ (l : LoadLine). load_from format most (k + 1) (after_line most k rows true l) behind) (all 0 [] (omega arith)) ∙ read_behind (k + 1) rows behind (λ i d lt. all (suc i) d (omega (arith, lt)))

  pub text_read : (lines : List (List ℕ)) (rows : List Record) → IsLoadText format lines rows → length rows ≤ most → loading format most lines ≡ reads rows true
  text_read lines rows text few =
      ap (loading format most) text.lines_are ∙ loading_append format most text.front (text.last ∷ text.behind)
      ∙ ap (λ (s : Loading). load_from format most (1 + length text.front) s (text.last ∷ text.behind))
      (read_front 1 [] text.front text.front_is (subst IsAscending (sym text.rows_are) text.ascending) (omega (arith, few, ap length text.rows_are)) ∙ ap (λ (l : List Record). reads l false) text.rows_are)
      ∙ ap (λ (l : LoadLine). load_from format most (1 + length text.front + 1) (after_line most (1 + length text.front) rows false l) text.behind) text.end_is
      ∙ ap (λ b. load_from format most (1 + length text.front + 1) (cond b (reads rows true) (wrong (1 + length text.front))) text.behind) (eq_self (length rows))
      ∙ read_behind (1 + length text.front + 1) rows text.behind text.behind_is
    where
      eq_self : (n : ℕ) → (n == n) ≡ true
      eq_self n = search rules
