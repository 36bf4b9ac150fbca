-- A load text is a merge text that binds its records.
use Rattle.std.proofs.Common.{◌≡◌, ◌≢◌, ℕ, suc, ◌^◌, ◌<◌, List, [], ◌∷◌, ◌++◌, length, map, All, T, refl, sym, ap, subst, ◌∙◌, arith}
use Rattle.std.specs.List.{cons_option}
use Rattle.std.specs.Ordering.{is_lt}
use Rattle.std.specs.FinMap.{empty, entries, from_sorted, len-empty, len-entries, is_sorted, same_entries_map, entries-from_sorted}
use Rattle.std.specs.FinMap.Entries.{below_all}
use Rattle.std.proofs.lemmas.List.{append-nil}
use Rattle.std.proofs.lemmas.List.Elements.{All-weaker}
use Rattle.key_slot.specs.Record.{Bytes, Record, key_cmp, IsAscending}
use Rattle.key_slot.proofs.Truth.{both, first, second}
use Rattle.map_model.specs.Store.{Update}
use Rattle.command_text.specs.Load.{load_line_raw}
use Rattle.command_text.specs.Merge.{merge_line_of, merge_line_raw}
use Rattle.command_text.specs.declared.load.LoadLine.{LoadLine}
use Rattle.command_text.specs.declared.load.LoadLine.TheVariants as load
use Rattle.command_text.specs.declared.merge.MergeLine.{MergeLine}
use Rattle.command_text.specs.declared.merge.MergeLine.TheVariants.{Nothing, End}
use Rattle.bulk_load.specs.LoadText.{record_of_line, records_in, IsEntry, IsLoadText}
use Rattle.bulk_load.specs.MergeText.{edit_of_line, edits_in, IsEdit, mark_of, bind_of, AreAscending, IsMergeText, front_rows, rest_rows, merged_rows, map_after_edits}
use Rattle.bulk_load.proofs.MergeLaws.{merged_are}
use Rattle.bulk_load.proofs.MergeLines.{merged_line}

-- Lines.

entry_good : (f : ℕ) (raw : List ℕ) → IsEntry (load_line_raw f raw) → load_line_raw f raw ≢ load.Bad
entry_good f raw is e = subst IsEntry e is

entry_line : (line : LoadLine) → IsEntry line → IsEdit (merge_line_of line)
entry_line load.Nothing is = record {}
entry_line (load.Row row) is = record {}
entry_line (load.End n) is = is
entry_line load.Bad is = is

entry_edit : (f : ℕ) (raw : List ℕ) → IsEntry (load_line_raw f raw) → IsEdit (merge_line_raw f raw)
entry_edit f raw is = subst IsEdit (sym (merged_line f raw (entry_good f raw is))) (entry_line (load_line_raw f raw) is)

end_line : (f n : ℕ) (raw : List ℕ) → load_line_raw f raw ≡ load.End n → merge_line_raw f raw ≡ End n
end_line f n raw is = merged_line f raw (λ e. no_bad (sym is ∙ e)) ∙ ap merge_line_of is
  where
    no_bad : load.End n ≡ load.Bad → ⊥
    no_bad e = cc

skipped_line : (f : ℕ) (raw : List ℕ) → load_line_raw f raw ≡ load.Nothing → merge_line_raw f raw ≡ Nothing
skipped_line f raw is = merged_line f raw (entry_good f raw (subst IsEntry (sym is) (record {}))) ∙ ap merge_line_of is

edits_are : (f : ℕ) (front : List (List ℕ)) → All (λ raw. IsEntry (load_line_raw f raw)) front → edits_in f front ≡ map bind_of (records_in f front)
edits_are f [] all = refl
edits_are f (raw ∷ front) all =
    let here = all 0 [] (omega arith) in
    ap (λ (l : MergeLine). cons_option (edit_of_line l) (edits_in f front)) (merged_line f raw (entry_good f raw here))
    ∙ ap (λ (l : List Update). cons_option (edit_of_line (merge_line_of (load_line_raw f raw))) l) (edits_are f front (λ k d lt. all (suc k) d (omega (arith, lt)))) ∙ by (load_line_raw f raw)
  where
    by : (line : LoadLine) → cons_option (edit_of_line (merge_line_of line)) (map bind_of (records_in f front)) ≡ map bind_of (cons_option (record_of_line line) (records_in f front))
    by load.Nothing = refl
    by (load.Row row) = refl
    by (load.End n) = refl
    by load.Bad = refl

-- Keys.

below_marks : (key : Bytes) (rows : List Record) → T (below_all key_cmp key rows) → T (below_all key_cmp key (map mark_of (map bind_of rows)))
below_marks key [] h = tt
below_marks key (e ∷ rows) h =
    both (is_lt (key_cmp key e.0)) (below_all key_cmp key (map mark_of (map bind_of rows))) (first (is_lt (key_cmp key e.0)) (below_all key_cmp key rows) h)
    (below_marks key rows (second (is_lt (key_cmp key e.0)) (below_all key_cmp key rows) h))

marks_ascend : (rows : List Record) → IsAscending rows → AreAscending (map bind_of rows)
marks_ascend [] up = tt
marks_ascend (e ∷ rows) up =
    both (below_all key_cmp e.0 (map mark_of (map bind_of rows))) (is_sorted key_cmp (map mark_of (map bind_of rows))) (below_marks e.0 rows (first (below_all key_cmp e.0 rows) (is_sorted key_cmp rows) up))
    (marks_ascend rows (second (below_all key_cmp e.0 rows) (is_sorted key_cmp rows) up))

length_binds : (rows : List Record) → length (map bind_of rows) ≡ length rows
length_binds [] = refl
length_binds (r ∷ rows) = ap suc (length_binds rows)

pub merged_text : (format : ℕ) (lines : List (List ℕ)) (rows : List Record) → IsLoadText format lines rows → length rows < 2 ^ 32 → IsMergeText format lines (map bind_of rows)
merged_text format lines rows text few = record {
  front = text.front;
  last = text.last;
  behind = text.behind;
  lines_are = text.lines_are;
  front_is = All-weaker (λ raw. IsEntry (load_line_raw format raw)) (λ raw. IsEdit (merge_line_raw format raw)) (entry_edit format) text.front text.front_is;
  end_is = end_line format (length rows) text.last text.end_is ∙ ap End (sym (length_binds rows));
  behind_is = All-weaker (λ raw. load_line_raw format raw ≡ load.Nothing) (λ raw. merge_line_raw format raw ≡ Nothing) (skipped_line format) text.behind text.behind_is;
  edits_are = edits_are format text.front text.front_is ∙ ap (λ (l : List Record). map bind_of l) text.rows_are;
  ascending = marks_ascend rows text.ascending;
  few = omega (arith, few, length_binds rows);
}

-- What it makes of the map without records.

none_of : (rows : List Record) → length rows ≡ 0 → rows ≡ []
none_of [] e = refl
none_of (r ∷ rows) e = absurd (omega (arith, e))

no_entries : entries (empty {X = Bytes} {R = key_cmp}) ≡ []
no_entries = none_of (entries (empty {X = Bytes} {R = key_cmp})) (sym (len-entries (empty {X = Bytes} {R = key_cmp})) ∙ len-empty key_cmp Bytes)

front_binds : (rows : List Record) → front_rows (map bind_of rows) [] ≡ rows
front_binds [] = refl
front_binds (r ∷ rows) = ap (λ (l : List Record). r ∷ l) (front_binds rows)

rest_binds : (rows : List Record) → rest_rows (map bind_of rows) [] ≡ []
rest_binds [] = refl
rest_binds (r ∷ rows) = rest_binds rows

pub loaded_map : (rows : List Record) → IsAscending rows → map_after_edits empty (map bind_of rows) ≡ from_sorted rows
loaded_map rows up =
    let edits = map bind_of rows in
    same_entries_map (map_after_edits empty edits) (from_sorted rows)
    (merged_are empty edits (marks_ascend rows up) ∙ ap (merged_rows edits) no_entries ∙ ap (λ (l : List Record). l ++ rest_rows edits []) (front_binds rows) ∙ ap (λ (l : List Record). rows ++ l) (rest_binds rows) ∙ append-nil rows
    ∙ sym (entries-from_sorted key_cmp rows up))
