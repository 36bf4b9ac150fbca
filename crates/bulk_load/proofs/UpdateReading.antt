-- A merge text is read one line at a time.
use Rattle.station.specs.declared.travel.Travel.{Travel}
use Rattle.std.proofs.Common.{◌≡◌, inl, inr, ℕ, ◌+◌, ◌<◌, ◌≤◌, nat_lt, Bool, true, false, cond, List, [], ◌∷◌, ◌++◌, length, Err, None, sym, ap, ◌∙◌, arith}
use Rattle.std.specs.Prelude.{codes}
use Rattle.std.specs.Str.{bytes_eq}
use Rattle.std.specs.Str.Lines.{strip_carriage_return}
use Rattle.std.proofs.lemmas.Bool.{lt-ltb, le-ltb}
use Rattle.std.specs.FinMap.{entries}
use Rattle.station.specs.View.{View, Told}
use Rattle.percent_encoding.specs.Percent.{percent_decode}
use Rattle.line_source.specs.Lines.{raw_lines, line_limit}
use Rattle.line_source.specs.SourceView.{SourceView, SourceTold}
use Rattle.line_source.specs.LineReaderView.{ReaderView, rest}
use Rattle.key_slot.specs.Format.{key_room}
use Rattle.key_slot.specs.Record.{Record}
use Rattle.map_model.specs.Image.{map_of}
use Rattle.map_model.specs.Store.{Map, Update}
use Rattle.redo_journal.specs.declared.place.Place.{Place}
use Rattle.redo_journal.specs.Frames.{Batch}
use Rattle.window_tally.specs.TallyView.{TallyView}
use Rattle.command_text.specs.Words.{words}
use Rattle.command_text.specs.Load.{load_named}
use Rattle.command_text.specs.Merge.{merge_line, merge_line_of, merge_line_raw, merge_words, removal_line}
use Rattle.command_text.specs.declared.load.LoadLine.{LoadLine}
use Rattle.command_text.specs.declared.load.LoadLine.TheVariants as load
use Rattle.command_text.specs.declared.merge.MergeLine.{MergeLine}
use Rattle.command_text.specs.declared.merge.MergeLine.TheVariants.{Bad, Remove}
use Rattle.command_text.proofs.WordLaws.{AreWords, words_are}
use Rattle.bulk_load.specs.declared.fault.LoadFault.{LoadFault}
use Rattle.bulk_load.specs.declared.fault.LoadFault.TheVariants.{NotEmpty, Line, Full, Disk, Damaged, Script, Spent}
use Rattle.bulk_load.specs.declared.run.MergeRun.{MergeRun}
use Rattle.bulk_load.specs.Amid.{FitsMergeLine, IsCopyFault, IsLiveDamage, IsUpdateFault, MayStop}
use Rattle.bulk_load.specs.Loads.{most_records}
use Rattle.bulk_load.specs.MergeCauses.{IsMergeFault}
use Rattle.bulk_load.specs.MergeLines.{Merging, reads, wrong, full, after_merge_line, merge_from, merging}
use Rattle.bulk_load.specs.TextReading.{FitsLine}
use Rattle.bulk_load.specs.MergeUpdates.{GivesUpdate, HasRead, HasReadLines, IsNextUpdate}
use Rattle.bulk_load.proofs.FitLaws.{words_fit}
use Rattle.bulk_load.proofs.MergeFaults.{size_after}
use Rattle.bulk_load.proofs.MergeReading.{merging_append, stays_full, stays_wrong}

-- a line at fault is at fault in the whole
module _ (format most : ℕ) (rows : List Record) (lines given behind : List (List ℕ)) (are : lines ≡ given ++ behind) where
  pub whole_wrong : (n : ℕ) → merging format most rows given ≡ wrong n → merging format most rows lines ≡ wrong n
  whole_wrong n is = ap (merging format most rows) are ∙ merging_append format most rows given behind ∙ ap (λ (s : Merging). merge_from format most rows (1 + length given) s behind) is ∙ stays_wrong format most rows (1 + length given) n behind

  pub whole_full : merging format most rows given ≡ full → merging format most rows lines ≡ full
  whole_full is = ap (merging format most rows) are ∙ merging_append format most rows given behind ∙ ap (λ (s : Merging). merge_from format most rows (1 + length given) s behind) is ∙ stays_full format most rows (1 + length given) behind

-- one line more
pub merging_more : (format most k : ℕ) (rows : List Record) (given : List (List ℕ)) (raw : List ℕ) (edits : List Update) (ended : Bool) → k ≡ length given + 1 → merging format most rows given ≡ reads edits ended
    → merging format most rows (given ++ raw ∷ []) ≡ after_merge_line most rows k edits ended (merge_line_raw format raw)
merging_more format most k rows given raw edits ended k_is is =
    merging_append format most rows given (raw ∷ []) ∙ ap (λ (s : Merging). merge_from format most rows (1 + length given) s (raw ∷ [])) is
    ∙ ap (λ (n : ℕ). after_merge_line most rows n edits ended (merge_line_raw format raw)) {x = 1 + length given} {y = k} (omega (arith, k_is))

-- The line that an answer of the reader speaks of.

pub raw_line : (format : ℕ) (raw line : List ℕ) → length raw ≤ line_limit → line ≡ strip_carriage_return raw → merge_line_raw format raw ≡ merge_line format line
raw_line format raw line short is = ap (λ b. cond b Bad (merge_line format (strip_carriage_return raw))) (le-ltb line_limit (length raw) short) ∙ ap (merge_line format) (sym is)

pub raw_long : (format : ℕ) (raw : List ℕ) → line_limit < length raw → merge_line_raw format raw ≡ Bad
raw_long format raw long = ap (λ b. cond b Bad (merge_line format (strip_carriage_return raw))) (lt-ltb line_limit (length raw) long)

-- its record fits
module _ (f : ℕ) where
  of_load : (line : LoadLine) → FitsLine f line → FitsMergeLine f (merge_line_of line)
  of_load load.Nothing fits = record {}
  of_load (load.Row row) fits = fits
  of_load (load.End n) fits = record {}
  of_load load.Bad fits = record {}

  removal : (long : Bool) (key : List ℕ) → FitsMergeLine f (cond long Bad (Remove key))
  removal true key = record {}
  removal false key = record {}

  removal_fits : (rest : List (List ℕ)) → FitsMergeLine f (removal_line f rest)
  removal_fits [] = record {}
  removal_fits (k ∷ []) = removal (nat_lt (key_room f) (length (percent_decode k))) (percent_decode k)
  removal_fits (k ∷ v ∷ rest) = record {}

  either : (b : Bool) (x y : MergeLine) → FitsMergeLine f x → FitsMergeLine f y → FitsMergeLine f (cond b x y)
  either true x y one two = one
  either false x y one two = two

  all_fit : (ws : List (List ℕ)) → AreWords ws → FitsMergeLine f (merge_words f ws)
  all_fit [] are = record {}
  all_fit (name ∷ rest) are = either (bytes_eq name (codes "remove")) (removal_line f rest) (merge_line_of (load_named f name rest)) (removal_fits rest) (of_load (load_named f name rest) (words_fit f (name ∷ rest) are))

  pub update_fits : (line : List ℕ) → FitsMergeLine f (merge_line f line)
  update_fits line = all_fit (words line) (words_are line)

-- Why reading ends.

pub no_damage : (place : Place) (from : ℕ) (x y : Travel) (t : TallyView) (format : ℕ) (r0 : ReaderView) (s0 : SourceView) (given : List (List ℕ)) (r : ReaderView) (s : SourceView) (fault : LoadFault) → IsNextUpdate format (Err fault) r0 s0 given r s → IsLiveDamage place from x y t fault
no_damage place from x y t format r0 s0 given r s (NotEmpty n) next = absurd next
no_damage place from x y t format r0 s0 given r s (Line n) next = absurd next
no_damage place from x y t format r0 s0 given r s (Full n) next = absurd next
no_damage place from x y t format r0 s0 given r s Disk next = absurd next
no_damage place from x y t format r0 s0 given r s (Damaged segment why) next = absurd next
no_damage place from x y t format r0 s0 given r s Script next = record {}
no_damage place from x y t format r0 s0 given r s Spent next = record {}

module _ (place : Place) (r0 : ReaderView) (s0 : SourceView) (given : List (List ℕ)) (a : View) (run : MergeRun) (b : Batch) (z : View) (read : Told a → HasReadLines place s0 given a run b z) where
  abbrev format : ℕ
  format = place.layout.format

  abbrev most : ℕ
  most = most_records place.layout

  abbrev m : Map
  m = map_of a.held

  -- where no line is given
  pub reading_fault : (r : ReaderView) (s : SourceView) (fault : LoadFault) → IsNextUpdate place.layout.format (Err fault) r0 s0 given r s → IsMergeFault place.layout.format (most_records place.layout) a r0 s0 s fault
  reading_fault r s (NotEmpty n) next = absurd next
  reading_fault r s (Line n) next = absurd next
  reading_fault r s (Full n) next = absurd next
  reading_fault r s Disk next = absurd next
  reading_fault r s (Damaged segment why) next = absurd next
  reading_fault r s Script next = (next.1, λ told told_a. record { given = given; cut = next.0 told; edits = (read told_a).edits; ended = run.taken.ended; reading = (read told_a).text told })
  reading_fault r s Spent next = λ told told_a. record {
    read = record { given = given; cut = (next told).0; edits = (read told_a).edits; ended = run.taken.ended; reading = (read told_a).text told };
    all = (next told).1;
  }

  module _ (k : ℕ) (line : MergeLine) (r : ReaderView) (s : SourceView) (gives : GivesUpdate place.layout.format r0 s0 given line r s) (k_is : k ≡ length given + 1) where
    -- what comes of the lines with the next one
    pub read_more : SourceTold s0 → (told : Told a) → merging format most (entries m) (given ++ gives.raw ∷ []) ≡ after_merge_line most (entries m) k (read told).edits run.taken.ended line
    read_more told told_a = merging_more format most k (entries m) given gives.raw (read told_a).edits run.taken.ended k_is ((read told_a).text told) ∙ ap (after_merge_line most (entries m) k (read told_a).edits run.taken.ended) (sym (gives.line_is told))

    -- where a line is at fault
    pub line_fault : (s1 : SourceView) (fault : LoadFault) → ((told : Told a) → IsUpdateFault most (after_merge_line most (entries m) k (read told).edits run.taken.ended line) fault) → MayStop most fault → IsMergeFault format most a r0 s0 s1 fault
    line_fault s1 (NotEmpty n) is may = may
    line_fault s1 (Line n) is may = λ told told_a. inl (whole_wrong format most (entries m) (raw_lines (rest r0 s0)) (given ++ gives.raw ∷ []) (raw_lines (rest r s)) (gives.more.lines told) n (read_more told told_a ∙ is told_a))
    line_fault s1 (Full n) is may = (may, λ told told_a. inl (whole_full format most (entries m) (raw_lines (rest r0 s0)) (given ++ gives.raw ∷ []) (raw_lines (rest r s)) (gives.more.lines told) (read_more told told_a ∙ (is told_a).0)))
    line_fault s1 Disk is may = record {}
    line_fault s1 (Damaged segment why) is may = λ told_a. absurd (is told_a)
    line_fault s1 Script is may = absurd may
    line_fault s1 Spent is may = absurd may

-- A fault behind the last line, when the records that are left are copied.
pub rest_fault : (place : Place) (r0 : ReaderView) (s0 : SourceView) (a : View) (run : MergeRun) (b : Batch) (z : View) → (Told a → HasRead place r0 s0 a run b z) → (Told a → Told z) → (s : SourceView) (fault : LoadFault) → IsCopyFault place None run z fault
    → IsMergeFault place.layout.format (most_records place.layout) a r0 s0 s fault
rest_fault place r0 s0 a run b z read on s (NotEmpty n) is = is
rest_fault place r0 s0 a run b z read on s (Line n) is = absurd is
rest_fault place r0 s0 a run b z read on s (Full n) is = (
  is.0,
  λ told told_a.
      let r = read told_a in
      let size = size_after (map_of a.held) r.edits r.merged.ascending in
      inr (r.edits, r.text told, omega (arith, is.1 (on told_a), size, r.merged.taken.count, ap (λ (l : List Record). length l) r.merged.left)),
)
rest_fault place r0 s0 a run b z read on s Disk is = record {}
rest_fault place r0 s0 a run b z read on s (Damaged segment why) is = λ told_a. is (on told_a)
rest_fault place r0 s0 a run b z read on s Script is = absurd is
rest_fault place r0 s0 a run b z read on s Spent is = absurd is
