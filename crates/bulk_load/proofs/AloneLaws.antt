-- Lines of a merge text by themselves, whatever the store has.
use Rattle.bulk_load.specs.Loads.{most_records}
use Rattle.bulk_load.specs.Ahead.{hand, read_by}
use Rattle.bulk_load.specs.declared.run.Found.{Found}
use Rattle.std.proofs.lemmas.List.Elements.{filter_map-append}
use Rattle.std.specs.List.{cons_option}
use Rattle.std.proofs.Common.{◌≡◌, inl, inr, ℕ, ◌+◌, ◌^◌, ◌<◌, ◌≤◌, nat_lt, ◌&&◌, not, Bool, true, false, cond, List, [], ◌∷◌, ◌++◌, map, length, Some, refl, sym, ap, ◌∙◌, arith, sum, take, subst, if◌then◌else◌, Option, None, suc, All}
use Rattle.std.specs.Prelude.{Err}
use Rattle.std.proofs.lemmas.Bool.{le-ltb}
use Rattle.std.proofs.lemmas.List.{length-append, append-nil, take_at}
use Rattle.station.specs.View.{View}
use Rattle.line_source.specs.Lines.{raw_lines}
use Rattle.line_source.specs.SourceView.{SourceView, SourceTold}
use Rattle.line_source.specs.LineReaderView.{ReaderView, rest}
use Rattle.key_slot.specs.Record.{Bytes, Record}
use Rattle.map_model.specs.FileReasons.{last_key, begins_above}
use Rattle.map_model.specs.Store.{Update, bind, unbind, key_of}
use Rattle.redo_journal.specs.declared.place.Place.{Place}
use Rattle.command_text.specs.Merge.{merge_line_raw}
use Rattle.command_text.specs.declared.merge.MergeLine.{MergeLine}
use Rattle.command_text.specs.declared.merge.MergeLine.TheVariants.{Nothing}
use Rattle.bulk_load.specs.declared.fault.LoadFault.{LoadFault}
use Rattle.bulk_load.specs.declared.fault.LoadFault.TheVariants as fault
use Rattle.bulk_load.specs.declared.run.MergeRun.{MergeRun}
use Rattle.bulk_load.specs.Amid.{HasEdits, IsCopyFault, MayStop, MergesAlone, StaysAtLine, goes_behind, HasKeys, IsDueAlone, IsOverAlone, IsOverKept, counts_in}
use Rattle.bulk_load.specs.LoadFaults.{IsFileFault}
use Rattle.bulk_load.specs.MergeCauses.{IsLineRefused, IsTextFault, IsTextOver}
use Rattle.bulk_load.specs.MergeText.{BeginsMerge, front_rows, mark_of, binds_in, bound_by, edit_of_line, edits_in, IsMergeText}
use Rattle.bulk_load.specs.MergeLines.{reads, wrong, full, may_follow, after_edit, after_merge_line, merging}
use Rattle.bulk_load.specs.Resulting.{IsPackingFault}
use Rattle.bulk_load.specs.MergeUpdates.{GivesUpdate, HasReadAlone, IsNextUpdate, CountsText, HasText}
use Rattle.bulk_load.proofs.LineLaws.{both_true}
use Rattle.bulk_load.proofs.MergeFaults.{begins, first_unmerged, unfinished}
use Rattle.bulk_load.proofs.MergeReading.{follows, marks_more, reads_all, start, text_of, begun_of}
use Rattle.bulk_load.proofs.PackLaws.{last_key-more}
use Rattle.bulk_load.proofs.UpdateReading.{merging_more, whole_wrong}

-- no more records result beside none than there are updates
front_none : (edits : List Update) → length (front_rows edits []) ≤ length edits
front_none [] = omega arith
front_none (bind key value ∷ edits) = let rest : length (front_rows edits []) ≤ length edits = front_none edits in omega (arith, rest)
front_none (unbind key ∷ edits) = let rest : length (front_rows edits []) ≤ length edits = front_none edits in omega (arith, rest)

-- one update more
pub binds_more : (edits : List Update) (u : Update) → binds_in (edits ++ u ∷ []) ≡ binds_in edits + length (bound_by u)
binds_more [] u = omega arith
binds_more (e ∷ edits) u = omega (arith, binds_more edits u)

-- a fault that is no line's
abbrev pub IsNoLine : LoadFault → Type 0
IsNoLine (fault.Line n) = ⊥
IsNoLine (fault.NotEmpty n) = Unit {0}
IsNoLine (fault.Full n) = Unit {0}
IsNoLine fault.Disk = Unit {0}
IsNoLine (fault.Damaged segment why) = Unit {0}
IsNoLine fault.Script = Unit {0}
IsNoLine fault.Spent = Unit {0}

-- One update.

module _ (edits : List Update) (s : MergeRun) (has : HasKeys edits s) (u : Update) where
  same_tests : (nat_lt (s.edits + 1) (2 ^ 32) && begins_above s.last ((key_of u, []) ∷ [])) ≡ may_follow edits u
  same_tests = ap (λ (n : ℕ). nat_lt (n + 1) (2 ^ 32) && begins_above s.last ((key_of u, []) ∷ [])) has.edits_are ∙ ap (λ l. nat_lt (length edits + 1) (2 ^ 32) && begins_above l ((key_of u, []) ∷ [])) has.last

  may_is : goes_behind s (key_of u) ≡ true → (s.taken.ended ≡ false) × (may_follow edits u ≡ true)
  may_is goes =
      let both = both_true s.taken.ended (nat_lt (s.edits + 1) (2 ^ 32) && begins_above s.last ((key_of u, []) ∷ [])) goes in
      (both.0, sym same_tests ∙ both.1)

  -- that may follow
  pub alone_after : (k : ℕ) (line : MergeLine) → after_merge_line (2 ^ 32) [] k edits false line ≡ after_edit (2 ^ 32) [] k edits u → goes_behind s (key_of u) ≡ true → after_merge_line (2 ^ 32) [] k edits s.taken.ended line ≡ reads (edits ++ u ∷ []) false
  alone_after k line line_is goes =
      let may = may_is goes in
      let size : length (front_rows (edits ++ u ∷ []) []) ≤ 2 ^ 32 = omega (arith, front_none (edits ++ u ∷ []), length-append edits (u ∷ []), (follows edits u may.1).0) in
      ap (λ (e : Bool). after_merge_line (2 ^ 32) [] k edits e line) may.0 ∙ line_is
      ∙ ap (λ (g : Bool). cond (not g) (wrong k) (cond (nat_lt (2 ^ 32) (length (front_rows (edits ++ u ∷ []) []))) full (reads (edits ++ u ∷ []) false))) may.1
      ∙ ap (λ (g : Bool). cond g full (reads (edits ++ u ∷ []) false)) (le-ltb (2 ^ 32) (length (front_rows (edits ++ u ∷ []) [])) size)

  pub alone_edit : (k : ℕ) (line : MergeLine) → after_merge_line (2 ^ 32) [] k edits false line ≡ after_edit (2 ^ 32) [] k edits u → goes_behind s (key_of u) ≡ true
      → (new : MergeRun) → new.taken.ended ≡ false → new.edits ≡ s.edits + 1 → new.last ≡ Some (key_of u) → s.found.stored + s.found.replaced ≡ binds_in edits → new.found.stored + new.found.replaced ≡ s.found.stored + s.found.replaced + length (bound_by u)
      → MergesAlone k edits s.taken.ended line new
  alone_edit k line line_is goes new going count last binds more = record {
    now = edits ++ u ∷ [];
    after = alone_after k line line_is goes ∙ ap (reads (edits ++ u ∷ [])) (sym going);
    has = record {
      keys = record {
        edits_are = count ∙ ap (λ (n : ℕ). n + 1) has.edits_are ∙ sym (length-append edits (u ∷ []));
        last = last ∙ sym (ap last_key (marks_more edits u) ∙ last_key-more (map mark_of edits) (mark_of u));
      };
      binds = omega (arith, binds, more, binds_more edits u);
    };
  }

  -- that fills the store
  module _ (place : Place) (balance : s.taken.records + s.found.removed + hand s.ahead ≡ read_by s.ahead + s.found.stored) (binds : s.found.stored + s.found.replaced ≡ binds_in edits) (k : ℕ) (line : MergeLine)
      (line_is : after_merge_line (2 ^ 32) [] k edits false line ≡ after_edit (2 ^ 32) [] k edits u) (goes : goes_behind s (key_of u) ≡ true) where
    over_alone : (most : ℕ) → most + read_by s.ahead < s.taken.records + hand s.ahead + sum s.ahead.tally.now.counts + length (bound_by u) → IsOverAlone most (sum s.ahead.tally.now.counts) k edits s.taken.ended line
    over_alone most more = record { now = edits ++ u ∷ []; after = alone_after k line line_is goes; many = omega (arith, more, balance, binds, binds_more edits u) }

    pub copy_due : (f : LoadFault) → IsNoLine f → IsOverKept place s f → IsDueAlone (most_records place.layout) (sum s.ahead.tally.now.counts) k edits s.taken.ended line f
    copy_due (fault.Line n) is over = absurd is
    copy_due (fault.NotEmpty n) is over = record {}
    copy_due (fault.Full n) is over = over_alone (most_records place.layout) (omega (arith, over))
    copy_due fault.Disk is over = record {}
    copy_due (fault.Damaged segment why) is over = record {}
    copy_due fault.Script is over = record {}
    copy_due fault.Spent is over = record {}

    pub pack_due : (records : ℕ) (f : LoadFault) → IsPackingFault (most_records place.layout) records f → records + read_by s.ahead < s.taken.records + hand s.ahead + sum s.ahead.tally.now.counts + length (bound_by u)
        → IsDueAlone (most_records place.layout) (sum s.ahead.tally.now.counts) k edits s.taken.ended line f
    pack_due records (fault.Line n) is over = absurd is
    pack_due records (fault.NotEmpty n) is over = record {}
    pack_due records (fault.Full n) is over = over_alone (most_records place.layout) (omega (arith, is.1, over))
    pack_due records fault.Disk is over = record {}
    pack_due records (fault.Damaged segment why) is over = record {}
    pack_due records fault.Script is over = record {}
    pack_due records fault.Spent is over = record {}

  -- that may not
  pub edit_wrong : (most : ℕ) (rows : List Record) (k : ℕ) (line : MergeLine) → after_merge_line most rows k edits false line ≡ after_edit most rows k edits u → after_merge_line most rows k edits true line ≡ wrong k → goes_behind s (key_of u) ≡ false
      → after_merge_line most rows k edits s.taken.ended line ≡ wrong k
  edit_wrong most rows k line line_is true_line stops = by s.taken.ended refl
    where
      by : (ended : Bool) → s.taken.ended ≡ ended → after_merge_line most rows k edits s.taken.ended line ≡ wrong k
      by true is = ap (λ (e : Bool). after_merge_line most rows k edits e line) is ∙ true_line
      by false is =
          let no : may_follow edits u ≡ false = sym same_tests ∙ ap (λ (e : Bool). not e && (nat_lt (s.edits + 1) (2 ^ 32) && begins_above s.last ((key_of u, []) ∷ []))) (sym is) ∙ stops in
          ap (λ (e : Bool). after_merge_line most rows k edits e line) is ∙ line_is
          ∙ ap (λ (g : Bool). cond (not g) (wrong k) (cond (nat_lt most (length (front_rows (edits ++ u ∷ []) rows))) full (reads (edits ++ u ∷ []) false))) no

-- A fault that is no line's.

pub copy_no_line : (place : Place) (key : Option Bytes) (s : MergeRun) (v : View) (f : LoadFault) → IsCopyFault place key s v f → IsNoLine f
copy_no_line place key s v (fault.Line n) is = is
copy_no_line place key s v (fault.NotEmpty n) is = record {}
copy_no_line place key s v (fault.Full n) is = record {}
copy_no_line place key s v fault.Disk is = record {}
copy_no_line place key s v (fault.Damaged segment why) is = record {}
copy_no_line place key s v fault.Script is = record {}
copy_no_line place key s v fault.Spent is = record {}

pub pack_no_line : (most records : ℕ) (f : LoadFault) → IsPackingFault most records f → IsNoLine f
pack_no_line most records (fault.Line n) is = is
pack_no_line most records (fault.NotEmpty n) is = record {}
pack_no_line most records (fault.Full n) is = record {}
pack_no_line most records fault.Disk is = record {}
pack_no_line most records (fault.Damaged segment why) is = record {}
pack_no_line most records fault.Script is = record {}
pack_no_line most records fault.Spent is = record {}

pub stays_of : (a b : View) (f : LoadFault) → IsNoLine f → StaysAtLine a b f
stays_of a b (fault.Line n) is = absurd is
stays_of a b (fault.NotEmpty n) is = record {}
stays_of a b (fault.Full n) is = record {}
stays_of a b fault.Disk is = record {}
stays_of a b (fault.Damaged segment why) is = record {}
stays_of a b fault.Script is = record {}
stays_of a b fault.Spent is = record {}

-- What a found update is counted as.

pub bound_binds : (met : Bool) (f : Found) → (let g = (if met then record f { replaced = f.replaced + 1 } else record f { stored = f.stored + 1 }) in g.stored + g.replaced) ≡ f.stored + f.replaced + 1
bound_binds true f = omega arith
bound_binds false f = omega arith

pub bound_balance : (met : Bool) (f : Found) → (let g = (if met then record f { replaced = f.replaced + 1 } else record f { stored = f.stored + 1 }) in g.stored + (if met then 1 else 0) + f.removed) ≡ f.stored + 1 + (let g = (if met then record f { replaced = f.replaced + 1 } else record f { stored = f.stored + 1 }) in g.removed)
bound_balance true f = omega arith
bound_balance false f = omega arith

pub removed_binds : (met : Bool) (f : Found) → (let g = (if met then record f { removed = f.removed + 1 } else record f { absent = f.absent + 1 }) in g.stored + g.replaced) ≡ f.stored + f.replaced + 0
removed_binds true f = omega arith
removed_binds false f = omega arith

pub removed_balance : (met : Bool) (f : Found) → (let g = (if met then record f { removed = f.removed + 1 } else record f { absent = f.absent + 1 }) in g.removed + f.stored) ≡ f.removed + (if met then 1 else 0) + (let g = (if met then record f { removed = f.removed + 1 } else record f { absent = f.absent + 1 }) in g.stored)
removed_balance true f = omega arith
removed_balance false f = omega arith

-- Updates of lines.

edits_none : (format : ℕ) (lines : List (List ℕ)) → All (λ raw. merge_line_raw format raw ≡ Nothing) lines → edits_in format lines ≡ []
edits_none format [] all = refl
edits_none format (raw ∷ lines) all =
    ap (λ (l : MergeLine). cons_option (edit_of_line l) (edits_in format lines)) (all 0 [] (omega arith)) ∙ edits_none format lines (λ k d lt. all (suc k) d (omega (arith, lt)))

text_edits : (format : ℕ) (lines : List (List ℕ)) (edits : List Update) → IsMergeText format lines edits → edits_in format lines ≡ edits
text_edits format lines edits text =
    ap (edits_in format) text.lines_are ∙ filter_map-append (λ raw. edit_of_line (merge_line_raw format raw)) text.front (text.last ∷ text.behind)
    ∙ ap (λ (l : MergeLine). edits_in format text.front ++ cons_option (edit_of_line l) (edits_in format text.behind)) text.end_is
    ∙ ap (λ (us : List Update). edits_in format text.front ++ us) (edits_none format text.behind text.behind_is) ∙ append-nil (edits_in format text.front) ∙ text.edits_are

-- those of lines with which reading goes on
pub edits_alone : (format most : ℕ) (lines : List (List ℕ)) (edits : List Update) (ended : Bool) → merging format most [] lines ≡ reads edits ended → edits_in format lines ≡ edits
edits_alone format most lines edits true e = text_edits format lines edits (text_of format most [] lines edits e)
edits_alone format most lines edits false e = (begun_of format most [] lines edits e).edits_are

-- The text.

-- a text begins with the lines that were read
pub begins_alone : (format : ℕ) (given : List (List ℕ)) (s : MergeRun) → HasReadAlone format given s → BeginsMerge format given
begins_alone format given s read = begins format given read.edits s.taken.ended (reads_all format (2 ^ 32) [] 1 [] [] read.edits false s.taken.ended given (start format) read.text)

-- lines that were read bind too many
pub text_over : (format most kept : ℕ) (lines : List (List ℕ)) (n : ℕ) (front : List (List ℕ)) (edits : List Update) (ended : Bool) → n ≤ length lines → take n lines ≡ front → merging format (2 ^ 32) [] front ≡ reads edits ended → most < kept + binds_in edits → IsTextOver format most kept lines
text_over format most kept lines n front edits ended there same is many = record {
  n = n;
  there = there;
  begins = subst (BeginsMerge format) (sym same) (begins format front edits ended (reads_all format (2 ^ 32) [] 1 [] [] edits false ended front (start format) is));
  many = omega (arith, many, ap (λ (l : List (List ℕ)). binds_in (edits_in format l)) same, ap (λ (us : List Update). binds_in us) (edits_alone format (2 ^ 32) front edits ended is));
}

module _ (format : ℕ) (r0 : ReaderView) (s0 : SourceView) (given : List (List ℕ)) (run : MergeRun) (read : SourceTold s0 → HasReadAlone format given run) (most kept : ℕ) where
  -- no line is given
  pub reading_text : (r : ReaderView) (s : SourceView) (f : LoadFault) → IsNextUpdate format (Err f) r0 s0 given r s → IsTextFault format most kept r0 s0 s f
  reading_text r s (fault.NotEmpty n) next = absurd next
  reading_text r s (fault.Line n) next = absurd next
  reading_text r s (fault.Full n) next = absurd next
  reading_text r s fault.Disk next = absurd next
  reading_text r s (fault.Damaged segment why) next = absurd next
  reading_text r s fault.Script next = λ told. record { given = given; cut = next.0 told; begins = begins_alone format given run (read told) }
  reading_text r s fault.Spent next = λ told. (record { given = given; cut = (next told).0; begins = begins_alone format given run (read told) }, (next told).1)

  module _ (k : ℕ) (line : MergeLine) (r : ReaderView) (s : SourceView) (gives : GivesUpdate format r0 s0 given line r s) (k_is : k ≡ length given + 1) where
    pub text_more : (told : SourceTold s0) → merging format (2 ^ 32) [] (given ++ gives.raw ∷ []) ≡ after_merge_line (2 ^ 32) [] k (read told).edits run.taken.ended line
    text_more told = merging_more format (2 ^ 32) k [] given gives.raw (read told).edits run.taken.ended k_is (read told).text ∙ ap (after_merge_line (2 ^ 32) [] k (read told).edits run.taken.ended) (sym (gives.line_is told))

    -- a line is refused
    pub line_text : (s1 : SourceView) (f : LoadFault) → ((edits : List Update) → HasEdits edits run → IsDueAlone most kept k edits run.taken.ended line f) → MayStop most f → IsTextFault format most kept r0 s0 s1 f
    line_text s1 (fault.Line n) due may = λ told.
        inl (first_unmerged format (2 ^ 32) n [] (raw_lines (rest r0 s0))
        (whole_wrong format (2 ^ 32) [] (raw_lines (rest r0 s0)) (given ++ gives.raw ∷ []) (raw_lines (rest r s)) (gives.more.lines told) n (text_more told ∙ due (read told).edits (read told).has)))
    line_text s1 (fault.NotEmpty n) due may = record {}
    line_text s1 (fault.Full n) due may = λ told.
        let over = due (read told).edits (read told).has in
        let front = given ++ gives.raw ∷ [] in
        let size : length front ≡ length given + 1 = length-append given (gives.raw ∷ []) in
        let same : take (length given + 1) (raw_lines (rest r0 s0)) ≡ front = ap (take (length given + 1)) (gives.more.lines told) ∙ take_at front (raw_lines (rest r s)) (length given + 1) (omega (arith, size)) in
        text_over format most kept (raw_lines (rest r0 s0)) (length given + 1) front over.now false
        (omega (arith, size, ap (λ (l : List (List ℕ)). length l) (gives.more.lines told), length-append front (raw_lines (rest r s)))) same (text_more told ∙ over.after) over.many
    line_text s1 fault.Disk due may = record {}
    line_text s1 (fault.Damaged segment why) due may = record {}
    line_text s1 fault.Script due may = absurd may
    line_text s1 fault.Spent due may = absurd may

-- the text ends before the line with the number of updates
pub end_text : (format : ℕ) (lines : List (List ℕ)) (edits : List Update) (n : ℕ) → merging format (2 ^ 32) [] lines ≡ reads edits false → n ≡ length lines + 1 → IsLineRefused format lines n
end_text format lines edits n is number = inr (unfinished format (2 ^ 32) [] lines edits is, number)

-- A fault behind the text.

pub copy_text : (place : Place) (s : MergeRun) (v : View) (r0 : ReaderView) (s0 s1 : SourceView) (f : LoadFault) → IsCopyFault place None s v f → IsOverKept place s f
    → s.taken.records + s.found.removed + hand s.ahead ≡ read_by s.ahead + s.found.stored → (SourceTold s0 → HasText place.layout.format (raw_lines (rest r0 s0)) s)
    → IsTextFault place.layout.format (most_records place.layout) (sum s.ahead.tally.now.counts) r0 s0 s1 f
copy_text place s v r0 s0 s1 (fault.Line n) is over balance text = absurd is
copy_text place s v r0 s0 s1 (fault.NotEmpty n) is over balance text = record {}
copy_text place s v r0 s0 s1 (fault.Full n) is over balance text = λ told.
    let t = text told in
    let lines = raw_lines (rest r0 s0) in
    text_over place.layout.format (most_records place.layout) (sum s.ahead.tally.now.counts) lines (length lines) lines t.edits true (omega arith)
    (ap (take (length lines)) (sym (append-nil lines)) ∙ take_at lines [] (length lines) (omega arith)) t.text (omega (arith, over, balance, t.has.binds))
copy_text place s v r0 s0 s1 fault.Disk is over balance text = record {}
copy_text place s v r0 s0 s1 (fault.Damaged segment why) is over balance text = record {}
copy_text place s v r0 s0 s1 fault.Script is over balance text = absurd is
copy_text place s v r0 s0 s1 fault.Spent is over balance text = absurd is

pub file_text : (format most kept : ℕ) (r0 : ReaderView) (s0 s1 : SourceView) (f : LoadFault) → IsFileFault f → IsTextFault format most kept r0 s0 s1 f
file_text format most kept r0 s0 s1 (fault.Line n) is = absurd is
file_text format most kept r0 s0 s1 (fault.NotEmpty n) is = record {}
file_text format most kept r0 s0 s1 (fault.Full n) is = absurd is
file_text format most kept r0 s0 s1 fault.Disk is = record {}
file_text format most kept r0 s0 s1 (fault.Damaged segment why) is = record {}
file_text format most kept r0 s0 s1 fault.Script is = absurd is
file_text format most kept r0 s0 s1 fault.Spent is = absurd is

-- The end.

pub counts_text : (format : ℕ) (lines : List (List ℕ)) (s : MergeRun) → s.found.stored + s.found.replaced + s.found.removed + s.found.absent ≡ s.edits → HasText format lines s → CountsText format lines (counts_in s.found)
counts_text format lines s counted t = record {
  edits = t.edits;
  text = text_of format (2 ^ 32) [] lines t.edits t.text;
  binds = t.has.binds;
  all = counted ∙ t.has.keys.edits_are;
}
