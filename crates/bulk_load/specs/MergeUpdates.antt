-- The lines of a merge text, as a reader gives them, and what is read of them to the end.
use Rattle.std.specs.Prelude.{◌≡◌, ℕ, ◌+◌, ◌^◌, ◌≤◌, List, [], ◌∷◌, ◌++◌, true, false, Option, Some, None, Result, Ok, Err, length}
use Rattle.std.specs.FinMap.{entries}
use Rattle.station.specs.View as station
use Rattle.station.specs.declared.travel.Travel.{Travel}
use Rattle.header_gate.specs.declared.layout.Layout.{Layout}
use Rattle.key_slot.specs.Record.{Record}
use Rattle.line_source.specs.Lines.{raw_lines}
use Rattle.line_source.specs.SourceView.{SourceView, SourceTold, SourceRose}
use Rattle.line_source.specs.LineReaderView.{ReaderView, rest}
use Rattle.line_source.specs.Progress.{HasGiven, GivesAll}
use Rattle.line_source.specs.declared.reader.LineStep.TheVariants as step
use Rattle.map_model.specs.Image.{map_of}
use Rattle.map_model.specs.ItemWords.{ItemCounts}
use Rattle.map_model.specs.Store.{Update}
use Rattle.redo_journal.specs.declared.place.Place.{Place}
use Rattle.redo_journal.specs.Frames.{Batch}
use Rattle.resize_region.specs.Source.{Walks}
use Rattle.command_text.specs.Merge.{merge_line_raw}
use Rattle.command_text.specs.declared.merge.MergeLine.{MergeLine}
use Rattle.bulk_load.specs.declared.fault.LoadFault.{LoadFault}
use Rattle.bulk_load.specs.declared.fault.LoadFault.TheVariants.{NotEmpty, Line, Full, Disk, Damaged, Script, Spent}
use Rattle.bulk_load.specs.declared.merged.Merged.{Merged}
use Rattle.bulk_load.specs.declared.run.MergeRun.{MergeRun}
use Rattle.bulk_load.specs.Amid.{HasEdits, HasMerged, IsBetween, counts_in}
use Rattle.bulk_load.specs.LoadLines.{IsUnread}
use Rattle.bulk_load.specs.Loads.{most_records}
use Rattle.bulk_load.specs.MergeText.{AreAscending, count_edits, merged_rows, IsMergeText, binds_in}
use Rattle.bulk_load.specs.MergeLines.{merging, reads}
use Rattle.bulk_load.specs.Packing.{IsTaken, HasPacked}

-- one line more was given, and it is this
pub record GivesUpdate (format : ℕ) (r0 : ReaderView) (s0 : SourceView) (given : List (List ℕ)) (line : MergeLine) (r : ReaderView) (s : SourceView) : Type 0 where
  pub raw : List ℕ
  pub line_is : SourceTold s0 → line ≡ merge_line_raw format raw
  pub more : HasGiven r0 s0 (given ++ raw ∷ []) r s

-- what the answer to the question for the next line says of all lines since r0 and s0
abbrev pub IsNextUpdate : ℕ → Result (Option MergeLine) LoadFault → ReaderView → SourceView → List (List ℕ) → ReaderView → SourceView → Type 0
IsNextUpdate format (Ok (Some line)) r0 s0 given r s = GivesUpdate format r0 s0 given line r s
IsNextUpdate format (Ok None) r0 s0 given r s = SourceTold s0 → GivesAll step.End r0 s0 given s
IsNextUpdate format (Err Script) r0 s0 given r s = (SourceTold s0 → GivesAll step.ReadFailed r0 s0 given s) × SourceRose s0 s
IsNextUpdate format (Err Spent) r0 s0 given r s = SourceTold s0 → GivesAll step.Spent r0 s0 given s
IsNextUpdate format (Err (NotEmpty n)) r0 s0 given r s = ⊥
IsNextUpdate format (Err (Line n)) r0 s0 given r s = ⊥
IsNextUpdate format (Err (Full n)) r0 s0 given r s = ⊥
IsNextUpdate format (Err Disk) r0 s0 given r s = ⊥
IsNextUpdate format (Err (Damaged segment why)) r0 s0 given r s = ⊥

-- A merge begins: no line of its text was read, and no update was made.
pub record StartsMerge (place : Place) (r0 : ReaderView) (run : MergeRun) (f : Batch) (a : station.View) : Type 0 where
  pub between : IsBetween place run f a
  pub unread : IsUnread r0
  pub going : run.taken.ended ≡ false
  -- no update, by itself and beside the records of the store
  pub alone : HasEdits [] run
  pub start : station.Told a → HasMerged place (map_of a.held) [] run f a

-- These lines were read beside the records of the map of a station, and what results up to the last update is packed.
pub record HasReadLines (place : Place) (s0 : SourceView) (given : List (List ℕ)) (a : station.View) (s : MergeRun) (b : Batch) (z : station.View) : Type 0 where
  pub edits : List Update
  pub text : SourceTold s0 → merging place.layout.format (most_records place.layout) (entries (map_of a.held)) given
      ≡ reads edits s.taken.ended
  pub merged : HasMerged place (map_of a.held) edits s b z

-- These lines were read, whatever the station tells.
pub record HasReadAlone (format : ℕ) (given : List (List ℕ)) (s : MergeRun) : Type 0 where
  pub edits : List Update
  pub text : merging format (2 ^ 32) [] given ≡ reads edits s.taken.ended
  pub has : HasEdits edits s

-- and all lines of the text
pub record HasText (format : ℕ) (lines : List (List ℕ)) (s : MergeRun) : Type 0 where
  pub edits : List Update
  pub text : merging format (2 ^ 32) [] lines ≡ reads edits true
  pub has : HasEdits edits s

-- The lines are a merge text, and what its updates found counts each of them, and those that bind a key as they do.
pub record CountsText (format : ℕ) (lines : List (List ℕ)) (found : ItemCounts) : Type 0 where
  pub edits : List Update
  pub text : IsMergeText format lines edits
  pub binds : found.stored + found.replaced ≡ binds_in edits
  pub all : found.stored + found.replaced + found.removed + found.absent ≡ length edits

-- All lines were read beside the records of the map of a station, and what results up to the last of them is packed.
pub record HasRead (place : Place) (r0 : ReaderView) (s0 : SourceView) (a : station.View) (s : MergeRun) (b : Batch) (z : station.View) : Type 0 where
  pub edits : List Update
  pub text : SourceTold s0 → merging place.layout.format (most_records place.layout) (entries (map_of a.held)) (raw_lines
      (rest r0 s0)) ≡ reads edits true
  pub merged : HasMerged place (map_of a.held) edits s b z

-- the records of the map of a station after the updates of a text, with what these found
pub record IsMergeOut (l : Layout) (r0 : ReaderView) (s0 : SourceView) (a : station.View) (found : ItemCounts) (rows : List Record) : Type 0 where
  pub edits : List Update
  pub text : SourceTold s0 → merging l.format (most_records l) (entries (map_of a.held)) (raw_lines (rest r0 s0))
      ≡ reads edits true
  pub ascending : AreAscending edits
  pub rows_are : rows ≡ merged_rows edits (entries (map_of a.held))
  pub found_is : found ≡ count_edits (map_of a.held) edits

-- if the station tells its bytes
abbrev pub MergeFor : Layout → ReaderView → SourceView → station.View → ItemCounts → List Record → Type 0
MergeFor l r0 s0 a found rows = station.Told a → IsMergeOut l r0 s0 a found rows

-- All lines were read, and all that results is packed.
pub record HasAll (place : Place) (r0 : ReaderView) (s0 : SourceView) (a : station.View) (s : MergeRun) (b : Batch) (z : station.View) : Type 0 where
  pub rows : List Record
  pub out : IsMergeOut place.layout r0 s0 a (counts_in s.found) rows
  pub taken : IsTaken place.layout s.taken b rows
  pub packed : HasPacked place rows s.taken.written z.held

-- with some counts
abbrev pub MergeTo : Layout → ReaderView → SourceView → station.View → List Record → Type 0
MergeTo l r0 s0 a rows = (found : ItemCounts) × MergeFor l r0 s0 a found rows

-- what the updates of a merge found, as it is answered
abbrev pub counts_by : Merged → ItemCounts
counts_by merged = record { stored = merged.stored; replaced = merged.replaced; removed = merged.removed; absent = merged.absent }

-- The first n segments of the live region are read straight on, each once, and then no more than that many bytes.
pub record ReadsBeside (place : Place) (n bytes : ℕ) (a b : Travel) : Type 0 where
  pub between : Travel
  pub walks : Walks place 0 n a between
  pub bytes_are : b.read ≤ between.read + bytes
