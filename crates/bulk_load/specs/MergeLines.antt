-- A merge text is read one line at a time, beside the records of a map.
use Rattle.std.specs.Prelude.{◌≡◌, ◌⊎◌, ℕ, ◌+◌, ◌^◌, ◌<◌, nat_lt, ◌&&◌, ◌==◌, if◌then◌else◌, not, Bool, true, false, List, [], ◌∷◌, ◌++◌, length, map}
use Rattle.std.specs.FinMap.{entries, len}
use Rattle.line_source.specs.Lines.{raw_lines}
use Rattle.line_source.specs.LineReaderView.{ReaderView, rest}
use Rattle.line_source.specs.SourceView.{SourceView, SourceTold}
use Rattle.key_slot.specs.Record.{Record}
use Rattle.map_model.specs.FileReasons.{last_key, begins_above}
use Rattle.map_model.specs.Store.{Map, Update, bind, unbind}
use Rattle.command_text.specs.Merge.{merge_line_raw}
use Rattle.command_text.specs.declared.merge.MergeLine.{MergeLine}
use Rattle.command_text.specs.declared.merge.MergeLine.TheVariants.{Nothing, Bind, Remove, End, Bad}
use Rattle.bulk_load.specs.MergeText.{mark_of, front_rows, map_after_edits}

pub data Merging : Type 0 where
  -- these updates so far, and whether the line with their number was met
  reads : List Update → Bool → Merging
  -- this line, counted from 1, can't stand there
  wrong : ℕ → Merging
  -- what results up to the key of this line has more records than may be
  full : Merging

-- whether an update may follow these: its key is above theirs, and there is a number for one more
abbrev pub may_follow : List Update → Update → Bool
may_follow edits u = nat_lt (length edits + 1) (2 ^ 32) && begins_above (last_key (map mark_of edits)) (mark_of u ∷ [])

-- an update behind these, in the line of this number, beside these records
abbrev pub after_edit : ℕ → List Record → ℕ → List Update → Update → Merging
after_edit most rows number edits u =
    if not (may_follow edits u) then wrong number
    else (if nat_lt most (length (front_rows (edits ++ u ∷ []) rows)) then full else reads (edits ++ u ∷ []) false)

-- the line of this number
abbrev pub after_merge_line : ℕ → List Record → ℕ → List Update → Bool → MergeLine → Merging
after_merge_line most rows number edits ended Nothing = reads edits ended
after_merge_line most rows number edits true (Bind row) = wrong number
after_merge_line most rows number edits false (Bind row) = after_edit most rows number edits (bind row.key row.value)
after_merge_line most rows number edits true (Remove key) = wrong number
after_merge_line most rows number edits false (Remove key) = after_edit most rows number edits (unbind key)
after_merge_line most rows number edits true (End n) = wrong number
after_merge_line most rows number edits false (End n) = if n == length edits then reads edits true else wrong number
after_merge_line most rows number edits ended Bad = wrong number

-- the line of this number, if reading goes on so far
abbrev pub merge_step : ℕ → ℕ → List Record → ℕ → Merging → List ℕ → Merging
merge_step format most rows number (reads edits ended) raw = after_merge_line most rows number edits ended (merge_line_raw format raw)
merge_step format most rows number (wrong n) raw = wrong n
merge_step format most rows number full raw = full

-- the lines from this number on
abbrev pub merge_from : ℕ → ℕ → List Record → ℕ → Merging → List (List ℕ) → Merging
merge_from format most rows number s [] = s
merge_from format most rows number s (raw ∷ lines) = merge_from format most rows (number + 1) (merge_step format most rows number s raw) lines

-- what comes of these lines beside these records, in a store that may hold that many
abbrev pub merging : ℕ → ℕ → List Record → List (List ℕ) → Merging
merging format most rows lines = merge_from format most rows 1 (reads [] false) lines

-- the first wrong line, or the one behind the last if the lines end before the line with the number of updates
abbrev pub IsUnmergedLine : ℕ → ℕ → List Record → List (List ℕ) → ℕ → Type 0
IsUnmergedLine format most rows lines n =
    (merging format most rows lines ≡ wrong n) ⊎ ((edits : List Update) × (merging format most rows lines ≡ reads edits false) × (n ≡ length lines + 1))

-- what results has too many records: up to the key of some line, or in all
abbrev pub IsOverfull : ℕ → ℕ → Map → List (List ℕ) → Type 0
IsOverfull format most m lines =
    (merging format most (entries m) lines ≡ full) ⊎ ((edits : List Update) × (merging format most (entries m) lines ≡ reads edits true) × (most < len (map_after_edits m edits)))

-- if the source tells it, all that is to be given is these updates
abbrev pub IsMergeOf : ℕ → ℕ → Map → ReaderView → SourceView → List Update → Type 0
IsMergeOf format most m reader source edits = SourceTold source → merging format most (entries m) (raw_lines (rest reader source)) ≡ reads edits true
