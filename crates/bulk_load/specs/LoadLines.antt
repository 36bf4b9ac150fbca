-- A load text is read one line at a time.
use Rattle.std.specs.Prelude.{◌≡◌, ◌⊎◌, ℕ, ◌+◌, ◌≤◌, ◌==◌, if◌then◌else◌, not, Bool, true, false, List, [], ◌∷◌, ◌++◌, length}
use Rattle.line_source.specs.Lines.{raw_lines}
use Rattle.line_source.specs.SourceView.{SourceView, SourceTold}
use Rattle.line_source.specs.LineReaderView.{ReaderView, rest}
use Rattle.key_slot.specs.Record.{Record}
use Rattle.key_slot.specs.Row.{record_of}
use Rattle.map_model.specs.FileReasons.{last_key, begins_above}
use Rattle.command_text.specs.Load.{load_line_raw}
use Rattle.command_text.specs.declared.load.LoadLine.{LoadLine}
use Rattle.command_text.specs.declared.load.LoadLine.TheVariants.{Nothing, Row, End, Bad}

pub data Loading : Type 0 where
  -- these records so far, and whether the line with their number was met
  reads : List Record → Bool → Loading
  -- this line, counted from 1, can't stand there
  wrong : ℕ → Loading
  -- a record follows as many as may be
  full : Loading

-- a record behind these, in the line of this number
abbrev pub after_record : ℕ → ℕ → List Record → Record → Loading
after_record most number rows r =
    if not (begins_above (last_key rows) (r ∷ [])) then wrong number
    else (if length rows == most then full else reads (rows ++ r ∷ []) false)

-- the line of this number
abbrev pub after_line : ℕ → ℕ → List Record → Bool → LoadLine → Loading
after_line most number rows ended Nothing = reads rows ended
after_line most number rows true (Row row) = wrong number
after_line most number rows false (Row row) = after_record most number rows (record_of row)
after_line most number rows true (End n) = wrong number
after_line most number rows false (End n) = if n == length rows then reads rows true else wrong number
after_line most number rows ended Bad = wrong number

-- the line of this number, if reading goes on so far
abbrev pub load_step : ℕ → ℕ → ℕ → Loading → List ℕ → Loading
load_step format most number (reads rows ended) raw = after_line most number rows ended (load_line_raw format raw)
load_step format most number (wrong n) raw = wrong n
load_step format most number full raw = full

-- the lines from this number on
abbrev pub load_from : ℕ → ℕ → ℕ → Loading → List (List ℕ) → Loading
load_from format most number s [] = s
load_from format most number s (raw ∷ lines) = load_from format most (number + 1) (load_step format most number s raw) lines

-- what comes of these lines in a store that may hold that many records
abbrev pub loading : ℕ → ℕ → List (List ℕ) → Loading
loading format most lines = load_from format most 1 (reads [] false) lines

-- the first wrong line, or the one behind the last if the lines end before the line with the number of records
abbrev pub IsWrongLine : ℕ → ℕ → List (List ℕ) → ℕ → Type 0
IsWrongLine format most lines n = (loading format most lines ≡ wrong n) ⊎ ((rows : List Record) × (loading format most lines ≡ reads rows false) × (n ≡ length lines + 1))

-- if the source tells it, all that is to be given is these records
abbrev pub IsTextOf : ℕ → ℕ → ReaderView → SourceView → List Record → Type 0
IsTextOf format most reader source rows = SourceTold source → loading format most (raw_lines (rest reader source)) ≡ reads rows true

-- the reader gave no answer yet, and took nothing
pub record IsUnread (r : ReaderView) : Type 0 where
  pub fresh : r.done ≡ false
  pub begun : r.held ≡ []
  pub going : r.ended ≡ false

-- what was taken is a front of what was left, of at most that many bytes
pub record TakesAtMost (most : ℕ) (a b : SourceView) : Type 0 where
  pub front : List ℕ
  pub is : a.left ≡ front ++ b.left
  pub most_is : length front ≤ most
