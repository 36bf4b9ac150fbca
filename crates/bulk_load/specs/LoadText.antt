-- Load texts: records in ascending order, a line each, and a last line with their number.
use Rattle.std.specs.Prelude.{◌≡◌, ◌⊎◌, ℕ, ◌+◌, ◌-◌, ◌≤◌, List, ◌∷◌, ◌++◌, length, take, All, Option, Some, None}
use Rattle.std.specs.List.{filter_map}
use Rattle.key_slot.specs.Record.{Record, IsAscending}
use Rattle.key_slot.specs.Row.{record_of}
use Rattle.command_text.specs.Load.{load_line_raw}
use Rattle.command_text.specs.declared.load.LoadLine.{LoadLine}
use Rattle.command_text.specs.declared.load.LoadLine.TheVariants.{Nothing, Row, End, Bad}

-- the record of a line, if it has one
abbrev pub record_of_line : LoadLine → Option Record
record_of_line (Row row) = Some (record_of row)
record_of_line _ = None

-- the records of lines of a format, in order
abbrev pub records_in : ℕ → List (List ℕ) → List Record
records_in format lines = filter_map (λ raw. record_of_line (load_line_raw format raw)) lines

-- a line that is skipped or has a record
abbrev pub IsEntry : LoadLine → Type 0
IsEntry Nothing = Unit {0}
IsEntry (Row row) = Unit {0}
IsEntry (End n) = ⊥
IsEntry Bad = ⊥

-- The lines are a load text of a format with these records: lines with records, their keys strictly ascending, then a line
-- with their number. Lines that are skipped may stand between, before and behind.
pub record IsLoadText (format : ℕ) (lines : List (List ℕ)) (rows : List Record) : Type 0 where
  pub front : List (List ℕ)
  pub last : List ℕ
  pub behind : List (List ℕ)
  pub lines_are : lines ≡ front ++ last ∷ behind
  pub front_is : All (λ raw. IsEntry (load_line_raw format raw)) front
  pub end_is : load_line_raw format last ≡ End (length rows)
  pub behind_is : All (λ raw. load_line_raw format raw ≡ Nothing) behind
  pub rows_are : records_in format front ≡ rows
  pub ascending : IsAscending rows

-- some load text begins with these lines
pub record BeginsText (format : ℕ) (lines : List (List ℕ)) : Type 0 where
  pub behind : List (List ℕ)
  pub rows : List Record
  pub text : IsLoadText format (lines ++ behind) rows

-- line n, counted from 1, is the first that no load text can have there
pub record IsFirstWrong (format : ℕ) (lines : List (List ℕ)) (n : ℕ) : Type 0 where
  pub some : 1 ≤ n
  pub there : n ≤ length lines
  pub before : BeginsText format (take (n - 1) lines)
  pub wrong : BeginsText format (take n lines) → ⊥

-- the lines end before the line with the number of records
pub record IsUnfinished (format : ℕ) (lines : List (List ℕ)) : Type 0 where
  pub begins : BeginsText format lines
  pub no_text : (rows : List Record) → IsLoadText format lines rows → ⊥

-- Line n is refused by a store that may hold that many records: it is the first that no load text can have there, or one more
-- than there are, if the lines end before the one with the number of records; and the lines before it have no more records
-- than that.
pub record IsRefusedAt (format most : ℕ) (lines : List (List ℕ)) (n : ℕ) : Type 0 where
  pub why : IsFirstWrong format lines n ⊎ (IsUnfinished format lines × (n ≡ length lines + 1))
  pub few : length (records_in format (take (n - 1) lines)) ≤ most

-- these lines make no refusal due in a store that may hold that many records: some load text begins with them, and they have no
-- more
pub record MayGoOn (format most : ℕ) (lines : List (List ℕ)) : Type 0 where
  pub begins : BeginsText format lines
  pub few : length (records_in format lines) ≤ most

-- the first n lines have one record more than that many, and some load text begins with them
pub record IsOneTooMany (format most : ℕ) (lines : List (List ℕ)) : Type 0 where
  pub n : ℕ
  pub there : n ≤ length lines
  pub begins : BeginsText format (take n lines)
  pub records : length (records_in format (take n lines)) ≡ most + 1
