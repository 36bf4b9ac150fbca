-- The lines of a load text, for a store with slots of a format f: what a dump says, and what a load reads.
use Rattle.std.specs.Prelude.{ℕ, nat_lt, ◌==◌, ◌||◌, if◌then◌else◌, List, [], ◌∷◌, length, slice_index, Option, Some, None, codes}
use Rattle.std.specs.Str.{bytes_eq}
use Rattle.std.specs.Str.Lines.{strip_carriage_return}
use Rattle.percent_encoding.specs.Percent.{percent_decode}
use Rattle.key_slot.specs.Format.{key_room, value_room}
use Rattle.line_source.specs.Lines.{is_long}
use Rattle.command_text.specs.Number.{number_of}
use Rattle.command_text.specs.Words.{words}
use Rattle.command_text.specs.declared.load.LoadLine.{LoadLine}
use Rattle.command_text.specs.declared.load.LoadLine.TheVariants.{Nothing, Row, End, Bad}

-- a record, unless a slot of the format has no room for it
abbrev pub row_of : ℕ → List ℕ → List ℕ → LoadLine
row_of f key value = if nat_lt (key_room f) (length key) || nat_lt (value_room f) (length value) then Bad else Row (record { key = key; value = value })

-- `record KEY` or `record KEY VALUE`; no value's word is the empty value
abbrev pub record_line : ℕ → List (List ℕ) → LoadLine
record_line f (one ∷ []) = row_of f (percent_decode one) []
record_line f (one ∷ two ∷ []) = row_of f (percent_decode one) (percent_decode two)
record_line f _ = Bad

-- a number was read, or none
abbrev pub if_number : Option ℕ → LoadLine
if_number None = Bad
if_number (Some n) = End n

-- `end N`
abbrev pub end_line : List (List ℕ) → LoadLine
end_line (n ∷ []) = if_number (number_of n)
end_line _ = Bad

-- the line with this first word; one that begins with `#` (35) is skipped
abbrev pub load_named : ℕ → List ℕ → List (List ℕ) → LoadLine
load_named f name rest =
    if slice_index name 0 == 35 then Nothing
    else (if bytes_eq name (codes "record") then record_line f rest
    else (if bytes_eq name (codes "end") then end_line rest
    else Bad))

abbrev pub load_words : ℕ → List (List ℕ) → LoadLine
load_words f [] = Nothing
load_words f (name ∷ rest) = load_named f name rest

-- what a line is in a load text, without its line feed and without one carriage return before that
abbrev pub load_line : ℕ → List ℕ → LoadLine
load_line f line = load_words f (words line)

-- what a line is as it stands in the text: a long one stands in no load text, whatever it begins with
abbrev pub load_line_raw : ℕ → List ℕ → LoadLine
load_line_raw f raw = if is_long raw then Bad else load_line f (strip_carriage_return raw)
