-- The lines of a merge text, for a store with slots of a format f: those of a load text, and `remove KEY`.
use Rattle.std.specs.Prelude.{ℕ, nat_lt, if◌then◌else◌, List, [], ◌∷◌, length, codes}
use Rattle.std.specs.Str.{bytes_eq}
use Rattle.std.specs.Str.Lines.{strip_carriage_return}
use Rattle.percent_encoding.specs.Percent.{percent_decode}
use Rattle.key_slot.specs.Format.{key_room}
use Rattle.line_source.specs.Lines.{is_long}
use Rattle.command_text.specs.Words.{words}
use Rattle.command_text.specs.Load.{load_named}
use Rattle.command_text.specs.declared.load.LoadLine.{LoadLine}
use Rattle.command_text.specs.declared.load.LoadLine.TheVariants as load
use Rattle.command_text.specs.declared.merge.MergeLine.{MergeLine}
use Rattle.command_text.specs.declared.merge.MergeLine.TheVariants.{Nothing, Bind, Remove, End, Bad}

-- what a line of a load text is here: its record is bound
abbrev pub merge_line_of : LoadLine → MergeLine
merge_line_of load.Nothing = Nothing
merge_line_of (load.Row row) = Bind row
merge_line_of (load.End n) = End n
merge_line_of load.Bad = Bad

-- a removal, unless a slot of the format has no room for the key
abbrev pub removal_of : ℕ → List ℕ → MergeLine
removal_of f key = if nat_lt (key_room f) (length key) then Bad else Remove key

-- `remove KEY`
abbrev pub removal_line : ℕ → List (List ℕ) → MergeLine
removal_line f (one ∷ []) = removal_of f (percent_decode one)
removal_line f _ = Bad

-- the line with this first word
abbrev pub merge_named : ℕ → List ℕ → List (List ℕ) → MergeLine
merge_named f name rest = if bytes_eq name (codes "remove") then removal_line f rest else merge_line_of (load_named f name rest)

abbrev pub merge_words : ℕ → List (List ℕ) → MergeLine
merge_words f [] = Nothing
merge_words f (name ∷ rest) = merge_named f name rest

-- what a line is in a merge text, without its line feed and without one carriage return before that
abbrev pub merge_line : ℕ → List ℕ → MergeLine
merge_line f line = merge_words f (words line)

-- what a line is as it stands in the text: a long one stands in no merge text, whatever it begins with
abbrev pub merge_line_raw : ℕ → List ℕ → MergeLine
merge_line_raw f raw = if is_long raw then Bad else merge_line f (strip_carriage_return raw)
