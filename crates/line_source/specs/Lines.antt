-- The lines of a script. A line is ended by a line feed (10); a last line without one counts.
use Rattle.std.specs.Prelude.{◌≢◌, ℕ, ◌==◌, nat_lt, if◌then◌else◌, Bool, List, [], ◌∷◌, length, All}
use Rattle.std.specs.List.{slice_split}

-- no byte is a line feed
abbrev pub NoFeed : List ℕ → Type 0
NoFeed bytes = All (λ b. b ≢ 10) bytes

-- all parts but the last
abbrev pub without_last : List (List ℕ) → List (List ℕ)
without_last [] = []
without_last (part ∷ []) = []
without_last (part ∷ other ∷ parts) = part ∷ without_last (other ∷ parts)

-- all parts, but not an empty last one
abbrev pub without_empty_last : List (List ℕ) → List (List ℕ)
without_empty_last [] = []
without_empty_last (part ∷ []) = if length part == 0 then [] else part ∷ []
without_empty_last (part ∷ other ∷ parts) = part ∷ without_empty_last (other ∷ parts)

-- the lines of a script, each with the carriage return that it may end with
abbrev pub raw_lines : List ℕ → List (List ℕ)
raw_lines script = without_empty_last (slice_split (λ b. b == 10) script)

-- the lines whose line feed is there
abbrev pub complete_lines : List ℕ → List (List ℕ)
complete_lines script = without_last (slice_split (λ b. b == 10) script)

-- the most bytes of a line that is given: its line feed doesn't count, a carriage return before it does
abbrev pub line_limit : ℕ
line_limit = 512

-- the most bytes that a reader holds: the start of a line, and what it took ahead
abbrev pub most_held : ℕ
most_held = 4096

-- whether a line as it stands in the script is long
abbrev pub is_long : List ℕ → Bool
is_long raw = nat_lt line_limit (length raw)
