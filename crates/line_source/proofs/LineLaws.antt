-- The lines of a script, one line at a time.
use Rattle.std.proofs.Common.{◌≡◌, ◌≢◌, ℕ, ◌<◌, false, cond, List, [], ◌∷◌, ◌++◌, length, All, refl, ap, ◌∙◌, arith, ◌==◌, ne_eqb}
use Rattle.std.specs.List.{slice_split}
use Rattle.std.proofs.lemmas.List.Elements.{All-weaker}
use Rattle.std.proofs.lemmas.List.Splits.{slice_split_at, slice_split_none, length-slice_split}
use Rattle.line_source.specs.Lines.{NoFeed, without_last, without_empty_last, raw_lines, complete_lines}

fails : (line : List ℕ) → NoFeed line → All (λ b. (b == 10) ≡ false) line
fails line none = All-weaker (λ b. b ≢ 10) (λ b. (b == 10) ≡ false) (λ b other. ne_eqb b 10 other) line none

-- the parts of a script that begins with a line
split_line : (line rest : List ℕ) → NoFeed line → slice_split (λ b. b == 10) (line ++ 10 ∷ rest) ≡ line ∷ slice_split (λ b. b == 10) rest
split_line line rest none = slice_split_at (λ b. b == 10) line 10 rest (fails line none) refl

-- the parts of a script with no line feed
split_part : (part : List ℕ) → NoFeed part → slice_split (λ b. b == 10) part ≡ part ∷ []
split_part part none = slice_split_none (λ b. b == 10) part (fails part none)

some_part : (script : List ℕ) → 0 < length (slice_split (λ b. b == 10) script)
some_part script = omega (arith, length-slice_split (λ b. b == 10) script)

keep_line : (line : List ℕ) (parts : List (List ℕ)) → 0 < length parts → without_empty_last (line ∷ parts) ≡ line ∷ without_empty_last parts
keep_line line [] some = absurd (omega arith)
keep_line line (part ∷ parts) some = refl

keep_complete : (line : List ℕ) (parts : List (List ℕ)) → 0 < length parts → without_last (line ∷ parts) ≡ line ∷ without_last parts
keep_complete line [] some = absurd (omega arith)
keep_complete line (part ∷ parts) some = refl

pub raw_lines-line : (line rest : List ℕ) → NoFeed line → raw_lines (line ++ 10 ∷ rest) ≡ line ∷ raw_lines rest
raw_lines-line line rest none = ap without_empty_last (split_line line rest none) ∙ keep_line line (slice_split (λ b. b == 10) rest) (some_part rest)

pub raw_lines-last : (line : List ℕ) → NoFeed line → 0 < length line → raw_lines line ≡ line ∷ []
raw_lines-last line none some = ap without_empty_last (split_part line none) ∙ ap (λ b. cond b [] (line ∷ [])) (ne_eqb (length line) 0 (λ e. omega arith))

pub complete_lines-line : (line rest : List ℕ) → NoFeed line → complete_lines (line ++ 10 ∷ rest) ≡ line ∷ complete_lines rest
complete_lines-line line rest none = ap without_last (split_line line rest none) ∙ keep_complete line (slice_split (λ b. b == 10) rest) (some_part rest)

pub complete_lines-part : (part : List ℕ) → NoFeed part → complete_lines part ≡ []
complete_lines-part part none = ap without_last (split_part part none)
