-- In how many runs of neighbouring pages the numbers of a batch fall: the pages of a run are written by one call.
use Rattle.std.specs.Prelude.{if◌then◌else◌, ◌==◌, ℕ, ◌+◌, List, [], ◌∷◌}

-- how many runs begin in the numbers, where the number before them is given
abbrev pub runs_begun : ℕ → List ℕ → ℕ
runs_begun before [] = 0
runs_begun before (n ∷ numbers) = (if n == before + 1 then 0 else 1) + runs_begun n numbers

-- how many runs of neighbours the numbers make
abbrev pub run_count : List ℕ → ℕ
run_count [] = 0
run_count (n ∷ numbers) = 1 + runs_begun n numbers
