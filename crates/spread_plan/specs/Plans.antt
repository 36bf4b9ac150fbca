-- The moves of a pack and of a spread. The records of a window are numbered in their order from 0.
use Rattle.std.specs.Prelude.{ℕ, ◌+◌, ◌-◌, ◌*◌, ◌/◌, min, ◌==◌, if◌then◌else◌, List, [], ◌∷◌, ◌++◌, map, reverse}
use Rattle.std.specs.List.{range_with_len}
use Rattle.density_rule.specs.Spread.{shares}
use Rattle.spread_plan.specs.declared.Move.{Move}
use Rattle.density_rule.specs.declared.TheConstants.{SEGMENT_RECORDS}

-- the counts of m segments that hold n records with no gap: all full but the last used one
abbrev pub full_counts : ℕ → ℕ → List ℕ
full_counts n m = map (λ i. min SEGMENT_RECORDS (n - i * SEGMENT_RECORDS)) (range_with_len 0 m)

-- a move of some records, or none
abbrev pub move_of : ℕ → ℕ → ℕ → List Move
move_of from to count = if count == 0 then [] else record { from = from; to = to; count = count } ∷ []

-- the moves of the records of one segment that are numbered from a to below b, at most a segment full, to the
-- segments in whose rooms these numbers fall
abbrev pub moves_between : ℕ → ℕ → ℕ → List Move
moves_between from a b =
    let to = a / SEGMENT_RECORDS in let edge = (to + 1) * SEGMENT_RECORDS in
    move_of from to (min b edge - a) ++ move_of from (to + 1) (b - edge)

-- the moves to the left from the segments with these counts, of which this one is the first and has that many records
-- before it. Records whose numbers fall in the room of the segment that has them stay
abbrev pub pack_from : ℕ → ℕ → List ℕ → List Move
pack_from segment before [] = []
pack_from segment before (count ∷ counts) = moves_between segment before (min (before + count) (segment * SEGMENT_RECORDS)) ++ pack_from (segment + 1) (before + count) counts

-- the moves that pack segments with these counts
abbrev pub pack_moves : List ℕ → List Move
pack_moves counts = pack_from 0 0 counts

-- the move that undoes this one
abbrev pub inverse_move : Move → Move
inverse_move m = record { from = m.to; to = m.from; count = m.count }

-- the moves that undo these, the last of them first
abbrev pub inverse_moves : List Move → List Move
inverse_moves moves = reverse (map inverse_move moves)

-- the moves that spread n packed records over m segments: they undo a pack of their shares
abbrev pub spread_moves : ℕ → ℕ → List Move
spread_moves n m = inverse_moves (pack_moves (shares n m))
