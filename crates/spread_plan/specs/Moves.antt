-- Moves of records between segments, on lists of records: a window is the list of its segments' lists.
use Rattle.std.specs.Prelude.{ℕ, ◌+◌, ◌-◌, nat_lt, if◌then◌else◌, List, [], ◌∷◌, ◌++◌, length, map, take, drop, slice_index, slice_index_or, slice_set}
use Rattle.std.specs.List.{flat_map}
use Rattle.spread_plan.specs.declared.Move.{Move}

-- all records, in order
abbrev pub records_of : {X : Type 0} → List (List X) → List X
records_of lists = flat_map (λ list. list) lists

-- how many records each segment has
abbrev pub counts_of : {X : Type 0} → List (List X) → List ℕ
counts_of lists = map length lists

-- the records of segment i
abbrev pub list_at : {X : Type 0} → List (List X) → ℕ → List X
list_at lists i = slice_index_or lists i []

-- after a move to a lower segment: the first records go to its end
abbrev pub after_move_left : {X : Type 0} → Move → List (List X) → List (List X)
after_move_left m lists =
    let source = list_at lists m.from in
    slice_set (slice_set lists m.to (list_at lists m.to ++ take m.count source)) m.from (drop m.count source)

-- after a move to a higher segment: the last records go to its front
abbrev pub after_move_right : {X : Type 0} → Move → List (List X) → List (List X)
after_move_right m lists =
    let source = list_at lists m.from in let kept = length source - m.count in
    slice_set (slice_set lists m.to (drop kept source ++ list_at lists m.to)) m.from (take kept source)

-- after a move
abbrev pub after_move : {X : Type 0} → Move → List (List X) → List (List X)
after_move m lists = if nat_lt m.to m.from then after_move_left m lists else after_move_right m lists

-- after moves, the first of them first
abbrev pub after_moves : {X : Type 0} → List Move → List (List X) → List (List X)
after_moves [] lists = lists
after_moves (m ∷ moves) lists = after_moves moves (after_move m lists)

-- the counts after a move
abbrev pub counts_moved : Move → List ℕ → List ℕ
counts_moved m counts = slice_set (slice_set counts m.to (slice_index counts m.to + m.count)) m.from (slice_index counts m.from - m.count)
