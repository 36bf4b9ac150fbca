-- What callers see of the two iterators, and what their fields stand for.
use Rattle.std.specs.Prelude.{◌≡◌, ℕ, zero, suc, ◌+◌, ◌-◌, ◌*◌, ◌/◌, ◌^◌, ◌≤◌, min, List, [], ◌∷◌, ◌++◌, length, take, drop, slice_index, Option, MatchOption, All}
use Rattle.std.specs.Iterator.{YieldsFirst}
use Rattle.density_rule.specs.Spread.{shares}
use Rattle.spread_plan.specs.declared.Move.{Move}
use Rattle.density_rule.specs.declared.TheConstants.{SEGMENT_RECORDS}
use Rattle.spread_plan.specs.Moves.{counts_moved}
use Rattle.spread_plan.specs.Plans.{full_counts, moves_between, pack_from, pack_moves, inverse_moves}

-- the moves that are still to come, and the counts that the segments have before them
pub record PlanView : Type 0 where
  pub moves : List Move
  pub counts : List ℕ

abbrev pub coming : PlanView → List Move
coming plan = plan.moves

-- the next of the moves is given, and the counts are then those after it
abbrev pub GivesMove : PlanView → Option Move → PlanView → Type 0
GivesMove old given new = YieldsFirst coming old given new × MatchOption given (new.counts ≡ old.counts) (λ m. new.counts ≡ counts_moved m old.counts)

-- the moves of a pack that are still to come: those of the records from `next` to below `end` of the segment looked
-- at last, and those of the segments with the other counts
abbrev pub moves_to_pack : List ℕ → ℕ → ℕ → ℕ → ℕ → List Move
moves_to_pack rest segments records next end = moves_between (segments - 1) next end ++ pack_from segments records rest

-- the counts meanwhile: the records numbered below `next` are packed, and the others are where they were
abbrev pub packing_counts : List ℕ → ℕ → ℕ → ℕ → List ℕ
packing_counts rest zero records next = rest
packing_counts rest (suc s) records next = full_counts next s ++ (records - next) ∷ rest

abbrev pub packing_view : List ℕ → ℕ → ℕ → ℕ → ℕ → PlanView
packing_view rest segments records next end = record { moves = moves_to_pack rest segments records next end; counts = packing_counts rest segments records next }

pub record IsPacking (rest : List ℕ) (segments records next end : ℕ) : Type 0 where
  pub segments_fit : segments + length rest ≤ 2 ^ 16
  pub counts_fit : All (λ count. count ≤ SEGMENT_RECORDS) rest
  pub records_fit : records ≤ segments * SEGMENT_RECORDS
  pub forward : next ≤ end
  pub near : end ≤ next + SEGMENT_RECORDS
  pub end_is : end ≡ min records ((segments - 1) * SEGMENT_RECORDS)

-- the moves of a spread that are still to come: they undo a pack of the shares of the first segments, and of the
-- records from `start` to below `end` of the next one
abbrev pub moves_to_spread : ℕ → ℕ → ℕ → ℕ → ℕ → List Move
moves_to_spread n m to start end = inverse_moves (pack_moves (take to (shares n m)) ++ moves_between to start end)

-- the counts meanwhile: the records numbered below `end` are packed, and the others are in their shares
abbrev pub less_first : ℕ → List ℕ → List ℕ
less_first n [] = []
less_first n (count ∷ counts) = (count - n) ∷ counts

abbrev pub spreading_counts : ℕ → ℕ → ℕ → ℕ → ℕ → List ℕ
spreading_counts n m to start end = full_counts end to ++ less_first (end - start) (drop to (shares n m))

abbrev pub spreading_view : ℕ → ℕ → ℕ → ℕ → ℕ → PlanView
spreading_view n m to start end = record { moves = moves_to_spread n m to start end; counts = spreading_counts n m to start end }

pub record IsSpreading (n m to start end : ℕ) : Type 0 where
  pub some : 1 ≤ m
  pub segments_fit : m ≤ 2 ^ 16
  pub records_fit : n ≤ SEGMENT_RECORDS * m
  pub to_is : to ≤ m
  pub start_is : start ≡ to * n / m
  pub forward : start ≤ end
  pub near : end ≤ start + SEGMENT_RECORDS
  pub left : end ≤ to * SEGMENT_RECORDS
  pub within : end - start ≤ slice_index (shares n m) to
