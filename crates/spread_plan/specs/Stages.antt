-- What is kept while moves are made one after another.
use Rattle.std.specs.Prelude.{◌≡◌, ◌+◌, ◌<◌, ◌≤◌, List, [], ◌∷◌, length, All}
use Rattle.spread_plan.specs.declared.Move.{Move}
use Rattle.density_rule.specs.declared.TheConstants.{SEGMENT_RECORDS}
use Rattle.spread_plan.specs.Moves.{records_of, list_at, after_move}

-- no list has more records than a segment has room for
abbrev pub FitSegments : {X : Type 0} → List (List X) → Type 0
FitSegments lists = All (λ list. length list ≤ SEGMENT_RECORDS) lists

-- the lists hold the same records as the first ones, in the same order, in as many segments, none more than 64
pub record IsStage {X : Type 0} (first lists : List (List X)) : Type 0 where
  pub segments : length lists ≡ length first
  pub records : records_of lists ≡ records_of first
  pub fit : FitSegments lists

-- the move takes some records that are there to where there is room
pub record CanMove {X : Type 0} (m : Move) (lists : List (List X)) : Type 0 where
  pub from_in : m.from < length lists
  pub to_in : m.to < length lists
  pub some : 0 < m.count
  pub there : m.count ≤ length (list_at lists m.from)
  pub room : length (list_at lists m.to) + m.count ≤ SEGMENT_RECORDS

-- and goes to a lower segment
abbrev pub CanMoveLeft : {X : Type 0} → Move → List (List X) → Type 0
CanMoveLeft m lists = (m.to < m.from) × CanMove m lists

-- and goes to a higher segment
abbrev pub CanMoveRight : {X : Type 0} → Move → List (List X) → Type 0
CanMoveRight m lists = (m.from < m.to) × CanMove m lists

-- P holds before the moves and after each of them, and each of them can be made in its turn
abbrev pub AllStages : {X : Type 0} → (Move → List (List X) → Type 0) → (List (List X) → Type 0) → List Move → List (List X) → Type 0
AllStages Can P [] lists = P lists
AllStages Can P (m ∷ moves) lists = P lists × Can m lists × AllStages Can P moves (after_move m lists)
