-- Worked moves and plans, by computation.
use Rattle.std.proofs.Common.{◌≡◌, ℕ, [], ◌∷◌, refl}
use Rattle.spread_plan.specs.declared.Move.{Move}
use Rattle.spread_plan.specs.Moves.{after_move}
use Rattle.spread_plan.specs.Plans.{full_counts, pack_moves, spread_moves}

step : ℕ → ℕ → ℕ → Move
step from to count = record { from = from; to = to; count = count }

-- the first record of the second list, to the end of the first
move_left : after_move {X = ℕ} (record { from = 1; to = 0; count = 1 }) ((1 ∷ 2 ∷ []) ∷ (3 ∷ 4 ∷ []) ∷ []) ≡ (1 ∷ 2 ∷ 3 ∷ []) ∷ (4 ∷ []) ∷ []
move_left = refl

-- the last record of the first list, to the front of the second
move_right : after_move {X = ℕ} (record { from = 0; to = 1; count = 1 }) ((1 ∷ 2 ∷ []) ∷ (3 ∷ 4 ∷ []) ∷ []) ≡ (1 ∷ []) ∷ (2 ∷ 3 ∷ 4 ∷ []) ∷ []
move_right = refl

pack_of_60_and_10 : pack_moves (60 ∷ 10 ∷ []) ≡ step 1 0 4 ∷ []
unfolding step
pack_of_60_and_10 = refl

spread_of_70 : spread_moves 70 2 ≡ step 0 1 29 ∷ []
unfolding step
spread_of_70 = refl

pack_of_4_and_33 : pack_moves (4 ∷ 33 ∷ []) ≡ step 1 0 33 ∷ []
unfolding step
pack_of_4_and_33 = refl

spread_of_37 : spread_moves 37 2 ≡ step 0 1 19 ∷ []
unfolding step
spread_of_37 = refl

-- a segment that is empty, and one whose records go to two
pack_of_four : pack_moves (60 ∷ 0 ∷ 64 ∷ 40 ∷ []) ≡ step 2 0 4 ∷ step 2 1 60 ∷ step 3 1 4 ∷ step 3 2 36 ∷ []
unfolding step
pack_of_four = refl

full_of_164 : full_counts 164 4 ≡ 64 ∷ 64 ∷ 36 ∷ 0 ∷ []
full_of_164 = refl

-- 31, 32, 31 and 32 records
spread_of_126 : spread_moves 126 4 ≡ step 1 3 32 ∷ step 1 2 30 ∷ step 0 2 1 ∷ step 0 1 32 ∷ []
unfolding step
spread_of_126 = refl
