-- Worked positions and paths, and the cuts of five levels, as they are known from outside.
use Rattle.std.proofs.Common.{◌≡◌, ℕ, ◌^◌, List, [], ◌∷◌, map, refl}
use Rattle.std.specs.List.{range_with_len}
use Rattle.veb_layout.specs.declared.tables.Cut.{Cut}
use Rattle.veb_layout.specs.Layout.{position_of, path_to, way_to}
use Rattle.veb_layout.specs.Tables.{cut_above}

-- the positions of the nodes of a depth, from left to right
positions_at : ℕ → ℕ → List ℕ
positions_at h d = map (position_of h d) (range_with_len 0 (2 ^ d))

-- up, top and bottom
cut : ℕ → ℕ → ℕ → Cut
cut up top bottom = record { up = up; top = top; bottom = bottom }

three_levels : map (positions_at 3) (range_with_len 0 3) ≡ (0 ∷ []) ∷ (1 ∷ 4 ∷ []) ∷ (2 ∷ 3 ∷ 5 ∷ 6 ∷ []) ∷ []
unfolding positions_at position_of
three_levels = refl

four_levels : map (positions_at 4) (range_with_len 0 4) ≡ (0 ∷ []) ∷ (1 ∷ 2 ∷ []) ∷ (3 ∷ 6 ∷ 9 ∷ 12 ∷ []) ∷ (4 ∷ 5 ∷ 7 ∷ 8 ∷ 10 ∷ 11 ∷ 13 ∷ 14 ∷ []) ∷ []
unfolding positions_at position_of
four_levels = refl

five_levels : map (positions_at 5) (range_with_len 0 4) ≡ (0 ∷ []) ∷ (1 ∷ 2 ∷ []) ∷ (3 ∷ 10 ∷ 17 ∷ 24 ∷ []) ∷ (4 ∷ 7 ∷ 11 ∷ 14 ∷ 18 ∷ 21 ∷ 25 ∷ 28 ∷ []) ∷ []
unfolding positions_at position_of
five_levels = refl

path_to_segment_5 : path_to 4 5 ≡ 0 ∷ 1 ∷ 6 ∷ 7 ∷ []
unfolding way_to position_of
path_to_segment_5 = refl

path_to_segment_11 : path_to 5 11 ≡ 0 ∷ 1 ∷ 10 ∷ 11 ∷ 13 ∷ []
unfolding way_to position_of
path_to_segment_11 = refl

cuts_of_five_levels : map (cut_above 5) (range_with_len 1 4) ≡ cut 0 1 1 ∷ cut 0 3 7 ∷ cut 2 1 3 ∷ cut 3 1 1 ∷ []
unfolding cut cut_above
cuts_of_five_levels = refl
