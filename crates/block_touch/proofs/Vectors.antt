-- Worked blocks and bounds, as they are known from outside.
use Rattle.std.proofs.Common.{◌≡◌, ℕ, ◌-◌, ◌^◌, [], ◌∷◌, map, refl}
use Rattle.std.specs.List.{range_with_len}
use Rattle.veb_layout.specs.Layout.{position_of, way_to, path_to}
use Rattle.block_touch.specs.Blocks.{blocks_touched, floor_log2, block_bound}

-- the blocks of a path, where position 0 is the first of its block
blocks_of_path : ℕ → ℕ → ℕ → ℕ
blocks_of_path h segment block = blocks_touched (path_to h segment) block 0

paths : blocks_of_path 4 5 3 ∷ blocks_of_path 4 5 1 ∷ blocks_of_path 5 11 7 ∷ blocks_of_path 2 3 7 ∷ blocks_of_path 2 3 1 ∷ blocks_of_path 0 0 1 ∷ blocks_of_path 16 0 255 ∷ [] ≡ 2 ∷ 4 ∷ 2 ∷ 1 ∷ 2 ∷ 0 ∷ 2 ∷ []
unfolding blocks_of_path blocks_touched way_to position_of
paths = refl

bounds : block_bound 4 3 ∷ block_bound 4 1 ∷ block_bound 5 7 ∷ block_bound 9 7 ∷ block_bound 16 1 ∷ [] ≡ 8 ∷ 16 ∷ 8 ∷ 12 ∷ 64 ∷ []
unfolding block_bound floor_log2
bounds = refl

-- nodes in the order of their depth break the bound of 16 levels
depth_order : blocks_touched (map (λ d. 2 ^ d - 1) (range_with_len 0 16)) 255 0 ∷ block_bound 16 255 ∷ [] ≡ 9 ∷ 8 ∷ []
unfolding blocks_touched block_bound floor_log2
depth_order = refl
