-- The map after updates, and the height after one, each alone: the words of the contracts and proofs below the headline, which
-- reads `state_after_items`.
use Rattle.std.specs.Prelude.{ℕ, List, [], ◌∷◌}
use Rattle.std.specs.FinMap.{len}
use Rattle.map_model.specs.Store.{Map, Update, effect_of, effect_map, effect_height}

-- the map after an update, in a store with the greatest height hmax
abbrev pub map_after : ℕ → Map → Update → Map
map_after hmax m u = effect_map (effect_of hmax m u) m u

-- the height after it
abbrev pub height_after : ℕ → ℕ → Map → Update → ℕ
height_after hmax height m u = effect_height (effect_of hmax m u) height (len m)

-- the map after updates
abbrev pub map_after_items : ℕ → Map → List Update → Map
map_after_items hmax m [] = m
map_after_items hmax m (u ∷ us) = map_after_items hmax (map_after hmax m u) us
