-- Words on items that contracts and proofs below the headline use.
use Rattle.std.specs.Prelude.{◌≡◌, ℕ, ◌+◌, if◌then◌else◌, Bool, List, [], ◌∷◌, None}
use Rattle.std.specs.List.{list_any}
use Rattle.std.specs.Str.{bytes_eq}
use Rattle.key_slot.specs.Record.{Bytes}
use Rattle.map_model.specs.Store.{Map, Update, key_of, Effect, Replaces, Takes, FindsNone, effect_of}
use Rattle.map_model.specs.After.{map_after}
use Rattle.map_model.specs.Items.{first_full, accepts}
use Rattle.map_model.specs.ArrayState.{ArrayState, next_state, next_states}
use Rattle.map_model.specs.Charges.{charge_after}

-- whether one of the items has this key
abbrev pub has_item : Bytes → List Update → Bool
has_item key us = list_any (λ u. bytes_eq key (key_of u)) us

-- no item meets a full store
abbrev pub AreAdmitted : ℕ → Map → List Update → Type 0
AreAdmitted hmax m items = first_full hmax m items ≡ None

-- the state after a batch of items, with the array and the marks: after all of them, or as it was
abbrev pub array_state_after_batch : ℕ → ℕ → ArrayState → List Update → ArrayState
array_state_after_batch version hmax s items = if accepts version hmax s.map items then next_states hmax s items else s

-- how many of the items bind a new key, bind a present one, take a record away, and find none to take
pub record ItemCounts : Type 0 where
  pub stored : ℕ
  pub replaced : ℕ
  pub removed : ℕ
  pub absent : ℕ

abbrev pub no_items : ItemCounts
no_items = record { stored = 0; replaced = 0; removed = 0; absent = 0 }

-- with one item more, by its effect
abbrev pub effect_count : Effect → ItemCounts → ItemCounts
effect_count Replaces counts = record counts { replaced = counts.replaced + 1 }
effect_count Takes counts = record counts { removed = counts.removed + 1 }
effect_count FindsNone counts = record counts { absent = counts.absent + 1 }
effect_count effect counts = record counts { stored = counts.stored + 1 }

-- with items more, each by what it does in the map before it
abbrev pub count_items : ℕ → Map → List Update → ItemCounts → ItemCounts
count_items hmax m [] counts = counts
count_items hmax m (u ∷ us) counts = count_items hmax (map_after hmax m u) us (effect_count (effect_of hmax m u) counts)

-- the sum of the items' charges, each in the array before it
abbrev pub charge_after_items : ℕ → ArrayState → List Update → ℕ
charge_after_items hmax s [] = 0
charge_after_items hmax s (u ∷ us) = charge_after hmax s.height s.array u + charge_after_items hmax (next_state hmax s u) us
