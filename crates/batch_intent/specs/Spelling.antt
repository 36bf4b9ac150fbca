-- How items are spelled: their number in one byte, and for each item 1 (put) or 2 (remove), the size of its key, the size
-- of its value (0 for a remove), the key and the value.
use Rattle.std.specs.Prelude.{◌≡◌, ℕ, zero, suc, ◌+◌, ◌<◌, ◌≤◌, nat_le, ◌==◌, ◌&&◌, if◌then◌else◌, Bool, true, List, [], ◌∷◌, ◌++◌, T, length, slice_range}
use Rattle.std.specs.List.{flat_map, list_all}
use Rattle.station.specs.Bytes.{byte}
use Rattle.batch_intent.specs.declared.places.TheConstants.{INTENT_SIZE}
use Rattle.key_slot.specs.Record.{is_record}
use Rattle.map_model.specs.Store.{Update, bind, unbind, key_of}
use Rattle.map_model.specs.Items.{are_distinct}
use Rattle.batch_intent.specs.declared.intent.TheConstants.{MOST_ITEMS}

abbrev pub item_bytes : Update → List ℕ
item_bytes (bind key value) = 1 ∷ length key ∷ length value ∷ (key ++ value)
item_bytes (unbind key) = 2 ∷ length key ∷ 0 ∷ key

abbrev pub intent_bytes : List Update → List ℕ
intent_bytes items = length items ∷ flat_map item_bytes items

-- the value that an item binds; a remove binds none
abbrev pub bound_value : Update → List ℕ
bound_value (bind key value) = value
bound_value (unbind key) = []

-- whether an item's key and value have sizes up to these
abbrev pub has_sizes : ℕ → ℕ → Update → Bool
has_sizes key_size value_size u = nat_le 1 (length (key_of u)) && (nat_le (length (key_of u)) key_size && nat_le (length (bound_value u)) value_size)

-- whether an item fits a slot format, with the empty value if it binds none
abbrev pub fits_item : ℕ → Update → Bool
fits_item format u = is_record format (key_of u, bound_value u)

-- items that may be an intent: not too many, and no key twice, with a spelling that there is room for
pub record IsIntent (items : List Update) : Type 0 where
  pub most : length items ≤ MOST_ITEMS
  pub distinct : are_distinct items ≡ true
  pub size : length (intent_bytes items) ≤ INTENT_SIZE

-- The bytes are an intent of these items: at least one, and all of them fit the format. Bytes behind them are ignored.
pub record Spells (format : ℕ) (items : List Update) (bytes : List ℕ) : Type 0 where
  pub some : 1 ≤ length items
  pub intent : IsIntent items
  pub fit : T (list_all (fits_item format) items)
  pub spelled : (i : ℕ) → i < length (intent_bytes items) → byte bytes i ≡ byte (intent_bytes items) i

-- How bytes are read.

-- the key and the value that stand at a place, by the sizes there
abbrev pub key_field : List ℕ → ℕ → List ℕ
key_field bytes p = slice_range bytes (p + 3) (p + 3 + byte bytes (p + 1))

abbrev pub value_field : List ℕ → ℕ → List ℕ
value_field bytes p = slice_range bytes (p + 3 + byte bytes (p + 1)) (p + 3 + byte bytes (p + 1) + byte bytes (p + 2))

-- the item that stands there
abbrev pub item_at : List ℕ → ℕ → Update
item_at bytes p = if byte bytes p == 1 then bind (key_field bytes p) (value_field bytes p) else unbind (key_field bytes p)

-- where the next one stands
abbrev pub after_item : List ℕ → ℕ → ℕ
after_item bytes p = p + 3 + byte bytes (p + 1) + byte bytes (p + 2)

-- n items from a place on, and the place behind them
abbrev pub items_from : List ℕ → ℕ → ℕ → List Update
items_from bytes zero p = []
items_from bytes (suc n) p = item_at bytes p ∷ items_from bytes n (after_item bytes p)

abbrev pub place_from : List ℕ → ℕ → ℕ → ℕ
place_from bytes zero p = p
place_from bytes (suc n) p = place_from bytes n (after_item bytes p)

-- the items of an intent
unfoldable pub items_in : List ℕ → List Update
items_in bytes = items_from bytes (byte bytes 0) 1
