-- What is wrong with the bytes of an intent: their number of items, or the first item that is wrong.
use Rattle.std.specs.Prelude.{ℕ, zero, suc, ◌+◌, nat_le, nat_lt, ◌==◌, ◌&&◌, ◌||◌, not, if◌then◌else◌, Bool, List, Option, Some, None, is_some}
use Rattle.station.specs.Bytes.{byte}
use Rattle.batch_intent.specs.declared.places.TheConstants.{INTENT_SIZE}
use Rattle.map_model.specs.ItemWords.{has_item}
use Rattle.batch_intent.specs.declared.intent.TheConstants.{MOST_ITEMS}
use Rattle.batch_intent.specs.Spelling.{key_field, after_item, items_from, place_from}
use Rattle.key_slot.specs.Format.{key_room, value_room}

-- an item's first byte, with the size of its value: none in a remove
abbrev pub is_kind : ℕ → ℕ → Bool
is_kind kind size = (kind == 1) || ((kind == 2) && (size == 0))

-- whether an item of the format stands at a place, with all of its bytes
abbrev pub is_item : ℕ → List ℕ → ℕ → Bool
is_item format bytes p =
    is_kind (byte bytes p) (byte bytes (p + 2))
    && (nat_le 1 (byte bytes (p + 1)) && (nat_le (byte bytes (p + 1)) (key_room format) && (nat_le (byte bytes (p + 2)) (value_room format) && nat_le (after_item bytes p) INTENT_SIZE)))

-- whether item i is wrong: it is none of the format, or has the key of an earlier one
abbrev pub is_wrong_item : ℕ → List ℕ → ℕ → Bool
is_wrong_item format bytes i = not (is_item format bytes (place_from bytes i 1)) || has_item (key_field bytes (place_from bytes i 1)) (items_from bytes i 1)

-- the place of the first of n items that is wrong
unfoldable pub first_wrong : ℕ → List ℕ → ℕ → Option ℕ
first_wrong format bytes zero = None
first_wrong format bytes (suc n) =
    let before = first_wrong format bytes n in
    if is_some before then before else (if is_wrong_item format bytes n then Some (place_from bytes n 1) else None)

-- the first thing that is wrong: the number of items, at place 0, or an item
abbrev pub wrong_place : ℕ → List ℕ → Option ℕ
wrong_place format bytes = if (byte bytes 0 == 0) || nat_lt MOST_ITEMS (byte bytes 0) then Some 0 else first_wrong format bytes (byte bytes 0)
