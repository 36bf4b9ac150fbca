-- A batch as the parser reads it: first the form of its words, and then the sizes of its items. It is `batch_of` of Batch.antt.
use Rattle.std.specs.Prelude.{ℕ, nat_lt, nat_le, ◌&&◌, ◌||◌, if◌then◌else◌, Bool, false, List, [], ◌∷◌, length, map, Option, Some, None, codes}
use Rattle.std.specs.List.{slice_split, list_all}
use Rattle.std.specs.Str.{bytes_eq}
use Rattle.percent_encoding.specs.Percent.{percent_decode}
use Rattle.key_slot.specs.Format.{key_room, value_room}
use Rattle.map_model.specs.Store.{Update, bind, unbind, key_of}
use Rattle.map_model.specs.Items.{are_distinct}
use Rattle.batch_intent.specs.declared.intent.TheConstants.{MOST_ITEMS}
use Rattle.batch_intent.specs.declared.places.TheConstants.{INTENT_SIZE}
use Rattle.batch_intent.specs.Spelling.{intent_bytes, bound_value}
use Rattle.command_text.specs.declared.command.Command.{Command}
use Rattle.command_text.specs.declared.command.Command.TheVariants.{Batch, OversizedKey, OversizedValue, RepeatedKey, Bad}
use Rattle.command_text.specs.declared.command.Why.TheVariants as why

abbrev pub is_separator : List ℕ → Bool
is_separator word = bytes_eq word (codes ";")

-- the words of each item
abbrev pub parts : List (List ℕ) → List (List (List ℕ))
parts words = slice_split is_separator words

-- whether these are an item's words
abbrev pub is_item_form : List (List ℕ) → Bool
is_item_form (name ∷ key ∷ []) = bytes_eq name (codes "put") || bytes_eq name (codes "remove")
is_item_form (name ∷ key ∷ value ∷ []) = bytes_eq name (codes "put")
is_item_form _ = false

-- the item of such words; no value's word is the empty value
abbrev pub item_of : List (List ℕ) → Update
item_of (name ∷ key ∷ []) = if bytes_eq name (codes "put") then bind (percent_decode key) [] else unbind (percent_decode key)
item_of (name ∷ key ∷ value ∷ []) = bind (percent_decode key) (percent_decode value)
item_of _ = unbind []

-- the items of a batch's words
abbrev pub items_of : List (List ℕ) → List Update
items_of words = map item_of (parts words)

-- whether these are the words of a batch: each item has an item's words, there are not too many, and an intent has room for
-- their spelling
abbrev pub is_batch_form : List (List ℕ) → Bool
is_batch_form words =
    list_all is_item_form (parts words)
    && (nat_le (length (parts words)) MOST_ITEMS && nat_le (length (intent_bytes (items_of words))) INTENT_SIZE)

-- the first size for which a slot of format f has no room, from left to right: a key's, then its value's
abbrev pub first_oversized : ℕ → List Update → Option Command
first_oversized f [] = None
first_oversized f (u ∷ us) =
    if nat_lt (key_room f) (length (key_of u)) then Some OversizedKey
    else if nat_lt (value_room f) (length (bound_value u)) then Some OversizedValue
    else first_oversized f us

-- the refusal of a size, or else the items, if no key stands twice
abbrev pub if_sized : Option Command → List Update → Command
if_sized (Some refused) us = refused
if_sized None us = if are_distinct us then Batch us else RepeatedKey

-- `batch` and its items
abbrev pub batch_by_form : ℕ → List (List ℕ) → Command
batch_by_form f words =
    if is_batch_form words then if_sized (first_oversized f (items_of words)) (items_of words) else Bad why.Words
