-- The words of a batch: 1 to 16 items with the word `;` between each two. A word that is `;` alone always stands between items;
-- as a key or a value it is written `%3B`.
use Rattle.std.specs.Prelude.{ℕ, nat_le, ◌==◌, ◌&&◌, if◌then◌else◌, List, [], ◌∷◌, length, Option, Some, None, codes}
use Rattle.std.specs.List.{slice_split, filter_map}
use Rattle.std.specs.Str.{bytes_eq}
use Rattle.percent_encoding.specs.Percent.{percent_decode}
use Rattle.map_model.specs.Store.{Update, bind, unbind, key_of}
use Rattle.map_model.specs.Items.{are_distinct}
use Rattle.batch_intent.specs.declared.intent.TheConstants.{MOST_ITEMS}
use Rattle.batch_intent.specs.declared.places.TheConstants.{INTENT_SIZE}
use Rattle.batch_intent.specs.Spelling.{intent_bytes, bound_value}
use Rattle.command_text.specs.Room.{with_key, with_value}
use Rattle.command_text.specs.declared.command.Command.{Command}
use Rattle.command_text.specs.declared.command.Command.TheVariants.{Batch, RepeatedKey, Bad}
use Rattle.command_text.specs.declared.command.Why.TheVariants as why

-- the item of words: of `put KEY`, `put KEY VALUE` or `remove KEY`; no value's word is the empty value
abbrev pub batch_item : List (List ℕ) → Option Update
batch_item (name ∷ one ∷ []) =
    if bytes_eq name (codes "put") then Some (bind (percent_decode one) [])
    else if bytes_eq name (codes "remove") then Some (unbind (percent_decode one)) else None
batch_item (name ∷ one ∷ two ∷ []) = if bytes_eq name (codes "put") then Some (bind (percent_decode one) (percent_decode two)) else None
batch_item _ = None

-- a command, unless a slot has no room for the key or the value of one of these items, from left to right
abbrev pub with_items : ℕ → List Update → Command → Command
with_items f [] command = command
with_items f (u ∷ us) command = with_key f (key_of u) (with_value f (bound_value u) (with_items f us command))

-- `batch` and the words behind it: all parts are items, there are not too many, and an intent has room for their spelling; then
-- the sizes decide, and at last that no key stands twice
abbrev pub batch_of : ℕ → List (List ℕ) → Command
batch_of f words =
    let parts = slice_split (λ word. bytes_eq word (codes ";")) words in
    let items = filter_map batch_item parts in
    if length items == length parts && nat_le (length parts) MOST_ITEMS && nat_le (length (intent_bytes items)) INTENT_SIZE
    then with_items f items (if are_distinct items then Batch items else RepeatedKey) else Bad why.Words
