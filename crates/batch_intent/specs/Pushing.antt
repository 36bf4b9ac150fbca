-- When an intent takes no further item.
use Rattle.std.specs.Prelude.{nat_le, nat_lt, if◌then◌else◌, List, [], ◌∷◌, ◌++◌, length, Option, Some, None}
use Rattle.batch_intent.specs.declared.places.TheConstants.{INTENT_SIZE}
use Rattle.map_model.specs.Store.{Update, key_of}
use Rattle.map_model.specs.ItemWords.{has_item}
use Rattle.batch_intent.specs.declared.intent.IntentFault.{IntentFault}
use Rattle.batch_intent.specs.declared.intent.IntentFault.TheVariants.{TooMany, Repeated, TooLong}
use Rattle.batch_intent.specs.declared.intent.TheConstants.{MOST_ITEMS}
use Rattle.batch_intent.specs.Spelling.{intent_bytes}

-- there are 16 items, else one has the key, else its spelling would be too long
abbrev pub push_fault : List Update → Update → Option IntentFault
push_fault items u =
    if nat_le MOST_ITEMS (length items) then Some TooMany
    else if has_item (key_of u) items then Some Repeated
    else if nat_lt INTENT_SIZE (length (intent_bytes (items ++ u ∷ []))) then Some TooLong
    else None
