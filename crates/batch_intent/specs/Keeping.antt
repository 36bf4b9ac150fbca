-- How an intent is kept.
use Rattle.std.specs.Prelude.{◌≡◌, ℕ, List, T, length}
use Rattle.std.specs.List.{list_all}
use Rattle.std.proofs.Common.{sym}
use Rattle.key_slot.specs.Padded.{padded}
use Rattle.key_slot.specs.declared.sizes.TheConstants.{MAX_KEY_LEN, MAX_VALUE_LEN}
use Rattle.batch_intent.specs.declared.places.TheConstants.{INTENT_SIZE}
use Rattle.map_model.specs.Store.{Update}
use Rattle.batch_intent.specs.Spelling.{IsIntent, intent_bytes, has_sizes}

-- the bytes are the spelling of the items, with zeros behind it, and `end` is its length
pub record KeepsBy (items : List Update) (bytes : List ℕ) (end : ℕ) : Type 0 where
  pub intent : IsIntent items
  pub sizes : T (list_all (has_sizes MAX_KEY_LEN MAX_VALUE_LEN) items)
  pub spelled : bytes ≡ padded INTENT_SIZE (intent_bytes items)
  pub end_is : end ≡ length (intent_bytes items)

-- the items give the fields back
pub bytes_back : (items : List Update) (bytes : List ℕ) (end : ℕ) → KeepsBy items bytes end → padded INTENT_SIZE (intent_bytes items) ≡ bytes
bytes_back items bytes end is = sym is.spelled

pub end_back : (items : List Update) (bytes : List ℕ) (end : ℕ) → KeepsBy items bytes end → length (intent_bytes items) ≡ end
end_back items bytes end is = sym is.end_is
