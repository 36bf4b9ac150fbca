use Rattle.std.proofs.Common.{◌≡◌, ℕ, ◌+◌, ◌*◌, ◌^◌, ◌≤◌, length, take}
use Rattle.std.specs.List.{flat_map}
use Rattle.key_slot.specs.declared.sizes.TheConstants.{MAX_KEY_LEN, MAX_VALUE_LEN}
use Rattle.map_model.specs.Store.{Map}
use Rattle.batch_intent.specs.Spelling.{item_bytes}
use Rattle.recovery.specs.Intents.{IsCounted}
use Rattle.recovery.proofs.Rooms.{HaveRoom}
use Rattle.recovery.proofs.fullness.full_place.Given as goal

abbrev pub invariant-loop-i : goal.invariant-loop-i
invariant-loop-i l = record {
  place_is : l.place ≡ 1 + length (flat_map item_bytes (take l.i l.intent));
  place_low : l.place ≤ 1 + (3 + MAX_KEY_LEN + MAX_VALUE_LEN) * l.i;
  few : l.records ≤ 2 ^ 31 + l.i;
  have : (limit : ℕ) (m : Map) → IsCounted limit m l.intent l.there l.fn.records l.fn.most → HaveRoom limit m l.intent l.i l.records;
}
