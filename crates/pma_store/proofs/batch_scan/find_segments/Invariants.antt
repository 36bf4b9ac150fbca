use Rattle.std.proofs.Common.{◌≡◌, ◌<◌, ◌^◌, ℕ, length, get_or}
use Rattle.key_slot.specs.Record.{IsAscending}
use Rattle.map_model.specs.Array.{Array, rows, segment_for}
use Rattle.map_model.specs.Store.{Update, key_of}
use Rattle.veb_index.specs.Arrays.{IsIndexOf}
use Rattle.pma_store.proofs.batch_scan.find_segments.Given as goal

abbrev pub invariant-loop-i : goal.invariant-loop-i
invariant-loop-i l = record {
  size : length l.segments ≡ length l.intent;
  within : (k : ℕ) → k < l.i → get_or l.segments k 0 < 2 ^ l.index.height;
  found : (array : Array) → IsIndexOf l.index array → IsAscending (rows array) → (k : ℕ) (d : Update) → k < l.i → get_or l.segments k 0 ≡ segment_for array (key_of (get_or l.intent k d));
}
