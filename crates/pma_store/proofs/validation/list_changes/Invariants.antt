use Rattle.std.proofs.Common.{◌≡◌, ◌<◌, ◌≤◌, ℕ, All, Err, length, get_or, take}
use Rattle.std.specs.Prelude.{is_ok}
use Rattle.key_slot.specs.Record.{IsAscending}
use Rattle.map_model.specs.Array.{Array, rows}
use Rattle.one_commit.specs.Fitting.{changes_in}
use Rattle.pma_store.specs.ItemEffects.{flags, kinds_in, kinds_of}
use Rattle.pma_store.specs.Looked.{BelongThere, HasFound}
use Rattle.pma_store.proofs.validation.list_changes.Given as goal

abbrev pub invariant-loop-i : goal.invariant-loop-i
invariant-loop-i l = record {
  few : l.count ≤ l.i;
  size : length l.changes ≡ 16;
  in_store : (n : ℕ) → ((k : ℕ) → k < length l.segments → get_or l.segments k 0 < n) → All (λ c. c.segment < n) (take l.count l.changes);
  kinds : kinds_in (take l.count l.changes) ≡ kinds_of (take l.i l.intent) (flags (λ k. is_ok (get_or l.found k (Err 0))) l.i);
  listed : (array : Array) (n : ℕ) → 0 < length array → IsAscending (rows array) → BelongThere array l.segments l.intent → ((k : ℕ) → k < length l.segments → get_or l.segments k 0 < n) → HasFound array l.segments l.intent l.found n → take l.count l.changes ≡ changes_in array (take l.i l.intent);
}
