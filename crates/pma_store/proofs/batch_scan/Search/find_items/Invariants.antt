use Rattle.std.proofs.Common.{◌≡◌, ℕ, ◌<◌, length, get_or, Err}
use Rattle.map_model.specs.Store.{Update, key_of}
use Rattle.pma_store.specs.Own.{FindsIn}
use Rattle.pma_store.proofs.batch_scan.Search.find_items.Given as goal

abbrev pub invariant-loop-i : goal.invariant-loop-i
invariant-loop-i l = record {
  own : (k : ℕ) (d : Update) → k < l.i → get_or l.self.segments.now k 0 ≡ l.n → FindsIn (key_of (get_or l.self.intent.now k d)) l.rows (get_or l.found k (Err 0));
  others : (k : ℕ) → (get_or l.self.segments.now k 0 ≡ l.n → ⊥) → get_or l.found k (Err 0) ≡ get_or l.fn.found k (Err 0);
  size : length l.found ≡ length l.fn.found;
}
