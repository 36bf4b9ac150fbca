use Rattle.std.proofs.Common.{◌≡◌, ℕ, ◌<◌, get_or, Err, false}
use Rattle.std.specs.Prelude.{is_ok}
use Rattle.map_model.specs.Store.{Update}
use Rattle.pma_store.specs.Own.{edits_by}
use Rattle.pma_store.proofs.batch_scan.Search.has_edit.Given as goal

abbrev pub invariant-loop-i : goal.invariant-loop-i
invariant-loop-i l = record {
  none : (k : ℕ) (d : Update) → k < l.i → get_or l.self.segments.now k 0 ≡ l.n → edits_by (get_or l.self.intent.now k d) (is_ok (get_or l.found k (Err 0))) ≡ false;
}
