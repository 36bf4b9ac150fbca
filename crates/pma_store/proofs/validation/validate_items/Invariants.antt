use Rattle.std.proofs.Common.{◌≡◌, ◌<◌, ℕ, length, get_or, false, Err}
use Rattle.std.specs.Prelude.{is_ok}
use Rattle.std.specs.FinMap.{len}
use Rattle.density_rule.specs.Bounds.{upper_of}
use Rattle.map_model.specs.Store.{Map}
use Rattle.pma_store.specs.ItemEffects.{AreFoundAt, counts_of, total}
use Rattle.pma_store.proofs.Validations.{IsValidated}
use Rattle.pma_store.proofs.Sums.{IsFirst}
use Rattle.pma_store.proofs.validation.validate_items.Given as goal

abbrev pub invariant-loop-i : goal.invariant-loop-i
invariant-loop-i l = record {
  counted : total l.validated ≡ l.i;
  size : length l.validated.found ≡ 16;
  validated : (hmax : ℕ) (m : Map) → l.most ≡ upper_of hmax → l.fn.records ≡ len m → AreFoundAt l.found l.intent m → IsValidated hmax m l.intent l.i l.records (counts_of l.validated);
  first : IsFirst l.intent (λ k. is_ok (get_or l.found k (Err 0))) l.fn.records l.most l.i l.records (counts_of l.validated);
  found : (k : ℕ) → k < l.i → get_or l.validated.found k false ≡ is_ok (get_or l.found k (Err 0));
}
