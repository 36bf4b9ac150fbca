use Rattle.std.proofs.Common.{◌≡◌, ℕ, ◌<◌, ◌≤◌, false, ◌||◌, length, get_or, is_some}
use Rattle.map_model.specs.Store.{Update, key_of}
use Rattle.segment.specs.Rows.{value_of}
use Rattle.recovery.proofs.looking.mark_keys.Given as goal

abbrev pub invariant-loop-i : goal.invariant-loop-i
invariant-loop-i l = record {
  size : length l.there ≡ length l.fn.there;
  seen : (k : ℕ) (d : Update) → k < l.i → get_or l.there k false ≡ (get_or l.fn.there k false || is_some (value_of (key_of (get_or l.intent k d)) l.rows));
  rest : (k : ℕ) → l.i ≤ k → get_or l.there k false ≡ get_or l.fn.there k false;
}
