use Rattle.std.proofs.Common.{◌≡◌, ℕ, ◌+◌, ◌*◌, ◌<◌}
use Rattle.veb_index.specs.IndexView.{fence_at}
use Rattle.index_file.specs.Writing.{IsNodeOf}
use Rattle.index_file.proofs.reading.take_nodes.Given as goal

abbrev pub invariant-loop-k : goal.invariant-loop-k
invariant-loop-k l = record {
  height : l.index.height ≡ l.fn.index.height;
  hmax : l.index.hmax ≡ l.fn.index.hmax;
  taken : (j : ℕ) → j < l.k → IsNodeOf l.format l.h l.index.fences (l.first + j) l.piece (64 * j);
  before : (x : ℕ) → x < l.first → fence_at l.index.fences x ≡ fence_at l.fn.index.fences x;
}
