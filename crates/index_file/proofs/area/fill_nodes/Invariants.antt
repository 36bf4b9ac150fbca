use Rattle.std.proofs.Common.{◌≡◌, ℕ, ◌+◌, ◌*◌, ◌<◌, length}
use Rattle.key_slot.specs.Format.{wide}
use Rattle.index_file.specs.Writing.{IsNodeOf}
use Rattle.index_file.proofs.area.fill_nodes.Given as goal

abbrev pub invariant-loop-k : goal.invariant-loop-k
invariant-loop-k l = record {
  size : length l.piece ≡ 4096;
  filled : (j : ℕ) → j < l.k → IsNodeOf wide l.h l.index.fences (l.first + j) l.piece (64 * j);
}
