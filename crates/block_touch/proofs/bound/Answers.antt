use Rattle.std.proofs.Common.{◌≡◌, ℕ, ◌+◌, ◌*◌, ap, sym, ◌∙◌, arith}
use Rattle.std.specs.Int.{div_ceil}
use Rattle.block_touch.specs.Blocks.{floor_log2, block_bound}
use Rattle.block_touch.proofs.Levels.{floor_log2-from}
use Rattle.block_touch.proofs.bound.Goals as goal

pub returns : goal.returns
unfolding block_bound
returns c =
    let k = c.ilog2-levels.result in
    let levels : floor_log2 (c.args.block + 1) ≡ k = floor_log2-from k (c.args.block + 1) (record { power_le = omega arith; next_power_gt = omega arith }) in
    ap (λ (n : ℕ). 4 * n) (c.div_ceil.ensures ∙ ap (div_ceil c.args.h) (sym levels))
