use Rattle.std.proofs.Common.{◌≡◌, ◌+◌, ◌≤◌, length}
use Rattle.block_touch.specs.Blocks.{blocks_touched}
use Rattle.block_touch.proofs.trace.Trace.blocks.Given as goal

-- the blocks so far, and those that the rest touches
abbrev pub invariant-loop-first : goal.invariant-loop-first
invariant-loop-first l = record {
  all : l.count + blocks_touched l.rest l.block l.align ≡ blocks_touched l.fn.self l.block l.align;
  room : l.count + length l.rest ≤ 16;
}

abbrev pub decreases-loop-first : goal.decreases-loop-first
decreases-loop-first l = length l.rest
