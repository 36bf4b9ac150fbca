use Rattle.std.proofs.Common.{◌+◌, arith, pow-add}
use Rattle.block_touch.specs.Blocks.{floor_log2}
use Rattle.block_touch.proofs.Levels.{floor_log2-is}
use Rattle.block_touch.proofs.PathBlocks.{block_bound-none, blocks_touched-path_to}
use Rattle.block_touch.proofs.laws.paths_touch_few_blocks.Goals as goal

pub returns-clause-blocks : goal.returns-clause-blocks
returns-clause-blocks c = blocks_touched-path_to

pub returns-clause-no_level : goal.returns-clause-no_level
returns-clause-no_level c = block_bound-none

pub returns-clause-levels_fit : goal.returns-clause-levels_fit
returns-clause-levels_fit c = λ block some. (floor_log2-is (block + 1) (omega arith)).power_le

pub returns-clause-no_more_fit : goal.returns-clause-no_more_fit
returns-clause-no_more_fit c = λ block some. omega (arith, pow-add 2 (floor_log2 (block + 1)) 1, (floor_log2-is (block + 1) (omega arith)).next_power_gt)
