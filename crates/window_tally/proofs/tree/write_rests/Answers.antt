use Rattle.std.proofs.Common.{rules}
use Rattle.window_tally.proofs.tree.write_rests.Goals as goal

pub loop-i-preserved : goal.loop-i-preserved
loop-i-preserved c = search rules
