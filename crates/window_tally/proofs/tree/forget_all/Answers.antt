use Rattle.std.proofs.Common.{rules}
use Rattle.window_tally.proofs.tree.forget_all.Goals as goal

pub returns : goal.returns
returns c = search rules
