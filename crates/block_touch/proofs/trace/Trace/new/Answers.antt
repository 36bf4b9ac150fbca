use Rattle.std.proofs.Common.{rules}
use Rattle.block_touch.proofs.trace.Trace.new.Goals as goal

pub returns : goal.returns
returns c = search rules
