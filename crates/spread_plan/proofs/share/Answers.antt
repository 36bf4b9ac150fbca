use Rattle.std.proofs.Common.{rules}
use Rattle.spread_plan.proofs.share.Goals as goal

pub returns : goal.returns
returns c = search rules
