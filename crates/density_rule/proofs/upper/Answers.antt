use Rattle.std.proofs.Common.{rules}
use Rattle.density_rule.proofs.upper.Goals as goal

pub returns : goal.returns
returns c = search rules
