use Rattle.std.proofs.Common.{rules}
use Rattle.density_rule.proofs.least.Goals as goal

pub returns-then-height-eq0 : goal.returns-then-height-eq0
returns-then-height-eq0 c = search rules

pub returns-else-height-eq0 : goal.returns-else-height-eq0
returns-else-height-eq0 c = search rules
