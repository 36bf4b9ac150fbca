use Rattle.std.proofs.Common.{rules}
use Rattle.density_rule.proofs.in_bounds.Goals as goal

pub returns-then-least-count : goal.returns-then-least-count
returns-then-least-count c = search rules

pub returns-else-least-count : goal.returns-else-least-count
returns-else-least-count c = search rules
