-- Both numbers are named.
use Rattle.std.proofs.Common.{rules}
use Rattle.segment.proofs.validating.validate_count.Goals as goal

pub returns-else-found-kept-clause-damaged : goal.returns-else-found-kept-clause-damaged
returns-else-found-kept-clause-damaged c = search rules
