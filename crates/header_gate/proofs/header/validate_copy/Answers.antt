use Rattle.std.proofs.Common.{rules}
use Rattle.header_gate.proofs.header.validate_copy.Goals as goal

pub returns-clause-ok : goal.returns-clause-ok
returns-clause-ok c = search rules
