use Rattle.std.proofs.Common.{rules}
use Rattle.line_source.proofs.buffer.take_behind.Goals as goal

pub returns-clause-most : goal.returns-clause-most
returns-clause-most g c = search rules
