use Rattle.std.proofs.Common.{rules}
use Rattle.line_source.proofs.mem.MemSource.is_failing.Goals as goal

pub returns-in-Ok : goal.returns-in-Ok
returns-in-Ok c = search rules
