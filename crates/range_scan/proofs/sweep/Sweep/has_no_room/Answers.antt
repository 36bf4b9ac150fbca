use Rattle.std.proofs.Common.{rules}
use Rattle.range_scan.proofs.sweep.Sweep.has_no_room.Goals as goal

pub returns-in-Some-Some-clause-void : goal.returns-in-Some-Some-clause-void
returns-in-Some-Some-clause-void c = search rules
