use Rattle.std.proofs.Common.{rules}
use Rattle.workload.proofs.summary.Summary.count.Goals as goal

pub returns-in-Absent : goal.returns-in-Absent
returns-in-Absent c = search rules

pub returns-in-End : goal.returns-in-End
returns-in-End c = search rules
