use Rattle.workload.proofs.Runs.{run_begins, run_fits, run_next, run_ends}
use Rattle.workload.proofs.laws.runs_go_on.Goals as goal

pub returns-clause-begins : goal.returns-clause-begins
returns-clause-begins c = run_begins

pub returns-clause-fits : goal.returns-clause-fits
returns-clause-fits c count seed x s state command last run few is by_last = run_fits count seed x s state command last run is few by_last

pub returns-clause-next : goal.returns-clause-next
returns-clause-next c = run_next

pub returns-clause-ends : goal.returns-clause-ends
returns-clause-ends c = run_ends
