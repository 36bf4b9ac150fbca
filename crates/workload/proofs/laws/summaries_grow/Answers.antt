use Rattle.workload.proofs.Growing.{state_next, counts_next}
use Rattle.workload.proofs.laws.summaries_grow.Goals as goal

pub returns-clause-state : goal.returns-clause-state
returns-clause-state c = state_next

pub returns-clause-counts : goal.returns-clause-counts
returns-clause-counts c = counts_next
