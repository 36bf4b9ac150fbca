use Rattle.workload.proofs.Beginning.{begins}
use Rattle.workload.proofs.laws.empty_files_begin.Goals as goal

pub returns : goal.returns
returns c = begins
