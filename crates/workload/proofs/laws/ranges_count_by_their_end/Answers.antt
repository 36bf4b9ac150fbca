use Rattle.workload.proofs.Growing.{ranges_by_end}
use Rattle.workload.proofs.laws.ranges_count_by_their_end.Goals as goal

pub returns : goal.returns
returns c = ranges_by_end
