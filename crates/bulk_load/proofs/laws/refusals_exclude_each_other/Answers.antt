use Rattle.bulk_load.proofs.DueLaws.{exclude}
use Rattle.bulk_load.proofs.laws.refusals_exclude_each_other.Goals as goal

pub returns : goal.returns
returns c = exclude
