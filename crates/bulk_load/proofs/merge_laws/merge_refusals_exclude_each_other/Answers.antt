use Rattle.bulk_load.proofs.MergeAdmitted.{exclude}
use Rattle.bulk_load.proofs.merge_laws.merge_refusals_exclude_each_other.Goals as goal

pub returns : goal.returns
returns c format most n m lines refused many = exclude format most n m lines refused many
