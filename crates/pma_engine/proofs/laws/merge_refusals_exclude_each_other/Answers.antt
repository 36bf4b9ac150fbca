use Rattle.pma_engine.proofs.MergeDue.{exclude}
use Rattle.pma_engine.proofs.laws.merge_refusals_exclude_each_other.Goals as goal

pub returns : goal.returns
returns c format most n m lines refused many = exclude format most m lines n refused many
