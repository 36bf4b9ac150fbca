use Rattle.std.proofs.Common.{rules}
use Rattle.pma_store.proofs.commit.renew_fence.Goals as goal

pub returns-in-Some-clause-index : goal.returns-in-Some-clause-index
returns-in-Some-clause-index c = search rules
