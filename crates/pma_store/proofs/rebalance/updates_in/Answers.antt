use Rattle.std.proofs.Common.{rules}
use Rattle.pma_store.proofs.rebalance.updates_in.Goals as goal

pub returns : goal.returns
returns c = search rules
