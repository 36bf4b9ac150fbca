use Rattle.std.proofs.Common.{rules}
use Rattle.pma_store.proofs.rebalance.lies_in.Goals as goal

pub returns-in-Spread : goal.returns-in-Spread
returns-in-Spread c = search rules
