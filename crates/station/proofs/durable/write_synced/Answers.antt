use Rattle.std.proofs.Common.{rules}
use Rattle.station.proofs.durable.write_synced.Goals as goal

pub returns-clause-settled : goal.returns-clause-settled
returns-clause-settled g c = search rules

pub returns-clause-written : goal.returns-clause-written
returns-clause-written g c = search rules
