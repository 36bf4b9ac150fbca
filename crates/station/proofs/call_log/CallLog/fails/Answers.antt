use Rattle.std.proofs.Common.{rules}
use Rattle.station.proofs.call_log.CallLog.fails.Goals as goal

pub returns-else-stopped : goal.returns-else-stopped
returns-else-stopped c = search rules

pub returns-then-stopped : goal.returns-then-stopped
returns-then-stopped c = search rules
