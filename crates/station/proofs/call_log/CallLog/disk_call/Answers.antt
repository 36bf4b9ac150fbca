use Rattle.std.proofs.Common.{rules}
use Rattle.station.proofs.call_log.CallLog.disk_call.Goals as goal

pub returns-then-fails-clause-next : goal.returns-then-fails-clause-next
returns-then-fails-clause-next c = search rules
