use Rattle.std.proofs.Common.{rules}
use Rattle.station.proofs.sure_station.SureStationStation.write_at.Goals as goal

pub returns-clause-written : goal.returns-clause-written
returns-clause-written c = search rules

pub returns-clause-steps : goal.returns-clause-steps
returns-clause-steps c = search rules
