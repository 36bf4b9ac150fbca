use Rattle.std.proofs.Common.{rules}
use Rattle.station.proofs.travel.Travel.add_read.Goals as goal

pub returns : goal.returns
returns c = search rules
