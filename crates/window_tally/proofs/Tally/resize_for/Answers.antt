use Rattle.std.proofs.Common.{rules}
use Rattle.window_tally.proofs.Tally.resize_for.Goals as goal

pub returns-in-Add-2 : goal.returns-in-Add-2
returns-in-Add-2 c = search rules
