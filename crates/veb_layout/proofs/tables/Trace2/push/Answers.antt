use Rattle.std.proofs.Common.{arith}
use Rattle.std.proofs.lemmas.List.{take_more_set}
use Rattle.veb_layout.proofs.tables.Trace2.push.Goals as goal

pub returns-clause-added : goal.returns-clause-added
returns-clause-added c = take_more_set c.args.self.now.at c.args.self.now.len c.args.position (omega arith)
