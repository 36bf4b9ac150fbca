use Rattle.std.proofs.Common.{arith}
use Rattle.std.proofs.lemmas.Grind.{common_steps}
use Rattle.line_source.proofs.reader.LineReader.give_last.Goals as goal

pub returns-then-not-long-clause-last : goal.returns-then-not-long-clause-last
returns-then-not-long-clause-last c = grind (arith, common_steps)
