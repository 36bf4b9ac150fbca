use Rattle.spread_plan.proofs.Counts.{spread_packed}
use Rattle.spread_plan.proofs.Steps.{spread_begins}
use Rattle.spread_plan.proofs.spread.SpreadMoves.new.Goals as goal

pub returns-clause-moves : goal.returns-clause-moves
returns-clause-moves c = spread_begins c.args.n c.args.m

pub returns-clause-counts : goal.returns-clause-counts
returns-clause-counts c = spread_packed c.args.n c.args.m
