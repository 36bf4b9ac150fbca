use Rattle.spread_plan.proofs.Spreads.{spread_stages, spread_end}
use Rattle.spread_plan.proofs.Fewness.{length-spread_moves-le}
use Rattle.spread_plan.proofs.laws.spreads_segments.Goals as goal

pub returns-clause-stages : goal.returns-clause-stages
returns-clause-stages g c = spread_stages

pub returns-clause-end : goal.returns-clause-end
returns-clause-end g c = spread_end

pub returns-clause-few : goal.returns-clause-few
returns-clause-few g c = length-spread_moves-le
