use Rattle.spread_plan.proofs.Packs.{pack_leads}
use Rattle.spread_plan.proofs.Fewness.{length-pack_moves-le}
use Rattle.spread_plan.proofs.laws.packs_segments.Goals as goal

pub returns-clause-stages : goal.returns-clause-stages
returns-clause-stages g c = λ lists fit. (pack_leads lists fit).0

pub returns-clause-end : goal.returns-clause-end
returns-clause-end g c = λ lists fit. (pack_leads lists fit).1

pub returns-clause-few : goal.returns-clause-few
returns-clause-few g c = length-pack_moves-le
