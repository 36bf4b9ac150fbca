use Rattle.pma_engine.proofs.Booting.{boots_lead}
use Rattle.pma_engine.proofs.laws.boots_go_on.Goals as goal

pub returns : goal.returns
returns c = boots_lead
