use Rattle.map_model.proofs.Effects.{same_effect, full_exactly}
use Rattle.map_model.proofs.arrays.updates_have_one_effect.Goals as goal

pub returns-clause-array : goal.returns-clause-array
returns-clause-array c = same_effect

pub returns-clause-full : goal.returns-clause-full
returns-clause-full c = full_exactly
