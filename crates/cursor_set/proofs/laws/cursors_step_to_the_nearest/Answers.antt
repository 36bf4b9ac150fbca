use Rattle.cursor_set.proofs.Opening.{gifts_are, gifts_end}
use Rattle.cursor_set.proofs.laws.cursors_step_to_the_nearest.Goals as goal

pub returns-clause-nearest : goal.returns-clause-nearest
returns-clause-nearest c = gifts_are

pub returns-clause-ends : goal.returns-clause-ends
returns-clause-ends c = gifts_end
