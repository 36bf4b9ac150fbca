use Rattle.std.proofs.Common.{rules}
use Rattle.pma_store.proofs.answers.put_answer.Goals as goal

pub returns-in-Unchanged : goal.returns-in-Unchanged
returns-in-Unchanged c = search rules
