use Rattle.command_text.proofs.ArraySessionLaws.{store_after}
use Rattle.command_text.proofs.laws.ledgers_leave_the_store.Goals as goal

pub returns : goal.returns
returns c = store_after
