use Rattle.command_text.proofs.SessionLaws.{paid_first, paid_next}
use Rattle.command_text.proofs.laws.sessions_are_paid.Goals as goal

pub returns-clause-begins : goal.returns-clause-begins
returns-clause-begins c = paid_first

pub returns-clause-next : goal.returns-clause-next
returns-clause-next c = paid_next
