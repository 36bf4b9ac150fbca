use Rattle.command_text.proofs.LineLaws.{few_asked, made_as_asked}
use Rattle.command_text.proofs.laws.lines_ask_for_few_updates.Goals as goal

pub returns-clause-asked : goal.returns-clause-asked
returns-clause-asked c = few_asked

pub returns-clause-made : goal.returns-clause-made
returns-clause-made c = made_as_asked
