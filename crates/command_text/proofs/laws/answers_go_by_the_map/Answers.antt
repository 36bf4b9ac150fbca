use Rattle.command_text.proofs.BodyLaws.{lines_are, text_are, exact_are}
use Rattle.command_text.proofs.laws.answers_go_by_the_map.Goals as goal

pub returns-clause-bodies : goal.returns-clause-bodies
returns-clause-bodies c = exact_are

pub returns-clause-lines : goal.returns-clause-lines
returns-clause-lines c = lines_are

pub returns-clause-text : goal.returns-clause-text
returns-clause-text c = text_are
