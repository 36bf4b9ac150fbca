use Rattle.command_text.proofs.Spans.{short_intents}
use Rattle.command_text.proofs.laws.lines_have_short_intents.Goals as goal

pub returns : goal.returns
returns c = short_intents
