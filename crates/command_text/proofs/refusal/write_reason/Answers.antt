-- The line of the last reason.
use Rattle.std.proofs.Common.{rules}
use Rattle.command_text.proofs.refusal.write_reason.Goals as goal

pub returns-in-Intent-clause-text : goal.returns-in-Intent-clause-text
returns-in-Intent-clause-text c = search rules
