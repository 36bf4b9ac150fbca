-- The number of the format.
use Rattle.std.proofs.Common.{ap}
use Rattle.command_text.specs.declared.reply.Reply.TheVariants.{OversizedValue}
use Rattle.command_text.proofs.reply.Reply.oversized_value.Goals as goal

pub returns : goal.returns
returns c = ap OversizedValue c.value_room.ensures
