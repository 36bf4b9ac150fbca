-- A probe's blocks have a node or more in the command of a line, and a refusal asks for none.
use Rattle.std.proofs.Common.{sym, subst}
use Rattle.pma_engine.specs.Carrying.{IsSound}
use Rattle.pma_engine.proofs.LineCommands.{line_sound}
use Rattle.pma_engine.proofs.line.read_given.Goals as goal

pub returns-in-Line-clause-sound : goal.returns-in-Line-clause-sound
returns-in-Line-clause-sound c = subst IsSound (sym c.read_line.ensures.command) (line_sound c.args.format c.args.line.now)
