-- A note is nothing.
use Rattle.command_text.proofs.parse.read_named.Goals as goal

pub returns-then-name-eq35 : goal.returns-then-name-eq35
returns-then-name-eq35 c = rw c.if-name-eq35.true
