use Rattle.std.proofs.Common.{rules}
use Rattle.pma_cli.proofs.file_station.folder_of.Goals as goal

pub returns-then-is_empty-clause-here : goal.returns-then-is_empty-clause-here
returns-then-is_empty-clause-here c = search rules
