use Rattle.line_source.specs.Lines.{raw_lines}
use Rattle.bulk_load.specs.Loads.{most_records}
use Rattle.pma_engine.proofs.laws.load_refusals_exclude_each_other.Goals as goal

pub returns : goal.returns
returns c l s n told wrong many = c.refusals_exclude_each_other.ensures l.format (most_records l) n (raw_lines s.left) (wrong told) (many told)
