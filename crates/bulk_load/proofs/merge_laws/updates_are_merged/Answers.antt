use Rattle.bulk_load.proofs.MergeLaws.{merged_map, merged_are, merged_ascend}
use Rattle.bulk_load.proofs.merge_laws.updates_are_merged.Goals as goal

pub returns-clause-map : goal.returns-clause-map
returns-clause-map c = merged_map

pub returns-clause-entries : goal.returns-clause-entries
returns-clause-entries c = merged_are

pub returns-clause-ascending : goal.returns-clause-ascending
returns-clause-ascending c = merged_ascend
