use Rattle.bulk_load.proofs.MergedLoads.{merged_text, loaded_map}
use Rattle.bulk_load.proofs.merge_laws.load_texts_are_merge_texts.Goals as goal

pub returns-clause-text : goal.returns-clause-text
returns-clause-text c = merged_text

pub returns-clause-map : goal.returns-clause-map
returns-clause-map c = loaded_map
