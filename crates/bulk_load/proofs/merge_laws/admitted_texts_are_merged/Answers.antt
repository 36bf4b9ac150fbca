use Rattle.bulk_load.proofs.MergeAdmitted.{admitted}
use Rattle.bulk_load.proofs.merge_laws.admitted_texts_are_merged.Goals as goal

pub returns : goal.returns
returns c format most m reader before after edits fault text few told less is = admitted format most m reader before after edits fault text few told less is
