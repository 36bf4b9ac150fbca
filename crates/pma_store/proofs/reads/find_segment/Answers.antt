use Rattle.pma_store.proofs.Standing.{searched}
use Rattle.pma_store.proofs.reads.find_segment.Goals as goal

pub returns-clause-found : goal.returns-clause-found
returns-clause-found c = searched c.args.index.now c.view.result c.args.key.now c.search.result c.view.ensures c.search.ensures.segment
