use Rattle.pma_store.proofs.store.OpenArray.find_again.Goals as goal

pub returns-clause-found : goal.returns-clause-found
returns-clause-found g c = c.in_ok-location.ensures.found
