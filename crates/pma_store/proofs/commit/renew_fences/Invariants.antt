use Rattle.pma_store.specs.AtOnce.{RenewsFences}
use Rattle.pma_store.proofs.commit.renew_fences.Given as goal

abbrev pub invariant-loop-k : goal.invariant-loop-k
invariant-loop-k l = record {
  renews : RenewsFences l.format l.frames l.k l.fn.index l.index;
}
