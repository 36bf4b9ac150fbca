use Rattle.std.proofs.Common.{length, ap, arith}
use Rattle.std.proofs.lemmas.Grind.{common_steps}
use Rattle.std.proofs.lemmas.List.{with_items_is}
use Rattle.station.proofs.memory.Memory.resize.Goals as goal

pub invariant_of-self : goal.invariant_of-self
invariant_of-self c = grind (arith, common_steps)

pub returns-clause-size : goal.returns-clause-size
returns-clause-size c = omega (arith, ap length (with_items_is c.args.self.now.storage c.clear.new.storage (omega (arith, c.clear.ensures.rest.size, c.deref_mut.ensures.len))), c.clear.ensures.rest.size, c.deref_mut.ensures.len)
