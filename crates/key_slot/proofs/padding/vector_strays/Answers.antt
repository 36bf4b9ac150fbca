-- The mask leaves what is to be zero.
use Rattle.std.proofs.Common.{arith}
use Rattle.key_slot.specs.declared.masks.TheConstants.{BEFORE_LAST}
use Rattle.key_slot.proofs.Gathered.{strays_gathered}
use Rattle.key_slot.proofs.padding.vector_strays.Goals as goal

pub returns : goal.returns
returns c = strays_gathered c.args.slot.now c.args.at c.requires.vector c.vector_at.result c.vector_at.ensures (λ i. let f = c.type_inv.slot i in omega arith) BEFORE_LAST c.args.reach c.mask.result c.mask.ensures
