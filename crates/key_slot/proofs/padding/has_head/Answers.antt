-- The bytes of the number, the least first.
use Rattle.std.proofs.Common.{arith}
use Rattle.key_slot.proofs.Gathered.{head_of}
use Rattle.key_slot.proofs.padding.has_head.Goals as goal

pub returns : goal.returns
returns c = head_of c.args.most (omega (arith, c.ranges.most.fits)) c.args.slot.now c.requires (λ i. let f = c.type_inv.slot i in omega arith)
