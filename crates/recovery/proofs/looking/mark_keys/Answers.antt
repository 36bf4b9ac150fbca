use Rattle.std.proofs.Common.{arith}
use Rattle.recovery.proofs.looking.mark_keys.Goals as goal

pub returns : goal.returns
returns c = record { size = c.loop-i.invariant.size; each = λ k d lt. c.loop-i.invariant.seen k d (omega (arith, lt, c.len-i-end.ensures.count, c.loop-i-test.false)) }
