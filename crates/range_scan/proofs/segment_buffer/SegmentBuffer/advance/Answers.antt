-- Where it stays, something is wrong with the segment, or with its count.
use Rattle.std.proofs.Common.{arith}
use Rattle.range_scan.proofs.segment_buffer.SegmentBuffer.advance.Goals as goal

pub returns-in_default-2-clause-sound : goal.returns-in_default-2-clause-sound
returns-in_default-2-clause-sound c segment fine count = absurd (omega (arith, c.if-len-kept.false, c.in-Ok.ensures.count, count))
