use Rattle.std.proofs.Common.{refl}
use Rattle.range_scan.proofs.BadSlots.{slot_within}
use Rattle.range_scan.proofs.segment_buffer.SegmentBuffer.validate_next.Goals as goal

pub returns-in-Err-clause-bad : goal.returns-in-Err-clause-bad
returns-in-Err-clause-bad c = (c.in-Err.bad.slot, refl, slot_within _ _ _ c.in-Err.ensures.bad, c.in-Err.ensures.bad)
