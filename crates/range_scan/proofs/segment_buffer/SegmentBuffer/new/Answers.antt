-- Zeros are a segment without records.
use Rattle.std.proofs.Common.{arith}
use Rattle.range_scan.proofs.Held.{new_validated, new_page}
use Rattle.range_scan.proofs.segment_buffer.SegmentBuffer.new.Goals as goal

pub invariant_of-result : goal.invariant_of-result
invariant_of-result c = (omega arith, new_validated)

pub returns : goal.returns
returns c = new_page
