use Rattle.std.proofs.Common.{◌≡◌, ◌≤◌, false}
use Rattle.header_gate.specs.Places.{file_length}
use Rattle.station.specs.MemStation.{mem_view}
use Rattle.array_tests.proofs.readers.each_segment_of_a_region_is_given_once.Given as goal

-- the reader stays open, and its file within the station's reach
abbrev pub invariant-loop-before : goal.invariant-loop-before
invariant-loop-before g l = (l.reader.faulted ≡ false) × (file_length l.reader.layout ≤ (mem_view l.station).fixed.reach)
