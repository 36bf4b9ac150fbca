-- Each line takes a byte of what is held or may be taken.
use Rattle.std.proofs.Common.{◌≡◌, ◌+◌, false, length}
use Rattle.part_tests.proofs.lines.transcript.Given as goal

abbrev pub invariant-lines : goal.invariant-lines
invariant-lines g l = l.reader.done ≡ false

abbrev pub decreases-lines : goal.decreases-lines
decreases-lines g l = l.reader.room + length l.reader.held
