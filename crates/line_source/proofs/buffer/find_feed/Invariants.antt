-- None of the bytes so far is a line feed.
use Rattle.std.proofs.Common.{take}
use Rattle.line_source.specs.Lines.{NoFeed}
use Rattle.line_source.proofs.buffer.find_feed.Given as goal

abbrev pub invariant-loop-i : goal.invariant-loop-i
invariant-loop-i l = NoFeed (take l.i l.bytes)
