-- What was found so far; each turn takes a byte or meets the end.
use Rattle.std.proofs.Common.{◌+◌, if◌then◌else◌}
use Rattle.line_source.proofs.Reading.{Looking}
use Rattle.line_source.proofs.reader.LineReader.next_line.Given as goal

abbrev pub invariant-pieces : goal.invariant-pieces
invariant-pieces g l = Looking l.fn.self (g.I.Source.view l.fn.source) l.long l.seen l.self (g.I.Source.view l.source)

abbrev pub decreases-pieces : goal.decreases-pieces
decreases-pieces g l = l.self.room + (if l.self.ended then 0 else 1)
