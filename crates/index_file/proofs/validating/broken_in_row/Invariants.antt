use Rattle.std.proofs.Common.{◌≡◌, None}
use Rattle.header_gate.specs.declared.layout.Layout.{Layout}
use Rattle.map_model.specs.FileReasons.{first_reason}
use Rattle.index_file.specs.IndexReasons.{window_reason}
use Rattle.index_file.proofs.validating.broken_in_row.Given as goal

abbrev pub invariant-loop-number : goal.invariant-loop-number
invariant-loop-number l = (layout : Layout) → first_reason (window_reason layout l.tally.height l.tally.counts l.h) l.number ≡ None
