use Rattle.std.proofs.Common.{◌≡◌, None}
use Rattle.header_gate.specs.declared.layout.Layout.{Layout}
use Rattle.map_model.specs.FileReasons.{first_reason}
use Rattle.index_file.specs.IndexReasons.{row_reason}
use Rattle.index_file.proofs.validating.first_broken.Given as goal

abbrev pub invariant-loop-h : goal.invariant-loop-h
invariant-loop-h l = (layout : Layout) → first_reason (row_reason layout l.tally.height l.tally.counts) l.h ≡ None
