use Rattle.std.proofs.Common.{◌≡◌, None}
use Rattle.header_gate.specs.declared.layout.Layout.{Layout}
use Rattle.map_model.specs.FileReasons.{first_reason}
use Rattle.veb_index.specs.Nodes.{fence_by}
use Rattle.veb_index.specs.IndexView.{fence_at}
use Rattle.index_file.specs.IndexReasons.{order_reason}
use Rattle.index_file.proofs.validating.first_misplaced.Given as goal

abbrev pub invariant-loop-i : goal.invariant-loop-i
invariant-loop-i l = (layout : Layout) → first_reason (order_reason layout l.h (fence_by l.h (fence_at l.index.fences))) l.i ≡ None
