use Rattle.std.proofs.Common.{◌≡◌, take}
use Rattle.one_commit.specs.Editing.{edited_by}
use Rattle.pma_store.specs.Own.{own_items}
use Rattle.pma_store.proofs.batch_scan.Search.edit_items.Given as goal

abbrev pub invariant-loop-i : goal.invariant-loop-i
invariant-loop-i l = record {
  rows : l.rows ≡ edited_by (own_items l.n (take l.i l.self.segments.now) (take l.i l.self.intent.now)) l.fn.rows;
}
