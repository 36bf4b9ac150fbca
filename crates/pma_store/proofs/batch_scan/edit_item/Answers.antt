use Rattle.std.proofs.Common.{◌≡◌, ◌+◌, length, sym, ap, ◌∙◌, arith}
use Rattle.std.proofs.lemmas.List.Edits.{length-insert}
use Rattle.batch_intent.specs.ItemView.{update_of}
use Rattle.batch_intent.specs.declared.item.Item.{Item}
use Rattle.key_slot.specs.Record.{Record}
use Rattle.map_model.specs.ArrayUpdates.{edited}
use Rattle.one_commit.proofs.Heads.{without_absent}
use Rattle.segment.proofs.Places.{insert-gap}
use Rattle.pma_store.proofs.Editing.{key_within}
use Rattle.pma_store.proofs.Owning.{not_there}
use Rattle.pma_store.proofs.batch_scan.edit_item.Goals as goal

-- with its record there would be one more than a segment has slots
pub returns-then-len-ge-SEGMENT_SLOTS-clause-full : goal.returns-then-len-ge-SEGMENT_SLOTS-clause-full
returns-then-len-ge-SEGMENT_SLOTS-clause-full c = λ _.
    let rows = c.args.rows.now in
    let gap = c.in-Err.ensures.err in
    let long : length (edited (update_of c.args.item.now) c.args.rows.now) ≡ length c.args.rows.now + 1 =
    ap (λ (it : Item). length (edited (update_of it) c.args.rows.now)) c.in-Put.is ∙ sym (ap (length {A = Record}) (insert-gap rows c.in-Err.place _ gap _)) ∙ length-insert rows c.in-Err.place _ gap.within in
    omega (arith, long, c.len.ensures.len, c.if-len-ge-SEGMENT_SLOTS.true)

pub delete-requires : goal.delete-requires
delete-requires c = key_within c.args.rows.now c.in-Ok-find.place _ c.in-Ok-find.ensures.ok

pub returns-in_default-clause-rows : goal.returns-in_default-clause-rows
returns-in_default-clause-rows c = λ _. sym (ap (λ (it : Item). edited (update_of it) c.args.rows.now) c.in-Remove.is ∙ without_absent _ c.args.rows.now (not_there _ c.in_default.ensures.when))
