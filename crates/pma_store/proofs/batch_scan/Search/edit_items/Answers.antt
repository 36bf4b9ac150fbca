use Rattle.std.proofs.Common.{◌<◌, List, [], length, get_or, refl, ap, subst, ◌∙◌, arith}
use Rattle.key_slot.specs.Record.{Record}
use Rattle.key_slot.specs.declared.sizes.TheConstants.{SEGMENT_SLOTS}
use Rattle.map_model.specs.Store.{Update, unbind}
use Rattle.map_model.specs.ArrayUpdates.{edited}
use Rattle.pma_store.proofs.Owning.{own_more, other_more}
use Rattle.pma_store.proofs.batch_scan.Search.edit_items.Goals as goal
use Rattle.pma_store.proofs.batch_scan.Search.edit_items.Goals.{else-self-i-via-then-self-i+else-not-edit_item, else-self-i-via-else-self-i}

abbrev none : Update
none = unbind []

pub returns-then-not-edit_item-clause-full : goal.returns-then-not-edit_item-clause-full
returns-then-not-edit_item-clause-full c = λ _.
    let us = c.args.self.now.intent.now in
    let i = c.loop-i.i in
    let lt : i < length us = omega (arith, c.len-i-end.ensures.count, c.loop-i-test.true) in
    let le : i < length c.args.self.now.segments.now = omega (arith, lt, c.requires) in
    let over = subst (λ (u : Update). SEGMENT_SLOTS < length (edited u c.loop-i.rows)) (c.item.ensures none) (c.edit_item.ensures.full c.if-not-edit_item.true) in
    record {
      item = i;
      within = lt;
      over = subst (λ (r : List Record). SEGMENT_SLOTS < length r) (own_more c.args.n c.args.self.now.segments.now us c.args.rows.now i lt le c.loop-i.rows (edited (get_or us i none) c.loop-i.rows) c.loop-i.invariant.rows none c.if-self-i.true refl) over;
    }

pub loop-i-preserved : goal.loop-i-preserved
loop-i-preserved c =
    let n = c.args.n in
    let is = c.args.self.now.segments.now in
    let us = c.args.self.now.intent.now in
    let start = c.args.rows.now in
    let i = c.loop-i.i in
    let lt : i < length us = omega (arith, c.len-i-end.ensures.count, c.loop-i-test.true) in
    let le : i < length is = omega (arith, lt, c.requires) in
    let so_far = c.loop-i.invariant.rows in
    elim c.else-self-i.branch [
      | else-self-i-via-then-self-i+else-not-edit_item w ↦ record {
        rows = own_more n is us start i lt le c.loop-i.rows c.else-self-i.rows so_far none w.if-self-i.true (w.rows-is ∙ w.edit_item.ensures.rows (w.if-not-edit_item.false) ∙ ap (λ (u : Update). edited u c.loop-i.rows) (w.item.ensures none));
      }
      | else-self-i-via-else-self-i w ↦ record {
        rows = other_more n is us start i lt le c.loop-i.rows c.else-self-i.rows so_far none w.if-self-i.false w.rows-is;
      }
    ]
