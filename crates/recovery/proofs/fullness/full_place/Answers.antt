use Rattle.std.proofs.Common.{◌≡◌, ℕ, ◌+◌, ◌<◌, true, false, [], length, take, get_or, refl, sym, ap, subst, ◌∙◌, arith, add-one, Some}
use Rattle.std.specs.List.{flat_map}
use Rattle.map_model.specs.Store.{Update, unbind}
use Rattle.batch_intent.specs.ItemView.{update_of}
use Rattle.batch_intent.specs.Spelling.{item_bytes, intent_bytes}
use Rattle.recovery.specs.Intents.{meets_by, records_by}
use Rattle.recovery.proofs.Rooms.{HaveRoom, none_yet, full_now, room_now, records_most, place_next}
use Rattle.recovery.proofs.fullness.full_place.Goals as goal

pub loop-i-init : goal.loop-i-init
loop-i-init c = record {
  place_is = refl;
  place_low = omega arith;
  few = omega (arith, c.requires);
  have = λ limit m counted. none_yet limit m c.args.intent.now c.args.records counted.records_are;
}

pub returns-then-meets_full-clause-full : goal.returns-then-meets_full-clause-full
returns-then-meets_full-clause-full c limit m counted =
    let items = c.args.intent.now in
    let d : Update = unbind [] in
    let i = c.loop-i.i in
    let lt : i < length items = omega (arith, c.len-i-end.ensures.count, c.loop-i-test.true) in
    let item : update_of c.item-item.result ≡ get_or items i d = c.item-item.ensures d in
    let full : meets_by (get_or items i d) (get_or c.args.there.now i false) c.loop-i.records c.args.most ≡ true =
    ap (λ (u : Update). meets_by u (get_or c.args.there.now i false) c.loop-i.records c.args.most) (sym item) ∙ sym c.meets_full.ensures ∙ c.if-meets_full.true in
    let place : c.loop-i.place ≡ length (intent_bytes (take i items)) = omega (arith, c.loop-i.invariant.place_is) in
    ap Some place
    ∙ full_now limit m items c.args.there.now c.args.most c.args.records i c.loop-i.records d lt c.len-i-end.ensures.intent.distinct counted (c.loop-i.invariant.have limit m counted) full

pub loop-i-preserved : goal.loop-i-preserved
loop-i-preserved c =
    let items = c.args.intent.now in
    let d : Update = unbind [] in
    let i = c.loop-i.i in
    let present = get_or c.args.there.now i false in
    let invariant = c.loop-i.invariant in
    let lt : i < length items = omega (arith, c.len-i-end.ensures.count, c.loop-i-test.true) in
    let item : update_of c.item-item.result ≡ get_or items i d = c.item-item.ensures d in
    let size : c.len.result ≡ length (item_bytes (get_or items i d)) = c.len.ensures.size ∙ ap (λ (u : Update). length (item_bytes u)) item in
    let next : length (flat_map item_bytes (take (i + 1) items)) ≡ length (flat_map item_bytes (take i items)) + length (item_bytes (get_or items i d)) =
    ap (λ (n : ℕ). length (flat_map item_bytes (take n items))) (add-one i) ∙ place_next items i d lt in
    let room : meets_by (get_or items i d) present c.loop-i.records c.args.most ≡ false =
    ap (λ (u : Update). meets_by u present c.loop-i.records c.args.most) (sym item) ∙ sym c.meets_full.ensures ∙ c.if-meets_full.false in
    let behind : c.records_behind-records.result ≡ records_by (get_or items i d) present c.loop-i.records = c.records_behind-records.ensures ∙ ap (λ (u : Update). records_by u present c.loop-i.records) item in
    record {
      place_is = omega (arith, invariant.place_is, size, next);
      place_low = omega (arith, invariant.place_low, c.len.ensures.most);
      few = omega (arith, invariant.few, behind, records_most (get_or items i d) present c.loop-i.records);
      have = λ limit m counted. subst (λ (n : ℕ). HaveRoom limit m items n c.records_behind-records.result) (sym (add-one i))
          (room_now limit m items c.args.there.now c.args.most c.args.records i c.loop-i.records d lt c.len-i-end.ensures.intent.distinct counted (invariant.have limit m counted) room c.records_behind-records.result behind);
    }
