use Rattle.std.proofs.Common.{◌≡◌, ℕ, suc, ◌+◌, true, false, List, [], ◌∷◌, ◌++◌, length, sym, ap, ◌∙◌, arith, refl, Some}
use Rattle.station.specs.Bytes.{byte}
use Rattle.map_model.specs.Store.{Update}
use Rattle.map_model.specs.ItemWords.{has_item}
use Rattle.batch_intent.specs.Spelling.{intent_bytes, key_field, item_at, after_item, place_from, items_from, items_in}
use Rattle.batch_intent.specs.IntentReasons.{is_item, is_wrong_item, first_wrong}
use Rattle.batch_intent.proofs.ItemsRead.{place_next, items_next, length-items_from}
use Rattle.batch_intent.proofs.Validated.{wrong_by, right_by, wrong_at, none_next, found_of, counted}
use Rattle.batch_intent.proofs.validating.validate_intent.Goals as goal

pub loop-j-init : goal.loop-j-init
unfolding first_wrong
loop-j-init c = record {
  place = refl;
  within = omega arith;
  items = c.new-intent.ensures;
  end = ap (λ (us : List Update). length (intent_bytes us)) c.new-intent.ensures;
  right = refl;
}

pub take_item-requires-clause-few : goal.take_item-requires-clause-few
take_item-requires-clause-few c =
    omega (arith, ap length c.loop-j.invariant.items, length-items_from c.args.bytes.now c.loop-j._j 1, c.if-from-gt-MOST_ITEMS.false, c.from.ensures, c.loop-j-test.true)

pub returns-then-not-take_item-clause-refused : goal.returns-then-not-take_item-clause-refused
returns-then-not-take_item-clause-refused c =
    let bytes = c.args.bytes.now in
    let wrong : is_wrong_item c.args.format bytes c.loop-j._j ≡ true =
    wrong_at c.args.format bytes c.loop-j._j c.loop-j.p c.loop-j.intent true c.loop-j.invariant.place c.loop-j.invariant.items
    (wrong_by (is_item c.args.format bytes c.loop-j.p) (has_item (key_field bytes c.loop-j.p) c.loop-j.intent) c.take_item.result c.take_item.ensures.right c.if-not-take_item.true) in
    counted c.args.format bytes c.if-count-eq0.false (omega (arith, c.if-from-gt-MOST_ITEMS.false, c.from.ensures))
    ∙ found_of c.args.format bytes c.loop-j._j (byte bytes 0) (omega arith) c.loop-j.invariant.right wrong
    ∙ ap Some (sym c.loop-j.invariant.place)

pub loop-j-preserved : goal.loop-j-preserved
loop-j-preserved c =
    let bytes = c.args.bytes.now in
    let j = c.loop-j._j in
    let yes : c.take_item.result ≡ true = c.if-not-take_item.false in
    let e : suc j ≡ j + 1 = omega arith in
    let right : is_wrong_item c.args.format bytes j ≡ false =
    wrong_at c.args.format bytes j c.loop-j.p c.loop-j.intent false c.loop-j.invariant.place c.loop-j.invariant.items
    (right_by (is_item c.args.format bytes c.loop-j.p) (has_item (key_field bytes c.loop-j.p) c.loop-j.intent) c.take_item.result c.take_item.ensures.right yes) in
    record {
      place = c.place_behind-p.ensures ∙ ap (after_item bytes) c.loop-j.invariant.place ∙ sym (place_next bytes j 1) ∙ ap (λ (n : ℕ). place_from bytes n 1) e;
      within = omega (arith, c.place_behind-p.ensures, c.take_item.ensures.within yes);
      items =
          c.take_item.ensures.taken yes
          ∙ (λ t. c.loop-j.invariant.items t ++ item_at bytes (c.loop-j.invariant.place t) ∷ [])
          ∙ sym (items_next bytes j 1) ∙ ap (λ (n : ℕ). items_from bytes n 1) e;
      end = c.take_item.ensures.end yes ∙ sym c.place_behind-p.ensures;
      right = ap (first_wrong c.args.format bytes) (sym e) ∙ none_next c.args.format bytes j c.loop-j.invariant.right right;
    }

pub returns-clause-items : goal.returns-clause-items
unfolding items_in
returns-clause-items c =
    let e : c.loop-j._j ≡ byte c.args.bytes.now 0 = omega arith in
    c.loop-j.invariant.items ∙ ap (λ (n : ℕ). items_from c.args.bytes.now n 1) e

pub returns-clause-right : goal.returns-clause-right
returns-clause-right c =
    let bytes = c.args.bytes.now in
    let e : c.loop-j._j ≡ byte bytes 0 = omega arith in
    counted c.args.format bytes c.if-count-eq0.false (omega (arith, c.if-from-gt-MOST_ITEMS.false, c.from.ensures))
    ∙ ap (first_wrong c.args.format bytes) (sym e) ∙ c.loop-j.invariant.right
