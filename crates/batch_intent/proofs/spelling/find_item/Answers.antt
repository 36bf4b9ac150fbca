use Rattle.std.proofs.Common.{ℕ, suc, sym, ap, ◌∙◌, arith, ◌+◌, ◌≡◌, ◌≤◌, subst}
use Rattle.std.specs.Str.{bytes_eq}
use Rattle.station.specs.Bytes.{byte}
use Rattle.batch_intent.specs.declared.places.TheConstants.{INTENT_SIZE}
use Rattle.map_model.specs.ItemWords.{has_item}
use Rattle.batch_intent.specs.Spelling.{place_from, after_item, key_field, items_from, items_in}
use Rattle.batch_intent.proofs.ItemsRead.{place_next, room_at, found_from, missed_next}
use Rattle.batch_intent.proofs.spelling.find_item.Goals as goal

pub has_key-requires : goal.has_key-requires
has_key-requires c =
    subst (λ (p : ℕ). after_item c.args.bytes.now p ≤ INTENT_SIZE) (sym c.loop-j.invariant.0)
    (room_at c.args.bytes.now (byte c.args.bytes.now 0) c.loop-j._j INTENT_SIZE (omega arith) c.requires)

pub place_behind-p-requires : goal.place_behind-p-requires
place_behind-p-requires c = omega (arith, c.loop-j.invariant.0, room_at c.args.bytes.now (byte c.args.bytes.now 0) c.loop-j._j INTENT_SIZE (omega arith) c.requires)

pub returns-then-has_key : goal.returns-then-has_key
unfolding items_in
returns-then-has_key c =
    sym (found_from c.args.key c.args.bytes.now (byte c.args.bytes.now 0) 1 c.loop-j._j (omega arith)
    (ap (λ (p : ℕ). bytes_eq c.args.key (key_field c.args.bytes.now p)) (sym c.loop-j.invariant.0) ∙ sym c.has_key.ensures ∙ c.if-has_key.true))

pub loop-j-preserved : goal.loop-j-preserved
loop-j-preserved c =
    let e : suc c.loop-j._j ≡ c.loop-j._j + 1 = omega arith in
    let other = ap (λ (p : ℕ). bytes_eq c.args.key (key_field c.args.bytes.now p)) (sym c.loop-j.invariant.0) ∙ sym c.has_key.ensures ∙ c.if-has_key.false in (
      c.place_behind-p.ensures ∙ ap (after_item c.args.bytes.now) c.loop-j.invariant.0 ∙ sym (place_next c.args.bytes.now c.loop-j._j 1) ∙ ap (λ (n : ℕ). place_from c.args.bytes.now n 1) e,
      ap (λ (n : ℕ). has_item c.args.key (items_from c.args.bytes.now n 1)) (sym e) ∙ missed_next c.args.key c.args.bytes.now c.loop-j._j 1 c.loop-j.invariant.1 other,
    )

pub returns : goal.returns
unfolding items_in
returns c =
    let e : c.loop-j._j ≡ byte c.args.bytes.now 0 = omega arith in
    sym (ap (λ (n : ℕ). has_item c.args.key (items_from c.args.bytes.now n 1)) (sym e) ∙ c.loop-j.invariant.1)
