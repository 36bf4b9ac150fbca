use Rattle.std.proofs.Common.{ℕ, suc, sym, ap, ◌∙◌, arith, ◌+◌, ◌≡◌}
use Rattle.batch_intent.specs.declared.places.TheConstants.{INTENT_SIZE}
use Rattle.batch_intent.specs.Spelling.{place_from, after_item}
use Rattle.batch_intent.proofs.ItemsRead.{place_next, room_at}
use Rattle.batch_intent.proofs.spelling.place_of.Goals as goal

pub place_behind-p-requires : goal.place_behind-p-requires
place_behind-p-requires c = omega (arith, c.loop-j.invariant, room_at c.args.bytes.now c.args.i c.loop-j._j INTENT_SIZE (omega arith) c.requires)

pub loop-j-preserved : goal.loop-j-preserved
loop-j-preserved c =
    let e : suc c.loop-j._j ≡ c.loop-j._j + 1 = omega arith in
    c.place_behind-p.ensures ∙ ap (after_item c.args.bytes.now) c.loop-j.invariant ∙ sym (place_next c.args.bytes.now c.loop-j._j 1) ∙ ap (λ (n : ℕ). place_from c.args.bytes.now n 1) e
