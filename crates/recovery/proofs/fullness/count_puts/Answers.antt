use Rattle.std.proofs.Common.{◌≡◌, ℕ, suc, ◌+◌, ◌<◌, Bool, cond, [], length, take, get_or, sym, ap, ◌∙◌, arith, add-one}
use Rattle.map_model.specs.Store.{Update, unbind}
use Rattle.batch_intent.specs.ItemView.{is_put}
use Rattle.recovery.specs.Intents.{puts_in}
use Rattle.recovery.proofs.Rooms.{puts_next}
use Rattle.recovery.proofs.fullness.count_puts.Goals as goal
use Rattle.recovery.proofs.fullness.count_puts.Goals.{then-is_put, else-is_put}

pub overflow_add-puts : goal.overflow_add-puts
overflow_add-puts c = omega (arith, c.loop-i.invariant.low, c.len-i-end.ensures.count, c.len-i-end.ensures.intent.most, c.loop-i-test.true)

pub loop-i-preserved : goal.loop-i-preserved
loop-i-preserved c =
    let items = c.args.intent.now in
    let d : Update = unbind [] in
    let i = c.loop-i.i in
    let puts = puts_in (take i items) in
    let lt : i < length items = omega (arith, c.len-i-end.ensures.count, c.loop-i-test.true) in
    let one : c.is_put.result ≡ is_put (get_or items i d) = c.is_put.ensures ∙ ap is_put (c.item.ensures d) in
    let next : puts_in (take (i + 1) items) ≡ cond c.is_put.result (suc puts) puts =
    ap (λ (n : ℕ). puts_in (take n items)) (add-one i) ∙ puts_next items i d lt ∙ ap (λ (b : Bool). cond b (suc puts) puts) (sym one) in
    elim c.if-is_put.branch [
      | then-is_put w ↦ record { counted = omega (arith, w.puts-is, c.loop-i.invariant.counted, next ∙ ap (λ (b : Bool). cond b (suc puts) puts) w.if-is_put.true); low = omega (arith, w.puts-is, c.loop-i.invariant.low) }
      | else-is_put w ↦ record { counted = omega (arith, w.puts-is, c.loop-i.invariant.counted, next ∙ ap (λ (b : Bool). cond b (suc puts) puts) w.if-is_put.false); low = omega (arith, w.puts-is, c.loop-i.invariant.low) }
    ]
