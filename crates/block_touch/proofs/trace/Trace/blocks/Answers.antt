use Rattle.std.proofs.Common.{◌≡◌, ◌∷◌, ℕ, List, ap, sym, ◌∙◌, arith}
use Rattle.block_touch.specs.Blocks.{blocks_touched}
use Rattle.block_touch.proofs.Touching.{blocks_touched-none, blocks_touched-met, blocks_touched-new}
use Rattle.block_touch.proofs.trace.Trace.blocks.Goals as goal

-- the first position's block counts where it is the last in it
pub loop-first-preserved-then-not-shares_block : goal.loop-first-preserved-then-not-shares_block
loop-first-preserved-then-not-shares_block c =
    let split : blocks_touched c.loop-first.rest.now c.args.block c.args.align ≡ blocks_touched (c.in-Some.first.now ∷ c.in-Some.later.now) c.args.block c.args.align = ap (λ (xs : List ℕ). blocks_touched xs c.args.block c.args.align) c.in-Some.ensures.cases.0 in
    let new = blocks_touched-new c.in-Some.first.now c.in-Some.later.now c.args.block c.args.align (sym c.shares_block.ensures ∙ c.if-not-shares_block.true) in
    record { all = omega (arith, new, c.loop-first.invariant.all); room = omega (arith, c.in-Some.ensures.cases.1, c.loop-first.invariant.room) }

pub loop-first-preserved : goal.loop-first-preserved
loop-first-preserved c =
    let split : blocks_touched c.loop-first.rest.now c.args.block c.args.align ≡ blocks_touched (c.in-Some.first.now ∷ c.in-Some.later.now) c.args.block c.args.align = ap (λ (xs : List ℕ). blocks_touched xs c.args.block c.args.align) c.in-Some.ensures.cases.0 in
    let met = blocks_touched-met c.in-Some.first.now c.in-Some.later.now c.args.block c.args.align (sym c.shares_block.ensures ∙ c.if-not-shares_block.false) in
    record { all = omega (arith, met, c.loop-first.invariant.all); room = omega (arith, c.in-Some.ensures.cases.1, c.loop-first.invariant.room) }

-- then no position is left
pub returns : goal.returns
returns c = omega (arith, c.loop-first.invariant.all, blocks_touched-none c.loop-first.rest.now c.args.block c.args.align c.in_default.ensures.cases)
