use Rattle.std.proofs.Common.{ℕ, ◌+◌, ◌-◌, ◌^◌, ◌<◌, refl, sym, subst, ◌∙◌, arith}
use Rattle.index_file.proofs.ReadingLaws.{taken_more, first_wrong}
use Rattle.index_file.proofs.reading.take_nodes.Goals as goal

pub set_node-requires : goal.set_node-requires
set_node-requires c =
    let k = c.loop-k.k in
    subst (λ (n : ℕ). c.args.first + c.loop-k.k < 2 ^ n - 1) (c.requires.height ∙ sym c.loop-k.invariant.height) (omega (arith, c.requires.nodes, c.loop-k-test.true))

pub loop-k-preserved : goal.loop-k-preserved
loop-k-preserved c =
    let i = c.loop-k.invariant in
    record {
      height = c.set_node.ensures.height ∙ i.height;
      hmax = c.set_node.ensures.hmax ∙ i.hmax;
      taken = taken_more c.args.format c.args.h c.loop-k.index.fences c.set_node.new.self.fences c.args.first c.loop-k.k c.links_at-left.result.0 c.links_at-left.result.1 c.in-Some.fence c.args.piece.now c.in-Some.ensures.some
          c.links_at-left.ensures.left c.links_at-left.ensures.right c.set_node.ensures.set c.set_node.ensures.others i.taken;
      before = λ x lt. c.set_node.ensures.others x (λ e. omega (arith, e, lt)) ∙ i.before x lt;
    }

pub returns-in-None-clause-wrong : goal.returns-in-None-clause-wrong
returns-in-None-clause-wrong c =
    let i = c.loop-k.invariant in
    first_wrong c.args.format c.args.h c.args.first c.args.count c.loop-k.k c.links_at-left.result.0 c.links_at-left.result.1 c.args.piece.now c.loop-k-test.true (c.in-None.ensures.none refl) c.links_at-left.ensures.left c.links_at-left.ensures.right (λ j lt. (i.taken j lt).form)
