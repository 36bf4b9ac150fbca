use Rattle.std.proofs.Common.{◌<◌, length, sym, ap, subst, ◌∙◌, arith}
use Rattle.header_gate.specs.Recovered.{Ascends}
use Rattle.segment_frames.specs.Lists.{segments_in}
use Rattle.segment_frames.proofs.PageNumbers.{segments_ascend}
use Rattle.veb_index.specs.IndexView.{IndexView, fence_of}
use Rattle.pma_store.proofs.Balancing.{one_power}
use Rattle.pma_store.proofs.FittingLaws.{renews_more, renews_none}
use Rattle.pma_store.proofs.commit.renew_fences.Goals as goal
use Rattle.pma_store.proofs.commit.renew_fences.Goals.{then-segment-gt0, else-segment-gt0}

pub loop-k-preserved : goal.loop-k-preserved
loop-k-preserved c =
    let format = c.args.format in
    let b = c.args.frames.now in
    let k = c.loop-k.k in
    let low : k < c.args.look.now.count = c.loop-k-test.true in
    let lt : k < length (segments_in format b.numbers) = omega (arith, low, c.requires.count_is) in
    let ascends = segments_ascend format (segments_in format b.numbers) c.requires.held.known.least (subst Ascends c.requires.held.pages c.requires.held.frames.ascends) in
    let at = c.requires.numbers_are k low in
    record {
      renews = elim c.if-segment-gt0.branch [
        | then-segment-gt0 w ↦
            renews_more format b k c.args.index.now c.loop-k.index c.if-segment-gt0.index ascends lt c.loop-k.invariant.renews
            (ap (λ (x : IndexView). x.hmax) w.index-is ∙ one_power _ _ w.set_first.ensures.same_room)
            (ap (λ (x : IndexView). x.height) w.index-is ∙ one_power _ _ w.set_first.ensures.same_count)
            (λ pos. (λ τ. fence_of (w.index-is τ) (sym at τ)) ∙ w.set_first.ensures.set w.if-segment-gt0.true)
            (λ i apart. ap (λ (x : IndexView). fence_of x i) w.index-is ∙ w.set_first.ensures.others i (λ same. apart (same ∙ at)))
        | else-segment-gt0 w ↦ renews_none format b k c.args.index.now c.loop-k.index c.if-segment-gt0.index ascends lt c.loop-k.invariant.renews w.index-is (omega (arith, sym at, w.if-segment-gt0.false))
      ];
    }
