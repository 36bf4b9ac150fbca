use Rattle.std.proofs.Common.{◌-◌, ◌^◌, subst}
use Rattle.window_tally.specs.TallyPlaces.{Fills, part_of}
use Rattle.window_tally.proofs.FillLaws.{levels_more}
use Rattle.window_tally.proofs.tree.share_out.Goals as goal

pub loop-h-preserved : goal.loop-h-preserved
loop-h-preserved c = levels_more 0 (part_of c.args.records c.args.window.height) c.args.height c.args.window.height c.args.window.number c.loop-h.h c.args.counts.now c.loop-h.counts c.write_shares.new.counts c.loop-h-test.true c.requires.window c.loop-h.invariant
    (subst (λ p. Fills 0 (part_of c.args.records c.args.window.height c.loop-h.h) p (2 ^ (c.args.window.height - c.loop-h.h)) c.loop-h.counts c.write_shares.new.counts) c.first_inside-first.ensures.place c.write_shares.ensures)
