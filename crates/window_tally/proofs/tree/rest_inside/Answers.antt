use Rattle.std.proofs.Common.{◌-◌, ◌^◌, subst, Some, None}
use Rattle.window_tally.specs.TallyPlaces.{Fills}
use Rattle.window_tally.proofs.FillLaws.{levels_more}
use Rattle.window_tally.proofs.tree.rest_inside.Goals as goal

pub loop-h-preserved : goal.loop-h-preserved
loop-h-preserved c = levels_more None (λ _ _. Some 0) c.args.height c.args.window.height c.args.window.number c.loop-h.h c.args.marks.now c.loop-h.marks c.write_rests.new.marks c.loop-h-test.true c.requires.window c.loop-h.invariant
    (subst (λ p. Fills None (λ _. Some 0) p (2 ^ (c.args.window.height - c.loop-h.h)) c.loop-h.marks c.write_rests.new.marks) c.first_inside-first.ensures.place c.write_rests.ensures)
