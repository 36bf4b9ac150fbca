use Rattle.std.proofs.Common.{◌<◌, ap, sym, subst, ◌∙◌}
use Rattle.std.specs.Prelude.{sum}
use Rattle.density_rule.specs.Bounds.{upper_of}
use Rattle.window_tally.specs.Choice.{pick_of}
use Rattle.pma_store.specs.Readying.{broken_in}
use Rattle.pma_store.specs.StoreView.{StoreView}
use Rattle.pma_store.proofs.Picks.{broken_is, fewer}
use Rattle.pma_store.proofs.store.OpenArray.pick.Goals as goal

pub returns-clause-answer : goal.returns-clause-answer
returns-clause-answer c =
    let s = c.self.inside in
    c.pick.ensures.answer
    ∙ ap (pick_of s.tally.hmax s.tally.height c.args.segment c.args.change) (sym (broken_is c.args.change c.args.segment s.tally))
    ∙ ap (λ (s : StoreView). pick_of s.tally.hmax s.tally.height c.args.segment c.args.change (broken_in c.args.change c.args.segment s.tally)) c.self.view_is

pub returns-clause-few : goal.returns-clause-few
returns-clause-few c add room =
    let s = c.self.inside in
    let fewer_here = fewer s.tally c.self.invariant.tally c.self.invariant.balanced (λ all. room (c.pick.ensures.limit c.self.invariant.balanced add all)) in
    subst (λ (v : StoreView). sum v.tally.counts < upper_of v.tally.hmax) c.self.view_is fewer_here
