use Rattle.std.proofs.Common.{rules, ◌≡◌, ◌<◌, length, vec_len, get_or, ap, subst, sym, ◌∙◌, arith}
use Rattle.std.proofs.lemmas.List.{get_or_read}
use Rattle.density_rule.specs.Windows.{IsWindow, count_in}
use Rattle.window_tally.specs.TallyView.{TallyView}
use Rattle.window_tally.proofs.KeptLaws.{place_kept}
use Rattle.window_tally.proofs.Tally.count.Goals as goal
use Rattle.window_tally.proofs.Tally.count.Goals.{After-place_of}

window : (c : After-place_of) → IsWindow c.self.inside.height c.args.window.height c.args.window.number
window c = subst (λ (t : TallyView). IsWindow t.height c.args.window.height c.args.window.number) (sym c.self.view_is) c.requires

below : (c : After-place_of) → c.place_of.result < length c.self.inside.counts.items
below c = omega (arith, c.place_of.ensures, (place_kept c.self.inside.hmax c.self.inside.height c.self.inside.counts.items c.self.inside.marks.items c.self.invariant.by c.args.window.height c.args.window.number (window c)).0)

pub index-requires : goal.index-requires
index-requires c = let all : length c.self.inside.counts.items ≡ vec_len c.self.inside.counts = search rules in omega (arith, below (goal.at.index-requires c).After-place_of)

pub returns : goal.returns
returns c =
    let at = (goal.at.returns c).After-place_of in
    get_or_read c.self.inside.counts.items c.place_of.result c.index.result.now (below at) c.index.ensures 0 ∙ ap (λ p. get_or c.self.inside.counts.items p 0) c.place_of.ensures
    ∙ c.self.invariant.by.sums c.args.window.height c.args.window.number (window at) ∙ ap (λ (t : TallyView). count_in t.counts c.args.window.height c.args.window.number) c.self.view_is
