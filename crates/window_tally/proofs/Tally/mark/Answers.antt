use Rattle.std.proofs.Common.{rules, ◌≡◌, ◌<◌, length, get_or, vec_len, ap, subst, sym, ◌∙◌, None, inl, arith}
use Rattle.std.proofs.lemmas.List.{get_or_read}
use Rattle.density_rule.specs.Windows.{IsWindow}
use Rattle.density_rule.specs.Marks.{mark_of}
use Rattle.density_rule.proofs.MarkLaws.{mark_of-marks_by, mark_of-marks_by_none}
use Rattle.window_tally.specs.TallyView.{TallyView}
use Rattle.window_tally.specs.TallyPlaces.{place}
use Rattle.window_tally.proofs.KeptLaws.{place_kept}
use Rattle.window_tally.proofs.Tally.mark.Goals as goal
use Rattle.window_tally.proofs.Tally.mark.Goals.{After-place_of}

window : (c : After-place_of) → IsWindow c.self.inside.height c.args.window.height c.args.window.number
window c = subst (λ (t : TallyView). IsWindow t.height c.args.window.height c.args.window.number) (sym c.self.view_is) c.requires

below : (c : After-place_of) → c.place_of.result < length c.self.inside.marks.items
below c = omega (arith, c.place_of.ensures, (place_kept c.self.inside.hmax c.self.inside.height c.self.inside.counts.items c.self.inside.marks.items c.self.invariant.by c.args.window.height c.args.window.number (window c)).1)

pub index-requires : goal.index-requires
index-requires c = let all : length c.self.inside.marks.items ≡ vec_len c.self.inside.marks = search rules in omega (arith, below (goal.at.index-requires c).After-place_of)

pub returns-then-window-self-clause-mark : goal.returns-then-window-self-clause-mark
returns-then-window-self-clause-mark c =
    let at = (goal.at.returns-then-window-self-clause-mark c).After-place_of in
    get_or_read c.self.inside.marks.items c.place_of.result c.index.result.now (below at) c.index.ensures None ∙ ap (λ p. get_or c.self.inside.marks.items p None) c.place_of.ensures
    ∙ sym (mark_of-marks_by c.self.inside.height c.args.window.height c.args.window.number (λ h k. get_or c.self.inside.marks.items (place c.self.inside.height h k) None) c.if-window-self.true (window at).in_store)
    ∙ ap (λ (t : TallyView). mark_of t.marks c.args.window.height c.args.window.number) c.self.view_is

-- the root has no mark
pub returns-else-window-self-clause-mark : goal.returns-else-window-self-clause-mark
returns-else-window-self-clause-mark c =
    sym (mark_of-marks_by_none c.self.inside.height c.args.window.height c.args.window.number (λ h k. get_or c.self.inside.marks.items (place c.self.inside.height h k) None) (inl c.if-window-self.false))
    ∙ ap (λ (t : TallyView). mark_of t.marks c.args.window.height c.args.window.number) c.self.view_is
