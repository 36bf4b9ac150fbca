use Rattle.std.proofs.Common.{ℕ, ◌-◌, ◌^◌, ◌<◌, [], sym, ap, subst, ◌∙◌, arith}
use Rattle.std.proofs.lemmas.List.{get_or_read, get_or-take}
use Rattle.veb_index.specs.IndexView.{IndexView, fence_at}
use Rattle.veb_index.proofs.Setting.{nodes_fit}
use Rattle.veb_index.proofs.index.Index.node.Goals as goal
use Rattle.veb_index.proofs.index.Index.node.Goals.{After-index}

low : (c : After-index) → c.args.position < 2 ^ c.self.inside.tables - 1
low c = subst (λ (h : ℕ). c.args.position < 2 ^ h - 1) (sym (ap (λ (v : IndexView). v.height) c.self.view_is)) c.requires

pub index-requires : goal.index-requires
index-requires c =
    let i = c.self.inside in
    let below : c.args.position < 2 ^ i.tables - 1 = subst (λ (h : ℕ). c.args.position < 2 ^ h - 1) (sym (ap (λ (v : IndexView). v.height) c.self.view_is)) c.requires in
    omega (arith, below, nodes_fit i.hmax i.tables i.fences.items c.self.invariant.room)

pub returns : goal.returns
returns c =
    let i = c.self.inside in
    let at = (goal.at.returns c).After-index in
    get_or_read i.fences.items _ _ (omega (arith, low at, nodes_fit i.hmax i.tables i.fences.items c.self.invariant.room)) c.index.ensures []
    ∙ sym (get_or-take (2 ^ i.tables - 1) i.fences.items c.args.position [] (low at))
    ∙ ap (λ (v : IndexView). fence_at v.fences c.args.position) c.self.view_is
