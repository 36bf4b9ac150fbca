use Rattle.std.proofs.Common.{ℕ, ◌-◌, ◌^◌, ◌<◌, length, sym, ap, subst, ◌∙◌, arith}
use Rattle.std.proofs.lemmas.List.{length-set}
use Rattle.veb_index.specs.IndexView.{IndexView, fence_at}
use Rattle.veb_index.proofs.Fronts.{set_front}
use Rattle.veb_index.proofs.Setting.{nodes_fit}
use Rattle.veb_index.proofs.Positions.{node_here, node_there}
use Rattle.veb_index.proofs.index.Index.set_node.Goals as goal

pub index_mut-requires : goal.index_mut-requires
index_mut-requires c =
    let i = c.self.inside in
    let below : c.args.position < 2 ^ i.tables - 1 = subst (λ (h : ℕ). c.args.position < 2 ^ h - 1) (sym (ap (λ (v : IndexView). v.height) c.self.view_is)) c.requires in
    omega (arith, below, nodes_fit i.hmax i.tables i.fences.items c.self.invariant.room)

pub returns-clause-set : goal.returns-clause-set
returns-clause-set c =
    let i = c.self.inside in
    let below : c.args.position < 2 ^ i.tables - 1 = subst (λ (h : ℕ). c.args.position < 2 ^ h - 1) (sym (ap (λ (v : IndexView). v.height) c.self.view_is)) c.requires in
    node_here (2 ^ i.tables - 1) i.fences.items (nodes_fit i.hmax i.tables i.fences.items c.self.invariant.room) c.args.position c.args.key.now below

pub returns-clause-others : goal.returns-clause-others
returns-clause-others c x apart =
    let i = c.self.inside in
    let below : c.args.position < 2 ^ i.tables - 1 = subst (λ (h : ℕ). c.args.position < 2 ^ h - 1) (sym (ap (λ (v : IndexView). v.height) c.self.view_is)) c.requires in
    node_there (2 ^ i.tables - 1) i.fences.items (nodes_fit i.hmax i.tables i.fences.items c.self.invariant.room) c.args.position c.args.key.now below x apart
    ∙ ap (λ (v : IndexView). fence_at v.fences x) c.self.view_is

pub index_mut-requires-2 : goal.index_mut-requires-2
index_mut-requires-2 c =
    let i = c.self.inside in
    let below : c.args.position < 2 ^ i.tables - 1 = subst (λ (h : ℕ). c.args.position < 2 ^ h - 1) (sym (ap (λ (v : IndexView). v.height) c.self.view_is)) c.requires in
    omega (arith, below, nodes_fit i.hmax i.tables i.fences.items c.self.invariant.room, c.self.invariant.fronts.size)

pub invariant_of-self : goal.invariant_of-self
invariant_of-self c =
    let i = c.self.inside in
    let room = c.self.invariant.room in
    let below : c.args.position < 2 ^ i.tables - 1 = subst (λ (h : ℕ). c.args.position < 2 ^ h - 1) (sym (ap (λ (v : IndexView). v.height) c.self.view_is)) c.requires in
    let within : c.args.position < length i.fences.items = omega (arith, below, nodes_fit i.hmax i.tables i.fences.items room) in
    record {
      room = record { low = room.low; within = room.within; size = length-set i.fences.items c.args.position c.args.key.now ∙ room.size };
      fronts = set_front i.fences.items i.fronts.items c.args.position c.args.key.now c.front.result within c.self.invariant.fronts c.front.ensures;
    }
