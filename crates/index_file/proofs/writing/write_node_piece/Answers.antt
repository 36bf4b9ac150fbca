use Rattle.std.proofs.Common.{◌≡◌, ℕ, ◌*◌, length, take, arith, ap, subst}
use Rattle.std.proofs.lemmas.Result.{on_ok_weaker}
use Rattle.station.specs.Bytes.{Written}
use Rattle.station.specs.declared.travel.Travel.{Travel}
use Rattle.station.proofs.Composition.{within_in}
use Rattle.index_file.specs.Clean.{IsAreaPlace}
use Rattle.index_file.proofs.AreaLaws.{nodes_within, nodes_more, front_nodes, front_size}
use Rattle.index_file.proofs.writing.write_node_piece.Goals as goal
use Rattle.index_file.proofs.writing.write_node_piece.Goals.{After-fill_nodes}

size : (g : _) (c : After-fill_nodes g) → length (take (64 * c.args.count) c.fill_nodes.new.piece) ≡ 64 * c.args.count
size g c = front_size (64 * c.args.count) c.fill_nodes.new.piece c.fill_nodes.auto.piece (omega (arith, c.requires.room))

pub write_at-requires : goal.write_at-requires
write_at-requires g c = omega (arith, c.node_at.ensures, size g (goal.at.write_at-requires g c).After-fill_nodes, nodes_within c.args.layout.now c.args.h c.args.first c.args.count c.requires.file.indexed c.requires.low c.requires.nodes, c.requires.file.reach)

pub returns-clause-steps : goal.returns-clause-steps
returns-clause-steps g c =
    let n = size g (goal.at.returns-clause-steps g c).After-fill_nodes in
    within_in (IsAreaPlace c.args.layout.now) (λ k r. omega (arith, r.0, c.node_at.ensures))
    (λ image left. omega (arith, c.requires.size image left, c.node_at.ensures, n, nodes_within c.args.layout.now c.args.h c.args.first c.args.count c.requires.file.indexed c.requires.low c.requires.nodes)) c.write_at.ensures.steps

pub returns-clause-written : goal.returns-clause-written
returns-clause-written g c =
    let n = size g (goal.at.returns-clause-written g c).After-fill_nodes in
    let a = g.S.Station.view c.args.station.now in
    let b = g.S.Station.view c.write_at.new.self in
    on_ok_weaker c.write_at.result (λ written told are.
    nodes_more c.args.layout.now c.args.h c.args.index.now.fences c.args.first c.args.count (take (64 * c.args.count) c.fill_nodes.new.piece) (g.S.Station.view c.args.station.now).held (g.S.Station.view c.write_at.new.self).held
    (subst (λ (p : ℕ). Written p (take (64 * c.args.count) c.fill_nodes.new.piece) (g.S.Station.view c.args.station.now).held (g.S.Station.view c.write_at.new.self).held) c.node_at.ensures (written told)) n
    (front_nodes c.args.h c.args.index.now.fences c.args.first c.args.count c.fill_nodes.new.piece c.fill_nodes.ensures) are)
    c.write_at.ensures.written

pub returns-clause-cost : goal.returns-clause-cost
returns-clause-cost g c =
    let n = size g (goal.at.returns-clause-cost g c).After-fill_nodes in
    omega (arith, ap (λ (t : Travel). t.written) c.write_at.ensures.travel, n)
