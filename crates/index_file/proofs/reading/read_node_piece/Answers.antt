use Rattle.std.proofs.Common.{◌≡◌, ℕ, ◌+◌, refl, sym, ap, subst, ◌∙◌, arith}
use Rattle.station.specs.Bytes.{byte}
use Rattle.index_file.specs.Area.{node_place}
use Rattle.index_file.specs.IndexReading.{FailsAt}
use Rattle.index_file.specs.declared.fault.AreaFault.TheVariants.{Wrong}
use Rattle.index_file.proofs.AreaLaws.{nodes_within}
use Rattle.index_file.proofs.ReadingLaws.{nodes_read, fails_read, IsFront}
use Rattle.index_file.proofs.reading.read_node_piece.Goals as goal

wrong_one : (p q : ℕ) → Wrong p ≡ Wrong q → p ≡ q
wrong_one p q e = cc

pub read_front-requires-clause-reach : goal.read_front-requires-clause-reach
read_front-requires-clause-reach g c = omega (arith, c.node_at.ensures, nodes_within c.args.layout.now c.args.h c.args.first c.args.count c.requires.file.indexed c.requires.unread.low c.requires.nodes, c.requires.file.reach)

pub returns-in-None-clause-taken : goal.returns-in-None-clause-taken
returns-in-None-clause-taken g c told are =
    let l = c.args.layout.now in
    let held = (g.S.Station.view c.args.station.now).held in
    let front : IsFront c.args.layout.now c.args.first c.args.count (g.S.Station.view c.args.station.now).held c.read_front.new.piece = λ k lt. c.in-Ok.ensures.filled told k lt ∙ ap (λ (p : ℕ). byte (g.S.Station.view c.args.station.now).held (p + k)) c.node_at.ensures in
    nodes_read c.args.layout.now c.requires.file.layout.format.most c.args.h c.args.index.now.fences c.take_nodes.new.index.fences c.args.first c.args.count (g.S.Station.view c.args.station.now).held c.read_front.new.piece front (c.in-None.ensures.taken refl) c.take_nodes.ensures.before are

pub returns-in-Some-clause-named : goal.returns-in-Some-clause-named
returns-in-Some-clause-named g c place e =
    (c.in-Some.x, c.in-Some.ensures.wrong.from, c.in-Some.ensures.wrong.below, sym (wrong_one (node_place c.args.layout.now c.in-Some.x) place (sym c.wrong_node.ensures ∙ e)))

pub returns-in-Some-clause-refused : goal.returns-in-Some-clause-refused
returns-in-Some-clause-refused g c told are place e =
    let front : IsFront c.args.layout.now c.args.first c.args.count (g.S.Station.view c.args.station.now).held c.read_front.new.piece = λ k lt. c.in-Ok.ensures.filled told k lt ∙ ap (λ (p : ℕ). byte (g.S.Station.view c.args.station.now).held (p + k)) c.node_at.ensures in
    let fails = fails_read c.args.layout.now c.args.h c.args.index.now.fences c.args.first c.args.count (g.S.Station.view c.args.station.now).held c.read_front.new.piece c.in-Some.x front c.in-Some.ensures.wrong are in
    let same : node_place c.args.layout.now c.in-Some.x ≡ place = wrong_one (node_place c.args.layout.now c.in-Some.x) place (sym c.wrong_node.ensures ∙ e) in
    subst (λ (p : ℕ). FailsAt c.args.layout.now c.args.h (c.args.first + c.args.count) (g.S.Station.view c.args.station.now).held p) same fails
