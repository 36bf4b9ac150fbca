use Rattle.std.proofs.Common.{◌≡◌, ℕ, ◌-◌, ◌^◌, List, length, refl, arith, subst, sym, inl, ◌∙◌}
use Rattle.std.proofs.lemmas.Result.{on_ok_weaker}
use Rattle.station.specs.View.{Told}
use Rattle.station.proofs.Composition.{each_on, touched_on, same_on, told_on}
use Rattle.header_gate.specs.Places.{file_length}
use Rattle.key_slot.specs.Format.{wide}
use Rattle.index_file.specs.Clean.{IsAreaPlace}
use Rattle.index_file.specs.Writing.{AreNodesOf, AreCountsOf}
use Rattle.index_file.proofs.AreaLaws.{nodes_stay, counts_behind}
use Rattle.index_file.proofs.LeavingLaws.{ready_size, area_left}
use Rattle.index_file.proofs.Indexes.{index_on}
use Rattle.index_file.proofs.leaving.write_area.Goals as goal

pub write_nodes-requires-clause-size : goal.write_nodes-requires-clause-size
write_nodes-requires-clause-size g c image left = ready_size c.args.layout.now c.args.region c.args.tally.now c.args.index.now image (c.requires.leave.ready image left)

pub write_counts-requires-clause-size : goal.write_counts-requires-clause-size
write_counts-requires-clause-size g c =
    let kept = λ (image : List ℕ). length image ≡ file_length c.args.layout.now in
    each_on kept kept c.write_nodes.ensures.steps (λ image left. ready_size c.args.layout.now c.args.region c.args.tally.now c.args.index.now image (c.requires.leave.ready image left)) (λ d j is step. step.size ∙ is)

pub write_counts-requires-clause-file : goal.write_counts-requires-clause-file
write_counts-requires-clause-file g c = index_on c.requires.leave.file c.write_nodes.ensures.steps

pub returns-in_err-write_counts-clause-steps : goal.returns-in_err-write_counts-clause-steps
returns-in_err-write_counts-clause-steps g c = touched_on (IsAreaPlace c.args.layout.now) (λ k x. x) (counts_behind c.args.layout.now) c.write_nodes.ensures.steps c.write_counts.ensures.steps

pub returns-clause-steps : goal.returns-clause-steps
returns-clause-steps g c = same_on (touched_on (IsAreaPlace c.args.layout.now) (λ k x. x) (counts_behind c.args.layout.now) c.write_nodes.ensures.steps c.write_counts.ensures.steps) c.sync.ensures.steps

pub returns-clause-left : goal.returns-clause-left
returns-clause-left g c =
    let l = c.args.layout.now in
    let t = c.args.tally.now in
    let n = c.args.index.now in
    on_ok_weaker c.sync.result (λ settled told.
    let a = g.S.Station.view c.args.station.now in
    let b = g.S.Station.view c.write_nodes.new.station in
    let d = g.S.Station.view c.write_counts.new.station in
    let e = g.S.Station.view c.sync.new.self in
    let told_b : Told (g.S.Station.view c.write_nodes.new.station) = told_on c.write_nodes.ensures.steps.frame told in
    let told_d : Told (g.S.Station.view c.write_counts.new.station) = told_on c.write_counts.ensures.steps.frame told_b in
    let same = c.sync.ensures.steps.held told_d in
    let steps = returns-clause-steps g c in
    let nodes = nodes_stay l c.height.result n.fences (g.S.Station.view c.write_nodes.new.station).held (g.S.Station.view c.write_counts.new.station).held (omega (arith, c.height.ensures.height, c.requires.leave.low)) (c.write_counts.ensures.steps.held told_b).rest (c.in_ok-write_nodes.ensures.written told) in
    area_left l c.args.region c.height.result t n (g.S.Station.view c.args.station.now).held (g.S.Station.view c.sync.new.self).held (c.requires.leave.ready _ (inl (told, refl))) c.height.ensures.height c.requires.leave.index_height
    (steps.held told)
    (subst (λ (f : List ℕ). AreNodesOf wide l c.height.result n.fences (2 ^ c.height.result - 1) f) (sym same) nodes)
    (subst (λ (f : List ℕ). AreCountsOf l t.counts (2 ^ t.height) f) (sym same) (c.in_ok-write_counts.ensures.written told_b)))
    c.sync.ensures.settled
