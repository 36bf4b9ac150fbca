use Rattle.std.proofs.Common.{◌≡◌, ◌+◌, ◌≤◌, ℕ, ◌-◌, ◌^◌, List, length, refl, arith, ap, subst, ◌∙◌}
use Rattle.station.proofs.Composition.{each_on, no_steps, touched_on, told_on, weaken}
use Rattle.station.specs.Bytes.{byte}
use Rattle.header_gate.specs.Places.{file_length}
use Rattle.index_file.specs.Clean.{IsAreaPlace}
use Rattle.key_slot.specs.Format.{wide}
use Rattle.index_file.specs.Writing.{AreNodesOf}
use Rattle.index_file.proofs.Indexes.{index_on}
use Rattle.segment_frames.specs.SegmentParts.{InParts}
use Rattle.segment_frames.proofs.PartLaws.{parts_none, parts_more}
use Rattle.index_file.proofs.writing.write_nodes.Goals as goal
use Rattle.index_file.proofs.writing.write_nodes.Goals.{After-write_node_piece}

pub loop-first-init : goal.loop-first-init
loop-first-init g c = record {
  within = omega arith;
  file = c.requires.file;
  steps = weaken (no_steps (g.S.Station.view c.args.station.now)) (λ d i left step. record { size = ap length step; rest = λ k out. ap (λ (f : List ℕ). byte f k) step });
  size = c.requires.size;
  written = λ told x lt. absurd (omega (arith, lt));
  cost = omega arith;
  no_reads = refl;
  calls = (0, parts_none _ _ _, omega arith);
}

-- a piece more is read or written
called : (g : _) (c : After-write_node_piece g) → (made : ℕ) × InParts 64 (2 ^ c.args.h - 1) (c.loop-first.first + c.min-count.result) made × ((g.S.Station.view c.write_node_piece.new.station).calls ≤ (g.S.Station.view c.args.station.now).calls + made)
called g c =
    let is = c.loop-first.invariant.calls in
    (is.0 + 1, parts_more 64 (2 ^ c.args.h - 1) c.loop-first.first (c.loop-first.first + c.min-count.result) is.0 (omega arith) is.1 (omega (arith, c.node_count-end.ensures, c.loop-first-test.true)) (λ more. omega (arith, more, c.min-count.ensures, c.node_count-end.ensures)), omega (arith, is.2, c.write_node_piece.ensures.calls))

pub loop-first-preserved : goal.loop-first-preserved
loop-first-preserved g c =
    let i = c.loop-first.invariant in
    let kept = λ (image : List ℕ). length image ≡ file_length c.args.layout.now in
    record {
      within = omega (arith, c.node_count-end.ensures, c.loop-first-test.true);
      file = index_on i.file c.write_node_piece.ensures.steps;
      steps = touched_on (IsAreaPlace c.args.layout.now) (λ k x. x) (λ k x. x) i.steps c.write_node_piece.ensures.steps;
      size = each_on kept kept c.write_node_piece.ensures.steps i.size (λ d j is step. step.size ∙ is);
      written = λ told. c.in_ok-write_node_piece.ensures.written (told_on i.steps.frame told) (i.written told);
      cost = omega (arith, c.write_node_piece.ensures.cost, i.cost);
      no_reads = c.write_node_piece.ensures.no_reads ∙ i.no_reads;
      calls = called g (goal.at.loop-first-preserved g c).After-write_node_piece;
    }

pub returns-in_err-write_node_piece-clause-steps : goal.returns-in_err-write_node_piece-clause-steps
returns-in_err-write_node_piece-clause-steps g c = touched_on (IsAreaPlace c.args.layout.now) (λ k x. x) (λ k x. x) c.loop-first.invariant.steps c.write_node_piece.ensures.steps

pub returns-clause-written : goal.returns-clause-written
returns-clause-written g c told =
    let done : c.loop-first.first ≡ 2 ^ c.args.h - 1 = omega (arith, c.loop-first.invariant.within, c.node_count-end.ensures, c.loop-first-test.false) in
    subst (λ (n : ℕ). AreNodesOf wide c.args.layout.now c.args.h c.args.index.now.fences n (g.S.Station.view c.loop-first.station).held) done (c.loop-first.invariant.written told)

pub returns-in_err-write_node_piece-clause-calls : goal.returns-in_err-write_node_piece-clause-calls
returns-in_err-write_node_piece-clause-calls g c = let is = called g (goal.at.returns-in_err-write_node_piece-clause-calls g c).After-write_node_piece in omega (arith, is.2, is.1.few)

pub returns-clause-calls : goal.returns-clause-calls
returns-clause-calls g c = let is = c.loop-first.invariant.calls in omega (arith, is.2, is.1.few)
