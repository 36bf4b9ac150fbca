use Rattle.std.proofs.Common.{◌≡◌, inl, ◌≤◌, ℕ, ◌+◌, ◌-◌, ◌*◌, ◌^◌, List, refl, sym, ap, subst, ◌∙◌, arith}
use Rattle.std.proofs.lemmas.Result.{err_from_is_err_and}
use Rattle.station.proofs.Composition.{no_steps, same_on, told_on}
use Rattle.index_file.specs.Area.{node_place}
use Rattle.index_file.specs.IndexReading.{FailsAt, after_part}
use Rattle.index_file.proofs.Travelling.{nodes_on}
use Rattle.index_file.specs.Writing.{AreNodesOf}
use Rattle.index_file.proofs.ReadingLaws.{fails_more}
use Rattle.index_file.proofs.Indexes.{index_on}
use Rattle.index_file.proofs.Answering.{never_failed}
use Rattle.segment_frames.specs.SegmentParts.{InParts}
use Rattle.segment_frames.proofs.PartLaws.{parts_none, parts_more}
use Rattle.index_file.proofs.reading.read_nodes.Goals as goal
use Rattle.index_file.proofs.reading.read_nodes.Goals.{After-read_node_piece}

pub loop-first-init : goal.loop-first-init
loop-first-init g c = record {
  within = omega arith;
  height = refl;
  hmax = refl;
  file = c.requires.file;
  steps = no_steps (g.S.Station.view c.args.station.now);
  taken = λ told x lt. absurd (omega (arith, lt));
  travel = refl;
  calls = (0, parts_none _ _ _, omega arith);
}

-- a piece more is read or written
called : (g : _) (c : After-read_node_piece g) → (made : ℕ) × InParts 64 (2 ^ c.args.h - 1) (c.loop-first.first + c.min-count.result) made × ((g.S.Station.view c.read_node_piece.new.station).calls ≤ (g.S.Station.view c.args.station.now).calls + made)
called g c =
    let is = c.loop-first.invariant.calls in
    (is.0 + 1, parts_more 64 (2 ^ c.args.h - 1) c.loop-first.first (c.loop-first.first + c.min-count.result) is.0 (omega arith) is.1 (omega (arith, c.node_count-end.ensures, c.loop-first-test.true)) (λ more. omega (arith, more, c.min-count.ensures, c.node_count-end.ensures)), omega (arith, is.2, c.read_node_piece.ensures.calls))

pub loop-first-preserved : goal.loop-first-preserved
loop-first-preserved g c =
    let i = c.loop-first.invariant in
    record {
      within = omega (arith, c.node_count-end.ensures, c.loop-first-test.true);
      height = c.read_node_piece.ensures.fences.height ∙ i.height;
      hmax = c.read_node_piece.ensures.fences.hmax ∙ i.hmax;
      file = index_on i.file c.read_node_piece.ensures.steps;
      steps = same_on i.steps c.read_node_piece.ensures.steps;
      taken = λ told.
          let same = i.steps.held told in
          let next = c.in_ok-read_node_piece.ensures.taken (told_on i.steps.frame told) (subst (λ (f : List ℕ). AreNodesOf c.args.layout.now.format c.args.layout.now c.args.h c.loop-first.index.fences c.loop-first.first f) (sym same) (i.taken told)) in
          subst (λ (f : List ℕ). AreNodesOf c.args.layout.now.format c.args.layout.now c.args.h c.read_node_piece.new.index.fences (c.loop-first.first + c.min-count.result) f) same next;
      travel = nodes_on c.args.layout.now c.loop-first.first c.min-count.result _ _ _ (omega (arith, c.loop-first-test.true)) i.travel c.read_node_piece.ensures.travel;
      calls = called g (goal.at.loop-first-preserved g c).After-read_node_piece;
    }

pub returns-in_err-read_node_piece-clause-refused : goal.returns-in_err-read_node_piece-clause-refused
returns-in_err-read_node_piece-clause-refused g c =
    let p = err_from_is_err_and c.from_residual.result c.from_residual.ensures.1 in
    rw (p.1, p.2) (λ told place e.
    let i = c.loop-first.invariant in
    let same = i.steps.held told in
    let fails = c.in_err-read_node_piece.ensures.refused (told_on i.steps.frame told) (subst (λ (f : List ℕ). AreNodesOf c.args.layout.now.format c.args.layout.now c.args.h c.loop-first.index.fences c.loop-first.first f) (sym same) (i.taken told)) place e in
    fails_more c.args.layout.now c.args.h (c.loop-first.first + c.min-count.result) (2 ^ c.args.h - 1) (g.S.Station.view c.args.station.now).held place (omega (arith, c.node_count-end.ensures, c.loop-first-test.true))
    (subst (λ (f : List ℕ). FailsAt c.args.layout.now c.args.h (c.loop-first.first + c.min-count.result) f place) same fails))

pub returns-clause-taken : goal.returns-clause-taken
returns-clause-taken g c told =
    let done : c.loop-first.first ≡ 2 ^ c.args.h - 1 = omega (arith, c.loop-first.invariant.within, c.node_count-end.ensures, c.loop-first-test.false) in
    subst (λ (n : ℕ). AreNodesOf c.args.layout.now.format c.args.layout.now c.args.h c.loop-first.index.fences n (g.S.Station.view c.args.station.now).held) done (c.loop-first.invariant.taken told)

pub returns-in_err-read_node_piece-clause-front : goal.returns-in_err-read_node_piece-clause-front
returns-in_err-read_node_piece-clause-front g c = record {
  bytes = 64 * (c.loop-first.first + c.min-count.result);
  most = omega (arith, c.node_count-end.ensures, c.loop-first-test.true);
  now_is = nodes_on c.args.layout.now c.loop-first.first c.min-count.result _ _ _ (omega (arith, c.loop-first-test.true)) c.loop-first.invariant.travel c.read_node_piece.ensures.travel;
}

-- the place is that of a node of the piece that was read last
pub returns-in_err-read_node_piece-clause-named : goal.returns-in_err-read_node_piece-clause-named
returns-in_err-read_node_piece-clause-named g c =
    let p = err_from_is_err_and c.from_residual.result c.from_residual.ensures.1 in
    rw (p.1, p.2) (λ place e.
    let is = c.in_err-read_node_piece.ensures.named place e in
    record {
      position = is.0;
      read = c.loop-first.first + c.min-count.result;
      place_is = is.3;
      among = record { below = is.2; most = omega (arith, c.node_count-end.ensures, c.loop-first-test.true); last = inl (omega (arith, is.1, c.min-count.ensures)) };
      travel = nodes_on c.args.layout.now c.loop-first.first c.min-count.result _ _ _ (omega (arith, c.loop-first-test.true)) c.loop-first.invariant.travel c.read_node_piece.ensures.travel;
    })

pub returns-clause-front : goal.returns-clause-front
returns-clause-front g c = record { bytes = 64 * c.loop-first.first; most = omega (arith, c.loop-first.invariant.within); now_is = c.loop-first.invariant.travel }

pub returns-in_err-read_node_piece-clause-reads : goal.returns-in_err-read_node_piece-clause-reads
returns-in_err-read_node_piece-clause-reads g c =
    let p = err_from_is_err_and c.from_residual.result c.from_residual.ensures.1 in
    rw (p.1, p.2) (let inv = c.loop-first.invariant in
    let is = called g (goal.at.returns-in_err-read_node_piece-clause-reads g c).After-read_node_piece in
    record {
      steps = same_on inv.steps c.read_node_piece.ensures.steps;
      travel = tt;
      calls = omega (arith, is.2, is.1.few);
      failed = λ failed. omega (arith, inv.steps.frame.disk_faults, c.in_err-read_node_piece.ensures.failed failed);
    })

pub returns-clause-reads : goal.returns-clause-reads
returns-clause-reads g c =
    let inv = c.loop-first.invariant in
    let is = inv.calls in
    let done : c.loop-first.first ≡ 2 ^ c.args.h - 1 = omega (arith, inv.within, c.node_count-end.ensures, c.loop-first-test.false) in
    record {
      steps = inv.steps;
      travel = inv.travel ∙ ap (λ (n : ℕ). after_part (node_place c.args.layout.now 0) (64 * n) (g.S.Station.view c.args.station.now).travel) done;
      calls = omega (arith, is.2, is.1.few);
      failed = λ failed. absurd (never_failed {T = Unit {0}} tt failed);
    }
