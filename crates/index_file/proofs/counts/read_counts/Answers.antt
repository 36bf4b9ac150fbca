use Rattle.std.proofs.Common.{◌≡◌, inl, ◌≤◌, ℕ, ◌+◌, ◌*◌, ◌^◌, List, refl, sym, ap, subst, ◌∙◌, arith}
use Rattle.std.proofs.lemmas.Result.{err_from_is_err_and}
use Rattle.density_rule.specs.Marks.{no_marks}
use Rattle.station.proofs.Composition.{no_steps, same_on, told_on}
use Rattle.header_gate.specs.declared.layout.Layout.{Layout}
use Rattle.window_tally.specs.TallyView.{TallyView}
use Rattle.index_file.specs.Area.{count_place}
use Rattle.index_file.specs.IndexReading.{after_part}
use Rattle.index_file.proofs.Travelling.{counts_on}
use Rattle.index_file.specs.IndexCounts.{AreCounted, CountFailsAt}
use Rattle.index_file.proofs.CountingLaws.{count_fails_more}
use Rattle.index_file.proofs.Indexes.{index_on}
use Rattle.index_file.proofs.Answering.{never_failed}
use Rattle.segment_frames.specs.SegmentParts.{InParts}
use Rattle.segment_frames.proofs.PartLaws.{parts_none, parts_more}
use Rattle.index_file.proofs.counts.read_counts.Goals as goal
use Rattle.index_file.proofs.counts.read_counts.Goals.{After-read_count_piece}

-- the same of another height and another file
moved : (l : Layout) (h g n : ℕ) (counts f e : List ℕ) → h ≡ g → f ≡ e → AreCounted l h n counts f → AreCounted l g n counts e
moved l h g n counts f e tall same are = subst (λ (x : List ℕ). AreCounted l g n counts x) same (subst (λ (x : ℕ). AreCounted l x n counts f) tall are)

fails_moved : (l : Layout) (h g n : ℕ) (f e : List ℕ) (place : ℕ) → h ≡ g → f ≡ e → CountFailsAt l h n f place → CountFailsAt l g n e place
fails_moved l h g n f e place tall same are = subst (λ (x : List ℕ). CountFailsAt l g n x place) same (subst (λ (x : ℕ). CountFailsAt l x n f place) tall are)

pub loop-first-init : goal.loop-first-init
loop-first-init g c = record {
  within = omega arith;
  kept = refl;
  is_tally = c.requires.uncounted.is_tally;
  file = c.requires.file;
  steps = no_steps (g.S.Station.view c.args.station.now);
  counted = λ told. record { counts_are = λ i lt. absurd (omega (arith, lt)); bounds = λ i lt. absurd (omega (arith, lt)) };
  travel = refl;
  calls = (0, parts_none _ _ _, omega arith);
}

pub read_count_piece-requires-clause-uncounted : goal.read_count_piece-requires-clause-uncounted
read_count_piece-requires-clause-uncounted g c =
    let kept = c.loop-first.invariant.kept in
    record {
      is_tally = c.loop-first.invariant.is_tally;
      low = omega (arith, ap (λ (t : TallyView). t.height) kept, c.requires.uncounted.low);
      unrested = ap (λ (t : TallyView). t.marks) kept ∙ c.requires.uncounted.unrested ∙ ap (λ (t : TallyView). no_marks t.height) (sym kept);
    }

pub read_count_piece-requires-clause-segments : goal.read_count_piece-requires-clause-segments
read_count_piece-requires-clause-segments g c =
    let tall : 2 ^ c.loop-first.tally.height ≡ 2 ^ c.args.tally.now.height = ap (λ (t : TallyView). 2 ^ t.height) c.loop-first.invariant.kept in
    omega (arith, tall, c.segment_count-end.ensures.count, c.loop-first-test.true)

-- a piece more is read or written
called : (g : _) (c : After-read_count_piece g) → (made : ℕ) × InParts 1024 (2 ^ c.args.tally.now.height) (c.loop-first.first + c.min-count.result) made × ((g.S.Station.view c.read_count_piece.new.station).calls ≤ (g.S.Station.view c.args.station.now).calls + made)
called g c =
    let is = c.loop-first.invariant.calls in
    (is.0 + 1, parts_more 1024 (2 ^ c.args.tally.now.height) c.loop-first.first (c.loop-first.first + c.min-count.result) is.0 (omega arith) is.1 (omega (arith, c.segment_count-end.ensures.count, c.loop-first-test.true)) (λ more. omega (arith, more, c.min-count.ensures, c.segment_count-end.ensures.count)), omega (arith, is.2, c.read_count_piece.ensures.calls))

pub loop-first-preserved : goal.loop-first-preserved
loop-first-preserved g c =
    let i = c.loop-first.invariant in
    let tall : c.loop-first.tally.height ≡ c.args.tally.now.height = ap (λ (t : TallyView). t.height) i.kept in
    record {
      within = omega (arith, c.segment_count-end.ensures.count, c.loop-first-test.true);
      kept = c.read_count_piece.ensures.counts.kept ∙ ap (λ (t : TallyView). record t { counts = c.read_count_piece.new.tally.counts }) i.kept;
      is_tally = c.read_count_piece.ensures.counts.is_tally;
      file = index_on i.file c.read_count_piece.ensures.steps;
      steps = same_on i.steps c.read_count_piece.ensures.steps;
      counted = λ told.
          let same = i.steps.held told in
          moved c.args.layout.now c.loop-first.tally.height c.args.tally.now.height (c.loop-first.first + c.min-count.result) c.read_count_piece.new.tally.counts (g.S.Station.view c.loop-first.station).held (g.S.Station.view c.args.station.now).held tall same
          (c.in_ok-read_count_piece.ensures.counted (told_on i.steps.frame told)
          (moved c.args.layout.now c.args.tally.now.height c.loop-first.tally.height c.loop-first.first c.loop-first.tally.counts (g.S.Station.view c.args.station.now).held (g.S.Station.view c.loop-first.station).held (sym tall) (sym same) (i.counted told)));
      travel = counts_on c.args.layout.now c.loop-first.first c.min-count.result _ _ _ (omega (arith, c.loop-first-test.true)) i.travel c.read_count_piece.ensures.travel;
      calls = called g (goal.at.loop-first-preserved g c).After-read_count_piece;
    }

pub returns-in_err-read_count_piece-clause-counts : goal.returns-in_err-read_count_piece-clause-counts
returns-in_err-read_count_piece-clause-counts g c = record {
  kept = c.read_count_piece.ensures.counts.kept ∙ ap (λ (t : TallyView). record t { counts = c.read_count_piece.new.tally.counts }) c.loop-first.invariant.kept;
  is_tally = c.read_count_piece.ensures.counts.is_tally;
}

pub returns-in_err-read_count_piece-clause-refused : goal.returns-in_err-read_count_piece-clause-refused
returns-in_err-read_count_piece-clause-refused g c =
    let p = err_from_is_err_and c.from_residual.result c.from_residual.ensures.1 in
    rw (p.1, p.2) (λ told place e.
    let i = c.loop-first.invariant in
    let tall : c.loop-first.tally.height ≡ c.args.tally.now.height = ap (λ (t : TallyView). t.height) i.kept in
    let same = i.steps.held told in
    let fails = c.in_err-read_count_piece.ensures.refused (told_on i.steps.frame told)
    (moved c.args.layout.now c.args.tally.now.height c.loop-first.tally.height c.loop-first.first c.loop-first.tally.counts (g.S.Station.view c.args.station.now).held (g.S.Station.view c.loop-first.station).held (sym tall) (sym same) (i.counted told)) place e in
    count_fails_more c.args.layout.now c.args.tally.now.height (c.loop-first.first + c.min-count.result) (2 ^ c.args.tally.now.height) (g.S.Station.view c.args.station.now).held place (omega (arith, c.segment_count-end.ensures.count, c.loop-first-test.true))
    (fails_moved c.args.layout.now c.loop-first.tally.height c.args.tally.now.height (c.loop-first.first + c.min-count.result) (g.S.Station.view c.loop-first.station).held (g.S.Station.view c.args.station.now).held place tall same fails))

-- the place is that of a count of the piece that was read last
pub returns-in_err-read_count_piece-clause-named : goal.returns-in_err-read_count_piece-clause-named
returns-in_err-read_count_piece-clause-named g c =
    let p = err_from_is_err_and c.from_residual.result c.from_residual.ensures.1 in
    rw (p.1, p.2) (λ place e.
    let is = c.in_err-read_count_piece.ensures.named place e in
    record {
      segment = is.0;
      read = c.loop-first.first + c.min-count.result;
      place_is = is.3;
      among = record { below = is.2; most = omega (arith, c.segment_count-end.ensures.count, c.loop-first-test.true); last = inl (omega (arith, is.1, c.min-count.ensures)) };
      travel = counts_on c.args.layout.now c.loop-first.first c.min-count.result _ _ _ (omega (arith, c.loop-first-test.true)) c.loop-first.invariant.travel c.read_count_piece.ensures.travel;
    })

pub returns-clause-counted : goal.returns-clause-counted
returns-clause-counted g c told =
    let done : c.loop-first.first ≡ 2 ^ c.args.tally.now.height = omega (arith, c.loop-first.invariant.within, c.segment_count-end.ensures.count, c.loop-first-test.false) in
    subst (λ (n : ℕ). AreCounted c.args.layout.now c.args.tally.now.height n c.loop-first.tally.counts (g.S.Station.view c.args.station.now).held) done (c.loop-first.invariant.counted told)

pub returns-in_err-read_count_piece-clause-reads : goal.returns-in_err-read_count_piece-clause-reads
returns-in_err-read_count_piece-clause-reads g c =
    let p = err_from_is_err_and c.from_residual.result c.from_residual.ensures.1 in
    rw (p.1, p.2) (let inv = c.loop-first.invariant in
    let is = called g (goal.at.returns-in_err-read_count_piece-clause-reads g c).After-read_count_piece in
    record {
      steps = same_on inv.steps c.read_count_piece.ensures.steps;
      travel = tt;
      front = record {
        bytes = 4 * (c.loop-first.first + c.min-count.result);
        most = omega (arith, c.segment_count-end.ensures.count, c.loop-first-test.true);
        now_is = counts_on c.args.layout.now c.loop-first.first c.min-count.result _ _ _ (omega (arith, c.loop-first-test.true)) inv.travel c.read_count_piece.ensures.travel;
      };
      calls = omega (arith, is.2, is.1.few);
      failed = λ failed. omega (arith, inv.steps.frame.disk_faults, c.in_err-read_count_piece.ensures.failed failed);
    })

pub returns-clause-reads : goal.returns-clause-reads
returns-clause-reads g c =
    let inv = c.loop-first.invariant in
    let is = inv.calls in
    let done : c.loop-first.first ≡ 2 ^ c.args.tally.now.height = omega (arith, inv.within, c.segment_count-end.ensures.count, c.loop-first-test.false) in
    record {
      steps = inv.steps;
      travel = inv.travel ∙ ap (λ (n : ℕ). after_part (count_place c.args.layout.now 0) (4 * n) (g.S.Station.view c.args.station.now).travel) done;
      front = record { bytes = 4 * c.loop-first.first; most = omega (arith, inv.within); now_is = inv.travel };
      calls = omega (arith, is.2, is.1.few);
      failed = λ failed. absurd (never_failed {T = Unit {0}} tt failed);
    }
