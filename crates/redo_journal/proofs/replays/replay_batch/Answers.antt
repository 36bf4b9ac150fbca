use Rattle.std.proofs.Common.{◌≡◌, ◌≤◌, ◌+◌, ℕ, List, true, length, inl, refl, sym, ◌∙◌, ap, subst, arith, rules}
use Rattle.std.specs.Prelude.{◌^◌}
use Rattle.std.proofs.lemmas.Result.{err_from_is_err_and}
use mathlib.Core.Bool.{true≢false}
use Rattle.std.specs.Prelude.{is_ok}
use Rattle.station.specs.Bytes.{byte}
use Rattle.station.proofs.Composition.{each_held, nothing_on, told_back, told_on, weaken}
use Rattle.header_gate.specs.InPlace.{IsBare, IsDone}
use Rattle.header_gate.specs.Places.{table_place, image_place, journal_shift, pages_at}
use Rattle.header_gate.specs.Recovered.{IsTableOf, numbers_at, live_table, is_laid}
use Rattle.header_gate.proofs.PagedSegments.{pages_fit}
use Rattle.redo_journal.specs.Applying.{IsBatchOf, IsLoaded}
use Rattle.redo_journal.specs.Neighbours.{run_count}
use Rattle.station.specs.View.{Told}
use Rattle.redo_journal.proofs.Live.{laid_turn, bare_none, done_empty, rest_nothing}
use Rattle.redo_journal.proofs.Batches.{replays_none, replays_steps}
use Rattle.redo_journal.proofs.RunCounts.{run_count_few}
use Rattle.redo_journal.proofs.Validating.{lower_batch, images_read, reason_fault}
use Rattle.redo_journal.proofs.replays.replay_batch.Goals as goal
use Rattle.redo_journal.proofs.replays.replay_batch.Goals.{After-images}

pub returns-in_err-read_batch : goal.returns-in_err-read_batch
returns-in_err-read_batch g c =
    let p = err_from_is_err_and c.from_residual.result c.from_residual.ensures.1 in
    let l = c.args.place.now.layout in
    let a = g.S.Station.view c.args.station.now in
    let read = c.read_batch.ensures.read in
    rw (p.1, p.2) (record {
      replays = record {
        steps = weaken read.steps (λ d i left same. replays_none l c.args.place.now.region d i same);
        settled = tt;
        rest = tt;
        closed = tt;
        kept = tt;
        sound = tt;
        refused = λ told r e. reason_fault l c.args.turn c.args.height a.held c.requires.single (c.requires.at a.held (inl (told, refl))).gate_is ∙ c.in_err-read_batch.ensures.read.refused told r e;
        untouched = λ r e. read.steps;
        unwritten = λ r e. read.written;
        cost = omega (arith, read.written);
        reads = c.read_batch.ensures.reads;
        cost_named = tt;
        reads_named = tt;
        calls = omega (arith, c.read_batch.ensures.calls);
        calls_named = tt;
        calls_paired = λ paired. omega (arith, c.read_batch.ensures.calls);
        calls_named_paired = tt;
        journal = read.journal;
        turn_kept = read.turn_kept;
        bare = λ told bare.
            let none = bare_none l c.args.turn a.held c.requires.single (c.requires.at a.held (inl (told, refl))).gate_is bare in
            record { steps = read.steps; written = read.written; read = c.read_batch.ensures.none_reads told none; calls = c.read_batch.ensures.none_calls told none };
        cause = search rules;
      };
    })

pub returns-then-count-eq0 : goal.returns-then-count-eq0
returns-then-count-eq0 g c =
    let l = c.args.place.now.layout in
    let a = g.S.Station.view c.args.station.now in
    let b = g.S.Station.view c.read_batch.new.station in
    let read = c.read_batch.ensures.read in
    let settled = nothing_on (g.met.S.Station.lawful c.args.station.now) c.requires.nothing read.steps in
    record {
      replays = record {
        steps = weaken read.steps (λ d i left same. replays_none l c.args.place.now.region d i same);
        settled = settled;
        rest = rest_nothing l b settled (λ told_b.
            let told = told_back read.steps.frame told_b in
            let table : live_table l a.held ≡ c.read_batch.new.frames.numbers = ap (λ (t : ℕ). numbers_at (table_place + journal_shift l t) a.held) (c.requires.at a.held (inl (told, refl))).gate_is ∙ c.in_ok-read_batch.ensures.read.table told in
            subst (IsDone l) (sym (read.steps.held told)) (done_empty l a.held (omega (arith, ap (λ (ns : List ℕ). length ns) table, c.count.ensures, c.if-count-eq0.true))));
        closed = λ told single. absurd (omega (arith, c.in_ok-read_batch.ensures.read.some single, c.count.ensures, c.if-count-eq0.true));
        kept = λ told paired. ap (λ (file : List ℕ). byte file 512) (read.steps.held told);
        sound = λ told. reason_fault l c.args.turn c.args.height a.held c.requires.single (c.requires.at a.held (inl (told, refl))).gate_is ∙ c.in_ok-read_batch.ensures.read.sound told;
        refused = tt;
        untouched = tt;
        unwritten = tt;
        cost = omega (arith, read.written);
        reads = c.read_batch.ensures.reads;
        cost_named = λ told. omega (arith, read.written);
        reads_named = λ told. omega (arith, c.in_ok-read_batch.ensures.reads_named, c.count.ensures, c.if-count-eq0.true);
        calls = omega (arith, c.read_batch.ensures.calls);
        calls_named = λ told. omega (arith, c.read_batch.ensures.calls);
        calls_paired = λ paired. omega (arith, c.read_batch.ensures.calls);
        calls_named_paired = λ told paired. omega (arith, c.read_batch.ensures.calls);
        journal = read.journal;
        turn_kept = read.turn_kept;
        bare = λ told bare.
            let none = bare_none l c.args.turn a.held c.requires.single (c.requires.at a.held (inl (told, refl))).gate_is bare in
            record { steps = read.steps; written = read.written; read = c.read_batch.ensures.none_reads told none; calls = c.read_batch.ensures.none_calls told none };
        cause = λ is. absurd (true≢false (ap is_ok is));
      };
    }

-- the batch that was read
batch : (g : _) (c : After-images g) → IsBatchOf c.args.place.now.layout c.args.place.now.region c.numbers.result.now c.images.result.now
batch g c =
    let place = c.args.place.now in
    let numbers = c.read_batch.new.frames.numbers in
    record {
      region_is = c.requires.region;
      batch = subst (IsTableOf place.layout.journal (2 ^ place.layout.hmax)) (sym c.numbers.ensures.value) (lower_batch place.layout.journal (pages_at place.layout c.args.height) (2 ^ place.layout.hmax) numbers (pages_fit place.layout.hmax place.layout.format c.args.height c.requires.layout.format c.requires.height) c.in_ok-read_batch.ensures.read.batch);
      size = omega (arith, c.images.ensures.len, ap (λ (l : List ℕ). length l) c.numbers.ensures.value);
    }

-- the live journal is that of the batch, and is to be laid
named : (g : _) (c : After-images g) → Told (g.S.Station.view c.args.station.now)
    → (live_table c.args.place.now.layout (g.S.Station.view c.args.station.now).held ≡ c.numbers.result.now) × (is_laid c.args.place.now.layout (g.S.Station.view c.args.station.now).held ≡ true)
named g c told =
    let l = c.args.place.now.layout in
    let file = (g.S.Station.view c.args.station.now).held in
    let gate_is = (c.requires.at file (inl (told, refl))).gate_is in (
      ap (λ (t : ℕ). numbers_at (table_place + journal_shift l t) file) gate_is ∙ c.in_ok-read_batch.ensures.read.table told ∙ sym c.numbers.ensures.value,
      laid_turn l c.args.turn file c.requires.single gate_is,
    )

pub lay-requires-clause-batch : goal.lay-requires-clause-batch
lay-requires-clause-batch g c = batch g (goal.at.lay-requires-clause-batch g c).After-images

pub lay-requires-clause-loaded : goal.lay-requires-clause-loaded
lay-requires-clause-loaded g c =
    let place = c.args.place.now in
    let a = g.S.Station.view c.args.station.now in
    let b = g.S.Station.view c.read_batch.new.station in
    let frames = c.read_batch.new.frames in
    let steps = c.read_batch.ensures.read.steps in
    each_held b (IsLoaded place.layout c.args.turn place.region c.numbers.result.now c.images.result.now) (g.met.S.Station.lawful c.read_batch.new.station)
    (nothing_on (g.met.S.Station.lawful c.args.station.now) c.requires.nothing steps)
    (λ told.
    let told_a = told_back steps.frame told in
    let is = (c.requires.at a.held (inl (told_a, refl))).at in
    let loaded : IsLoaded place.layout c.args.turn place.region c.numbers.result.now c.images.result.now a.held = record {
      size = is.size;
      region_is = is.region_is;
      table_is = c.in_ok-read_batch.ensures.read.table told_a ∙ sym c.numbers.ensures.value;
      images_are = images_read frames.slots c.images.result.now a.held (length frames.numbers) (image_place place.layout 0 + journal_shift place.layout c.args.turn) c.images.ensures.value c.images.ensures.len (c.in_ok-read_batch.ensures.images told_a);
    } in
    subst (IsLoaded place.layout c.args.turn place.region c.numbers.result.now c.images.result.now) (sym (steps.held told_a)) loaded)

-- there are at most as many runs as the journal takes pages
few : (g : _) (c : After-images g) → run_count c.numbers.result.now ≤ c.args.place.now.layout.journal
few g c = omega (arith, run_count_few c.numbers.result.now, ap (λ (l : List ℕ). length l) c.numbers.ensures.value, c.in_ok-read_batch.ensures.read.batch.most_is)

-- then none is laid
laid_none : (g : _) (c : After-images g) → 1 ≤ length c.numbers.result.now → Told (g.S.Station.view c.args.station.now) → IsBare c.args.place.now.layout (g.S.Station.view c.args.station.now).held → ⊥
laid_none g c some told bare =
    let is = named g c told in
    omega (arith, some, ap length (sym is.0 ∙ (bare is.1).1))

pub returns-in-Ok : goal.returns-in-Ok
returns-in-Ok g c =
    let here = (goal.at.returns-in-Ok g c).After-images in
    let l = c.args.place.now.layout in
    let a = g.S.Station.view c.args.station.now in
    let read = c.read_batch.ensures.read in
    let lays = c.lay.ensures.lays in
    let count = c.numbers.ensures.value in
    let room = c.in_ok-read_batch.ensures.read.batch.most_is in
    let same = ap (λ (ns : List ℕ). length ns) count in
    let table = λ (told : Told a). ap (λ (ns : List ℕ). length ns) (named g here told).0 in
    let runs = λ (told : Told a). ap run_count (named g here told).0 in
    record {
      replays = record {
        steps = replays_steps l c.args.place.now.region c.numbers.result.now c.images.result.now (batch g here) (g.met.S.Station.lawful c.args.station.now) (g.met.S.Station.lawful c.read_batch.new.station) c.requires.nothing read.steps (named g here) lays.steps;
        settled = c.in-Ok.ensures.settled;
        rest = c.in-Ok.ensures.lays.rest;
        closed = λ told. c.in-Ok.ensures.lays.closed (told_on read.steps.frame told);
        kept = λ told paired. c.in-Ok.ensures.lays.kept (told_on read.steps.frame told) paired ∙ ap (λ (file : List ℕ). byte file 512) (read.steps.held told);
        sound = λ told. reason_fault l c.args.turn c.args.height a.held c.requires.single (c.requires.at a.held (inl (told, refl))).gate_is ∙ c.in_ok-read_batch.ensures.read.sound told;
        refused = tt;
        untouched = tt;
        unwritten = tt;
        cost = omega (arith, read.written, lays.cost, same, room);
        reads = omega (arith, c.read_batch.ensures.reads, lays.no_reads);
        cost_named = λ told. omega (arith, read.written, lays.cost, table told);
        reads_named = λ told. omega (arith, c.in_ok-read_batch.ensures.reads_named, lays.no_reads, same, table told);
        calls = omega (arith, c.read_batch.ensures.calls, lays.calls, few g here);
        calls_named = λ told. omega (arith, c.read_batch.ensures.calls, lays.calls, runs told);
        calls_paired = λ paired. omega (arith, c.read_batch.ensures.calls, c.lay.ensures.calls_paired paired, few g here);
        calls_named_paired = λ told paired. omega (arith, c.read_batch.ensures.calls, c.lay.ensures.calls_paired paired, runs told);
        journal = read.journal;
        turn_kept = read.turn_kept;
        bare = λ told bare. absurd (laid_none g here (omega (arith, c.if-count-eq0.false, c.count.ensures, same)) told bare);
        cause = λ is. absurd (true≢false (ap is_ok is));
      };
    }

pub returns-in-Err : goal.returns-in-Err
returns-in-Err g c =
    let here = (goal.at.returns-in-Err g c).After-images in
    let l = c.args.place.now.layout in
    let a = g.S.Station.view c.args.station.now in
    let read = c.read_batch.ensures.read in
    let lays = c.lay.ensures.lays in
    let count = c.numbers.ensures.value in
    let room = c.in_ok-read_batch.ensures.read.batch.most_is in
    let same = ap (λ (ns : List ℕ). length ns) count in
    let table = λ (told : Told a). ap (λ (ns : List ℕ). length ns) (named g here told).0 in
    let runs = λ (told : Told a). ap run_count (named g here told).0 in
    record {
      replays = record {
        steps = replays_steps l c.args.place.now.region c.numbers.result.now c.images.result.now (batch g here) (g.met.S.Station.lawful c.args.station.now) (g.met.S.Station.lawful c.read_batch.new.station) c.requires.nothing read.steps (named g here) lays.steps;
        settled = tt;
        rest = tt;
        closed = tt;
        kept = tt;
        sound = tt;
        refused = search rules;
        untouched = search rules;
        unwritten = search rules;
        cost = omega (arith, read.written, lays.cost, same, room);
        reads = omega (arith, c.read_batch.ensures.reads, lays.no_reads);
        cost_named = tt;
        reads_named = tt;
        calls = omega (arith, c.read_batch.ensures.calls, lays.calls, few g here);
        calls_named = tt;
        calls_paired = λ paired. omega (arith, c.read_batch.ensures.calls, c.lay.ensures.calls_paired paired, few g here);
        calls_named_paired = tt;
        journal = read.journal;
        turn_kept = read.turn_kept;
        bare = λ told bare. absurd (laid_none g here (omega (arith, c.if-count-eq0.false, c.count.ensures, same)) told bare);
        cause = λ is. omega (arith, c.in-Err.ensures.lays.cause, read.steps.frame.disk_faults);
      };
    }
