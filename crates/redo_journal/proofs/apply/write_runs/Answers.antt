use Rattle.std.proofs.Common.{◌≡◌, ◌-◌, ℕ, List, length, get_or, arith, ap, ◌∙◌, rules}
use Rattle.std.proofs.lemmas.Result.{err_from_is_err_and}
use Rattle.station.specs.View.{Fixed}
use Rattle.station.proofs.Composition.{each_on, touched_on, told_on}
use Rattle.header_gate.specs.Places.{region_place, file_length}
use Rattle.header_gate.proofs.RecoveredPages.{page_within}
use Rattle.redo_journal.specs.Commit.{IsNamed}
use Rattle.redo_journal.proofs.Pages.{length-run_images, run_ends, named_run, placed_run}
use Rattle.redo_journal.proofs.RunCounts.{run_count_past, run_count_some}
use Rattle.redo_journal.proofs.apply.write_runs.Goals as goal

pub write_run-requires-clause-inside : goal.write_run-requires-clause-inside
write_run-requires-clause-inside g c =
    let place = c.args.place in
    let numbers = c.args.numbers.now in
    let end = c.run_end-end.result in
    let run = c.run_end-end.ensures.run in
    let below = c.requires.batch.batch.below (end - 1) 0 (omega (arith, run.some, run.within)) in
    omega (arith, run_ends (region_place place.layout place.region) c.runs.k end numbers c.args.images.now run c.requires.batch.size, page_within place.layout place.region (get_or numbers (end - 1) 0) c.requires.batch.region_is below)

pub returns-in_err-write_run-clause-pages : goal.returns-in_err-write_run-clause-pages
returns-in_err-write_run-clause-pages g c =
    let p = err_from_is_err_and c.from_residual.result c.from_residual.ensures.1 in
    let region = region_place c.args.place.layout c.args.place.region in
    let numbers = c.args.numbers.now in
    let images = c.args.images.now in
    let end = c.run_end-end.result in
    let run = c.run_end-end.ensures.run in
    let size = c.requires.batch.size in
    rw (p.1, p.2) (record {
      steps = touched_on (IsNamed region numbers) (λ p x. x) (named_run region c.runs.k end numbers images run size) c.runs.invariant.steps c.write_run.ensures.steps;
      placed = tt;
      cost = omega (arith, c.write_run.ensures.cost, c.runs.invariant.cost, length-run_images region c.runs.k end numbers images run size, run.within);
      no_reads = c.write_run.ensures.no_reads ∙ c.runs.invariant.no_reads;
      cause = omega (arith, c.in_err-write_run.ensures.cause, c.runs.invariant.steps.frame.disk_faults);
    })

pub runs-preserved : goal.runs-preserved
runs-preserved g c =
    let region = region_place c.args.place.layout c.args.place.region in
    let numbers = c.args.numbers.now in
    let images = c.args.images.now in
    let k = c.runs.k in
    let end = c.run_end-end.result in
    let run = c.run_end-end.ensures.run in
    let size = c.requires.batch.size in
    let kept = λ (image : List ℕ). length image ≡ file_length c.args.place.layout in
    record {
      within = run.within;
      cost = omega (arith, c.write_run.ensures.cost, c.runs.invariant.cost, length-run_images region k end numbers images run size, run.some);
      calls = omega (arith, c.write_run.ensures.calls, c.runs.invariant.calls, run_count_past numbers k end run c.run_end-end.ensures.longest);
      no_reads = c.write_run.ensures.no_reads ∙ c.runs.invariant.no_reads;
      steps = touched_on (IsNamed region numbers) (λ p x. x) (named_run region k end numbers images run size) c.runs.invariant.steps c.write_run.ensures.steps;
      reach = omega (arith, c.runs.invariant.reach, ap (λ (f : Fixed). f.reach) c.write_run.ensures.steps.frame.fixed);
      size = each_on kept kept c.write_run.ensures.steps c.runs.invariant.size (λ d i is step. step.size ∙ is);
      placed = λ told. placed_run region k end numbers images run size _ _ c.requires.batch.batch.ascends (c.runs.invariant.placed told) (c.in_ok-write_run.ensures.written (told_on c.runs.invariant.steps.frame told));
    }

pub returns-clause-pages : goal.returns-clause-pages
returns-clause-pages g c =
    let inv = c.runs.invariant in
    record {
      steps = inv.steps;
      placed = search rules;
      cost = search rules;
      no_reads = inv.no_reads;
      cause = tt;
    }

pub returns-in_err-write_run-clause-calls : goal.returns-in_err-write_run-clause-calls
returns-in_err-write_run-clause-calls g c = omega (arith, c.write_run.ensures.calls, c.runs.invariant.calls, run_count_some c.args.numbers.now c.runs.k c.runs-test.true)
