use Rattle.std.proofs.Common.{ℕ, List, length, subst, sym, ap, ◌∙◌, ◌<◌, ◌^◌, arith}
use Rattle.std.specs.Prelude.{◌≡◌}
use Rattle.std.proofs.lemmas.Result.{on_ok_weaker}
use Rattle.std.proofs.lemmas.List.Elements.{All-get_or}
use Rattle.station.proofs.Composition.{weaken}
use Rattle.header_gate.specs.Recovered.{IsTableOf, recovered, replayed_over}
use Rattle.redo_journal.specs.Commit.{image_byte, frame_byte, Commits}
use Rattle.redo_journal.specs.Neighbours.{run_count}
use Rattle.redo_journal.proofs.FrameBytes.{frames_image, table_numbers_are, laid_over_like, commits_like}
use Rattle.redo_journal.proofs.commits.commit_frames.Goals as goal

pub commit_images-requires-clause-table : goal.commit_images-requires-clause-table
commit_images-requires-clause-table g c = table_numbers_are c.table.result.now c.args.frames.now.numbers 0 c.table.ensures.value ∙ sym c.numbers.ensures.value

pub returns-clause-steps : goal.returns-clause-steps
returns-clause-steps g c =
    let place = c.args.place.now in
    let batch = c.args.frames.now in
    let images = c.images.result.now in
    weaken {R = Commits place.layout place.region c.numbers.result.now (image_byte images)} c.commit_images.ensures.steps (λ d i left step.
    commits_like place.layout place.region batch.numbers (image_byte images) (frame_byte batch.slots) d i
    (frames_image batch.slots images (length batch.numbers) c.images.ensures.value c.images.ensures.len)
    (subst (λ (ns : List ℕ). Commits place.layout place.region ns (image_byte images) d i) c.numbers.ensures.value step))

pub returns-clause-laid : goal.returns-clause-laid
returns-clause-laid g c = on_ok_weaker c.commit_images.result (λ laid told.
    let place = c.args.place.now in
    let batch = c.args.frames.now in
    let images = c.images.result.now in
    let old = recovered place.layout (g.S.Station.view c.args.station.now).held in
    let new = recovered place.layout (g.S.Station.view c.commit_images.new.station).held in
    subst (λ (ns : List ℕ). new ≡ replayed_over place.layout place.region ns (image_byte images) old) c.numbers.ensures.value (laid told)
    ∙ laid_over_like place.layout place.region batch.numbers (image_byte images) (frame_byte batch.slots) old
    (frames_image batch.slots images (length batch.numbers) c.images.ensures.value c.images.ensures.len)) c.commit_images.ensures.laid

pub commit_images-requires-clause-batch : goal.commit_images-requires-clause-batch
commit_images-requires-clause-batch g c =
    let l = c.args.place.now.layout in
    let numbers = c.args.frames.now.numbers in
    record {
      region_is = c.requires.region;
      batch = subst (IsTableOf l.journal (2 ^ l.hmax)) (sym c.numbers.ensures.value) (record {
        most_is = omega (arith, c.numbers.ensures.batch.few, c.requires.journal);
        ascends = c.numbers.ensures.batch.ascends;
        below = λ j d lt. All-get_or (λ (n : ℕ). n < 2 ^ l.hmax) numbers j d lt c.requires.below;
      });
      size = omega (arith, c.images.ensures.len, ap (λ (ns : List ℕ). length ns) c.numbers.ensures.value);
    }

pub returns-clause-calls : goal.returns-clause-calls
returns-clause-calls g c = omega (arith, c.commit_images.ensures.calls, ap run_count c.numbers.ensures.value)

pub returns-clause-calls_paired : goal.returns-clause-calls_paired
returns-clause-calls_paired g c paired = omega (arith, c.commit_images.ensures.calls_paired paired, ap run_count c.numbers.ensures.value)
