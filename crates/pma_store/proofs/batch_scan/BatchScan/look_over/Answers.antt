use Rattle.std.proofs.Common.{ℕ, ◌+◌, ◌^◌, ◌<◌, List, length, refl, sym, ap, subst, ◌∙◌, arith}
use Rattle.std.proofs.lemmas.Result.{err_from_is_err_and}
use Rattle.std.proofs.Math.Pow.{pow_mono}
use Rattle.std.proofs.lemmas.Nat.{pow_pos}
use Rattle.station.specs.declared.travel.Travel.{Travel}
use Rattle.station.specs.View.{Told}
use Rattle.station.proofs.Composition.{no_steps, same_on, told_back, told_on}
use Rattle.header_gate.proofs.PagedSegments.{known_format}
use Rattle.header_gate.specs.InPlace.{IsRecovered}
use Rattle.header_gate.specs.Places.{height_limit}
use Rattle.map_model.specs.Array.{segment_at}
use Rattle.map_model.specs.Image.{array_of}
use Rattle.redo_journal.specs.Frames.{Batch}
use Rattle.pma_store.proofs.BatchCalls.{looks_once}
use Rattle.pma_store.proofs.OnceLaws.{used_none}
use Rattle.pma_store.proofs.BatchScanLaws.{none_numbers, loads_none, looks_none, loads_later, looks_later, reads_none, reads_more, reads_all}
use Rattle.pma_store.proofs.Making.{no_fault}
use Rattle.pma_store.proofs.Standing.{rows_ascend, size_of}
use Rattle.pma_store.proofs.batch_scan.BatchScan.look_over.Goals as goal

pub loop-segment-init : goal.loop-segment-init
loop-segment-init g c =
    let layout = c.args.search.now.place.now.layout in
    let known = known_format layout.hmax layout.format c.requires.layout.format in
    let none = ap (λ (b : Batch). b.numbers) c.start.ensures.after in
    record {
      steps = no_steps (g.S.Station.view c.args.station.now);
      unwritten = refl;
      upto = omega arith;
      reads = (reads_none c.args.search.now.place.now c.args.search.now.segments.now (g.S.Station.view c.args.station.now), omega (arith, c.requires.fresh));
      loaded = loads_none layout.format c.start.new.self c.args.self.now known c.start.ensures.batch none c.requires.fresh;
      looked = λ told. looks_none layout.format (array_of (g.S.Station.view c.args.station.now).held) c.args.search.now.segments.now c.args.search.now.intent.now c.start.new.self c.args.self.now known none;
      used = λ told. used_none layout (array_of (g.S.Station.view c.args.station.now).held) c.args.search.now.intent.now c.start.new.self c.args.self.now.whole (none_numbers layout.format c.start.new.self known none) c.requires.whole;
      journal = ap (λ (b : Batch). b.journal) c.start.ensures.after ∙ c.requires.journal;
      turn = ap (λ (b : Batch). b.turn) c.start.ensures.after;
    }

pub returns-in_err-read_rows-clause-looks : goal.returns-in_err-read_rows-clause-looks
returns-in_err-read_rows-clause-looks g c =
    let p = err_from_is_err_and c.from_residual.result c.from_residual.ensures.1 in
    rw (p.1, p.2) (
    let is = c.loop-segment.invariant in
    let more = reads_more c.args.search.now.place.now c.args.search.now.segments.now c.loop-segment.from c.in-Some.segment (g.S.Station.view c.args.station.now) (g.S.Station.view c.loop-segment.station) (g.S.Station.view c.read_rows.new.station) is.reads.0 c.in-Some.ensures c.read_rows.ensures.reads c.read_rows.ensures.calls in
    record {
      loaded = tt;
      looked = tt;
      journal = is.journal;
      reads = tt;
      used = tt;
      looks = (looks_once c.args.search.now.place.now c.args.search.now.segments.now c.args.search.now.intent.now (c.in-Some.segment + 1) c.args.search.now.tally.now.height c.requires.segments c.requires.within c.requires.belong more.0).0;
      few = tt;
      steps = same_on is.steps c.read_rows.ensures.steps;
      unwritten = ap (λ (t : Travel). t.written) c.read_rows.ensures.reads ∙ is.unwritten;
      damaged = λ told. c.in_err-read_rows.ensures.damaged (told_on is.steps.frame told);
      met = c.in_err-read_rows.ensures.met;
      failed = λ failed. omega (arith, c.in_err-read_rows.ensures.failed failed, is.steps.frame.disk_faults);
    })

pub take_in-requires-clause-may : goal.take_in-requires-clause-may
take_in-requires-clause-may g c = record {
  sizes = c.requires.segments;
  layout = c.requires.layout;
  journal = c.loop-segment.invariant.journal;
  within = omega (
    arith,
    c.requires.within c.in-Some.ensures.at c.in-Some.ensures.inside,
    c.in-Some.ensures.is,
    pow_mono {i = c.args.search.now.tally.now.height} {j = height_limit c.args.search.now.place.now.layout} c.requires.tall,
  );
  loaded = loads_later c.args.search.now.place.now.layout.format c.loop-segment.from c.in-Some.segment c.loop-segment.frames c.loop-segment.self c.in-Some.ensures.above c.loop-segment.invariant.loaded;
  fits = c.in_ok-read_rows.ensures.fits;
  room = c.requires.items;
}

pub loop-segment-preserved : goal.loop-segment-preserved
loop-segment-preserved g c =
    let a = g.S.Station.view c.args.station.now in
    let place = c.args.search.now.place.now in
    let tally = c.args.search.now.tally.now in
    let is = c.loop-segment.invariant in
    let least = c.in-Some.ensures in
    let more = reads_more place c.args.search.now.segments.now c.loop-segment.from c.in-Some.segment a (g.S.Station.view c.loop-segment.station) (g.S.Station.view c.read_rows.new.station) is.reads.0 least c.read_rows.ensures.reads c.read_rows.ensures.calls in
    record {
      steps = same_on is.steps c.read_rows.ensures.steps;
      unwritten = ap (λ (t : Travel). t.written) c.read_rows.ensures.reads ∙ is.unwritten;
      upto = omega (arith, c.requires.within least.at least.inside, least.is);
      reads = (more.0, omega (arith, is.reads.1, more.1, c.take_in.ensures.count));
      loaded = c.take_in.ensures.loaded;
      looked = λ told.
          let stands = c.requires.stands told in
          let array = array_of a.held in
          let some : 0 < length array = omega (arith, size_of place.layout place.region tally.height tally.counts a.held stands, pow_pos tally.height) in
          let ascends = rows_ascend place.layout place.region tally.height tally.counts a.held stands in
          let own = c.in_ok-read_rows.ensures.rows (told_on is.steps.frame told) ∙ ap (λ (x : List ℕ). segment_at (array_of x) c.in-Some.segment) (is.steps.held told) in
          c.take_in.ensures.looked array some ascends (c.requires.belong told) own
          (looks_later place.layout.format array c.args.search.now.segments.now c.args.search.now.intent.now some ascends c.requires.intent.distinct c.requires.segments (c.requires.belong told) c.loop-segment.from c.in-Some.segment c.loop-segment.frames c.loop-segment.self (λ k lt le. least.lowest k lt le) (is.looked told));
      used = λ told.
          let stands = c.requires.stands told in
          let array = array_of a.held in
          let inside : c.in-Some.segment < length array = omega (arith, size_of place.layout place.region tally.height tally.counts a.held stands, c.requires.within least.at least.inside, least.is) in
          let ascends = rows_ascend place.layout place.region tally.height tally.counts a.held stands in
          let own = c.in_ok-read_rows.ensures.rows (told_on is.steps.frame told) ∙ ap (λ (x : List ℕ). segment_at (array_of x) c.in-Some.segment) (is.steps.held told) in
          c.take_in.ensures.used array inside ascends (c.requires.belong told) own (is.used told);
      journal = c.take_in.ensures.journal ∙ is.journal;
      turn = c.take_in.ensures.turn ∙ is.turn;
    }

pub returns-clause-looks : goal.returns-clause-looks
returns-clause-looks g c =
    let a = g.S.Station.view c.args.station.now in
    let place = c.args.search.now.place.now in
    let tally = c.args.search.now.tally.now in
    let is = c.loop-segment.invariant in
    let all = reads_all place c.args.search.now.segments.now c.loop-segment.from (2 ^ tally.height) a (g.S.Station.view c.loop-segment.station) is.upto c.in_default.ensures is.reads.0 in
    let looks = looks_once place c.args.search.now.segments.now c.args.search.now.intent.now (2 ^ tally.height) tally.height c.requires.segments c.requires.within c.requires.belong all.0 in
    record {
      loaded = loads_later place.layout.format c.loop-segment.from (2 ^ tally.height) c.loop-segment.frames c.loop-segment.self is.upto is.loaded;
      looked = λ told.
          let stands = c.requires.stands told in
          let array = array_of a.held in
          let some : 0 < length array = omega (arith, size_of place.layout place.region tally.height tally.counts a.held stands, pow_pos tally.height) in
          let ascends = rows_ascend place.layout place.region tally.height tally.counts a.held stands in
          looks_later place.layout.format array c.args.search.now.segments.now c.args.search.now.intent.now some ascends c.requires.intent.distinct c.requires.segments (c.requires.belong told) c.loop-segment.from (2 ^ tally.height) c.loop-segment.frames c.loop-segment.self (λ k lt le. absurd (omega (arith, c.in_default.ensures k lt, le))) (is.looked told);
      used = is.used;
      journal = is.journal;
      reads = all.0;
      looks = looks.0;
      few = omega (arith, is.reads.1, all.1, looks.1);
      steps = is.steps;
      unwritten = is.unwritten;
      met = tt;
      damaged = tt;
      failed = no_fault tt;
    }

pub read_rows-requires-clause-readable : goal.read_rows-requires-clause-readable
read_rows-requires-clause-readable g c told =
    let steps = c.loop-segment.invariant.steps in
    let told_a : Told (g.S.Station.view c.args.station.now) = told_back steps.frame told in
    subst (IsRecovered c.args.search.now.place.now.layout) (sym (steps.held told_a)) (c.requires.readable told_a)
