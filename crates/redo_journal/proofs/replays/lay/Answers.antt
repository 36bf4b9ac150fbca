use Rattle.std.proofs.Common.{◌≡◌, arith, rules}
use Rattle.std.proofs.lemmas.Result.{on_ok_weaker}
use Rattle.header_gate.specs.declared.layout.TheConstants.{PAIRED}
use Rattle.station.proofs.Composition.{weaken, told_back}
use Rattle.redo_journal.proofs.Batches.{names_by, settles_first, done_held, byte_still}
use Rattle.redo_journal.proofs.Live.{rest_nothing, done_even}
use Rattle.redo_journal.proofs.replays.lay.Goals as goal

pub returns-then-is_paired-clause-lays : goal.returns-then-is_paired-clause-lays
returns-then-is_paired-clause-lays g c =
    let place = c.args.place in
    let numbers = c.args.numbers.now in
    let images = c.args.images.now in
    let paired : place.layout.version ≡ PAIRED = c.is_paired.ensures.0 c.if-is_paired.true in
    let pages = c.write_pages.ensures.pages in
    let done = done_held place.layout c.args.turn place.region numbers images c.requires.batch c.requires.loaded c.requires.gate pages.steps in
    record {
      steps = weaken pages.steps (λ d i left step.
          settles_first place.layout c.args.turn place.region numbers images c.requires.batch d i (c.requires.loaded d left) (names_by place.layout c.args.turn place.region numbers images c.requires.batch d c.requires.single (c.requires.gate d left)) step);
      rest = search (rules, rest_nothing, done);
      closed = on_ok_weaker c.write_pages.result (λ placed told single. absurd (single paired)) pages.placed;
      kept = on_ok_weaker c.write_pages.result (λ placed told is.
          byte_still place.layout c.args.turn place.region numbers images c.requires.batch _ _ (pages.steps.held told)) pages.placed;
      cost = omega (arith, pages.cost);
      no_reads = pages.no_reads;
      calls = omega (arith, c.write_pages.ensures.calls);
      cause = pages.cause;
    }

pub returns-else-is_paired-clause-lays : goal.returns-else-is_paired-clause-lays
returns-else-is_paired-clause-lays g c =
    let single : c.args.place.layout.version ≡ PAIRED → ⊥ = λ e. absurd (grind (arith, c.is_paired.ensures.1 e, c.if-is_paired.false)) in
    record {
      steps = c.settle.ensures.steps;
      rest = search (rules, rest_nothing, done_even, single, told_back, c.settle.ensures.steps.frame);
      closed = on_ok_weaker c.settle.result (λ closed told isnt. closed told) c.settle.ensures.closed;
      kept = on_ok_weaker c.settle.result (λ closed told paired. absurd (single paired)) c.settle.ensures.closed;
      cost = c.settle.ensures.cost;
      no_reads = c.settle.ensures.no_reads;
      calls = c.settle.ensures.calls;
      cause = c.settle.ensures.cause;
    }
