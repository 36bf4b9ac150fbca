use Rattle.std.proofs.Common.{◌≡◌, ℕ, ◌+◌, ◌*◌, List, [], length, ◌<◌, refl, sym, ap, subst, ◌∙◌, arith, inl, inr}
use Rattle.std.proofs.lemmas.List.{nil_from_length}
use Rattle.station.proofs.Composition.{no_steps, weaken}
use Rattle.header_gate.specs.Recovered.{is_laid, replayed_over, live_table, recovered}
use Rattle.redo_journal.specs.Commit.{frame_byte}
use Rattle.std.proofs.lemmas.Result.{on_ok_weaker}
use Rattle.redo_journal.proofs.Live.{next_small}
use Rattle.pma_store.proofs.ClearCosts.{called_runs, commit_bytes}
use Rattle.pma_store.proofs.FittingLaws.{laid_nothing}
use Rattle.pma_store.proofs.Touching.{untouched}
use Rattle.pma_store.proofs.commit.commit_frames.Goals as goal

pub returns-then-count-eq0-clause-committed : goal.returns-then-count-eq0-clause-committed
returns-then-count-eq0-clause-committed g c =
    let a = g.S.Station.view c.args.station.now in
    let place = c.args.place.now in
    let frames = c.args.frames.now in
    let none : frames.numbers ≡ [] = nil_from_length frames.numbers (omega (arith, c.requires.pages, ap (λ (n : ℕ). place.layout.format * n) c.if-count-eq0.true)) in
    record {
      steps = weaken (no_steps a) (λ d i left same. record {
        commits = record {
          whole = inl (ap (recovered place.layout) same);
          table = λ laid. inr (ap (is_laid place.layout) (sym same) ∙ laid, ap (live_table place.layout) same);
          touched = untouched d i same;
        };
        none = λ zero. same;
      });
      laid = λ told. sym (ap (λ (l : List ℕ). replayed_over place.layout place.region l (frame_byte frames.slots) (recovered place.layout a.held)) none ∙ laid_nothing place.layout place.region (frame_byte frames.slots) (recovered place.layout a.held));
      rests = c.requires.rests;
      none = λ zero. refl;
      cost = omega arith;
      unread = refl;
      calls = omega arith;
      cause = tt;
    }

pub returns-clause-committed : goal.returns-clause-committed
returns-clause-committed g c =
    let place = c.args.place.now in
    record {
      steps = weaken c.commit.ensures.steps (λ d i left step. record { commits = step; none = λ zero. absurd (omega (arith, zero, c.if-count-eq0.false)) });
      laid = c.commit.ensures.laid;
      rests = c.commit.ensures.rests;
      none = λ zero. absurd (omega (arith, zero, c.if-count-eq0.false));
      cost =
          omega (
            arith,
            commit_bytes place.layout (g.S.Station.view c.args.station.now).travel.written (g.S.Station.view c.commit.new.station).travel.written (8196 * length c.args.frames.now.numbers + 5) (omega (arith, c.commit.ensures.cost))
                (λ paired. omega (arith, c.commit.ensures.cost_paired paired)),
            c.requires.pages,
          );
      unread = c.commit.ensures.no_reads;
      calls = called_runs place.layout (g.S.Station.view c.args.station.now).calls (g.S.Station.view c.commit.new.station).calls _ c.commit.ensures.calls c.commit.ensures.calls_paired;
      cause = c.commit.ensures.cause;
    }

pub commit-requires-clause-single : goal.commit-requires-clause-single
commit-requires-clause-single g c = c.requires.rests.single

pub commit-requires-clause-gate : goal.commit-requires-clause-gate
commit-requires-clause-gate g c = c.requires.rests.gates

pub commit-requires-clause-rest : goal.commit-requires-clause-rest
commit-requires-clause-rest g c paired = c.requires.rests.rest

pub returns-clause-turn : goal.returns-clause-turn
returns-clause-turn g c =
    on_ok_weaker c.commit.result (λ turn small. subst (λ (n : ℕ). n < 2) (sym turn) (next_small c.args.place.now.layout c.args.frames.now.turn)) c.commit.ensures.turn
