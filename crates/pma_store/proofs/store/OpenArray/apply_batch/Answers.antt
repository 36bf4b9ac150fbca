use Rattle.std.proofs.Common.{ℕ, List, Result, Ok, ◌<◌, ◌≤◌, subst, sym, ap, ◌∙◌, arith, rules}
use Rattle.std.specs.Prelude.{sum}
use Rattle.std.proofs.lemmas.Grind.{common_steps}
use Rattle.station.proofs.Composition.{no_steps, told_back}
use Rattle.density_rule.specs.Bounds.{upper_of}
use Rattle.header_gate.specs.declared.layout.TheConstants.{INTENT_VERSION}
use Rattle.segment.specs.declared.fault.StoreFault.{StoreFault}
use Rattle.pma_store.specs.declared.batch.Attempt.{Attempt}
use Rattle.pma_store.specs.StoreAnswers.{state_in}
use Rattle.pma_store.specs.AtOnce.{TriesOnce}
use Rattle.pma_store.specs.ItemEffects.{CountsFound, counts_of, there_in}
use Rattle.pma_store.specs.Once.{AreOneCommit}
use Rattle.pma_store.specs.BatchCalls.{CallsIntent}
use Rattle.pma_store.specs.Batching.{AppliesBatch, version_of}
use Rattle.pma_store.specs.StoreView.{StoreView, limit_of}
use Rattle.pma_store.proofs.BatchCalls.{intent_behind}
use Rattle.pma_store.proofs.Batched.{full_batch, validated_then, no_batch}
use Rattle.pma_store.proofs.Making.{opens_on}
use Rattle.pma_store.proofs.store.OpenArray.apply_batch.Goals as goal

pub returns-then-self-lt-INTENT_VERSION : goal.returns-then-self-lt-INTENT_VERSION
returns-then-self-lt-INTENT_VERSION g c =
    let early : version_of c.args.self.now < INTENT_VERSION = first_of (search rules, grind (arith, common_steps)) in
    no_batch c.args.intent.now c.args.self.now c.requires.open (g.met.S.Station.lawful c.args.station.now) (no_steps (g.S.Station.view c.args.station.now)) early

-- the validated store is open on its file
pub run_batch-requires-clause-open : goal.run_batch-requires-clause-open
run_batch-requires-clause-open g c =
    let validates = subst (λ (r : Result Attempt StoreFault). TriesOnce c.args.intent.now r c.args.self.now c.try_at_once.new.self (g.S.Station.view c.args.station.now) (g.S.Station.view c.try_at_once.new.station)) (ap Ok c.in-Validated.is) c.in_ok-validated.ensures in
    opens_on c.args.self.now c.try_at_once.new.self (g.met.S.Station.lawful c.args.station.now) c.requires.open validates.0.steps validates.0.store

-- and its items aren't one commit
pub run_batch-requires-clause-unfit : goal.run_batch-requires-clause-unfit
run_batch-requires-clause-unfit g c told =
    let validates = subst (λ (r : Result Attempt StoreFault). TriesOnce c.args.intent.now r c.args.self.now c.try_at_once.new.self (g.S.Station.view c.args.station.now) (g.S.Station.view c.try_at_once.new.station)) (ap Ok c.in-Validated.is) c.in_ok-validated.ensures in
    let before = told_back validates.0.steps.frame told in
    λ are. validates.1 before
    (subst (λ (x : List ℕ). AreOneCommit c.args.self.now.place.layout (state_in c.args.self.now x) c.args.intent.now) (validates.0.steps.held before)
    (subst (λ (v : StoreView). AreOneCommit v.place.layout (state_in v (g.S.Station.view c.try_at_once.new.station).held) c.args.intent.now) validates.0.store are))

-- and they were counted as they were found
pub run_batch-requires-clause-counted : goal.run_batch-requires-clause-counted
run_batch-requires-clause-counted g c =
    let validates = subst (λ (r : Result Attempt StoreFault). TriesOnce c.args.intent.now r c.args.self.now c.try_at_once.new.self (g.S.Station.view c.args.station.now) (g.S.Station.view c.try_at_once.new.station)) (ap Ok c.in-Validated.is) c.in_ok-validated.ensures in
    subst (λ (v : StoreView). CountsFound c.args.intent.now (there_in c.in-Validated.validated.found) (sum v.tally.counts) (upper_of (limit_of v)) (counts_of c.in-Validated.validated)) (sym validates.0.store) validates.2

pub returns-in-Validated : goal.returns-in-Validated
returns-in-Validated g c =
    let validates = subst (λ (r : Result Attempt StoreFault). TriesOnce c.args.intent.now r c.args.self.now c.try_at_once.new.self (g.S.Station.view c.args.station.now) (g.S.Station.view c.try_at_once.new.station)) (ap Ok c.in-Validated.is) c.in_ok-validated.ensures in
    validated_then c.args.intent.now c.run_batch.result c.args.self.now c.run_batch.new.self c.requires.open (g.met.S.Station.lawful c.args.station.now) validates.0.steps validates.0.unwritten validates.0.looks (intent_behind c.args.intent.now c.args.self.now validates.0.steps validates.0.looks (subst (λ (v : StoreView). CallsIntent c.args.intent.now v (g.S.Station.view c.try_at_once.new.station) (g.S.Station.view c.run_batch.new.station)) validates.0.store c.run_batch.ensures.intent) validates.1)
    c.run_batch.ensures.made (subst (λ (v : StoreView). AppliesBatch c.args.intent.now c.run_batch.result v c.run_batch.new.self (g.S.Station.view c.try_at_once.new.station) (g.S.Station.view c.run_batch.new.station)) validates.0.store c.run_batch.ensures.applied)

pub returns-in-Full : goal.returns-in-Full
returns-in-Full g c =
    full_batch c.args.intent.now c.args.self.now c.try_at_once.new.self c.upper-most.result c.requires.open (g.met.S.Station.lawful c.args.station.now)
    (subst (λ (v : StoreView). INTENT_VERSION ≤ version_of v) c.self.view_is c.if-self-lt-INTENT_VERSION.false)
    (c.upper-most.ensures ∙ ap upper_of c.height_limit.ensures.limit ∙ ap (λ (v : StoreView). upper_of (limit_of v)) c.self.view_is)
    (subst (λ (r : Result Attempt StoreFault). TriesOnce c.args.intent.now r c.args.self.now c.try_at_once.new.self (g.S.Station.view c.args.station.now) (g.S.Station.view c.try_at_once.new.station)) (ap Ok c.in-Full.is) c.in_ok-validated.ensures)
