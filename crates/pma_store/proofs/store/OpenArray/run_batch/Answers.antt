use Rattle.std.proofs.Common.{Some, Ok, Err, ap, subst, sym, arith}
use Rattle.std.proofs.lemmas.Result.{err_from_is_err_and}
use Rattle.station.specs.View.{Told}
use Rattle.station.proofs.Composition.{told_back}
use Rattle.map_model.specs.ArrayState.{ArrayState}
use Rattle.map_model.specs.Store.{Map}
use Rattle.pma_store.specs.ItemEffects.{AreAllFound, counts_of}
use Rattle.pma_store.proofs.Batched.{stands_intent, state_intent, not_called, not_written, intent_called, items_fail, whole_batch}
use Rattle.pma_store.proofs.FoundItems.{each_run}
use Rattle.pma_store.proofs.Resting.{rests_written}
use Rattle.pma_store.proofs.Sums.{counts_batch}
use Rattle.pma_store.proofs.store.OpenArray.run_batch.Goals as goal

pub make_items-requires-clause-on : goal.make_items-requires-clause-on
make_items-requires-clause-on g c =
    stands_intent c.args.intent.now c.args.self.now c.requires.open (g.met.S.Station.lawful c.args.station.now) c.requires.some c.write_intent.ensures.intent c.requires.fit c.requires.version (counts_of c.args.validated.now) c.requires.validated c.requires.unfit c.write_intent.ensures.steps
    (rests_written c.args.self.now.place.layout c.args.self.now.turn c.args.intent.now (g.met.S.Station.lawful c.write_intent.new.station) c.requires.open.on.rests c.in-Ok.ensures.settled c.write_intent.ensures.steps)

pub make_items-requires-clause-found : goal.make_items-requires-clause-found
make_items-requires-clause-found g c told =
    let told_a : Told (g.S.Station.view c.args.station.now) = told_back c.write_intent.ensures.steps.frame told in
    let same = state_intent c.args.intent.now c.args.self.now c.requires.open (g.met.S.Station.lawful c.args.station.now) c.requires.some c.write_intent.ensures.intent c.requires.fit c.requires.version (counts_of c.args.validated.now) c.requires.validated c.requires.unfit c.write_intent.ensures.steps told_a in
    subst (λ (m : Map). AreAllFound (Some c.args.validated.now.found) c.args.intent.now m) (sym (ap (λ (x : ArrayState). x.map) same)) (c.requires.found told_a)

pub returns-in_default-clause-applied : goal.returns-in_default-clause-applied
returns-in_default-clause-applied g c =
    not_written c.args.intent.now c.args.self.now c.requires.open (g.met.S.Station.lawful c.args.station.now) c.requires.some c.write_intent.ensures.intent c.requires.fit c.requires.version (counts_of c.args.validated.now) c.requires.validated c.requires.unfit c.write_intent.ensures.steps (omega (arith, c.write_intent.ensures.cost)) c.write_intent.ensures.calls c.in_default.ensures.cause

pub returns-in_default-clause-intent : goal.returns-in_default-clause-intent
returns-in_default-clause-intent g c =
    not_called c.args.intent.now c.args.self.now c.requires.open (g.met.S.Station.lawful c.args.station.now) c.requires.some c.write_intent.ensures.intent c.requires.fit c.requires.version (counts_of c.args.validated.now) c.requires.validated c.requires.unfit c.write_intent.ensures.steps c.write_intent.ensures.calls

pub returns-clause-intent : goal.returns-clause-intent
returns-clause-intent g c =
    intent_called c.args.intent.now c.args.self.now c.requires.open (g.met.S.Station.lawful c.args.station.now) c.requires.some c.write_intent.ensures.intent c.requires.fit c.requires.version (counts_of c.args.validated.now) c.requires.validated c.requires.unfit c.write_intent.ensures.steps
    c.make_items.new.self (Ok c.in_ok-charge.charge) c.write_intent.ensures.calls c.in_ok-charge.ensures.made

pub returns-in_err-charge-clause-intent : goal.returns-in_err-charge-clause-intent
returns-in_err-charge-clause-intent g c =
    intent_called c.args.intent.now c.args.self.now c.requires.open (g.met.S.Station.lawful c.args.station.now) c.requires.some c.write_intent.ensures.intent c.requires.fit c.requires.version (counts_of c.args.validated.now) c.requires.validated c.requires.unfit c.write_intent.ensures.steps
    c.make_items.new.self (Err c.in_err-charge.field-0.0) c.write_intent.ensures.calls c.in_err-charge.ensures.made

pub returns-clause-applied : goal.returns-clause-applied
returns-clause-applied g c =
    whole_batch c.args.intent.now c.args.self.now c.requires.open (g.met.S.Station.lawful c.args.station.now) c.requires.some c.write_intent.ensures.intent c.requires.fit c.requires.version (counts_of c.args.validated.now) c.requires.validated c.requires.unfit c.write_intent.ensures.steps
    c.make_items.new.self (g.met.S.Station.lawful c.write_intent.new.station) c.in-Ok.ensures.settled c.in-Ok.ensures.opened (omega (arith, c.write_intent.ensures.cost)) c.write_intent.ensures.calls c.in_ok-charge.charge
    (counts_batch c.args.intent.now c.args.validated.now.found _ _ _ c.in_ok-charge.charge (counts_of c.args.validated.now) c.requires.counted c.in_ok-charge.ensures.sums)
    (each_run c.args.intent.now c.args.validated.now.found _ (counts_of c.args.validated.now) c.args.self.now c.make_items.new.self c.requires.counted c.in_ok-charge.ensures.tallies c.requires.found) c.in_ok-charge.ensures.made

pub returns-in_err-charge-clause-applied : goal.returns-in_err-charge-clause-applied
returns-in_err-charge-clause-applied g c =
    let p = err_from_is_err_and c.from_residual.result c.from_residual.ensures.1 in
    rw (p.1, p.2) (items_fail c.args.intent.now c.args.self.now c.requires.open (g.met.S.Station.lawful c.args.station.now) c.requires.some c.write_intent.ensures.intent c.requires.fit c.requires.version (counts_of c.args.validated.now) c.requires.validated c.requires.unfit c.write_intent.ensures.steps
    c.make_items.new.self (g.met.S.Station.lawful c.write_intent.new.station) c.in-Ok.ensures.settled c.in-Ok.ensures.opened (omega (arith, c.write_intent.ensures.cost)) c.write_intent.ensures.calls c.in_err-charge.field-0.0 c.in_err-charge.ensures.made)
