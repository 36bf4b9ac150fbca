use Rattle.std.proofs.Common.{◌≤◌, length, ap, arith}
use Rattle.std.proofs.lemmas.Result.{on_ok_weaker}
use Rattle.station.proofs.Composition.{told_on}
use Rattle.batch_intent.specs.declared.places.TheConstants.{INTENT_SIZE}
use Rattle.batch_intent.proofs.Gates.{intent_begun, intent_done, held_items}
use Rattle.batch_intent.proofs.gate.write_intent.Goals as goal

pub returns-in_err-write_synced-clause-steps : goal.returns-in_err-write_synced-clause-steps
returns-in_err-write_synced-clause-steps g c =
    let a = g.S.Station.view c.args.station.now in
    let b = g.S.Station.view c.write_synced.new.station in
    let fits : length c.spelling.result.now ≤ INTENT_SIZE = omega (arith, ap length c.spelling.ensures.bytes, c.spelling.ensures.intent.size) in
    intent_begun a b b c.args.intent.now c.spelling.result.now c.spelling.ensures.bytes fits (g.met.S.Station.lawful c.args.station.now) c.requires.page c.write_synced.ensures.steps

pub returns-clause-steps : goal.returns-clause-steps
returns-clause-steps g c =
    let a = g.S.Station.view c.args.station.now in
    let b = g.S.Station.view c.write_synced.new.station in
    let d = g.S.Station.view c.set_gate.new.station in
    let fits : length c.spelling.result.now ≤ INTENT_SIZE = omega (arith, ap length c.spelling.ensures.bytes, c.spelling.ensures.intent.size) in
    intent_done a b d c.args.intent.now c.spelling.result.now c.spelling.ensures.bytes fits (g.met.S.Station.lawful c.args.station.now) c.requires.page
    c.write_synced.ensures.steps c.in_ok-write_synced.ensures.settled c.in_ok-write_synced.ensures.written c.set_gate.ensures.steps

pub returns-clause-opened : goal.returns-clause-opened
returns-clause-opened g c = on_ok_weaker c.set_gate.result (λ set told. set (told_on c.write_synced.ensures.steps.frame told)) c.set_gate.ensures.set

pub returns-clause-holds : goal.returns-clause-holds
returns-clause-holds g c =
    let a = g.S.Station.view c.args.station.now in
    let b = g.S.Station.view c.write_synced.new.station in
    let d = g.S.Station.view c.set_gate.new.station in
    let fits : length c.spelling.result.now ≤ INTENT_SIZE = omega (arith, ap length c.spelling.ensures.bytes, c.spelling.ensures.intent.size) in
    on_ok_weaker c.set_gate.result (λ set told.
    held_items c.args.intent.now c.spelling.result.now c.spelling.ensures.bytes fits a.held b.held d.held (c.in_ok-write_synced.ensures.written told) (c.set_gate.ensures.steps.held (told_on c.write_synced.ensures.steps.frame told))) c.set_gate.ensures.set
