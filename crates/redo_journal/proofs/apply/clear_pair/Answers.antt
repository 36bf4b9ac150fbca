use Rattle.std.proofs.Common.{◌≡◌, ◌-◌, ◌<◌, if◌then◌else◌, ℕ, [], inl, refl, ap, arith}
use Rattle.std.proofs.lemmas.Result.{on_ok_weaker}
use Rattle.std.proofs.lemmas.Bool.Decides.{nat_tests}
use Rattle.std.specs.Prelude.{◌==◌}
use Rattle.station.specs.View.{View, EachHeld}
use Rattle.header_gate.specs.declared.layout.Layout.{Layout}
use Rattle.station.proofs.Composition.{weaken, told_on}
use Rattle.header_gate.specs.Places.{journal_shift}
use Rattle.redo_journal.specs.Applying.{no_table}
use Rattle.redo_journal.specs.Commit.{image_byte}
use Rattle.header_gate.specs.Header.{gate}
use Rattle.header_gate.specs.declared.layout.TheConstants.{PAIRED}
use Rattle.redo_journal.proofs.Batches.{IsReady, ready_each, written_steps, written_full, opened_steps, opened_loaded, loaded_table, no_batch, clears_by}
use Rattle.redo_journal.proofs.apply.clear_pair.Goals as goal
use Rattle.redo_journal.proofs.apply.clear_pair.Goals.{After-write_none}

-- the number of the journal that is written, where the gate says t
small : (t : ℕ) → 1 - t < 2
small t = omega arith

single : (l : Layout) (t : ℕ) → ((l.version ≡ PAIRED → ⊥) → t ≡ 0) → (l.version ≡ PAIRED → ⊥) → 1 - t ≡ 1
single l t is isnt = omega (arith, is isnt)

gate_was : (a : View) (t : ℕ) → t < 2 → EachHeld (λ image. gate image ≡ t) a → EachHeld (λ image. gate image ≡ 1 - (1 - t)) a
gate_was a t lt is image left = omega (arith, is image left, lt)

ready : (g : _) (c : After-write_none g) → EachHeld (IsReady c.args.place (1 - c.args.turn)) (g.S.Station.view c.args.station.now)
ready g c =
    let a = g.S.Station.view c.args.station.now in
    ready_each c.args.place (1 - c.args.turn) [] [] (no_batch c.args.place.layout c.args.place.region c.requires.region) (small c.args.turn) (single c.args.place.layout c.args.turn (λ isnt. absurd (isnt c.requires.paired))) (g.met.S.Station.lawful c.args.station.now) c.requires.at (gate_was a c.args.turn c.requires.turn c.requires.gate) (λ paired. c.requires.rest)

-- what the gate's byte is
named : (t b : ℕ) → t < 2 → b ≡ (if (1 - t) == 1 then 1 else 0) → b ≡ 1 - t
named t b lt is = grind (arith, nat_tests, is)

pub returns-in_err-write_none-clause-steps : goal.returns-in_err-write_none-clause-steps
returns-in_err-write_none-clause-steps g c =
    let w = (goal.at.returns-in_err-write_none-clause-steps g c).After-write_none in
    weaken (written_steps c.args.place (1 - c.args.turn) [] [] (no_batch c.args.place.layout c.args.place.region c.requires.region) (small c.args.turn) (single c.args.place.layout c.args.turn (λ isnt. absurd (isnt c.requires.paired))) (ready g w) c.write_none.ensures.steps) (λ d i left step. clears_by c.args.place.layout c.args.place.region (image_byte []) d i c.requires.paired step)

pub returns-clause-steps : goal.returns-clause-steps
returns-clause-steps g c =
    let w = (goal.at.returns-clause-steps g c).After-write_none in
    let full = written_full c.args.place (1 - c.args.turn) [] [] (no_batch c.args.place.layout c.args.place.region c.requires.region) (small c.args.turn) (single c.args.place.layout c.args.turn (λ isnt. absurd (isnt c.requires.paired))) no_table (ready g w) (gate_was (g.S.Station.view c.args.station.now) c.args.turn c.requires.turn c.requires.gate) (λ paired. c.requires.rest) c.write_none.ensures.steps refl refl (g.met.S.Station.lawful c.write_none.new.station) c.in_ok-write_none.ensures.settled c.in_ok-write_none.ensures.journaled in
    weaken (opened_steps c.args.place (1 - c.args.turn) [] [] (no_batch c.args.place.layout c.args.place.region c.requires.region) (small c.args.turn) (single c.args.place.layout c.args.turn (λ isnt. absurd (isnt c.requires.paired))) (ready g w) c.write_none.ensures.steps full c.set_gate.ensures.steps) (λ d i left step. clears_by c.args.place.layout c.args.place.region (image_byte []) d i c.requires.paired step)

pub returns-clause-gate : goal.returns-clause-gate
returns-clause-gate g c = on_ok_weaker c.set_gate.result (λ set told. named c.args.turn _ c.requires.turn (set (told_on c.write_none.ensures.steps.frame told))) c.set_gate.ensures.set

pub returns-clause-bare : goal.returns-clause-bare
returns-clause-bare g c = on_ok_weaker c.set_gate.result (λ set told laid.
    let w = (goal.at.returns-clause-bare g c).After-write_none in
    let full = written_full c.args.place (1 - c.args.turn) [] [] (no_batch c.args.place.layout c.args.place.region c.requires.region) (small c.args.turn) (single c.args.place.layout c.args.turn (λ isnt. absurd (isnt c.requires.paired))) no_table (ready g w) (gate_was (g.S.Station.view c.args.station.now) c.args.turn c.requires.turn c.requires.gate) (λ paired. c.requires.rest) c.write_none.ensures.steps refl refl (g.met.S.Station.lawful c.write_none.new.station) c.in_ok-write_none.ensures.settled c.in_ok-write_none.ensures.journaled in
    let told_b = told_on c.write_none.ensures.steps.frame told in
    let b = g.S.Station.view c.write_none.new.station in
    let end = g.S.Station.view c.set_gate.new.station in
    let l = c.args.place.layout in
    let batch = no_batch l c.args.place.region c.requires.region in
    let loaded = opened_loaded c.args.place (1 - c.args.turn) [] [] (no_batch c.args.place.layout c.args.place.region c.requires.region) (small c.args.turn) (single c.args.place.layout c.args.turn (λ isnt. absurd (isnt c.requires.paired))) full c.set_gate.ensures.steps end.held (inl (told_on c.set_gate.ensures.steps.frame told_b, refl)) in
    let is : gate end.held ≡ 1 - c.args.turn = omega (arith, named c.args.turn _ c.requires.turn (set told_b)) in
    (c.requires.paired, loaded_table l (1 - c.args.turn) c.args.place.region [] [] batch end.held loaded (ap (journal_shift l) is))) c.set_gate.ensures.set
