use Rattle.std.proofs.Common.{inl, ⊎_elim, ℕ, ◌<◌, arith}
use Rattle.station.proofs.Composition.{weaken}
use Rattle.header_gate.specs.declared.layout.Layout.{Layout}
use Rattle.batch_intent.specs.Gate.{IsIntentPlace, IsIntentGatePlace}
use Rattle.recovery.proofs.Resting.{IsOutsideAll, rests_apart}
use Rattle.recovery.proofs.laws.intents_leave_rest.Goals as goal

no_place : (n : ℕ) → n < 600 → IsIntentPlace n → ⊥
no_place n small x = ⊎_elim (λ there. omega (arith, small, there.0)) (λ at_gate. omega (arith, small, at_gate)) x

outside : (l : Layout) (p : ℕ) → IsIntentPlace p → IsOutsideAll l p
outside l p x = inl (⊎_elim (λ there. omega (arith, there.1)) (λ at_gate. omega (arith, at_gate)) x)

pub returns-clause-written : goal.returns-clause-written
returns-clause-written g c l turn items rests nothing ab =
    rests_apart l IsIntentPlace (no_place 0 (omega arith)) (no_place 512 (omega arith)) (outside l) turn (g.met.S.Station.lawful c.args.b.now) rests nothing (weaken ab (λ d i left step. step.touched))

pub returns-clause-closed : goal.returns-clause-closed
returns-clause-closed g c l turn rests nothing ab =
    rests_apart l IsIntentGatePlace (λ x. omega (arith, x)) (λ x. omega (arith, x)) (λ p x. inl (omega (arith, x))) turn (g.met.S.Station.lawful c.args.b.now) rests nothing ab
