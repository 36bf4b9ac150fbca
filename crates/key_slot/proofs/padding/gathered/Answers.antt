-- One vector more.
use Rattle.std.proofs.Common.{◌↔◌, ◌+◌, ◌*◌, ℕ, List, inl, inr, subst, sym, arith}
use Rattle.std.proofs.lemmas.Bool.{cases_lt}
use Rattle.key_slot.specs.Padded.{AreZeros}
use Rattle.key_slot.specs.Masks.{AreNone}
use Rattle.key_slot.proofs.Gathered.{none_splat, vector_gathered}
use Rattle.key_slot.proofs.padding.gathered.Given.{Over}
use Rattle.key_slot.proofs.padding.gathered.Goals as goal

pub loop-i-init : goal.loop-i-init
loop-i-init g c = (λ none k le lt. absurd (omega (arith, lt)), λ all. none_splat 16)

-- the vector of this turn
vector : (g : Over) (c : goal.After-either-all g) → AreNone c.vector_at.result ↔ AreZeros c.args.slot.now (c.loop-i.i * 16) (c.loop-i.i * 16 + 16)
vector g c = subst (λ (lanes : List ℕ). AreNone lanes ↔ AreZeros c.args.slot.now (c.loop-i.i * 16) (c.loop-i.i * 16 + 16)) (sym c.vector_at.ensures) (vector_gathered c.args.slot.now (c.loop-i.i * 16) (omega (arith, c.told-slot, c.loop-i-test.true)))

pub loop-i-preserved : goal.loop-i-preserved
loop-i-preserved g c = (
  λ none k le lt. let two = c.either-all.ensures.0 none in elim (cases_lt k (c.loop-i.i * 16)) [
    | inl before ↦ c.loop-i.invariant.0 two.0 k le before
    | inr behind ↦ (vector g c).0 two.1 k (omega (arith, behind)) (omega (arith, lt))
  ],
  λ zeros. c.either-all.ensures.1 (c.loop-i.invariant.1 (λ k le lt. zeros k le (omega (arith, lt))), (vector g c).1 (λ k le lt. zeros k (omega arith) (omega (arith, lt)))),
)

pub returns : goal.returns
returns g c = (
  λ none k le lt. c.loop-i.invariant.0 none k le (omega (arith, lt, c.loop-i-test.false)),
  λ zeros. c.loop-i.invariant.1 (λ k le lt. zeros k le (omega (arith, lt, c.loop-i.auto.i-end))),
)
