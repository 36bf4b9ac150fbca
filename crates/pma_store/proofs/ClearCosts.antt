-- What it costs to clear the live one of two journals: nothing before version 4. And what a commit spares there.
use Rattle.std.proofs.Common.{◌≡◌, ◌+◌, ◌-◌, ◌≤◌, inl, inr, ℕ, arith}
use Rattle.std.proofs.lemmas.Bool.{cases_eq}
use Rattle.std.proofs.lemmas.Bool.Decides.{nat_tests}
use Rattle.header_gate.specs.declared.layout.Layout.{Layout}
use Rattle.header_gate.specs.declared.layout.TheConstants.{PAIRED}
use Rattle.pma_store.specs.UpdateCalls.{clear_calls, runs_calls, spared_calls}
use Rattle.pma_store.specs.Readying.{clear_cost}
use Rattle.pma_store.specs.Rewrites.{spared_bytes}

clear_cost-paired : (l : Layout) → l.version ≡ PAIRED → clear_cost l ≡ 5
unfolding clear_cost
clear_cost-paired l is = grind (arith, nat_tests, is)

clear_cost-single : (l : Layout) → (l.version ≡ PAIRED → ⊥) → clear_cost l ≡ 0
unfolding clear_cost
clear_cost-single l single = grind (arith, nat_tests, single)

clear_calls-paired : (l : Layout) → l.version ≡ PAIRED → clear_calls l ≡ 4
unfolding clear_calls
clear_calls-paired l is = grind (arith, nat_tests, is)

clear_calls-single : (l : Layout) → (l.version ≡ PAIRED → ⊥) → clear_calls l ≡ 0
unfolding clear_calls
clear_calls-single l single = grind (arith, nat_tests, single)

pub clear_most : (l : Layout) → clear_cost l ≤ 5
clear_most l = elim (cases_eq l.version PAIRED) [
  | inl paired ↦ omega (arith, clear_cost-paired l paired)
  | inr single ↦ omega (arith, clear_cost-single l single)
]

pub cleared_bytes : (l : Layout) (before after : ℕ) → after ≤ before + 5 → ((l.version ≡ PAIRED → ⊥) → after ≡ before) → after ≤ before + clear_cost l
cleared_bytes l before after few none = elim (cases_eq l.version PAIRED) [
  | inl paired ↦ omega (arith, few, clear_cost-paired l paired)
  | inr single ↦ omega (arith, none single)
]

pub cleared_calls : (l : Layout) (before after : ℕ) → after ≤ before + 4 → ((l.version ≡ PAIRED → ⊥) → after ≡ before) → after ≤ before + clear_calls l
cleared_calls l before after few none = elim (cases_eq l.version PAIRED) [
  | inl paired ↦ omega (arith, few, clear_calls-paired l paired)
  | inr single ↦ omega (arith, none single)
]

-- A commit.

spared_bytes-paired : (l : Layout) → l.version ≡ PAIRED → spared_bytes l ≡ 1
unfolding spared_bytes
spared_bytes-paired l is = grind (arith, nat_tests, is)

spared_bytes-single : (l : Layout) → (l.version ≡ PAIRED → ⊥) → spared_bytes l ≡ 0
unfolding spared_bytes
spared_bytes-single l single = grind (arith, nat_tests, single)

spared_calls-paired : (l : Layout) → l.version ≡ PAIRED → spared_calls l ≡ 3
unfolding spared_calls
spared_calls-paired l is = grind (arith, nat_tests, is)

spared_calls-single : (l : Layout) → (l.version ≡ PAIRED → ⊥) → spared_calls l ≡ 0
unfolding spared_calls
spared_calls-single l single = grind (arith, nat_tests, single)

pub spared_few : (l : Layout) → spared_bytes l ≤ 1
spared_few l = elim (cases_eq l.version PAIRED) [
  | inl paired ↦ omega (arith, spared_bytes-paired l paired)
  | inr single ↦ omega (arith, spared_bytes-single l single)
]

pub commit_bytes : (l : Layout) (before after most : ℕ) → after ≤ before + (most + 1) → (l.version ≡ PAIRED → after ≤ before + most) → after ≤ before + (most + 1 - spared_bytes l)
commit_bytes l before after most single paired = elim (cases_eq l.version PAIRED) [
  | inl is ↦ omega (arith, paired is, spared_bytes-paired l is)
  | inr other ↦ omega (arith, single, spared_bytes-single l other)
]

pub called_runs : (l : Layout) (before after runs : ℕ) → after ≤ before + (8 + runs) → (l.version ≡ PAIRED → after ≤ before + (5 + runs)) → after ≤ before + runs_calls l runs
called_runs l before after runs single paired = elim (cases_eq l.version PAIRED) [
  | inl is ↦ omega (arith, paired is, spared_calls-paired l is)
  | inr other ↦ omega (arith, single, spared_calls-single l other)
]
