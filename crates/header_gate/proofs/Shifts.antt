-- How far behind the first journal a journal stands.
use Rattle.std.proofs.Common.{◌≡◌, inl, inr, ℕ, ◌≤◌, ap, arith}
use Rattle.std.proofs.lemmas.Bool.{cases_eq}
use Rattle.std.proofs.lemmas.Bool.Decides.{nat_tests}
use Rattle.header_gate.specs.declared.layout.Layout.{Layout}
use Rattle.header_gate.specs.declared.layout.TheConstants.{PAIRED}
use Rattle.header_gate.specs.Places.{journal_size, journal_shift}

pub shift_first : (l : Layout) → journal_shift l 0 ≡ 0
unfolding journal_shift
shift_first l = grind (arith, nat_tests)

-- the second one of a pair
pub shift_second : (l : Layout) → l.version ≡ PAIRED → journal_shift l 1 ≡ journal_size l
unfolding journal_shift
shift_second l is = grind (arith, nat_tests, is)

-- where there is one journal alone
pub shift_single : (l : Layout) (turn : ℕ) → (l.version ≡ PAIRED → ⊥) → journal_shift l turn ≡ 0
unfolding journal_shift
shift_single l turn isnt = grind (arith, nat_tests, isnt)

pub shift_other : (l : Layout) (turn : ℕ) → (turn ≡ 1 → ⊥) → journal_shift l turn ≡ 0
unfolding journal_shift
shift_other l turn isnt = grind (arith, nat_tests, isnt)

-- no journal ends behind the second one
pub shift_most : (l : Layout) (turn : ℕ) → journal_shift l turn ≤ journal_shift l 1
shift_most l turn = elim (cases_eq turn 1) [
  | inl is ↦ omega (arith, ap (journal_shift l) is)
  | inr isnt ↦ omega (arith, shift_other l turn isnt)
]

-- a journal stands at most the size of one behind the first
pub shift_size : (l : Layout) (turn : ℕ) → journal_shift l turn ≤ journal_size l
shift_size l turn = elim (cases_eq l.version PAIRED) [
  | inl is ↦ omega (arith, shift_most l turn, shift_second l is)
  | inr isnt ↦ omega (arith, shift_single l turn isnt)
]
