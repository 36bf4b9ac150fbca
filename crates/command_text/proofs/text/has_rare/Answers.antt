-- One byte more: it is the one that is asked for, or an earlier one is.
use Rattle.std.proofs.Common.{ℕ, ◌≡◌, ◌+◌, ◌<◌, ◌≤◌, inl, inr, Bool, true, false, not, ◌||◌, List, get_or, refl, sym, ap, subst, ◌∙◌, arith, IsTrue}
use mathlib.Core.Bool.{true≢false}
use Rattle.std.proofs.lemmas.Bool.{cases_lt}
use Rattle.command_text.specs.Printed.{is_common, is_escaped}
use Rattle.command_text.proofs.Escapes.{escaped_is_rare}
use Rattle.command_text.proofs.text.has_rare.Goals as goal

by_one : (x y : Bool) → IsTrue x → IsTrue (x || y)
by_one true y e = refl
by_one false y e = absurd (true≢false (sym e))

by_other : (x y : Bool) → IsTrue y → IsTrue (x || y)
by_other true y e = refl
by_other false y e = e

neither : (x y : Bool) → x ≡ false → y ≡ false → x || y ≡ false
neither true y e f = e
neither false y e f = f

found_so_far : (bytes : List ℕ) (first k : ℕ) (rare is : Bool) → ((i : ℕ) → first ≤ i → i < first + k → IsTrue (is_escaped (get_or bytes i 0)) → IsTrue rare) → (IsTrue (is_escaped (get_or bytes (first + k) 0)) → IsTrue is) → (i : ℕ) → first ≤ i → i < first + (k + 1) → IsTrue (is_escaped (get_or bytes i 0)) → IsTrue (rare || is)
found_so_far bytes first k rare is so_far tells i behind within escaped = elim (cases_lt i (first + k)) [
  | inl before ↦ by_one rare is (so_far i behind before escaped)
  | inr same ↦ by_other rare is (tells (subst (λ (j : ℕ). IsTrue (is_escaped (get_or bytes j 0))) {x = i} (omega arith) escaped))
]

none_so_far : (bytes : List ℕ) (first k : ℕ) (rare is : Bool) → (((i : ℕ) → first ≤ i → i < first + k → IsTrue (is_common (get_or bytes i 0))) → rare ≡ false) → is ≡ not (is_common (get_or bytes (first + k) 0)) → ((i : ℕ) → first ≤ i → i < first + (k + 1) → IsTrue (is_common (get_or bytes i 0))) → rare || is ≡ false
none_so_far bytes first k rare is so_far tells common =
    neither rare is
    (so_far (λ i behind before. common i behind (omega (arith, before))))
    (tells ∙ ap not (common (first + k) (omega arith) (omega arith)))

pub loop-i-init : goal.loop-i-init
loop-i-init c = (λ i behind within escaped. absurd (omega (arith, behind, within)), λ common. refl)

pub loop-i-preserved : goal.loop-i-preserved
loop-i-preserved c = (
  found_so_far c.args.bytes.now c.args.first c.loop-i.i c.loop-i.rare c.is_rare-rare.result c.loop-i.invariant.0 (λ escaped. c.is_rare-rare.ensures ∙ escaped_is_rare (get_or c.args.bytes.now (c.args.first + c.loop-i.i) 0) escaped),
  none_so_far c.args.bytes.now c.args.first c.loop-i.i c.loop-i.rare c.is_rare-rare.result c.loop-i.invariant.1 c.is_rare-rare.ensures,
)

pub returns-clause-found : goal.returns-clause-found
returns-clause-found c = λ i behind within escaped. c.loop-i.invariant.0 i behind (omega (arith, within, c.loop-i-test.false)) escaped

pub returns-clause-common : goal.returns-clause-common
returns-clause-common c = λ common. c.loop-i.invariant.1 (λ i behind within. common i behind (omega (arith, within, c.loop-i-test.false)))
