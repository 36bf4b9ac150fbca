-- When an item of a batch meets a full store: the records and all puts pass the most.
use Rattle.std.proofs.Common.{◌≡◌, ℕ, zero, suc, ◌+◌, ◌<◌, ◌≤◌, Bool, true, false, cond, List, [], ◌∷◌, length, take, get_or, sym, ◌∙◌, arith, inl, inr}
use mathlib.Core.Bool.{true≢false}
use Rattle.std.proofs.lemmas.Bool.{cases_lt}
use Rattle.std.proofs.lemmas.Bool.Decides.{nat_tests}
use Rattle.batch_intent.specs.ItemView.{is_put}
use Rattle.map_model.specs.Store.{Update, bind, unbind}
use Rattle.recovery.specs.Intents.{meets_by, puts_in, records_by}
use Rattle.pma_store.specs.ItemEffects.{records_first}
use Rattle.pma_store.proofs.Sums.{puts_next}

abbrev none : Update
none = unbind []

puts_take : (items : List Update) (k : ℕ) → puts_in (take k items) ≤ puts_in items
puts_take items zero = omega arith
puts_take [] (suc k) = omega arith
puts_take (u ∷ us) (suc k) = by (is_put u) (puts_take us k)
  where
    by : (b : Bool) → puts_in (take k us) ≤ puts_in us → cond b (suc (puts_in (take k us))) (puts_in (take k us)) ≤ cond b (suc (puts_in us)) (puts_in us)
    by true rest = omega (arith, rest)
    by false rest = rest

records_most : (items : List Update) (there : ℕ → Bool) (start k : ℕ) → k ≤ length items → records_first items there start k ≤ start + puts_in (take k items)
records_most items there start zero le = omega arith
records_most items there start (suc k) le = by (get_or items k none) (there k) (records_first items there start k) (records_most items there start k (omega (arith, le))) (puts_next items k (omega (arith, le)))
  where
    by : (u : Update) (b : Bool) (n : ℕ) → n ≤ start + puts_in (take k items) → puts_in (take (suc k) items) ≡ puts_in (take k items) + cond (is_put u) 1 0 → records_by u b n ≤ start + puts_in (take (suc k) items)
    by (bind key value) true n le next = omega (arith, le, next)
    by (bind key value) false n le next = omega (arith, le, next)
    by (unbind key) true n le next = omega (arith, le, next)
    by (unbind key) false n le next = omega (arith, le, next)

-- a put meets it where as many records are there as may be
at_most : (key value : List ℕ) (records most : ℕ) → meets_by (bind key value) false records most ≡ true → most ≤ records
at_most key value records most meets = elim (cases_lt records most) [
  | inl lt ↦ absurd (true≢false (sym meets ∙ roomy lt))
  | inr ge ↦ ge
]
  where
    roomy : records < most → meets_by (bind key value) false records most ≡ false
    roomy lt = grind (arith, nat_tests)

pub meets_full : (items : List Update) (there : ℕ → Bool) (start most k records : ℕ) (present : Bool) → k < length items → records ≡ records_first items there start k → meets_by (get_or items k none) present records most ≡ true → most < start + puts_in items
meets_full items there start most k records present lt is meets = by (get_or items k none) present meets (puts_next items k lt)
  where
    passes : most ≤ records → puts_in (take (suc k) items) ≡ puts_in (take k items) + 1 → most < start + puts_in items
    passes le next = omega (arith, le, is, records_most items there start k (omega (arith, lt)), next, puts_take items (suc k))

    by : (u : Update) (b : Bool) → meets_by u b records most ≡ true → puts_in (take (suc k) items) ≡ puts_in (take k items) + cond (is_put u) 1 0 → most < start + puts_in items
    by (bind key value) true meets next = absurd cc
    by (bind key value) false meets next = passes (at_most key value records most meets) next
    by (unbind key) b meets next = absurd cc
