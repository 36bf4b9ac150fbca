-- What the iterators give, and what is then still to come.
use Rattle.std.proofs.Common.{◌≡◌, ℕ, ◌+◌, ◌-◌, ◌*◌, ◌/◌, ◌≤◌, ◌<◌, ◌⊎◌, inl, inr, min, max, List, [], ◌∷◌, ◌++◌, sym, ap, ap₂, ◌∙◌, arith}
use Rattle.std.proofs.lemmas.Bool.{cases_lt}
use Rattle.spread_plan.specs.declared.Move.{Move}
use Rattle.density_rule.specs.declared.TheConstants.{SEGMENT_RECORDS}
use Rattle.spread_plan.specs.Plans.{move_of, moves_between}
use Rattle.spread_plan.proofs.Packing.{move_of-none, move_of-some}
use Rattle.spread_plan.proofs.Fewness.{moves_between-none}

module _ (from a b : ℕ) (lt : a < b) (near : b ≤ a + SEGMENT_RECORDS) where
  abbrev to : ℕ
  to = a / SEGMENT_RECORDS

  abbrev edge : ℕ
  edge = (to + 1) * SEGMENT_RECORDS

  -- all go to one segment
  one : b ≤ edge → moves_between from a b ≡ record { from = from; to = to; count = b - a } ∷ []
  one le =
      ap₂ ◌++◌ (ap (λ (k : ℕ). move_of from to (k - a)) {x = min b edge} {y = b} (omega (arith, le)) ∙ move_of-some from to (b - a) (omega (arith, lt))) (move_of-none from (to + 1) (b - edge) (omega (arith, le)))

  -- some go to the next one too
  front : edge < b → moves_between from a edge ≡ record { from = from; to = to; count = edge - a } ∷ []
  front more =
      ap₂ ◌++◌ (ap (λ (k : ℕ). move_of from to (k - a)) {x = min edge edge} {y = edge} (omega arith) ∙ move_of-some from to (edge - a) (omega arith)) (move_of-none from (to + 1) (edge - edge) (omega arith))

  back : edge < b → moves_between from edge b ≡ record { from = from; to = to + 1; count = b - edge } ∷ []
  back more =
      let next : edge / SEGMENT_RECORDS ≡ to + 1 = omega arith in
      let there : edge ≡ a + (edge - a) = omega arith in
      ap (λ (k : ℕ). move_of from k (min b ((k + 1) * SEGMENT_RECORDS) - edge) ++ move_of from (k + 1) (b - (k + 1) * SEGMENT_RECORDS)) next
      ∙ ap₂ ◌++◌ (ap (λ (k : ℕ). move_of from (to + 1) (k - edge)) {x = min b ((to + 1 + 1) * SEGMENT_RECORDS)} {y = b} (omega (arith, near)) ∙ move_of-some from (to + 1) (b - edge) (omega (arith, more)))
      (move_of-none from (to + 1 + 1) (b - (to + 1 + 1) * SEGMENT_RECORDS) (omega (arith, near)))

  both : edge < b → moves_between from a b ≡ record { from = from; to = to; count = edge - a } ∷ record { from = from; to = to + 1; count = b - edge } ∷ []
  both more =
      ap₂ ◌++◌ (ap (λ (k : ℕ). move_of from to (k - a)) {x = min b edge} {y = edge} (omega (arith, more)) ∙ move_of-some from to (edge - a) (omega arith)) (move_of-some from (to + 1) (b - edge) (omega (arith, more)))

  pub moves_between-first : (stop : ℕ) → stop ≡ min b edge → moves_between from a b ≡ record { from = from; to = to; count = stop - a } ∷ moves_between from stop b
  moves_between-first stop is = by_place (cases_lt edge b)
    where
      by_place : (edge < b) ⊎ (b ≤ edge) → moves_between from a b ≡ record { from = from; to = to; count = stop - a } ∷ moves_between from stop b
      by_place (inl more) =
          let stop_is : edge ≡ stop = omega (arith, is, more) in
          both more ∙ ap (λ (ms : List Move). record { from = from; to = to; count = edge - a } ∷ ms) (sym (back more)) ∙ ap (λ (k : ℕ). record { from = from; to = to; count = k - a } ∷ moves_between from k b) stop_is
      by_place (inr le) =
          let stop_is : b ≡ stop = omega (arith, is, le) in
          one le ∙ ap (λ (ms : List Move). record { from = from; to = to; count = b - a } ∷ ms) (sym (moves_between-none from b b (omega arith))) ∙ ap (λ (k : ℕ). record { from = from; to = to; count = k - a } ∷ moves_between from k b) stop_is

  pub moves_between-last : (block first : ℕ) → block ≡ (b - 1) / SEGMENT_RECORDS → first ≡ max a (block * SEGMENT_RECORDS) → moves_between from a b ≡ moves_between from a first ++ record { from = from; to = block; count = b - first } ∷ []
  moves_between-last block first block_is is = by_place (cases_lt edge b)
    where
      by_place : (edge < b) ⊎ (b ≤ edge) → moves_between from a b ≡ moves_between from a first ++ record { from = from; to = block; count = b - first } ∷ []
      by_place (inl more) =
          let here : to + 1 ≡ block = omega (arith, block_is, more, near) in
          let first_is : edge ≡ first = omega (arith, is, here) in
          both more ∙ ap (λ (ms : List Move). ms ++ record { from = from; to = to + 1; count = b - edge } ∷ []) (sym (front more))
          ∙ ap₂ (λ (k : ℕ) (j : ℕ). moves_between from a k ++ record { from = from; to = j; count = b - k } ∷ []) first_is here
      by_place (inr le) =
          let here : to ≡ block = omega (arith, block_is, le, lt) in
          let first_is : a ≡ first = omega (arith, is, here) in
          one le ∙ ap (λ (ms : List Move). ms ++ record { from = from; to = to; count = b - a } ∷ []) (sym (moves_between-none from a a (omega arith)))
          ∙ ap₂ (λ (k : ℕ) (j : ℕ). moves_between from a k ++ record { from = from; to = j; count = b - k } ∷ []) first_is here
