-- Records that are spread over a whole store, with a root within its bounds, leave every window within its bounds.
use Rattle.std.proofs.Common.{◌≡◌, inl, inr, ℕ, ◌+◌, ◌-◌, ◌*◌, ◌/◌, ◌^◌, ◌<◌, ◌≤◌, List, ◌++◌, length, take, drop, sum, sym, ap, subst, ◌∙◌, arith}
use Rattle.std.proofs.lemmas.Bool.{cases_lt}
use Rattle.std.proofs.lemmas.List.{take_all, drop_all, append-nil}
use Rattle.std.proofs.Math.Nat.{zero-mul, mul-le-mul_left, div-eq_of_lt}
use Rattle.std.proofs.Math.Pow.{pow_pos}
use Rattle.density_rule.specs.Bounds.{upper_of, lower_of, least_of, IsInBounds}
use Rattle.density_rule.specs.Spread.{shares, spread_counts}
use Rattle.density_rule.specs.Windows.{IsBalanced, count_in}
use Rattle.density_rule.specs.declared.TheConstants.{SEGMENT_RECORDS}
use Rattle.density_rule.proofs.Bounding.{least_of-some, least_of-le-lower_of}
use Rattle.density_rule.proofs.Room.{even_inside}
use Rattle.density_rule.proofs.Shares.{length-shares, sum-shares}

module _ (n height : ℕ) (low : height ≤ 16) (least : least_of height height ≤ n) (most : n ≤ upper_of height) where
  abbrev counts : List ℕ
  counts = shares n (2 ^ height)

  long : length counts ≡ 2 ^ height
  long = length-shares n (2 ^ height)

  whole : count_in counts height 0 ≡ n
  whole =
      let none : 0 * 2 ^ height ≡ 0 = zero-mul (2 ^ height) in
      ap (λ (k : ℕ). sum (take ((0 + 1) * 2 ^ height - k) (drop k counts))) none ∙ ap (λ (l : List ℕ). sum l) (take_all ((0 + 1) * 2 ^ height - 0) counts (omega (arith, long))) ∙ sum-shares n (2 ^ height) (pow_pos height)

  -- the spread of the whole is the same again
  same : spread_counts counts height 0 ≡ counts
  same =
      let none : 0 * 2 ^ height ≡ 0 = zero-mul (2 ^ height) in
      ap (λ (k : ℕ). take k counts ++ (shares (count_in counts height 0) (2 ^ height) ++ drop ((0 + 1) * 2 ^ height) counts)) none
      ∙ ap (λ (l : List ℕ). shares (count_in counts height 0) (2 ^ height) ++ l) (drop_all ((0 + 1) * 2 ^ height) counts (omega (arith, long)))
      ∙ append-nil (shares (count_in counts height 0) (2 ^ height)) ∙ ap (λ (k : ℕ). shares k (2 ^ height)) whole

  inside : (h k : ℕ) → h < height → k < 2 ^ (height - h) → IsInBounds height h (count_in counts h k)
  inside h k lt there =
      let some : least_of height height ≡ lower_of height = least_of-some height height (omega (arith, lt)) in
      let even = even_inside counts h k height 0 (record { low = low; in_store = omega (arith, long); smaller = lt; inside = small there; bounds = record { least_is = omega (arith, whole, least, some); most_is = omega (arith, whole, most) } }) in
      let count : count_in (spread_counts counts height 0) h k ≡ count_in counts h k = ap (λ (ns : List ℕ). count_in ns h k) same in
      let up : 2 ^ h * (4 + h) ≤ 2 ^ h * (4 + height) = mul-le-mul_left (2 ^ h) (omega (arith, lt)) in
      let down : 2 ^ h * (SEGMENT_RECORDS - height) ≤ 2 ^ h * (SEGMENT_RECORDS - h) = mul-le-mul_left (2 ^ h) (omega (arith, lt)) in
      record { least_is = omega (arith, least_of-le-lower_of height h, up, even.least_is, count); most_is = omega (arith, down, even.most_is, count) }
    where
      small : k < 2 ^ (height - h) → k / 2 ^ (height - h) ≡ 0
      small there = div-eq_of_lt there

  pub balanced_spread : IsBalanced height counts
  balanced_spread h k is = elim (cases_lt h height) [
    | inl lt ↦ inside h k lt is.in_store
    | inr le ↦ at_root (omega (arith, le, is.low))
  ]
    where
      at_root : h ≡ height → IsInBounds height h (count_in counts h k)
      at_root e =
          let none : height - h ≡ 0 = omega (arith, e) in
          let first : k ≡ 0 = omega (arith, is.in_store, ap (λ (j : ℕ). 2 ^ j) none) in
          subst (λ (j : ℕ). IsInBounds height j (count_in counts j k)) (sym e) (subst (λ (j : ℕ). IsInBounds height height (count_in counts height j)) (sym first) (record { least_is = omega (arith, whole, least); most_is = omega (arith, whole, most) }))
