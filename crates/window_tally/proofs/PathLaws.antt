-- A loop over the windows that hold a segment, from the segment upwards.
use Rattle.std.proofs.Common.{◌≡◌, ℕ, ◌+◌, ◌-◌, ◌/◌, ◌^◌, ◌<◌, ◌≤◌, List, length, get_or, set, refl, sym, ap, subst, ◌∙◌, arith, inl, inr}
use Rattle.std.proofs.lemmas.Bool.{cases_lt, cases_eq}
use Rattle.std.proofs.lemmas.List.{length-set, get_or-set_same, get_or-set_other}
use Rattle.density_rule.specs.Windows.{IsWindow}
use Rattle.density_rule.proofs.Places.{over_in_store}
use Rattle.window_tally.specs.TallyPlaces.{place}
use Rattle.window_tally.proofs.PlaceLaws.{place_in_tree, places_differ}

-- the windows of heights below `top` over the segment hold these values, and all others what they held
pub record WritesPath {X : Type 0} (d : X) (value : ℕ → X) (height segment top : ℕ) (old new : List X) : Type 0 where
  pub size : length new ≡ length old
  pub over : (h : ℕ) → h < top → get_or new (place height h (segment / 2 ^ h)) d ≡ value h
  pub others : (h k : ℕ) → IsWindow height h k → (h < top → segment / 2 ^ h ≡ k → ⊥) → get_or new (place height h k) d ≡ get_or old (place height h k) d

pub path_none : {X : Type 0} (d : X) (value : ℕ → X) (height segment : ℕ) (old : List X) → WritesPath d value height segment 0 old old
path_none d value height segment old = record { size = refl; over = λ h lt. absurd (omega arith); others = λ h k is apart. refl }

module _ {X : Type 0} (d : X) (value : ℕ → X) (height segment top : ℕ) (old new : List X) (below : top ≤ height) (in_store : segment < 2 ^ height) (fits : 2 ^ (height + 1) ≤ length old) (path : WritesPath d value height segment top old new) where
  here : IsWindow height top (segment / 2 ^ top)
  here = over_in_store height top segment below in_store

  -- the next window holds what it held
  pub path_at : get_or new (place height top (segment / 2 ^ top)) d ≡ get_or old (place height top (segment / 2 ^ top)) d
  path_at = path.others top (segment / 2 ^ top) here (λ lt. absurd (omega arith))

  pub path_more : (x : X) → x ≡ value top → WritesPath d value height segment (top + 1) old (set new (place height top (segment / 2 ^ top)) x)
  path_more x is = record { size = length-set new (place height top (segment / 2 ^ top)) x ∙ path.size; over = over; others = others }
    where
      fits_at : place height top (segment / 2 ^ top) < length new
      fits_at = omega (arith, place_in_tree height top (segment / 2 ^ top) here, path.size)

      at_top : (h : ℕ) → h ≡ top → get_or (set new (place height top (segment / 2 ^ top)) x) (place height h (segment / 2 ^ h)) d ≡ value h
      at_top h same = subst (λ g. get_or (set new (place height top (segment / 2 ^ top)) x) (place height g (segment / 2 ^ g)) d ≡ value g) (sym same) (get_or-set_same new (place height top (segment / 2 ^ top)) x d fits_at ∙ is)

      over : (h : ℕ) → h < top + 1 → get_or (set new (place height top (segment / 2 ^ top)) x) (place height h (segment / 2 ^ h)) d ≡ value h
      over h lt = elim (cases_lt h top) [
        | inl less ↦ get_or-set_other new _ _ x d (places_differ height h (segment / 2 ^ h) top (segment / 2 ^ top) (over_in_store height h segment (omega arith) in_store) here (λ same. omega arith)) ∙ path.over h less
        | inr ge ↦ at_top h (omega arith)
      ]

      apart : (h k : ℕ) → IsWindow height h k → (h < top + 1 → segment / 2 ^ h ≡ k → ⊥) → place height h k ≡ place height top (segment / 2 ^ top) → ⊥
      apart h k is differs same = elim (cases_eq h top) [
        | inr other ↦ places_differ height h k top (segment / 2 ^ top) is here other same
        | inl level ↦
            let power : 2 ^ (height - h) ≡ 2 ^ (height - top) = ap (λ (n : ℕ). 2 ^ (height - n)) level in
            let number : segment / 2 ^ h ≡ segment / 2 ^ top = ap (λ (n : ℕ). segment / 2 ^ n) level in
            differs (omega arith) (omega arith)
      ]

      others : (h k : ℕ) → IsWindow height h k → (h < top + 1 → segment / 2 ^ h ≡ k → ⊥) → get_or (set new (place height top (segment / 2 ^ top)) x) (place height h k) d ≡ get_or old (place height h k) d
      others h k is differs = get_or-set_other new _ _ x d (apart h k is differs) ∙ path.others h k is (λ lt. differs (omega arith))

-- the same, where a variable holds the place
pub path_more_at : {X : Type 0} (d : X) (value : ℕ → X) (height segment top : ℕ) (old new : List X) (at : ℕ) (x : X) → top ≤ height → segment < 2 ^ height → 2 ^ (height + 1) ≤ length old → at ≡ place height top (segment / 2 ^ top) → x ≡ value top
    → WritesPath d value height segment top old new → WritesPath d value height segment (top + 1) old (set new at x)
path_more_at d value height segment top old new at x below in_store fits is_at is path = subst (λ p. WritesPath d value height segment (top + 1) old (set new p x)) (sym is_at) (path_more d value height segment top old new below in_store fits path x is)
