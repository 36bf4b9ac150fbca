-- Loops that fill places beside one another, and so level by level the windows inside a window.
use Rattle.std.proofs.Common.{◌≡◌, ℕ, ◌+◌, ◌-◌, ◌*◌, ◌/◌, ◌^◌, ◌<◌, ◌≤◌, List, length, get_or, set, refl, sym, ap, subst, ◌∙◌, arith, inl, inr, ◌⊎◌}
use Rattle.std.proofs.lemmas.Bool.{cases_lt}
use Rattle.std.proofs.lemmas.List.{get_or-set_same, get_or-set_other}
use Rattle.std.proofs.Math.Nat.{add-mul}
use Rattle.density_rule.specs.Windows.{IsWindow}
use Rattle.density_rule.proofs.Places.{not_over}
use Rattle.window_tally.specs.TallyPlaces.{place, Fills, FillsBelow}
use Rattle.window_tally.proofs.PlaceLaws.{inside_places, place_ends, level_before}

pub fills_none : {X : Type 0} (d : X) (value : ℕ → X) (first : ℕ) (old : List X) → Fills d value first 0 old old
fills_none d value first old = record { inside = λ i lt. absurd (omega arith); outside = λ p apart. refl }

pub fills_more : {X : Type 0} (d : X) (value : ℕ → X) (first n : ℕ) (old new : List X) (x : X) → first + n < length new → x ≡ value n → Fills d value first n old new → Fills d value first (n + 1) old (set new (first + n) x)
fills_more d value first n old new x fits is fills = record { inside = inside; outside = outside }
  where
    at_top : (i : ℕ) → i ≡ n → get_or (set new (first + n) x) (first + i) d ≡ value i
    at_top i same = subst (λ k. get_or (set new (first + n) x) (first + k) d ≡ value k) (sym same) (get_or-set_same new (first + n) x d fits ∙ is)

    inside : (i : ℕ) → i < n + 1 → get_or (set new (first + n) x) (first + i) d ≡ value i
    inside i lt = elim (cases_lt i n) [
      | inl less ↦ get_or-set_other new (first + n) (first + i) x d (λ same. omega arith) ∙ fills.inside i less
      | inr ge ↦ at_top i (omega arith)
    ]

    outside : (p : ℕ) → (p < first) ⊎ (first + (n + 1) ≤ p) → get_or (set new (first + n) x) p d ≡ get_or old p d
    outside p apart = elim apart [
      | inl before ↦ get_or-set_other new (first + n) p x d (λ same. omega arith) ∙ fills.outside p (inl before)
      | inr behind ↦ get_or-set_other new (first + n) p x d (λ same. omega arith) ∙ fills.outside p (inr (omega arith))
    ]

pub levels_none : {X : Type 0} (d : X) (value : ℕ → ℕ → X) (height j w : ℕ) (old : List X) → FillsBelow d value height j w 0 old old
levels_none d value height j w old = record { inside = λ h i lt. absurd (omega arith); outside = λ h k is apart. refl }

pub levels_more : {X : Type 0} (d : X) (value : ℕ → ℕ → X) (height j w h : ℕ) (old cur new : List X) → h < j → IsWindow height j w → FillsBelow d value height j w h old cur → Fills d (value h) (place height h (w * 2 ^ (j - h))) (2 ^ (j - h)) cur new → FillsBelow d value height j w (h + 1) old new
levels_more d value height j w h old cur new lt window below fills = record { inside = inside; outside = outside }
  where
    -- the level's part ends before twice its beginning
    room : place height h (w * 2 ^ (j - h)) + 2 ^ (j - h) ≤ 2 ^ (height - h) + 2 ^ (height - h)
    room = (inside_places height h j w (omega arith) window).1

    low : h ≤ height
    low = omega (arith, window.low)

    -- smaller windows stand behind it, and larger ones before it
    behind : (g k : ℕ) → g < h → (place height g k < place height h (w * 2 ^ (j - h))) ⊎ (place height h (w * 2 ^ (j - h)) + 2 ^ (j - h) ≤ place height g k)
    behind g k less = inr (omega (arith, room, level_before height g h less low))

    before : (g k : ℕ) → h < g → IsWindow height g k → (place height g k < place height h (w * 2 ^ (j - h))) ⊎ (place height h (w * 2 ^ (j - h)) + 2 ^ (j - h) ≤ place height g k)
    before g k more is = inl (omega (arith, (place_ends height g k is).1, level_before height h g more is.low))

    beside : (g k : ℕ) → g ≡ h → (k / 2 ^ (j - g) ≡ w → ⊥) → (place height g k < place height h (w * 2 ^ (j - h))) ⊎ (place height h (w * 2 ^ (j - h)) + 2 ^ (j - h) ≤ place height g k)
    beside g k same other =
        let power : 2 ^ (height - g) ≡ 2 ^ (height - h) = ap (λ (n : ℕ). 2 ^ (height - n)) same in
        let part : 2 ^ (j - g) ≡ 2 ^ (j - h) = ap (λ (n : ℕ). 2 ^ (j - n)) same in
        let number : k / 2 ^ (j - g) ≡ k / 2 ^ (j - h) = ap (λ (n : ℕ). k / n) part in
        elim (not_over k (j - h) w (λ e. other (number ∙ e))) [
          | inl left ↦ inl (omega arith)
          | inr right ↦ inr (omega (arith, add-mul w 1 (2 ^ (j - h))))
        ]

    at_level : (g i : ℕ) → g ≡ h → i < 2 ^ (j - g) → get_or new (place height g (w * 2 ^ (j - g) + i)) d ≡ value g i
    at_level g i same = subst (λ n. i < 2 ^ (j - n) → get_or new (place height n (w * 2 ^ (j - n) + i)) d ≡ value n i) (sym same)
        (λ less. ap (λ (p : ℕ). get_or new p d) {x = place height h (w * 2 ^ (j - h) + i)} {y = place height h (w * 2 ^ (j - h)) + i} (omega arith) ∙ fills.inside i less)

    inside : (g i : ℕ) → g < h + 1 → i < 2 ^ (j - g) → get_or new (place height g (w * 2 ^ (j - g) + i)) d ≡ value g i
    inside g i le less = elim (cases_lt g h) [
      | inl smaller ↦ fills.outside _ (behind g (w * 2 ^ (j - g) + i) smaller) ∙ below.inside g i smaller less
      | inr ge ↦ at_level g i (omega arith) less
    ]

    outside : (g k : ℕ) → IsWindow height g k → (g < h + 1 → k / 2 ^ (j - g) ≡ w → ⊥) → get_or new (place height g k) d ≡ get_or old (place height g k) d
    outside g k is apart = elim (cases_lt g h) [
      | inl smaller ↦ fills.outside _ (behind g k smaller) ∙ below.outside g k is (λ _. apart (omega arith))
      | inr ge ↦ elim (cases_lt h g) [
        | inl larger ↦ fills.outside _ (before g k larger is) ∙ below.outside g k is (λ under. absurd (omega arith))
        | inr le ↦ fills.outside _ (beside g k (omega arith) (apart (omega arith))) ∙ below.outside g k is (λ under. absurd (omega arith))
      ]
    ]
