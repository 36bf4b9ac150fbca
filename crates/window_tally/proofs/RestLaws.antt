-- The marks of a tree.
use Rattle.std.proofs.Common.{◌≡◌, ℕ, ◌+◌, ◌-◌, ◌*◌, ◌/◌, ◌%◌, ◌^◌, ◌<◌, ◌≤◌, Bool, true, false, cond, ◌==◌, if◌then◌else◌, List, get_or, refl, sym, ap, subst, ◌∙◌, arith, inl, inr, Option, Some, None}
use Rattle.std.specs.Option.{option_map}
use Rattle.std.proofs.lemmas.Bool.{cases_eq, cond-true, cond-false, eq-eqb, ne_eqb}
use Rattle.density_rule.specs.Windows.{IsWindow, is_properly_inside}
use Rattle.density_rule.specs.Marks.{mark_of, updated_marks, spread_marks, resized_marks, one_more}
use Rattle.density_rule.proofs.MarkLaws.{mark_of-marks_by, marks_by_same}
use Rattle.density_rule.proofs.Places.{place_inside, properly_inside_test, properly_inside_from}
use Rattle.window_tally.specs.TallyPlaces.{place, marks_in, FillsBelow}
use Rattle.window_tally.proofs.PathLaws.{WritesPath}

-- a window below the root
below_root : (height h k : ℕ) → h < height → k < 2 ^ (height - h) → IsWindow height h k
below_root height h k lt less = record { low = omega arith; in_store = less }

pub marks_in-updated : (height segment top : ℕ) (old new : List (Option ℕ)) → height ≤ top → WritesPath None (λ h. option_map one_more (get_or old (place height h (segment / 2 ^ h)) None)) height segment top old new
    → marks_in height new ≡ updated_marks height segment (marks_in height old)
marks_in-updated height segment top old new all path = marks_by_same height _ _ (λ h k lt less. elim (cases_eq (segment / 2 ^ h) k) [
  | inl over ↦ one_over h k lt less over
  | inr other ↦ path.others h k (below_root height h k lt less) (λ under. other) ∙ sym (mark h k lt less) ∙ sym (cond-false _ _ _ (ne_eqb (segment / 2 ^ h) k other))
])
  where
    mark : (h k : ℕ) → h < height → k < 2 ^ (height - h) → mark_of (marks_in height old) h k ≡ get_or old (place height h k) None
    mark h k lt less = mark_of-marks_by height h k (λ h k. get_or old (place height h k) None) lt less

    one_over : (h k : ℕ) → h < height → k < 2 ^ (height - h) → segment / 2 ^ h ≡ k → get_or new (place height h k) None ≡ (if segment / 2 ^ h == k then option_map one_more (mark_of (marks_in height old) h k) else mark_of (marks_in height old) h k)
    one_over h k lt less over =
        subst (λ q. get_or new (place height h q) None ≡ option_map one_more (get_or old (place height h q) None)) over (path.over h (omega arith))
        ∙ ap (option_map one_more) (sym (mark h k lt less)) ∙ sym (cond-true _ _ _ (eq-eqb (segment / 2 ^ h) k over))

pub marks_in-spread : (height j w : ℕ) (old new : List (Option ℕ)) → FillsBelow None (λ _ _. Some 0) height j w j old new → marks_in height new ≡ spread_marks height j w (marks_in height old)
marks_in-spread height j w old new fills = marks_by_same height _ _ (λ h k lt less. by_test h k lt less (is_properly_inside h k j w) refl)
  where
    by_test : (h k : ℕ) → h < height → k < 2 ^ (height - h) → (b : Bool) → is_properly_inside h k j w ≡ b → get_or new (place height h k) None ≡ cond b (Some 0) (mark_of (marks_in height old) h k)
    by_test h k lt less true e =
        let inside = properly_inside_from h k j w e in
        let at = place_inside h k j w inside.1 in
        ap (λ (n : ℕ). get_or new (place height h n) None) at.0 ∙ fills.inside h (k % 2 ^ (j - h)) inside.0 at.1
    by_test h k lt less false e =
        fills.outside h k (below_root height h k lt less) (λ smaller inside. let yes = properly_inside_test h k j w smaller inside in cc)
        ∙ sym (mark_of-marks_by height h k (λ h k. get_or old (place height h k) None) lt less)

pub marks_in-resized : (height : ℕ) (old new : List (Option ℕ)) → FillsBelow None (λ _ _. Some 0) height height 0 height old new → marks_in height new ≡ resized_marks height
marks_in-resized height old new fills = marks_by_same height _ _ (λ h k lt less. ap (λ (n : ℕ). get_or new (place height h n) None) {x = k} {y = 0 * 2 ^ (height - h) + k} (omega arith) ∙ fills.inside h k lt less)
