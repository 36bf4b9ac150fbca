-- How many different numbers a list has.
use Rattle.std.proofs.Common.{◌≡◌, ◌≢◌, ℕ, suc, ◌+◌, ◌-◌, ◌*◌, ◌<◌, ◌≤◌, Bool, true, false, cond, ◌||◌, List, [], ◌∷◌, ◌++◌, length, refl, sym, ap, ◌∙◌, arith, nat_eq}
use Rattle.std.specs.List.{list_any, All}
use Rattle.std.specs.Set.{distinct_count, unique_keys}
use Rattle.std.proofs.lemmas.Bool.{eq-eqb, eqb-false}
use Rattle.std.proofs.lemmas.List.Elements.{All-head, All-tail, All-nil, All-cons}
use Rattle.std.proofs.lemmas.List.Folds.{list_any-append}

-- one number more counts where it isn't met again
pub distinct_count-cons : (x : ℕ) (xs : List ℕ) → distinct_count nat_eq (x ∷ xs) ≡ cond (list_any (nat_eq x) xs) (distinct_count nat_eq xs) (suc (distinct_count nat_eq xs))
distinct_count-cons x xs = by_test (list_any (nat_eq x) xs)
  where
    by_test : (met : Bool) → length (cond met (unique_keys nat_eq xs) (x ∷ unique_keys nat_eq xs)) ≡ cond met (distinct_count nat_eq xs) (suc (distinct_count nat_eq xs))
    by_test true = refl
    by_test false = refl

pub distinct_count-met : (x : ℕ) (xs : List ℕ) → list_any (nat_eq x) xs ≡ true → distinct_count nat_eq (x ∷ xs) ≡ distinct_count nat_eq xs
distinct_count-met x xs met = distinct_count-cons x xs ∙ ap (λ b. cond b (distinct_count nat_eq xs) (suc (distinct_count nat_eq xs))) met

pub distinct_count-new : (x : ℕ) (xs : List ℕ) → list_any (nat_eq x) xs ≡ false → distinct_count nat_eq (x ∷ xs) ≡ distinct_count nat_eq xs + 1
distinct_count-new x xs new = distinct_count-cons x xs ∙ ap (λ b. cond b (distinct_count nat_eq xs) (suc (distinct_count nat_eq xs))) new ∙ omega arith

-- a list has no more different numbers than its two parts
pub distinct_count-append : (xs ys : List ℕ) → distinct_count nat_eq (xs ++ ys) ≤ distinct_count nat_eq xs + distinct_count nat_eq ys
distinct_count-append [] ys = omega arith
distinct_count-append (x ∷ xs) ys =
    let all = distinct_count nat_eq (xs ++ ys) in
    let whole : distinct_count nat_eq (x ∷ (xs ++ ys)) ≡ cond (list_any (nat_eq x) xs || list_any (nat_eq x) ys) all (suc all) = distinct_count-cons x (xs ++ ys) ∙ ap (λ b. cond b all (suc all)) (list_any-append (nat_eq x) xs ys) in
    omega (arith, whole, distinct_count-cons x xs, by_tests (list_any (nat_eq x) xs) (list_any (nat_eq x) ys) all (distinct_count nat_eq xs) (distinct_count nat_eq ys) (distinct_count-append xs ys))
  where
    by_tests : (first second : Bool) (m n k : ℕ) → m ≤ n + k → cond (first || second) m (suc m) ≤ cond first n (suc n) + k
    by_tests true second m n k le = le
    by_tests false true m n k le = omega arith
    by_tests false false m n k le = omega arith

-- copies of one number count once
distinct_count-same : (q : ℕ) (xs : List ℕ) → All (λ x. x ≡ q) xs → distinct_count nat_eq xs ≤ 1
distinct_count-same q [] all = omega arith
distinct_count-same q (x ∷ []) all = omega arith
distinct_count-same q (x ∷ y ∷ ys) all =
    let later = All-tail (λ (x : ℕ). x ≡ q) x (y ∷ ys) all in
    let same : x ≡ y = All-head (λ (x : ℕ). x ≡ q) x (y ∷ ys) all ∙ sym (All-head (λ (x : ℕ). x ≡ q) y ys later) in
    let met : list_any (nat_eq x) (y ∷ ys) ≡ true = ap (λ b. b || list_any (nat_eq x) ys) (eq-eqb x y same) in
    omega (arith, distinct_count-met x (y ∷ ys) met, distinct_count-same q (y ∷ ys) later)

-- a number that isn't met again is none of the others
neither : (a b : Bool) → a || b ≡ false → (a ≡ false) × (b ≡ false)
neither true b e = cc
neither false b e = (refl, e)

others : (x : ℕ) (xs : List ℕ) → list_any (nat_eq x) xs ≡ false → All (λ y. y ≢ x) xs
others x [] new = All-nil (λ (y : ℕ). y ≢ x)
others x (y ∷ ys) new =
    let parts = neither (nat_eq x y) (list_any (nat_eq x) ys) new in
    All-cons (λ (y : ℕ). y ≢ x) y ys (λ e. eqb-false x y parts.0 (sym e)) (others x ys parts.1)

-- two neighbouring numbers count twice at most
pub distinct_count-neighbours : (q : ℕ) (xs : List ℕ) → All (λ x. (q ≤ x) × (x < q + 2)) xs → distinct_count nat_eq xs ≤ 2
distinct_count-neighbours q [] all = omega arith
distinct_count-neighbours q (x ∷ xs) all =
    let near = All-head (λ (x : ℕ). (q ≤ x) × (x < q + 2)) x xs all in
    let later = All-tail (λ (x : ℕ). (q ≤ x) × (x < q + 2)) x xs all in
    by_test (list_any (nat_eq x) xs) refl near later (distinct_count-neighbours q xs later)
  where
    by_test : (met : Bool) → list_any (nat_eq x) xs ≡ met → (q ≤ x) × (x < q + 2) → All (λ x. (q ≤ x) × (x < q + 2)) xs → distinct_count nat_eq xs ≤ 2 → distinct_count nat_eq (x ∷ xs) ≤ 2
    by_test true is near later two = omega (arith, distinct_count-met x xs is)
    by_test false is near later two =
        let one = distinct_count-same (2 * q + 1 - x) xs (λ k d lt. omega (arith, near.0, near.1, (later k d lt).0, (later k d lt).1, others x xs is k d lt)) in
        omega (arith, distinct_count-new x xs is)
