-- The runs of neighbouring pages, one after another.
use Rattle.std.proofs.Common.{◌≡◌, ◌≢◌, ◌==◌, Bool, true, false, ℕ, zero, suc, [], ◌∷◌, ◌+◌, ◌-◌, ◌≤◌, ◌<◌, ◌++◌, List, length, get_or, drop, drop-drop, append-nil, refl, sym, ◌∙◌, ap, arith, ne_eqb}
use Rattle.std.specs.Prelude.{if◌then◌else◌}
use Rattle.std.specs.List.{range_with_len}
use Rattle.std.proofs.lemmas.Bool.{eq-eqb}
use Rattle.std.proofs.lemmas.List.{get_or-drop, length-drop, drop_more}
use Rattle.redo_journal.specs.Applying.{IsRun}
use Rattle.redo_journal.specs.Neighbours.{runs_begun, run_count}

-- no run begins in the first m numbers, which go on from the number before them; one begins behind them, where there are more
pub runs_begun_past : (before m : ℕ) (numbers : List ℕ) → m ≤ length numbers → ((j : ℕ) → j < m → get_or numbers j 0 ≡ before + 1 + j)
    → (m < length numbers → get_or numbers m 0 ≢ before + m + 1) → runs_begun before numbers ≡ run_count (drop m numbers)
runs_begun_past before zero [] fits goes stops = refl
runs_begun_past before zero (n ∷ numbers) fits goes stops = ap (λ b. (if b then 0 else 1) + runs_begun n numbers) (ne_eqb n (before + 1) (λ e. stops (omega arith) (omega (arith, e))))
runs_begun_past before (suc m) [] fits goes stops = absurd (omega (arith, fits))
runs_begun_past before (suc m) (n ∷ numbers) fits goes stops =
    let first : n ≡ before + 1 = omega (arith, goes 0 (omega arith)) in
    let none : runs_begun before (n ∷ numbers) ≡ 0 + runs_begun n numbers = ap (λ b. (if b then 0 else 1) + runs_begun n numbers) (eq-eqb n (before + 1) first) in
    omega (arith, none)
    ∙ runs_begun_past n m numbers (omega (arith, fits)) (λ j lt. omega (arith, goes (suc j) (omega (arith, lt)), first)) (λ lt e. stops (omega (arith, lt)) (omega (arith, e, first)))

-- a run that is as long as it can be is one of those that the numbers make, and the others come behind it
pub run_count_past : (numbers : List ℕ) (k end : ℕ) → IsRun numbers k end → (end < length numbers → get_or numbers end 0 ≢ get_or numbers (end - 1) 0 + 1)
    → run_count (drop k numbers) ≡ 1 + run_count (drop end numbers)
run_count_past numbers k end run longest =
    let some = run.some in
    let within = run.within in
    let m = end - (k + 1) in
    let first = get_or numbers k 0 in
    let rest = drop (k + 1) numbers in
    let last : get_or numbers (end - 1) 0 ≡ first + m =
    ap (λ (i : ℕ). get_or numbers i 0) {x = end - 1} {y = k + m} (omega (arith, some)) ∙ run.each m (omega (arith, some)) in
    let behind : drop m rest ≡ drop end numbers = drop-drop m (k + 1) numbers ∙ ap (λ (i : ℕ). drop i numbers) {x = k + 1 + m} {y = end} (omega (arith, some)) in
    let begun = runs_begun_past first m rest (omega (arith, length-drop (k + 1) numbers, some, within))
    (λ j lt. get_or-drop (k + 1) numbers j 0 ∙ ap (λ (i : ℕ). get_or numbers i 0) {x = k + 1 + j} {y = k + (j + 1)} (omega arith) ∙ run.each (j + 1) (omega (arith, lt, some)) ∙ omega arith)
    (λ lt e. longest (omega (arith, lt, length-drop (k + 1) numbers, some)) (
    ap (λ (i : ℕ). get_or numbers i 0) {x = end} {y = k + 1 + m} (omega (arith, some)) ∙ sym (get_or-drop (k + 1) numbers m 0) ∙ e ∙ omega (arith, last))) in
    ap run_count (drop_more numbers k 0 (omega (arith, some, within))) ∙ ap (λ (n : ℕ). 1 + n) (begun ∙ ap run_count behind)

-- a run begins where there are numbers left
pub run_count_some : (numbers : List ℕ) (k : ℕ) → k < length numbers → 1 ≤ run_count (drop k numbers)
run_count_some numbers k lt = omega (arith, ap run_count (drop_more numbers k 0 lt))

-- there are at most as many runs as numbers
pub runs_begun_few : (before : ℕ) (numbers : List ℕ) → runs_begun before numbers ≤ length numbers
runs_begun_few before [] = omega arith
runs_begun_few before (n ∷ numbers) = few (n == before + 1) (runs_begun_few n numbers)
  where
    few : (b : Bool) → runs_begun n numbers ≤ length numbers → (if b then 0 else 1) + runs_begun n numbers ≤ suc (length numbers)
    few true rest = omega (arith, rest)
    few false rest = omega (arith, rest)

pub run_count_few : (numbers : List ℕ) → run_count numbers ≤ length numbers
run_count_few [] = omega arith
run_count_few (n ∷ numbers) = omega (arith, runs_begun_few n numbers)

-- numbers side by side begin no run behind the number before them
pub runs_begun_joined : (before n : ℕ) (numbers : List ℕ) → runs_begun before (range_with_len (before + 1) n ++ numbers) ≡ runs_begun (before + n) numbers
runs_begun_joined before zero numbers = ap (λ (k : ℕ). runs_begun k numbers) {x = before} {y = before + 0} (omega arith)
runs_begun_joined before (suc n) numbers =
    let none : runs_begun before (range_with_len (before + 1) (suc n) ++ numbers) ≡ 0 + runs_begun (before + 1) (range_with_len (before + 1 + 1) n ++ numbers) =
    ap (λ b. (if b then 0 else 1) + runs_begun (before + 1) (range_with_len (before + 1 + 1) n ++ numbers)) (eq-eqb (before + 1) (before + 1) refl) in
    omega (arith, none) ∙ runs_begun_joined (before + 1) n numbers ∙ ap (λ (k : ℕ). runs_begun k numbers) {x = before + 1 + n} {y = before + suc n} (omega arith)

-- at most as many begin behind a number as the numbers make by themselves
pub runs_begun_most : (before : ℕ) (numbers : List ℕ) → runs_begun before numbers ≤ run_count numbers
runs_begun_most before [] = omega arith
runs_begun_most before (n ∷ numbers) = most (n == before + 1)
  where
    most : (b : Bool) → (if b then 0 else 1) + runs_begun n numbers ≤ 1 + runs_begun n numbers
    most true = omega arith
    most false = omega arith

-- numbers side by side are one run, or none where there are none
pub run_count_joined : (first n : ℕ) (numbers : List ℕ) → run_count (range_with_len first n ++ numbers) ≤ (if n == 0 then 0 else 1) + run_count numbers
run_count_joined first zero numbers = omega arith
run_count_joined first (suc n) numbers =
    let some : ◌≡◌ {A = ℕ} (if suc n == 0 then 0 else 1) 1 = ap (λ b. if b then 0 else 1) (ne_eqb (suc n) 0 (λ e. omega (arith, e))) in
    omega (arith, some, runs_begun_joined first n numbers, runs_begun_most (first + n) numbers)

pub run_count_side_by_side : (first n : ℕ) → run_count (range_with_len first n) ≤ (if n == 0 then 0 else 1)
run_count_side_by_side first n = omega (arith, ap run_count (append-nil (range_with_len first n)), run_count_joined first n [])
