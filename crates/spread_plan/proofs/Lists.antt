-- Lists of lists: their records, their counts, and what stands at each place.
use Rattle.std.proofs.Common.{◌≡◌, ℕ, zero, suc, ◌+◌, ◌≤◌, ◌<◌, List, [], ◌∷◌, ◌++◌, length, take, drop, sum, get_or, slice_set, refl, sym, ap, ap₂, ◌∙◌, arith, append_assoc}
use Rattle.std.proofs.lemmas.List.{length-append, length-drop, length-take-le, take-append-drop}
use Rattle.std.proofs.lemmas.List.Sums.{sum_by-cons}
use Rattle.std.proofs.Math.ListN.{get_or-map}
use Rattle.std.proofs.Math.Seq.{take-append_seam, drop-append_seam}
use Rattle.spread_plan.specs.Moves.{records_of, counts_of, list_at}

pub sum-cons : (n : ℕ) (ns : List ℕ) → sum (n ∷ ns) ≡ n + sum ns
sum-cons = sum_by-cons (λ n. n)

pub get_or-counts_of : {X : Type 0} (lists : List (List X)) (i : ℕ) → get_or (counts_of lists) i 0 ≡ length (list_at lists i)
get_or-counts_of lists i = get_or-map length lists i []

pub length-records_of : {X : Type 0} (lists : List (List X)) → length (records_of lists) ≡ sum (counts_of lists)
length-records_of [] = refl
length-records_of (list ∷ lists) = length-append list (records_of lists) ∙ ap (λ (n : ℕ). length list + n) (length-records_of lists) ∙ sym (sum-cons (length list) (counts_of lists))

-- the counts and the records determine the lists
pub lists_by_counts : {X : Type 0} (xs ys : List (List X)) → counts_of xs ≡ counts_of ys → records_of xs ≡ records_of ys → xs ≡ ys
lists_by_counts [] [] counts records = refl
lists_by_counts [] (y ∷ ys) counts records = cc
lists_by_counts (x ∷ xs) [] counts records = cc
lists_by_counts (x ∷ xs) (y ∷ ys) counts records =
    let size : length x ≡ length y = ap (λ (ns : List ℕ). get_or ns 0 0) counts in
    let rest : counts_of xs ≡ counts_of ys = ap (λ (ns : List ℕ). drop 1 ns) counts in
    let front : x ≡ y = sym (take-append_seam x (records_of xs)) ∙ ap₂ (λ (n : ℕ) (l : List _). take n l) size records ∙ take-append_seam y (records_of ys) in
    let back : records_of xs ≡ records_of ys = sym (drop-append_seam x (records_of xs)) ∙ ap₂ (λ (n : ℕ) (l : List _). drop n l) size records ∙ drop-append_seam y (records_of ys) in
    ap₂ ◌∷◌ front (lists_by_counts xs ys rest back)

-- records cut into lists of these lengths
abbrev pub cut : {X : Type 0} → List ℕ → List X → List (List X)
cut [] xs = []
cut (n ∷ counts) xs = take n xs ∷ cut counts (drop n xs)

pub counts_of-cut : {X : Type 0} (counts : List ℕ) (xs : List X) → sum counts ≤ length xs → counts_of (cut counts xs) ≡ counts
counts_of-cut [] xs le = refl
counts_of-cut (n ∷ counts) xs le = ap₂ ◌∷◌ (length-take-le n xs (omega (arith, le, sum-cons n counts))) (counts_of-cut counts (drop n xs) (omega (arith, le, length-drop n xs, sum-cons n counts)))

pub records_of-cut : {X : Type 0} (counts : List ℕ) (xs : List X) → length xs ≡ sum counts → records_of (cut counts xs) ≡ xs
records_of-cut [] [] e = refl
records_of-cut [] (x ∷ xs) e = absurd (omega (arith, e))
records_of-cut (n ∷ counts) xs e = ap (λ (ys : List _). take n xs ++ ys) (records_of-cut counts (drop n xs) (omega (arith, e, length-drop n xs, sum-cons n counts))) ∙ take-append-drop n xs

empty : {X : Type 0} (xs : List X) → length xs ≡ 0 → xs ≡ []
empty [] e = refl
empty (x ∷ xs) e = absurd (omega (arith, e))

-- the first records of the first list that isn't empty are the first of all
records_of-first : {X : Type 0} (lists : List (List X)) (s c : ℕ) → s < length lists → ((i : ℕ) → i < s → length (list_at lists i) ≡ 0)
    → take c (list_at lists s) ++ records_of (slice_set lists s (drop c (list_at lists s))) ≡ records_of lists
records_of-first [] s c lt none = absurd (omega (arith, lt))
records_of-first (list ∷ lists) zero c lt none = sym (append_assoc (take c list) (drop c list) (records_of lists)) ∙ ap (λ (l : List _). l ++ records_of lists) (take-append-drop c list)
records_of-first (list ∷ lists) (suc s) c lt none =
    let front : list ≡ [] = empty list (none 0 (omega arith)) in
    ap (λ (l : List _). take c (list_at lists s) ++ (l ++ records_of (slice_set lists s (drop c (list_at lists s))))) front
    ∙ records_of-first lists s c (omega (arith, lt)) (λ i h. none (suc i) (omega (arith, h))) ∙ ap (λ (l : List _). l ++ records_of lists) (sym front)

-- the first records of one list stand at the end of another, where all lists between them are empty
pub records_of-left : {X : Type 0} (lists : List (List X)) (t s c : ℕ) → t < s → s < length lists → ((i : ℕ) → t < i → i < s → length (list_at lists i) ≡ 0)
    → records_of (slice_set (slice_set lists t (list_at lists t ++ take c (list_at lists s))) s (drop c (list_at lists s))) ≡ records_of lists
records_of-left [] t s c lt within none = absurd (omega (arith, within))
records_of-left (list ∷ lists) t zero c lt within none = absurd (omega (arith, lt))
records_of-left (list ∷ lists) zero (suc s) c lt within none =
    append_assoc list (take c (list_at lists s)) (records_of (slice_set lists s (drop c (list_at lists s))))
    ∙ ap (λ (l : List _). list ++ l) (records_of-first lists s c (omega (arith, within)) (λ i h. none (suc i) (omega arith) (omega (arith, h))))
records_of-left (list ∷ lists) (suc t) (suc s) c lt within none =
    ap (λ (l : List _). list ++ l) (records_of-left lists t s c (omega (arith, lt)) (omega (arith, within)) (λ i h k. none (suc i) (omega (arith, h)) (omega (arith, k))))
