-- The blocks that lists of places touch.
use Rattle.std.proofs.Common.{◌≡◌, ℕ, ◌+◌, ◌/◌, ◌<◌, ◌≤◌, ◌==◌, Bool, true, false, ◌||◌, List, [], ◌∷◌, ◌++◌, map, length, get_or, refl, sym, ap, subst, ◌∙◌, arith, nat_eq}
use Rattle.std.specs.List.{All, list_any}
use Rattle.std.specs.Set.{distinct_count}
use Rattle.std.proofs.lemmas.Simd.{map-map}
use Rattle.std.proofs.lemmas.List.{map-append}
use Rattle.std.proofs.lemmas.List.Elements.{All-map}
use Rattle.std.proofs.lemmas.Nat.{mod_below, div_below, le-div, div-add-mod'}
use Rattle.std.proofs.Math.Nat.{div-mul-le_self, add_assoc, add-mul}
use Rattle.block_touch.specs.Blocks.{block_of, blocks_touched}
use Rattle.block_touch.proofs.Counting.{distinct_count-met, distinct_count-new, distinct_count-append, distinct_count-neighbours}

-- no place touches no block
pub blocks_touched-none : (xs : List ℕ) (block align : ℕ) → length xs ≡ 0 → blocks_touched xs block align ≡ 0
unfolding blocks_touched
blocks_touched-none [] block align none = refl
blocks_touched-none (x ∷ xs) block align none = absurd (omega arith)

-- one place more: in a block that is met again, or not
list_any-map : (p : ℕ → Bool) (f : ℕ → ℕ) (xs : List ℕ) → list_any p (map f xs) ≡ list_any (λ x. p (f x)) xs
list_any-map p f [] = refl
list_any-map p f (x ∷ xs) = ap (λ b. p (f x) || b) (list_any-map p f xs)

module _ (x : ℕ) (xs : List ℕ) (block align : ℕ) where
  pub blocks_touched-met : list_any (λ p. block_of block align x == block_of block align p) xs ≡ true → blocks_touched (x ∷ xs) block align ≡ blocks_touched xs block align
  unfolding blocks_touched
  blocks_touched-met met = distinct_count-met (block_of block align x) (map (block_of block align) xs) (list_any-map (nat_eq (block_of block align x)) (block_of block align) xs ∙ met)

  pub blocks_touched-new : list_any (λ p. block_of block align x == block_of block align p) xs ≡ false → blocks_touched (x ∷ xs) block align ≡ blocks_touched xs block align + 1
  unfolding blocks_touched
  blocks_touched-new new = distinct_count-new (block_of block align x) (map (block_of block align) xs) (list_any-map (nat_eq (block_of block align x)) (block_of block align) xs ∙ new)

-- two lists of places touch no more blocks than each by itself
pub blocks_touched-append : (xs ys : List ℕ) (block align : ℕ) → blocks_touched (xs ++ ys) block align ≤ blocks_touched xs block align + blocks_touched ys block align
unfolding blocks_touched
blocks_touched-append xs ys block align =
    subst (λ bs. distinct_count nat_eq bs ≤ blocks_touched xs block align + blocks_touched ys block align) (sym (map-append (block_of block align) xs ys)) (distinct_count-append (map (block_of block align) xs) (map (block_of block align) ys))

-- places that lie `by` further on are places of another alignment
pub blocks_touched-moved : (by : ℕ) (xs : List ℕ) (block align : ℕ) → blocks_touched (map (λ x. by + x) xs) block align ≡ blocks_touched xs block (align + by)
unfolding blocks_touched
blocks_touched-moved by xs block align =
    let same : (λ (x : ℕ). block_of block align (by + x)) ≡ block_of block (align + by) = λ i x. sym (add_assoc align by x) i / block in
    ap (distinct_count nat_eq) (map-map (block_of block align) (λ x. by + x) xs ∙ ap (λ f. map f xs) same)

-- places within one block's length lie in two blocks at most
pub blocks_touched-short : (xs : List ℕ) (block align : ℕ) → 1 ≤ block → All (λ x. x < block) xs → blocks_touched xs block align ≤ 2
unfolding blocks_touched
blocks_touched-short xs block align some all = distinct_count-neighbours (align / block) (map (block_of block align) xs) (All-map (λ b. (align / block ≤ b) × (b < align / block + 2)) (block_of block align) xs near)
  where
    near : All (λ x. (align / block ≤ block_of block align x) × (block_of block align x < align / block + 2)) xs
    near k d lt =
        let x = get_or xs k d in
        let within : x < block = all k d lt in (
          le-div (align / block) (align + x) block some (omega (arith, div-mul-le_self align block)),
          div_below (align + x) block (align / block + 2) some (omega (arith, add-mul (align / block) 2 block, div-add-mod' align block, mod_below align block some)),
        )
