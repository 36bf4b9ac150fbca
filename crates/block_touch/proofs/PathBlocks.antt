-- A path touches few blocks, whatever the size of the blocks and however they are aligned.
use Rattle.std.proofs.Common.{◌≡◌, ℕ, zero, suc, ◌+◌, ◌-◌, ◌*◌, ◌/◌, ◌%◌, ◌^◌, ◌<◌, ◌≤◌, List, ◌++◌, map, sym, ap, subst, ◌∙◌, arith, inl, inr}
use Rattle.std.specs.Int.{div_ceil}
use Rattle.std.proofs.lemmas.Bool.{cases_lt}
use Rattle.std.proofs.lemmas.Grind.{div_ceil_times}
use Rattle.std.proofs.lemmas.Nat.{shr_below, mod_below, pow_pos}
use Rattle.std.proofs.Math.Nat.{mul-le-mul_right, mul-le-mul_left, add-mul, mul_assoc, mul_comm, le_of_mul-le-mul_right}
use Rattle.std.proofs.Math.Pow.{pow_mono}
use Rattle.veb_layout.specs.Layout.{top_levels, bottom_levels, part_start, path_to}
use Rattle.veb_layout.proofs.Ways.{length-way_to, path_to-split, path_to-within}
use Rattle.block_touch.specs.Blocks.{blocks_touched, levels_in, block_bound}
use Rattle.block_touch.proofs.Levels.{floor_log2-is, levels_in-some}
use Rattle.block_touch.proofs.Touching.{blocks_touched-none, blocks_touched-append, blocks_touched-moved, blocks_touched-short}

-- a path that is cut in two
blocks_touched-cut : (h i block align : ℕ) → 2 ≤ h → blocks_touched (path_to h i) block align ≤ blocks_touched (path_to (top_levels h) (i / 2 ^ bottom_levels h)) block align + blocks_touched (path_to (bottom_levels h) (i % 2 ^ bottom_levels h)) block (align + part_start h (i / 2 ^ bottom_levels h))
blocks_touched-cut h i block align high =
    let start = part_start h (i / 2 ^ (h - h / 2)) in
    let top = path_to (h / 2) (i / 2 ^ (h - h / 2)) in
    let bottom = path_to (h - h / 2) (i % 2 ^ (h - h / 2)) in
    let split : blocks_touched (path_to h i) block align ≡ blocks_touched (top ++ map (λ x. start + x) bottom) block align = ap (λ (xs : List ℕ). blocks_touched xs block align) (path_to-split h i high) in
    omega (arith, split, blocks_touched-append top (map (λ x. start + x) bottom) block align, blocks_touched-moved start bottom block align)

-- where a tree of that many levels fits a block
module _ (levels block : ℕ) (some : 1 ≤ levels) (fits : 2 ^ levels ≤ block + 1) where
  -- the path in such a tree
  low_path : (h i align : ℕ) → h ≤ levels → i < 2 ^ h → blocks_touched (path_to h i) block align ≤ 2
  low_path h i align low lt =
      let one : 2 ^ 1 ≤ 2 ^ levels = pow_mono some in
      let size : 2 ^ h ≤ 2 ^ levels = pow_mono low in
      blocks_touched-short (path_to h i) block align (omega arith) (λ k d below. omega (arith, path_to-within h i lt k d below))

  -- the path in any tree from half as many levels on, since each part that is not cut further has as many
  any_path : (fuel h i align : ℕ) → h ≤ fuel → (levels + 1) / 2 ≤ h → i < 2 ^ h → blocks_touched (path_to h i) block align * ((levels + 1) / 2) ≤ 2 * h
  any_path zero h i align few half lt = absurd (omega arith)
  any_path (suc fuel) h i align few half lt = elim (cases_lt levels h) [
    | inr low ↦ omega (arith, mul-le-mul_right ((levels + 1) / 2) (low_path h i align low lt))
    | inl high ↦
        let t = h / 2 in
        let b = h - h / 2 in
        let c = (levels + 1) / 2 in
        let whole : t + b ≡ h = omega arith in
        let part : i / 2 ^ b < 2 ^ t = shr_below i t b (subst (λ n. i < 2 ^ n) (sym whole) lt) in
        let top = any_path fuel t (i / 2 ^ b) align (omega arith) (omega arith) part in
        let bottom = any_path fuel b (i % 2 ^ b) (align + part_start h (i / 2 ^ b)) (omega arith) (omega arith) (mod_below i (2 ^ b) (pow_pos b)) in
        let m = blocks_touched (path_to t (i / 2 ^ b)) block align in
        let n = blocks_touched (path_to b (i % 2 ^ b)) block (align + part_start h (i / 2 ^ b)) in
        let joined : blocks_touched (path_to h i) block align * c ≤ (m + n) * c = mul-le-mul_right c (blocks_touched-cut h i block align (omega arith)) in
        let parts : (m + n) * c ≡ m * c + n * c = add-mul m n c in
        omega arith
  ]

-- as many blocks as in groups of levels
by_groups : (n h levels groups : ℕ) → 1 ≤ levels → h ≤ groups * levels → n * ((levels + 1) / 2) ≤ 2 * h → n ≤ 4 * groups
by_groups n h levels groups some fits few =
    let c = (levels + 1) / 2 in
    let twice : n * levels ≤ n * (2 * c) = mul-le-mul_left n (omega arith) in
    let turned : n * (2 * c) ≡ 2 * (n * c) = sym (mul_assoc n 2 c) ∙ ap (λ (m : ℕ). m * c) (mul_comm n 2) ∙ mul_assoc 2 n c in
    let regrouped : 4 * groups * levels ≡ 4 * (groups * levels) = mul_assoc 4 groups levels in
    let enough : n * levels ≤ 4 * groups * levels = omega arith in
    le_of_mul-le-mul_right enough some

some_groups : (h levels groups : ℕ) → 1 ≤ h → h ≤ groups * levels → 1 ≤ groups
some_groups h levels zero some fits = absurd (omega arith)
some_groups h levels (suc groups) some fits = omega arith

-- a path of no node has the bound 0
pub block_bound-none : (block : ℕ) → 1 ≤ block → block_bound 0 block ≡ 0
unfolding block_bound
block_bound-none block some = omega (arith, levels_in-some block some)

-- the block law
pub blocks_touched-path_to : (h block align i : ℕ) → 1 ≤ block → i < 2 ^ h → blocks_touched (path_to h i) block align ≤ block_bound h block
unfolding block_bound
blocks_touched-path_to zero block align i some lt = omega (arith, blocks_touched-none (path_to 0 i) block align (length-way_to 0 0 i))
blocks_touched-path_to (suc k) block align i some lt =
    let h = suc k in
    let levels = levels_in block in
    let levels_some : 1 ≤ levels = levels_in-some block some in
    let fits : 2 ^ levels ≤ block + 1 = (floor_log2-is (block + 1) (omega arith)).power_le in
    let groups = (div_ceil_times h levels levels_some).0 in
    elim (cases_lt levels h) [
      | inr low ↦ omega (arith, low_path levels block levels_some fits h i align low lt, some_groups h levels (div_ceil h levels) (omega arith) groups)
      | inl high ↦ by_groups (blocks_touched (path_to h i) block align) h levels (div_ceil h levels) levels_some groups (any_path levels block levels_some fits h h i align (omega arith) (omega arith) lt)
    ]
