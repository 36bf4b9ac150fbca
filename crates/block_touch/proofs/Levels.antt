-- The logarithm rounded down.
use Rattle.std.proofs.Common.{◌≡◌, ℕ, zero, suc, ◌+◌, ◌*◌, ◌/◌, ◌^◌, ◌<◌, ◌≤◌, refl, sym, subst, arith, inl, inr}
use Rattle.std.proofs.lemmas.Bool.{cases_lt, lt-leb, le-leb}
use Rattle.std.proofs.Math.Pow.{pow_mono, pow_pos}
use Rattle.block_touch.specs.Blocks.{halvings, floor_log2, levels_in}

-- the powers of 2 around a number
pub record IsFloorLog2 (k n : ℕ) : Type 0 where
  pub power_le : 2 ^ k ≤ n
  pub next_power_gt : n < 2 * 2 ^ k

halved : (k n : ℕ) → 2 ≤ n → IsFloorLog2 k (n / 2) → IsFloorLog2 (suc k) n
halved k n high is = let double : 2 ^ suc k ≡ 2 * 2 ^ k = omega arith in record { power_le = omega (arith, is.power_le); next_power_gt = omega (arith, is.next_power_gt) }

halvings-is : (tries n : ℕ) → 1 ≤ n → n ≤ tries → IsFloorLog2 (halvings tries n) n
halvings-is zero n some few = absurd (omega arith)
halvings-is (suc tries) n some few = elim (cases_lt 1 n) [
  | inl high ↦
      let more : halvings (suc tries) n ≡ suc (halvings tries (n / 2)) = rw (lt-leb n 1 high) refl in
      subst (λ k. IsFloorLog2 k n) (sym more) (halved (halvings tries (n / 2)) n high (halvings-is tries (n / 2) (omega arith) (omega arith)))
  | inr low ↦
      let none : halvings (suc tries) n ≡ 0 = rw (le-leb n 1 low) refl in
      subst (λ k. IsFloorLog2 k n) (sym none) (record { power_le = omega arith; next_power_gt = omega arith })
]

pub floor_log2-is : (n : ℕ) → 1 ≤ n → IsFloorLog2 (floor_log2 n) n
unfolding floor_log2
floor_log2-is n some = halvings-is n n some (omega arith)

-- there is one such number
not_above : (j k n : ℕ) → 2 ^ j ≤ n → n < 2 * 2 ^ k → j ≤ k
not_above j k n le lt = elim (cases_lt k j) [
  | inl above ↦ let next : 2 ^ suc k ≤ 2 ^ j = pow_mono above in absurd (omega arith)
  | inr below ↦ below
]

pub floor_log2-from : (k n : ℕ) → IsFloorLog2 k n → floor_log2 n ≡ k
floor_log2-from k n is =
    let found = floor_log2-is n (omega (arith, pow_pos k, is.power_le)) in
    omega (arith, not_above (floor_log2 n) k n found.power_le is.next_power_gt, not_above k (floor_log2 n) n is.power_le found.next_power_gt)

-- a block takes a tree of one level at least
pub levels_in-some : (block : ℕ) → 1 ≤ block → 1 ≤ levels_in block
levels_in-some block some =
    let found = floor_log2-is (block + 1) (omega arith) in
    elim (cases_lt 0 (levels_in block)) [
      | inl above ↦ above
      | inr none ↦
          let zero_is : levels_in block ≡ 0 = omega arith in
          let next : block + 1 < 2 * 2 ^ 0 = subst (λ (k : ℕ). block + 1 < 2 * 2 ^ k) zero_is found.next_power_gt in
          absurd (omega arith)
    ]
