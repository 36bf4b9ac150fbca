-- Bytes that are to be zeros, gathered in the lanes of vectors.
use Rattle.std.specs.Prelude.{◌≡◌, ℕ, ◌+◌, ◌<◌, nat_le, List, length, if◌then◌else◌, slice_index}

-- no lane holds anything
abbrev pub AreNone : List ℕ → Type 0
AreNone lanes = (i : ℕ) → slice_index lanes i ≡ 0

-- 255 at each of 16 bytes that is to be zero, and 0 at the others: those of a field that has `reach` bytes from `before` bytes
-- before the first of them on
pub record IsMask (before reach : ℕ) (lanes : List ℕ) : Type 0 where
  pub size : length lanes ≡ 16
  pub each : (i : ℕ) → i < 16 → slice_index lanes i ≡ (if nat_le reach (before + i) then 255 else 0)
