-- What a source means to those who read it.
use Rattle.std.specs.Prelude.{◌≡◌, ℕ, ◌+◌, ◌-◌, ◌^◌, ◌≤◌, min, Bool, true, List, ◌++◌}

-- what a source means
pub record SourceView : Type 0 where
  -- whether the source tells what it has left
  pub tells : Bool
  -- what is left, if the source tells it
  pub left : List ℕ
  -- how many reads failed so far
  pub faults : ℕ

abbrev pub SourceTold : SourceView → Type 0
SourceTold source = source.tells ≡ true

-- what holds of every call: a source goes on telling, or not telling, and the count of failed reads never falls
pub record Went (old new : SourceView) : Type 0 where
  pub tells : new.tells ≡ old.tells
  pub faults : old.faults ≤ new.faults

-- what was taken is a front of what was left
pub record TookFront (old new : SourceView) : Type 0 where
  pub front : List ℕ
  pub is : old.left ≡ front ++ new.left

-- a read failed; a count stands still at the last value of a `u64`
abbrev pub SourceRose : SourceView → SourceView → Type 0
SourceRose old new = min (old.faults + 1) (2 ^ 64 - 1) ≤ new.faults

-- What `SourceRose` says in place, for what counts its calls.

-- one more, up to the last value of a `u64`
abbrev pub one_fault_more : ℕ → ℕ
one_fault_more count = min (count + 1) (2 ^ 64 - 1)
