-- What a source in memory means.
use Rattle.std.specs.Prelude.{ℕ, true, List}
use Rattle.line_source.specs.SourceView.{SourceView}

-- what a source in memory gives, and what it counted
pub record MemView : Type 0 where
  -- what is left
  pub left : List ℕ
  -- how many bytes a call gives at most
  pub piece : ℕ
  -- the numbers of the calls that fail
  pub fail : List ℕ
  -- how many calls there were, up to the last value of a `u64`
  pub calls : ℕ
  -- how many of them failed, likewise
  pub faults : ℕ

-- it tells what it has left
abbrev pub as_source : MemView → SourceView
as_source memory = record { tells = true; left = memory.left; faults = memory.faults }
