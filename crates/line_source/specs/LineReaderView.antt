-- What a reader of lines means, and what is still to come from it.
use Rattle.std.specs.Prelude.{◌≡◌, ℕ, ◌<◌, Bool, if◌then◌else◌, List, ◌++◌, length, take, slice_index}
use Rattle.line_source.specs.SourceView.{SourceView}
use Rattle.line_source.specs.Lines.{NoFeed}

-- what a reader of lines holds and may still take
pub record ReaderView : Type 0 where
  -- what was taken and is not given yet
  pub held : List ℕ
  -- the line that was given last
  pub line : List ℕ
  -- how many bytes it may still take
  pub room : ℕ
  -- whether the source answered that its script is at its end
  pub ended : Bool
  -- whether the reader gave its last answer
  pub done : Bool

-- what is still to be given: what is held, and behind it what the source has left
abbrev pub rest : ReaderView → SourceView → List ℕ
rest reader source = if reader.ended then reader.held else reader.held ++ source.left

-- the first line feed stands at this place
pub record IsFirstFeed (bytes : List ℕ) (at : ℕ) : Type 0 where
  pub within : at < length bytes
  pub is : slice_index bytes at ≡ 10
  pub before : NoFeed (take at bytes)
