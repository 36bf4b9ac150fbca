-- What the steps inside a call of the reader say.
use Rattle.std.specs.Prelude.{◌≡◌, ℕ, ◌+◌, ◌<◌, ◌≤◌, ◌⊎◌, Bool, true, false, List, [], ◌++◌, length}
use Rattle.std.specs.Str.Lines.{strip_carriage_return}
use Rattle.line_source.specs.Lines.{line_limit}
use Rattle.line_source.specs.SourceView.{SourceView, SourceTold, SourceRose}
use Rattle.line_source.specs.LineReaderView.{ReaderView}
use Rattle.line_source.specs.declared.reader.LineStep.{LineStep}
use Rattle.line_source.specs.declared.reader.LineStep.TheVariants.{Line, LongLine, End}

-- a piece with some byte was taken, or the end was met
pub data IsPiece (piece : List ℕ) (ended : Bool) (source : SourceView) (after : SourceView) : Type 0 where
  a_piece : 0 < length piece → ended ≡ false → IsPiece piece ended source after
  no_piece : piece ≡ [] → ended ≡ true → (SourceTold source → after.left ≡ []) → IsPiece piece ended source after

-- a piece stands behind what was held
pub record HasTaken (old : ReaderView) (before : SourceView) (new : ReaderView) (after : SourceView) : Type 0 where
  pub piece : List ℕ
  pub kind : IsPiece piece new.ended before after
  pub held : new.held ≡ old.held ++ piece
  pub room : new.room + length piece ≡ old.room
  pub left : SourceTold before → before.left ≡ piece ++ after.left

-- nothing was taken, since a read failed
pub record HasFailed (old : ReaderView) (before : SourceView) (new : ReaderView) (after : SourceView) : Type 0 where
  pub held : new.held ≡ old.held
  pub room : new.room ≡ old.room
  pub ended : new.ended ≡ old.ended
  pub left : SourceTold before → after.left ≡ before.left
  pub rose : SourceRose before after

-- what stays if held bytes are given or let go
pub record IsKept (old new : ReaderView) : Type 0 where
  pub room : new.room ≡ old.room
  pub ended : new.ended ≡ old.ended
  pub done : new.done ≡ old.done

-- the last piece of a line makes it a line or a long one; `long` says that its front was let go
pub data IsGiven (step : LineStep) (long : Bool) (raw line : List ℕ) : Type 0 where
  a_line : step ≡ Line → long ≡ false → length raw ≤ line_limit → line ≡ strip_carriage_return raw → IsGiven step long raw line
  a_long_line : step ≡ LongLine → line ≡ [] → (long ≡ true) ⊎ (line_limit < length raw) → IsGiven step long raw line

-- what is given if the end was met
pub data GivesLast (step : LineStep) (long : Bool) (old new : ReaderView) : Type 0 where
  the_end : step ≡ End → long ≡ false → old.held ≡ [] → new ≡ record old { line = []; done = true } → GivesLast step long old new
  last_line : (long ≡ true) ⊎ (0 < length old.held) → new.held ≡ [] → IsKept old new → IsGiven step long old.held new.line → GivesLast step long old new

-- the front of a line that is too long is let go, and is remembered
pub data LetsGo (was is : Bool) (old new : ReaderView) : Type 0 where
  drops : is ≡ true → line_limit < length old.held → new.held ≡ [] → LetsGo was is old new
  keeps : is ≡ was → new ≡ old → LetsGo was is old new
