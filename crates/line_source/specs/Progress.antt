-- How far a script was read by calls of `next_line`, one after another.
use Rattle.std.specs.Prelude.{◌≡◌, ℕ, ◌+◌, ◌<◌, ◌≤◌, true, false, List, [], ◌∷◌, ◌++◌, length}
use Rattle.std.specs.Str.Lines.{strip_carriage_return}
use Rattle.line_source.specs.Lines.{raw_lines, complete_lines, line_limit}
use Rattle.line_source.specs.SourceView.{SourceView, SourceTold, TookFront, Went}
use Rattle.line_source.specs.LineReaderView.{ReaderView, rest}
use Rattle.line_source.specs.declared.reader.LineStep.{LineStep}
use Rattle.line_source.specs.declared.reader.LineStep.TheVariants.{Line, LongLine, End, ReadFailed, Spent}

-- a script begins with these lines, each with its line feed, and then comes `behind`
pub record BeginsWith (script behind : List ℕ) (lines : List (List ℕ)) : Type 0 where
  -- these lines, as they stand in the script
  pub front : List ℕ
  pub is : script ≡ front ++ behind
  -- they are the complete lines of that front, whatever follows it
  pub complete : (tail : List ℕ) → complete_lines (front ++ tail) ≡ lines ++ complete_lines tail

-- calls that began at r0 and s0 gave these lines, none of them the last answer, and stand now at r and s
pub record HasGiven (r0 : ReaderView) (s0 : SourceView) (given : List (List ℕ)) (r : ReaderView) (s : SourceView) : Type 0 where
  -- the last answer is not given yet
  pub fresh : r.done ≡ false
  -- no more bytes may be taken than at the start
  pub room : r.room ≤ r0.room
  -- the source goes on telling or not telling, and its count of failed reads didn't fall; an end that was seen stays seen
  pub went : Went s0 s
  pub ended : r0.ended ≡ true → r.ended ≡ true
  -- if the source tells what it has left, these lines and those that are still to be given are the lines of the script
  pub lines : SourceTold s0 → raw_lines (rest r0 s0) ≡ given ++ raw_lines (rest r s)
  -- until the end is seen, the script begins with these lines, each with its line feed
  pub begins : SourceTold s0 → r.ended ≡ false → BeginsWith (rest r0 s0) (rest r s) given
  -- each byte taken lowered the room by one, and what was taken is a front of what was left
  pub taken : SourceTold s0 → length s0.left + r.room ≡ length s.left + r0.room
  pub front : SourceTold s0 → TookFront s0 s
  -- the end was seen, if it wasn't at the start, only if nothing is left and there was room for more
  pub met : SourceTold s0 → r0.ended ≡ false → r.ended ≡ true → (s.left ≡ []) × (length s0.left < r0.room)

-- `raw` is the line, as it stands in the script, that an answer speaks of; `line` is what the reader shows then
abbrev pub IsLineOf : LineStep → List ℕ → List ℕ → Type 0
IsLineOf Line raw line = (length raw ≤ line_limit) × (line ≡ strip_carriage_return raw)
IsLineOf LongLine raw line = line_limit < length raw
IsLineOf End raw line = ⊥
IsLineOf ReadFailed raw line = ⊥
IsLineOf Spent raw line = ⊥

-- one line more was given
pub record GivesOne (r0 : ReaderView) (s0 : SourceView) (given : List (List ℕ)) (step : LineStep) (r : ReaderView) (s : SourceView) : Type 0 where
  -- the line as the script has it
  pub raw : List ℕ
  -- it is the line that the answer speaks of
  pub line : SourceTold s0 → IsLineOf step raw r.line
  -- and one more than was given before
  pub more : HasGiven r0 s0 (given ++ raw ∷ []) r s

-- the lines given are exactly the complete ones among the bytes taken; what wasn't taken is left
pub record IsCutShort (script left : List ℕ) (given : List (List ℕ)) : Type 0 where
  -- the bytes taken, behind which is what is left
  pub taken : List ℕ
  pub is : script ≡ taken ++ left
  -- their complete lines are those given
  pub complete : complete_lines taken ≡ given

-- what a last answer says of all that was to be given, if the source tells it: at the end every line was given,
-- nothing is left, and fewer bytes were there than might have been taken; else the complete lines among the bytes taken
-- were, and at `Spent` these bytes are as many as might be taken
abbrev pub GivesAll : LineStep → ReaderView → SourceView → List (List ℕ) → SourceView → Type 0
GivesAll Line r0 s0 given s = ⊥
GivesAll LongLine r0 s0 given s = ⊥
GivesAll End r0 s0 given s = (raw_lines (rest r0 s0) ≡ given) × (r0.ended ≡ false → (s.left ≡ []) × (length s0.left < r0.room))
GivesAll ReadFailed r0 s0 given s = IsCutShort (rest r0 s0) s.left given
GivesAll Spent r0 s0 given s = IsCutShort (rest r0 s0) s.left given × (length s0.left ≡ length s.left + r0.room)
