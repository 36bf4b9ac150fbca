-- What the answers of a reader say of what was still to be given.
use Rattle.std.specs.Prelude.{◌≡◌, ℕ, ◌+◌, ◌<◌, ◌≤◌, ◌⊎◌, Bool, true, false, List, [], ◌∷◌, ◌++◌, length, take}
use Rattle.std.specs.Str.Lines.{strip_carriage_return}
use Rattle.line_source.specs.Lines.{NoFeed, raw_lines, line_limit}
use Rattle.line_source.specs.SourceView.{SourceView, TookFront, SourceRose}
use Rattle.line_source.specs.LineReaderView.{ReaderView, rest}
use Rattle.line_source.specs.declared.reader.LineStep.{LineStep}
use Rattle.line_source.specs.declared.reader.LineStep.TheVariants.{Line, LongLine, End, ReadFailed, Spent}

-- `raw` is the first line of `old`, and `new` is what follows it; a line without a line feed comes only at the end
pub record IsNext (old raw new : List ℕ) (ended : Bool) : Type 0 where
  pub lines : raw_lines old ≡ raw ∷ raw_lines new
  pub no_feed : NoFeed raw
  pub split : (old ≡ raw ++ 10 ∷ new) ⊎ ((old ≡ raw) × (new ≡ []) × (ended ≡ true))

-- of what was to be given a part of a line was taken, and all behind it is left
pub record IsCut (old left : List ℕ) : Type 0 where
  pub part : List ℕ
  pub no_feed : NoFeed part
  pub is : old ≡ part ++ left

-- the next line was given, without one carriage return at its end
pub record GivesLine (old : List ℕ) (reader : ReaderView) (source : SourceView) : Type 0 where
  -- the line as the script has it
  pub raw : List ℕ
  -- it is the first of what was to be given, and what follows it is still to be given
  pub next : IsNext old raw (rest reader source) reader.ended
  -- it has at most 512 bytes, and is given without one carriage return at its end
  pub short : length raw ≤ line_limit
  pub line : reader.line ≡ strip_carriage_return raw

-- the next line was skipped, since it is too long
pub record SkipsLine (old : List ℕ) (reader : ReaderView) (source : SourceView) : Type 0 where
  -- the line as the script has it
  pub raw : List ℕ
  -- it is the first of what was to be given, and what follows it is still to be given
  pub next : IsNext old raw (rest reader source) reader.ended
  -- it has more than 512 bytes
  pub long : line_limit < length raw

-- nothing was to be given
pub record GivesEnd (old : List ℕ) (reader : ReaderView) (source : SourceView) : Type 0 where
  pub before : old ≡ []
  pub after : rest reader source ≡ []

-- what an answer says of what was to be given before it, if the source tells it
abbrev pub Gives : LineStep → List ℕ → ReaderView → SourceView → Type 0
Gives Line = GivesLine
Gives LongLine = SkipsLine
Gives End = GivesEnd
Gives ReadFailed = λ old reader source. IsCut old source.left
Gives Spent = λ old reader source. IsCut old source.left

-- what an answer says on every source
abbrev pub Tells : LineStep → ReaderView → SourceView → SourceView → Type 0
Tells Line reader before after = length reader.line ≤ line_limit
Tells LongLine reader before after = reader.line ≡ []
Tells End reader before after = (reader.line ≡ []) × (reader.ended ≡ true)
Tells ReadFailed reader before after = (reader.line ≡ []) × (reader.ended ≡ false) × SourceRose before after
Tells Spent reader before after = (reader.line ≡ []) × (reader.ended ≡ false) × (reader.room ≡ 0)

-- whether it is the last answer
abbrev pub is_last : LineStep → Bool
is_last Line = false
is_last LongLine = false
is_last End = true
is_last ReadFailed = true
is_last Spent = true

-- with all the bytes that may be taken neither a complete line nor the end is met
pub record IsSpent (reader : ReaderView) (source : SourceView) : Type 0 where
  -- the end was not seen
  pub more : reader.ended ≡ false
  -- what is held and the bytes that may still be taken have no line feed
  pub no_feed : NoFeed (reader.held ++ take reader.room source.left)
  -- the source has at least as many bytes left as may still be taken
  pub room : reader.room ≤ length source.left

-- `Spent` comes exactly there, unless a read fails
pub record IsExact (step : LineStep) (reader : ReaderView) (source : SourceView) : Type 0 where
  pub only : step ≡ Spent → IsSpent reader source
  pub always : IsSpent reader source → (step ≡ Spent) ⊎ (step ≡ ReadFailed)

-- each byte taken lowers the room by one, what was taken is a front of what was left, and the end is seen only if
-- nothing is left and there is room for more
pub record Takes (old : ReaderView) (before : SourceView) (new : ReaderView) (after : SourceView) : Type 0 where
  pub count : length before.left + new.room ≡ length after.left + old.room
  pub end : old.ended ≡ false → new.ended ≡ true → (after.left ≡ []) × (0 < new.room)
  pub front : TookFront before after
