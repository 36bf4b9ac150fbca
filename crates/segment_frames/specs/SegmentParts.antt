-- Segments that are read or written in parts, each by one call of the device.
use Rattle.std.specs.Prelude.{ℕ, ◌+◌, ◌-◌, ◌*◌, ◌/◌, ◌<◌, ◌≤◌}

-- how many parts that many segments come to, if a part has room for that many
abbrev pub parts : ℕ → ℕ → ℕ
parts room count = (count + (room - 1)) / room

-- that many parts were made of the first segments, and each of them is a whole one but the last of all
pub record InParts (room count done made : ℕ) : Type 0 where
  pub whole : done < count → room * made ≤ done
  pub few : made ≤ parts room count

-- the calls from one count of calls to another go on so, from one number of segments to another
abbrev pub GoesInParts : ℕ → ℕ → ℕ → ℕ → ℕ → ℕ → Type 0
GoesInParts room count from to before after = (made : ℕ) → InParts room count from made → (now : ℕ) × InParts room count to now × (after + made ≤ before + now)
