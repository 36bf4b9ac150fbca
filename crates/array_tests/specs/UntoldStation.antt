-- What is left of a station's meanings where none of them is told.
use Rattle.std.specs.Prelude.{false}
use Rattle.std.proofs.lemmas.Bool.{false≢true}
use Rattle.station.specs.View.{View, Lawful}

abbrev pub untell : View → View
untell v = record v { fixed = record v.fixed { tells_held = false; tells_said = false; honest = false } }

pub untold_lawful : (v : View) → Lawful v → Lawful (untell v)
untold_lawful v law = record {
  reach = law.reach;
  tells = λ honest. absurd (false≢true honest);
  held = λ honest. absurd (false≢true honest);
  sizes = λ honest. absurd (false≢true honest);
  now = λ honest. absurd (false≢true honest);
  present = λ honest. absurd (false≢true honest);
}
