-- What a station means that tells nothing: counts alone, and no bytes.
use Rattle.std.specs.Prelude.{ℕ, ◌^◌, [], Option, None, Bool, false}
use Rattle.std.proofs.Common.{arith}
use Rattle.std.proofs.lemmas.Bool.{false≢true}
use Rattle.station.specs.View.{View, Lawful}
use Rattle.station.specs.declared.travel.Travel.{Travel}

-- a station that tells none of its optional meanings
abbrev pub untold_station : Option Bool → ℕ → ℕ → ℕ → Travel → View
untold_station attached calls disk_faults say_faults travel = record {
  fixed = record { tells_held = false; tells_said = false; honest = false; name = None; reach = 2 ^ 40 };
  held = [];
  said = [];
  may_leave = λ image. ⊥;
  may_have_left = λ t image said. ⊥;
  calls = calls;
  attached = attached;
  disk_faults = disk_faults;
  say_faults = say_faults;
  travel = travel;
}

pub untold_lawful : (attached : Option Bool) (calls disk_faults say_faults : ℕ) (travel : Travel) → Lawful (untold_station attached calls disk_faults say_faults travel)
untold_lawful attached calls disk_faults say_faults travel = record {
  reach = omega arith;
  tells = λ honest. absurd (false≢true honest);
  held = λ honest. absurd (false≢true honest);
  sizes = λ honest. absurd (false≢true honest);
  now = λ honest. absurd (false≢true honest);
  present = λ honest. absurd (false≢true honest);
}
