-- What an update needs.
use Rattle.std.specs.Prelude.{◌≡◌, ℕ, ◌+◌, ◌-◌, ◌/◌, ◌^◌, ◌<◌, ◌≤◌, ◌==◌, nat_lt, Bool, true, false, if◌then◌else◌, sum, Option, Some, None}
use Rattle.density_rule.specs.Bounds.{upper_of, IsInBounds}
use Rattle.density_rule.specs.Windows.{IsWindow, count_in}
use Rattle.window_tally.specs.declared.Change.{Change}
use Rattle.window_tally.specs.declared.Change.TheVariants.{Add, Take}
use Rattle.window_tally.specs.declared.Pick.{Pick}
use Rattle.window_tally.specs.declared.Pick.TheVariants.{Fits, Spread, Grow, Shrink, AtLimit}
use Rattle.window_tally.specs.TallyView.{TallyView}

-- whether it is one record more
abbrev pub adds : Change → Bool
adds Add = true
adds Take = false

-- if the whole store would be outside its bounds
abbrev pub resize_of : ℕ → ℕ → Change → Pick
resize_of hmax height Add = if nat_lt height hmax then Grow else AtLimit
resize_of hmax height Take = Shrink

-- by the greatest height whose window over the segment would be outside its bounds
abbrev pub pick_of : ℕ → ℕ → ℕ → Change → Option ℕ → Pick
pick_of hmax height segment change None = Fits
pick_of hmax height segment change (Some h) = if h == height then resize_of hmax height change else Spread (record { height = h + 1; number = segment / 2 ^ (h + 1) })

-- what is needed can be done: the window may be spread, the records fit the new height. At the limit they cannot
abbrev pub IsPossible : TallyView → Pick → Type 0
IsPossible t Fits = Unit {0}
IsPossible t (Spread w) = IsWindow t.height w.height w.number × (1 ≤ w.height) × IsInBounds t.height w.height (count_in t.counts w.height w.number)
IsPossible t Grow = (t.height < t.hmax) × IsInBounds (t.height + 1) (t.height + 1) (sum t.counts)
IsPossible t Shrink = (1 ≤ t.height) × IsInBounds (t.height - 1) (t.height - 1) (sum t.counts)
IsPossible t AtLimit = (t.height ≡ t.hmax) × (sum t.counts ≡ upper_of t.hmax)
