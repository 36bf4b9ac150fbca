-- What an update of one segment does to the counts and marks.
use Rattle.std.specs.Prelude.{◌≡◌, ℕ, ◌+◌, Bool, true, false, Option, Some, None}
use Rattle.density_rule.specs.CountUpdates.{counts_after}
use Rattle.density_rule.specs.Marks.{updated_marks}
use Rattle.window_tally.specs.declared.Change.{Change}
use Rattle.window_tally.specs.declared.Change.TheVariants.{Add, Take}
use Rattle.window_tally.specs.Choice.{adds}
use Rattle.window_tally.specs.TallyView.{TallyView}

-- the tally after an update of a segment, which adds a record, takes one, or does neither
abbrev pub counted : Option Change → ℕ → TallyView → TallyView
counted None at t = t
counted (Some change) at t = record t { counts = counts_after (adds change) t.counts at; marks = updated_marks t.height at t.marks }

-- a number of records, and one record more, or one less
abbrev pub SumsOne : Change → ℕ → ℕ → Type 0
SumsOne Add before after = after ≡ before + 1
SumsOne Take before after = after + 1 ≡ before

-- so it is if the number changes, and else they are as many
abbrev pub SumsIf : Bool → Change → ℕ → ℕ → Type 0
SumsIf true change before after = SumsOne change before after
SumsIf false change before after = after ≡ before
