-- What a place and a tally say of a file.
use Rattle.std.specs.Prelude.{ℕ, List}
use Rattle.map_model.specs.Standing.{IsSettled, StandsWith}
use Rattle.redo_journal.specs.declared.place.Place.{Place}
use Rattle.window_tally.specs.TallyView.{TallyView}

-- the image is a valid file at this place; if it has one journal, its gate is even
abbrev pub IsSettledAt : Place → List ℕ → Type 0
IsSettledAt place image = IsSettled place.layout place.region image

-- besides, a tally has its height and the counts of its array
abbrev pub StandsFor : Place → TallyView → List ℕ → Type 0
StandsFor place tally image = StandsWith place.layout place.region tally.height tally.counts image
