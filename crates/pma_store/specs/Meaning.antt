-- Which map a file means while an update or a batch is made, and that it keeps its layout.
use Rattle.std.specs.Prelude.{◌⊎◌, ℕ, List}
use Rattle.batch_intent.specs.Means.{Means}
use Rattle.header_gate.specs.declared.layout.Layout.{Layout}
use Rattle.map_model.specs.Store.{Map}

-- the image has this layout and means this map
abbrev pub MeansNow : Layout → Map → List ℕ → List ℕ → Type 0
MeansNow layout all start image = Means layout image all

-- the image has this layout, and means the one map or the other
abbrev pub BecomesMeant : Layout → Map → Map → List ℕ → List ℕ → Type 0
BecomesMeant layout old new start image = Means layout image old ⊎ Means layout image new
