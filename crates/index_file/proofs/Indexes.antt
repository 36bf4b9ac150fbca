-- A file with an index keeps it through a run.
use Rattle.std.proofs.Common.{ℕ, List, ap, arith}
use Rattle.station.specs.View.{View, Fixed}
use Rattle.station.specs.Steps.{Steps}
use Rattle.header_gate.specs.declared.layout.Layout.{Layout}
use Rattle.index_file.specs.IndexReading.{HasIndex}

pub index_on : {l : Layout} {a b : View} {R : List ℕ → List ℕ → Type 0} → HasIndex l a → Steps R a b → HasIndex l b
index_on is steps = record { layout = is.layout; indexed = is.indexed; reach = omega (arith, is.reach, ap (λ (f : Fixed). f.reach) steps.frame.fixed) }
