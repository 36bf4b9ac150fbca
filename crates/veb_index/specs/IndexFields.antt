-- What is true of the fields of an index, and what callers see of them.
use Rattle.std.specs.Prelude.{◌≡◌, ℕ, ◌-◌, ◌^◌, ◌≤◌, List, length, take}
use Rattle.key_slot.specs.Record.{Bytes}
use Rattle.veb_index.specs.FenceFronts.{AreFronts}
use Rattle.veb_index.specs.IndexView.{IndexView}
use Rattle.veb_index.specs.declared.index.Index.TheInside.{Inside}

-- the fences of an index of a height stand first
abbrev pub view_of : Inside → IndexView
view_of a = record { hmax = a.hmax; height = a.tables; fences = take (2 ^ a.tables - 1) a.fences.items }

pub record HasRoom (hmax height : ℕ) (fences : List Bytes) : Type 0 where
  pub low : hmax ≤ 16
  pub within : height ≤ hmax
  pub size : length fences ≡ 2 ^ hmax - 1

-- and each has its front beside it
pub record IsKept (a : Inside) : Type 0 where
  pub room : HasRoom a.hmax a.tables a.fences.items
  pub fronts : AreFronts a.fences.items a.fronts.items
