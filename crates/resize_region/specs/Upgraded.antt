-- What an upgrade makes of a file: its records stand in slots of format 2, in half as many segments at most.
use Rattle.std.specs.Prelude.{◌≡◌, ◌⊎◌, ℕ, ◌-◌, ◌<◌, ◌≤◌, min, List}
use Rattle.density_rule.specs.Bounds.{upper_of}
use Rattle.header_gate.specs.declared.layout.Layout.{Layout}
use Rattle.key_slot.specs.Format.{narrow, wide}
use Rattle.redo_journal.specs.declared.place.Place.{Place}
use Rattle.resize_region.specs.Resized.{ResizesBy}

-- the layout in slots of format 2
abbrev pub widened : Layout → Layout
widened l = record l { format = wide }

-- the same place, with its layout so
abbrev pub in_wide : Place → Place
in_wide place = record place { layout = widened place.layout }

-- the place of an upgraded store: the other region, in format 2
abbrev pub upgraded : Place → Place
upgraded place = record { layout = widened place.layout; region = 1 - place.region }

-- its height: the one that the store had, or the greatest that half as many segments can have
abbrev pub upgraded_height : Layout → ℕ → ℕ
upgraded_height l height = min height (l.hmax - 1)

-- a store of format 1 has n records, more than half as many segments may hold
pub record TooManyFor (l : Layout) (records n : ℕ) : Type 0 where
  pub narrow_is : l.format ≡ narrow
  pub some : 1 ≤ l.hmax
  pub above : upper_of (l.hmax - 1) < records
  pub number : n ≡ records

-- a layout stays, or gets slots of format 2
abbrev pub MayWiden : Layout → Layout → Type 0
MayWiden l m = (m ≡ l) ⊎ (m ≡ widened l)

-- Whatever an upgrade leaves: the same map, by the old array in its slot format or by the new one in format 2, which has this
-- height.
abbrev pub Upgrades : Place → ℕ → List ℕ → List ℕ → Type 0
Upgrades place height old new = ResizesBy MayWiden place height old new
