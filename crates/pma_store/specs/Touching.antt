-- What an update does to the file at every moment, which bytes it touches, and where it leaves the store.
use Rattle.std.specs.Prelude.{◌≡◌, ◌⊎◌, ℕ, ◌-◌, List, Bool, true, false}
use Rattle.station.specs.Bytes.{InRange, Touched}
use Rattle.station.specs.View.{View}
use Rattle.station.specs.Steps.{Steps}
use Rattle.header_gate.specs.declared.layout.Layout.{Layout}
use Rattle.header_gate.specs.Header.{layout_in, IsGatePlace}
use Rattle.header_gate.specs.Places.{copy_place}
use Rattle.map_model.specs.Image.{RepresentsMap}
use Rattle.map_model.specs.Regions.{IsSparePlace}
use Rattle.map_model.specs.Store.{Map, Update}
use Rattle.map_model.specs.After.{map_after}
use Rattle.redo_journal.specs.Commit.{IsJournalPlace, IsRegionPlace}
use Rattle.redo_journal.specs.declared.place.Place.{Place}
use Rattle.redistribute.specs.Rearranged.{IsMovePlace}
use Rattle.pma_store.specs.StoreView.{StoreView}

-- a place of the selector, the copies, the journal's gate, the journal, or the regions, which end where the area begins
abbrev pub IsUpdatePlace : Layout → ℕ → Type 0
IsUpdatePlace l p = (p ≡ 0) ⊎ (InRange (copy_place 0) 8 p ⊎ (InRange (copy_place 1) 8 p ⊎ (IsGatePlace p ⊎ (IsJournalPlace l p ⊎ IsRegionPlace l p))))

-- An update in a store with the greatest height hmax: the image represents what the start did, or the map after the update.
-- The layout and each other byte stay.
pub record Updates (hmax : ℕ) (u : Update) (start image : List ℕ) : Type 0 where
  pub map_is : (m : Map) → RepresentsMap start m → RepresentsMap image m ⊎ RepresentsMap image (map_after hmax m u)
  pub layout_is : layout_in image ≡ layout_in start
  pub touched : Touched (IsUpdatePlace (layout_in start)) start image

-- a place of the gate or of the journals, which a clearing touches
abbrev pub IsClearPlace : Layout → ℕ → Type 0
IsClearPlace l p = IsGatePlace p ⊎ IsJournalPlace l p

-- where the file has its parts after an update, by whether the height changed: a resize makes the other region the live one
abbrev pub place_after : Bool → Place → Place
place_after false place = place
place_after true place = record place { region = 1 - place.region }

-- The places that it touches: gate, journal and live region. A resize leaves the region that was live as it is, and touches
-- selector, other copy and other region.
abbrev pub IsTouchedPlace : Bool → Place → ℕ → Type 0
IsTouchedPlace false place p = IsMovePlace place p
IsTouchedPlace true place p = IsSparePlace place.layout (1 - place.region) p ⊎ (IsGatePlace p ⊎ IsJournalPlace place.layout p)

-- where the store is behind an update, and what was touched at every moment
pub record IsPlaceAfter (resized : Bool) (s t : StoreView) (a b : View) : Type 0 where
  pub place_is : t.place ≡ place_after resized s.place
  pub inside : Steps (Touched (IsTouchedPlace resized s.place)) a b
