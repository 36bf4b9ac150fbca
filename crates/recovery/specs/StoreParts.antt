-- What the parts of an open store are of themselves, and what they say of its file.
use Rattle.std.specs.Prelude.{◌≡◌, ◌↔◌, IsTrue, ℕ, ◌<◌, ◌≤◌, Bool, true, false, List, length, Some}
use Rattle.key_slot.specs.Record.{Bytes}
use Rattle.density_rule.specs.Windows.{IsBalanced}
use Rattle.header_gate.specs.Header.{gate, live_copy, layout_in}
use Rattle.header_gate.specs.Places.{IsLayout, height_limit}
use Rattle.header_gate.specs.Reasons.{IsSoundHeader}
use Rattle.map_model.specs.Array.{Array}
use Rattle.map_model.specs.Image.{array_of, height_of}
use Rattle.map_model.specs.Standing.{StandsBalanced}
use Rattle.redo_journal.specs.declared.place.Place.{Place}
use Rattle.veb_index.specs.IndexView.{IndexView, fence_of}
use Rattle.veb_index.specs.Arrays.{first_key, IsIndexOf}
use Rattle.window_tally.specs.TallyView.{TallyView, IsTally}

-- parts for a store of this layout: tally and index have one height, the tally has room for every height that the layout
-- allows, and the index for at least these, and a batch has room for as many segments as the journal
pub record AreParts (place : Place) (tally : TallyView) (index : IndexView) (journal : ℕ) : Type 0 where
  pub layout : IsLayout place.layout
  pub region : place.region < 2
  pub is_tally : IsTally tally
  pub tally_room : tally.hmax ≡ height_limit place.layout
  pub height : tally.height ≤ height_limit place.layout
  pub index_room : height_limit place.layout ≤ index.hmax
  pub index_height : index.height ≡ tally.height
  pub journal_is : journal ≡ place.layout.journal

-- parts for a store of this layout, in which every window is within its bounds
pub record Fits (place : Place) (tally : TallyView) (index : IndexView) (journal : ℕ) : Type 0 where
  pub parts : AreParts place tally index journal
  pub balanced : IsBalanced tally.height tally.counts

-- The parts agree with an image: it is a valid file with every window within its bounds, the place is its
-- own, the tally has its height and the counts of its array, and the index has the first keys of its segments.
pub record AgreesWith (place : Place) (tally : TallyView) (index : IndexView) (image : List ℕ) : Type 0 where
  pub stands : StandsBalanced place.layout place.region tally.height tally.counts image
  pub index_is : IsIndexOf index (array_of image)

-- an index has the first key of each segment from 1 on that isn't empty
abbrev pub HasFences : IndexView → Array → Type 0
HasFences index segments = (i : ℕ) (key : Bytes) → 1 ≤ i → i < length segments → first_key segments i ≡ Some key → fence_of index i ≡ Some key

-- what a gate says, as a number
abbrev pub turn_of : Bool → ℕ
turn_of true = 1
turn_of false = 0

-- what was read of the header of an image, in which nothing is wrong
pub record HasHeader (place : Place) (height : ℕ) (odd : Bool) (image : List ℕ) : Type 0 where
  pub sound : IsSoundHeader image
  pub layout_is : layout_in image ≡ place.layout
  pub region_is : live_copy image ≡ place.region
  pub height_is : height_of image ≡ height
  pub gate_is : IsTrue odd ↔ (gate image ≡ 1)
