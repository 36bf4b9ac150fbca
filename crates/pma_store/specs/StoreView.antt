-- What callers see of a store.
use Rattle.std.specs.Prelude.{◌≡◌, ◌⊎◌, ℕ, ◌<◌, ◌≤◌, List, Bool, false}
use Rattle.station.specs.Bytes.{Same}
use Rattle.station.specs.View.{View, EachHeld}
use Rattle.station.specs.Steps.{Steps}
use Rattle.batch_intent.specs.Means.{has_waiting}
use Rattle.header_gate.specs.Places.{IsLayout, file_length, height_limit}
use Rattle.density_rule.specs.Windows.{IsBalanced}
use Rattle.map_model.specs.Store.{Map}
use Rattle.map_model.specs.Image.{RepresentsMap, array_of}
use Rattle.map_model.specs.Standing.{StandsBalanced}
use Rattle.redo_journal.specs.declared.place.Place.{Place}
use Rattle.redo_journal.specs.Rest.{RestsAt}
use Rattle.veb_index.specs.IndexView.{IndexView}
use Rattle.veb_index.specs.Arrays.{IsIndexOf}
use Rattle.window_tally.specs.TallyView.{TallyView, IsTally}

-- where its file has its parts, its counts and marks, its index, the room for a batch, what the file's gate says, and whether
-- an earlier call answered a fault
pub record StoreView : Type 0 where
  pub place : Place
  pub tally : TallyView
  pub index : IndexView
  pub journal : ℕ
  pub turn : ℕ
  pub closed : Bool

-- what is true of every store, on every station
pub record IsStore (s : StoreView) : Type 0 where
  pub layout : IsLayout s.place.layout
  pub region : s.place.region < 2
  pub hmax : s.tally.hmax ≡ height_limit s.place.layout
  pub tally : IsTally s.tally
  pub balanced : IsBalanced s.tally.height s.tally.counts
  pub index_hmax : s.tally.hmax ≤ s.index.hmax
  pub index_height : s.index.height ≡ s.tally.height
  pub journal : s.journal ≡ s.place.layout.journal

-- The store stands for the bytes of a file: they represent a map, their gate is even if they have one journal, every window
-- is within its bounds, and its parts agree with them.
pub record Stands (s : StoreView) (image : List ℕ) : Type 0 where
  pub balanced : StandsBalanced s.place.layout s.place.region s.tally.height s.tally.counts image
  pub index : IsIndexOf s.index (array_of image)

-- It stands for its file on a station: for each image that the station may hold. The station is at rest, so before version 4
-- nothing is pending, and it reaches as far as the file.
pub record StandsOn (s : StoreView) (v : View) : Type 0 where
  pub stands : EachHeld (Stands s) v
  pub rests : RestsAt s.place.layout s.turn v
  pub reach : file_length s.place.layout ≤ v.fixed.reach

-- Besides, no call on it answered a fault, and no batch is half made: what a public call asks, and keeps where it answers Ok.
pub record IsOpenOn (s : StoreView) (v : View) : Type 0 where
  pub on : StandsOn s v
  pub opened : s.closed ≡ false
  pub no_intent : EachHeld (λ image. has_waiting image ≡ false) v

-- the greatest height that it may have
abbrev pub limit_of : StoreView → ℕ
limit_of s = height_limit s.place.layout

-- nothing changed: at no moment any byte of the file or any image that a crash may leave, nothing was written, and the
-- store is as it was
pub record LeavesAll (old new : StoreView) (a b : View) : Type 0 where
  pub steps : Steps Same a b
  pub unwritten : b.travel.written ≡ a.travel.written
  pub store : new ≡ old

-- an update: the image represents the old map or the new one
abbrev pub Becomes : Map → Map → List ℕ → List ℕ → Type 0
Becomes old new start image = RepresentsMap image old ⊎ RepresentsMap image new
