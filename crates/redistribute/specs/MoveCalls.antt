-- What private calls of this crate require and do, if several have it in common.
use Rattle.std.specs.Prelude.{◌≡◌, ℕ, ◌+◌, ◌^◌, ◌<◌, ◌≤◌, List, length, sum, All, Result, OnOk}
use Rattle.station.specs.View.{View, Told, EachHeld}
use Rattle.station.specs.Steps.{Steps}
use Rattle.density_rule.specs.declared.TheConstants.{SEGMENT_RECORDS}
use Rattle.header_gate.specs.Places.{IsLayout, file_length, height_limit}
use Rattle.map_model.specs.Array.{Array}
use Rattle.map_model.specs.Image.{array_of}
use Rattle.redo_journal.specs.declared.place.Place.{Place}
use Rattle.redo_journal.specs.Frames.{Batch}
use Rattle.redo_journal.specs.Rest.{RestsAt}
use Rattle.segment.specs.declared.fault.StoreFault.{StoreFault}
use Rattle.segment_frames.specs.FrameStanding.{IsSettledAt}
use Rattle.redistribute.specs.Rearranged.{Rearranges}
use Rattle.redistribute.specs.SpreadWindows.{HasWindow}

-- a place in the file of a station that reaches as far as the file and is at rest, and frames with room for its journal
-- that note its gate
pub record IsPlaceOn (place : Place) (frames : Batch) (v : View) : Type 0 where
  pub layout : IsLayout place.layout
  pub region : place.region < 2
  pub reach : file_length place.layout ≤ v.fixed.reach
  pub journal : frames.journal ≡ place.layout.journal
  pub rests : RestsAt place.layout frames.turn v

-- a window that is to be spread: the segments from the first on have these counts, and the records that these add up to
pub record IsWindowFor (place : Place) (first : ℕ) (counts : List ℕ) (total : ℕ) (v : View) : Type 0 where
  pub some : 1 ≤ length counts
  pub room : All (λ count. count ≤ SEGMENT_RECORDS) counts
  pub inside : first + length counts ≤ 2 ^ height_limit place.layout
  pub records : total ≡ sum counts
  pub window : EachHeld (HasWindow place first counts) v

-- The outcome of moves in place: the same records at every moment, and on Ok the array that `arranged` makes of the old one.
-- The frames keep their room.
pub record MovesRecords {T : Type 0} (result : Result T StoreFault) (place : Place) (arranged : Array → Array) (f g : Batch) (a b : View) : Type 0 where
  pub steps : Steps (Rearranges place) a b
  pub stands : OnOk result (EachHeld (IsSettledAt place) b)
  pub rests : OnOk result (RestsAt place.layout g.turn b)
  pub after : OnOk result (Told a → array_of b.held ≡ arranged (array_of a.held))
  pub journal : g.journal ≡ f.journal
