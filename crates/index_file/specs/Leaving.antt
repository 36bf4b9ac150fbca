-- A store whose index may be left in its file.
use Rattle.std.specs.Prelude.{◌≡◌, ℕ, ◌≤◌, List}
use Rattle.station.specs.View.{View, EachHeld, NothingPending}
use Rattle.header_gate.specs.declared.layout.Layout.{Layout}
use Rattle.header_gate.specs.Header.{intent_gate, clean_gate}
use Rattle.header_gate.specs.InPlace.{IsBare}
use Rattle.map_model.specs.Image.{array_of}
use Rattle.map_model.specs.Standing.{StandsBalanced}
use Rattle.veb_index.specs.IndexView.{IndexView}
use Rattle.veb_index.specs.Arrays.{IsIndexOf}
use Rattle.window_tally.specs.TallyView.{TallyView, IsTally}
use Rattle.index_file.specs.IndexReading.{HasIndex}

-- the image is a valid file with this layout and this live region, over which no page is to be laid, with the intent's gate
-- and the clean gate even and every window within its bounds; the tally has its height and its counts, and the index the first
-- keys of its segments
pub record IsReady (l : Layout) (region : ℕ) (tally : TallyView) (index : IndexView) (image : List ℕ) : Type 0 where
  pub stands : StandsBalanced l region tally.height tally.counts image
  pub index_is : IsIndexOf index (array_of image)
  pub bare : IsBare l image
  pub intent_even : intent_gate image ≡ 0
  pub clean_even : clean_gate image ≡ 0

-- such a store's index may be left: its file has room for it, tally and index have one height, and nothing is pending
pub record CanLeave (l : Layout) (region : ℕ) (tally : TallyView) (index : IndexView) (v : View) : Type 0 where
  pub file : HasIndex l v
  pub is_tally : IsTally tally
  pub low : tally.height ≤ l.hmax
  pub index_height : index.height ≡ tally.height
  pub ready : EachHeld (IsReady l region tally index) v
  pub nothing : NothingPending v
