-- What a load makes of a file.
use Rattle.std.specs.Prelude.{◌≡◌, ◌⊎◌, ℕ, ◌-◌, ◌^◌, ◌<◌, ◌≤◌, List, length}
use Rattle.std.specs.FinMap.{from_sorted}
use Rattle.station.specs.Bytes.{Touched}
use Rattle.station.specs.View.{View, Told, EachHeld}
use Rattle.key_slot.specs.Record.{Record}
use Rattle.density_rule.specs.Bounds.{upper_of}
use Rattle.header_gate.specs.declared.layout.Layout.{Layout}
use Rattle.header_gate.specs.Header.{gate, layout_in}
use Rattle.header_gate.specs.Places.{height_limit}
use Rattle.line_source.specs.LineReaderView.{ReaderView}
use Rattle.line_source.specs.SourceView.{SourceView}
use Rattle.map_model.specs.Array.{spread_over}
use Rattle.map_model.specs.Holding.{IsBalancedArray}
use Rattle.map_model.specs.Image.{Represents, array_of}
use Rattle.map_model.specs.Store.{Map}
use Rattle.redo_journal.specs.declared.place.Place.{Place}
use Rattle.resize_region.specs.Spare.{HasWritten}
use Rattle.map_model.specs.Regions.{IsSparePlace}
use Rattle.segment_frames.specs.FrameStanding.{IsSettledAt}
use Rattle.bulk_load.specs.LoadLines.{IsTextOf}
use Rattle.bulk_load.specs.Packing.{AreRows}

-- the most records that a store in a file may hold
abbrev pub most_records : Layout → ℕ
most_records l = upper_of (height_limit l)

-- all that is to be given is a text with these records, for a store in the file, if the source tells it
abbrev pub TextFor : Layout → ReaderView → SourceView → List Record → Type 0
TextFor l reader source rows = IsTextOf l.format (most_records l) reader source rows

-- the least height whose upper bound is at least a number
pub record IsLeastHeight (n height : ℕ) : Type 0 where
  pub holds : n ≤ upper_of height
  pub least : (h : ℕ) → h < height → upper_of h < n

-- the map of a text, at the least height that holds its records
pub record RepresentsText (Text : List Record → Type 0) (image : List ℕ) : Type 0 where
  pub rows : List Record
  pub height : ℕ
  pub text : Text rows
  pub least : IsLeastHeight (length rows) height
  pub represents : Represents image (from_sorted rows) height

-- The image represents the map that it did, at its height, or the map of the records of a text. The gate and the layout
-- stay, and so does each byte outside the selector, the copy and the region that weren't live.
pub record Loads (place : Place) (Text : List Record → Type 0) (old new : List ℕ) : Type 0 where
  pub map_is : (m : Map) (before : ℕ) → Represents old m before → Represents new m before ⊎ RepresentsText Text new
  pub gate_is : gate new ≡ gate old
  pub layout_is : layout_in new ≡ layout_in old
  pub touched : Touched (IsSparePlace place.layout (1 - place.region)) old new

-- the records of a text are spread over the region that isn't live
pub record IsWrittenOut (place : Place) (rows : List Record) (records height : ℕ) (Text : List Record → Type 0) (z : View) : Type 0 where
  pub text : Text rows
  pub are_rows : AreRows place.layout.format rows
  pub count : records ≡ length rows
  pub least : IsLeastHeight (length rows) height
  pub limit : height ≤ height_limit place.layout
  pub written : Told z → HasWritten place (spread_over (2 ^ height) rows) (2 ^ height) z.held

-- the file has the records of a text, spread evenly over the segments of the least height that holds them, with every window
-- within its bounds; it is a valid file at the place of the other region
pub record IsLoaded (place : Place) (rows : List Record) (records height : ℕ) (Text : List Record → Type 0) (z : View) : Type 0 where
  pub text : Text rows
  pub count : records ≡ length rows
  pub least : IsLeastHeight (length rows) height
  pub array : Told z → array_of z.held ≡ spread_over (2 ^ height) rows
  pub balanced : IsBalancedArray height (spread_over (2 ^ height) rows)
  pub represents : EachHeld (λ image. Represents image (from_sorted rows) height) z
  pub settled : EachHeld (IsSettledAt (record place { region = 1 - place.region })) z
