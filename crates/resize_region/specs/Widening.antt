-- How a store goes over to format 2: its records are written into the other region, and a flip names it.
use Rattle.std.specs.Prelude.{◌≡◌, ℕ, ◌+◌, ◌*◌, ◌^◌, ◌≤◌, ◌<◌, sum, Result, OnOk, OnErr, IfErr, IsErrOf}
use Rattle.station.specs.View.{View, Told, EachHeld, NothingPending, Rose}
use Rattle.station.specs.Steps.{Steps}
use Rattle.density_rule.specs.Spread.{resized_counts}
use Rattle.header_gate.specs.Places.{IsLayout, file_length, height_limit, segment_size}
use Rattle.key_slot.specs.Format.{narrow}
use Rattle.key_slot.specs.declared.sizes.TheConstants.{SEGMENT_SLOTS}
use Rattle.map_model.specs.Array.{rows, resized, spread_over}
use Rattle.map_model.specs.Image.{array_of}
use Rattle.map_model.specs.Regions.{Spares}
use Rattle.map_model.specs.Standing.{StandsWith}
use Rattle.redo_journal.specs.declared.place.Place.{Place}
use Rattle.redo_journal.specs.Frames.{Batch}
use Rattle.redo_journal.specs.Rest.{RestsAt}
use Rattle.segment.specs.declared.fault.StoreFault.{StoreFault}
use Rattle.segment.specs.declared.fault.StoreFault.TheVariants.{Failed}
use Rattle.window_tally.specs.TallyView.{TallyView}
use Rattle.resize_region.specs.Spare.{HasWritten}
use Rattle.resize_region.specs.OldRows.{IsDamageIn}
use Rattle.resize_region.specs.Shares.{StandsBare}
use Rattle.resize_region.specs.Source.{Walks}
use Rattle.resize_region.specs.Upgraded.{Upgrades, widened, in_wide, upgraded, upgraded_height}
use Rattle.segment_frames.specs.Lists.{most_segments}
use Rattle.segment_frames.specs.SegmentParts.{parts}

-- a store of format 1 on a station, over whose file nothing is to be laid, frames for its journal, and that many segments of
-- format 2 with room for its records
pub record CanWiden (place : Place) (t : TallyView) (segments : ℕ) (frames : Batch) (v : View) : Type 0 where
  pub layout : IsLayout place.layout
  pub narrow_is : place.layout.format ≡ narrow
  pub limit : 1 ≤ place.layout.hmax
  pub region : place.region < 2
  pub reach : file_length place.layout ≤ v.fixed.reach
  pub journal : frames.journal ≡ place.layout.journal
  pub stands : EachHeld (StandsBare place t) v
  pub some : 1 ≤ segments
  pub room : sum t.counts ≤ SEGMENT_SLOTS * segments
  pub fits : segments ≤ 2 ^ height_limit (widened place.layout)

-- The records were written at format 2 into that many segments of the other region, while old segments were read.
pub record WritesWide {T : Type 0} (result : Result T StoreFault) (place : Place) (t : TallyView) (segments : ℕ) (f g : Batch) (a b : View) : Type 0 where
  pub steps : Steps (Spares place.layout place.region) a b
  pub written : OnOk result (Told a → HasWritten (in_wide place) (spread_over segments (rows (array_of a.held))) segments b.held)
  pub journal : g.journal ≡ f.journal
  pub turn : g.turn ≡ f.turn
  pub cost : b.travel.written ≤ a.travel.written + segment_size (widened place.layout) * segments
  -- if bytes are told only the disk stops it
  pub damaged : IfErr result (λ fault. Told a → fault ≡ Failed)
  -- and on any station damage is that of the segment that was read last
  pub cause : IfErr result (IsDamageIn place t a b)
  -- `Failed` comes only if the count of disk faults rose
  pub failed : IsErrOf result Failed → Rose a.disk_faults b.disk_faults

-- the calls of an upgrade at a height that isn't refused
abbrev pub widen_calls : Place → ℕ → ℕ
widen_calls place height = 2 ^ height + parts (most_segments (widened place.layout)) (2 ^ upgraded_height place.layout height) + 4

-- The outcome of an upgrade that isn't refused, whatever is answered.
pub record SpreadsWide {T : Type 0} (result : Result T StoreFault) (place after : Place) (t : TallyView) (a b : View) : Type 0 where
  pub steps : Steps (Upgrades place (upgraded_height place.layout t.height)) a b
  pub settled : OnOk result (NothingPending b)
  pub rests : OnOk result ((turn : ℕ) → RestsAt place.layout turn a → RestsAt after.layout turn b)
  pub array : OnOk result (Told a → array_of b.held ≡ resized (array_of a.held) (upgraded_height place.layout t.height))
  -- the place, and the height and the counts of the new array, stand for the file
  pub stands : OnOk result (EachHeld (StandsWith after.layout after.region (upgraded_height place.layout t.height)
      (resized_counts t.counts (upgraded_height place.layout t.height))) b)
  -- on Ok the place is that of the upgraded store, on a failure the old one
  pub place_is : OnOk result (after ≡ upgraded place)
  pub place_kept : OnErr result (after ≡ place)
  -- at most the bytes of the new segments and 9 are written
  pub cost : b.travel.written ≤ a.travel.written + (segment_size (widened place.layout) * 2 ^ upgraded_height place.layout t.height + 9)
  -- the live region is read in one direction, each segment at most once
  pub reads : (n : ℕ) × (n ≤ 2 ^ t.height) × Walks place 0 n a.travel b.travel
  -- at most one call for each old segment, those that write the new ones, and those of a flip
  pub calls : b.calls ≤ a.calls + widen_calls place t.height
  -- on Ok it was read to its end
  pub whole : OnOk result (Walks place 0 (2 ^ t.height) a.travel b.travel)
  -- if bytes are told only the disk stops it
  pub damaged : IfErr result (λ fault. Told a → fault ≡ Failed)
  -- and on any station damage is that of the segment that was read last
  pub cause : IfErr result (IsDamageIn place t a b)
  -- `Failed` comes only if the count of disk faults rose
  pub failed : IsErrOf result Failed → Rose a.disk_faults b.disk_faults
