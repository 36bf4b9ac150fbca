-- How the old segments are read on, for growth and shrinkage.
use Rattle.std.specs.Prelude.{◌≡◌, ◌<◌, ◌≤◌, ◌^◌, ℕ, List, length, Result, OnOk, IfErr, IsErrOf}
use Rattle.station.specs.Bytes.{Same}
use Rattle.station.specs.View.{View, Told, EachHeld, Rose}
use Rattle.station.specs.Steps.{Steps}
use Rattle.header_gate.specs.Places.{IsLayout, file_length, height_limit}
use Rattle.map_model.specs.Image.{array_of}
use Rattle.range_scan.specs.Walk.{after_walk}
use Rattle.redo_journal.specs.declared.place.Place.{Place}
use Rattle.redo_journal.specs.Frames.{Batch}
use Rattle.segment.specs.declared.fault.StoreFault.{StoreFault}
use Rattle.segment.specs.declared.fault.StoreFault.TheVariants.{Failed}
use Rattle.segment_frames.specs.Lists.{most_segments}
use Rattle.resize_region.specs.declared.source.Source.{Source}
use Rattle.resize_region.specs.Shares.{HasShares, HasCounts, HasCause}
use Rattle.resize_region.specs.Source.{HasAhead, HoldsAhead, read_upto}

-- a place of a file as far as which the station reaches, whose segments have these counts, and frames for its journal
pub record IsReading (place : Place) (counts : List ℕ) (b : Batch) (v : View) : Type 0 where
  pub layout : IsLayout place.layout
  pub region : place.region < 2
  pub reach : file_length place.layout ≤ v.fixed.reach
  pub journal : b.journal ≡ place.layout.journal
  pub shares : HasShares place.layout.format b
  pub inside : length counts ≤ 2 ^ height_limit place.layout
  pub stands : EachHeld (HasCounts place counts) v

-- the reading stands before a segment, and there is room for one in the frames from this one on
pub record IsBefore (place : Place) (from : ℕ) (counts : List ℕ) (b : Batch) (s : Source) (v : View) : Type 0 where
  -- the file that is read
  pub reading : IsReading place counts b v
  -- the segments that were read ahead, by their counts
  pub ahead : HasAhead place.layout.format from counts b s
  -- they are those of the file
  pub held : Told v → HoldsAhead place.layout.format (array_of v.held) b s
  -- a frame is left for segments
  pub first : from < most_segments place.layout
  -- a segment is to come
  pub more : s.next < length counts

-- Some of the next segments were read, or none, whatever was answered.
pub record ReadsOn {T : Type 0} (place : Place) (counts : List ℕ) (result : Result T StoreFault) (s t : Source) (f g : Batch) (a b : View) : Type 0 where
  pub shares : OnOk result (HasShares place.layout.format g)
  pub held : OnOk result (Told a → HoldsAhead place.layout.format (array_of a.held) g t)
  pub rest : g ≡ record f { slots = g.slots }
  pub steps : Steps Same a b
  pub reads : b.travel ≡ after_walk place.layout place.region (read_upto (most_segments place.layout) s) (read_upto (most_segments place.layout) t) a.travel
  pub onward : read_upto (most_segments place.layout) s ≤ read_upto (most_segments place.layout) t
  pub upto : read_upto (most_segments place.layout) t ≤ length counts
  -- if bytes are told only the disk stops it
  pub damaged : IfErr result (λ fault. Told a → fault ≡ Failed)
  -- and on any station a frame shows the damage
  pub cause : IfErr result (HasCause place.layout.format counts g)
  -- `Failed` comes only if the count of disk faults rose
  pub failed : IsErrOf result Failed → Rose a.disk_faults b.disk_faults
