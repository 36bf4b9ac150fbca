-- Segments of a file that are read into frames, and what can be wrong with them.
use Rattle.std.specs.Prelude.{◌≡◌, ℕ, ◌+◌, ◌*◌, ◌<◌, ◌≤◌, ◌^◌, ◌==◌, if◌then◌else◌, List, length, get_or, slice_range, Some}
use Rattle.station.specs.View.{after_read}
use Rattle.station.specs.declared.travel.Travel.{Travel}
use Rattle.header_gate.specs.Places.{segment_size, segment_place}
use Rattle.map_model.specs.Image.{height_of}
use Rattle.redo_journal.specs.declared.place.Place.{Place}
use Rattle.redo_journal.specs.Frames.{Batch}
use Rattle.segment.specs.declared.fault.StoreFault.{StoreFault}
use Rattle.segment.specs.declared.fault.StoreFault.TheVariants.{Damaged}
use Rattle.segment.specs.declared.fault.Damage.{Damage}
use Rattle.segment.specs.Validated.{damage_of}
use Rattle.segment_frames.specs.declared.runs.Runs.{Runs}
use Rattle.segment_frames.specs.Lists.{page_at, segments_in}
use Rattle.segment_frames.specs.FrameStanding.{IsSettledAt}

-- the bytes of segment n of the region
abbrev pub segment_bytes_at : Place → List ℕ → ℕ → List ℕ
segment_bytes_at place file n = slice_range file (segment_place place.layout place.region n) (segment_place place.layout place.region n + segment_size place.layout)

-- the frames of segments f and later hold the bytes of the segments from n on
abbrev pub HasRead : Place → List ℕ → List (List ℕ) → ℕ → ℕ → ℕ → Type 0
HasRead place file slots f n count = (i : ℕ) → i < count → page_at place.layout.format slots (f + i) ≡ segment_bytes_at place file (n + i)

-- the travel after one read of that many segments from n on, or none if there are none
abbrev pub after_run : Place → ℕ → ℕ → Travel → Travel
after_run place n count t = if count == 0 then t else after_read (segment_place place.layout place.region n) (segment_size place.layout * count) t

-- the call that reads or writes a run of that many segments, or none if there are none
abbrev pub call_for : ℕ → ℕ
call_for count = if count == 0 then 0 else 1

-- those of two runs
abbrev pub calls_for : Runs → ℕ
calls_for r = call_for r.low_len + call_for r.high_len

-- a settled image that has that many segments
pub record HasSegments (place : Place) (count : ℕ) (image : List ℕ) : Type 0 where
  pub settled : IsSettledAt place image
  pub within : count ≤ 2 ^ height_of image

-- the fault is the damage of the bytes that were read as this segment, for which a store of a format keeps that many records
pub record IsPageFault (format : ℕ) (page : List ℕ) (segment count : ℕ) (fault : StoreFault) : Type 0 where
  -- the first damage of the bytes: the first bad slot, or else a number of records other than the one kept
  pub why : Damage
  pub shown : damage_of format page count ≡ Some why
  -- the fault names the segment and this damage
  pub fault_is : fault ≡ Damaged segment why

-- the frames of segment f of the batch, which were read for the segment that the fault names, show its damage
pub record ShowsFault (format : ℕ) (b : Batch) (count : ℕ → ℕ) (fault : StoreFault) : Type 0 where
  -- a segment of the batch
  pub f : ℕ
  pub within : f < length (segments_in format b.numbers)
  -- the bytes of its frames are damaged as the fault says
  pub shows : IsPageFault format (page_at format b.slots f) (get_or (segments_in format b.numbers) f 0) (count (get_or (segments_in format b.numbers) f 0)) fault
