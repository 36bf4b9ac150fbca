-- Records packed in the order in which they come, 64 a segment: first in the frames, then in the region that isn't live.
use Rattle.std.specs.Prelude.{◌≡◌, ◌⊎◌, ℕ, ◌+◌, ◌-◌, ◌*◌, ◌/◌, ◌<◌, ◌≤◌, ◌&&◌, not, min, Bool, List, [], ◌∷◌, T, length, take, drop, Result, OnOk, IfErr, IsErrOf}
use Rattle.std.specs.List.{list_all}
use Rattle.station.specs.View.{View, Told, EachHeld, Rose}
use Rattle.station.specs.Steps.{Steps}
use Rattle.header_gate.specs.declared.layout.Layout.{Layout}
use Rattle.header_gate.specs.Places.{IsLayout, file_length}
use Rattle.key_slot.specs.Record.{Record, is_record, IsAscending}
use Rattle.key_slot.specs.Segment.{IsSegment}
use Rattle.key_slot.specs.declared.sizes.TheConstants.{SEGMENT_SLOTS}
use Rattle.map_model.specs.FileReasons.{last_key, begins_above}
use Rattle.redo_journal.specs.Commit.{IsAt}
use Rattle.redo_journal.specs.declared.place.Place.{Place}
use Rattle.redo_journal.specs.Frames.{Batch}
use Rattle.map_model.specs.Regions.{Spares}
use Rattle.segment.specs.declared.fault.StoreFault.{StoreFault}
use Rattle.segment.specs.declared.fault.StoreFault.TheVariants.{Failed}
use Rattle.resize_region.specs.Spare.{spare_bytes}
use Rattle.resize_region.specs.Shares.{places, HasShares, share_in}
use Rattle.bulk_load.specs.declared.packing.Taken.{Taken}
use Rattle.bulk_load.specs.declared.room.TheConstants.{MOST_FRAMES}

-- how many segments are in the frames at most: those of at most 256 frames are used
abbrev pub room_in : Layout → ℕ
room_in l = min l.journal MOST_FRAMES / l.format

-- a place of a file as far as which the station reaches, at which every image stands, and frames for its journal
pub record CanFill (place : Place) (frames : Batch) (v : View) : Type 0 where
  pub layout : IsLayout place.layout
  pub region : place.region < 2
  pub reach : file_length place.layout ≤ v.fixed.reach
  pub journal : frames.journal ≡ place.layout.journal
  pub live : EachHeld (IsAt place) v

-- the records of segment i
abbrev pub packed_at : List Record → ℕ → List Record
packed_at rows i = take SEGMENT_SLOTS (drop (SEGMENT_SLOTS * i) rows)

-- records that a store of a slot format may hold
pub record AreRows (format : ℕ) (rows : List Record) : Type 0 where
  pub ascending : IsAscending rows
  pub fit : T (list_all (is_record format) rows)

-- the records that were taken: some segments of them are written, and the next ones are in the frames
pub record IsTaken (l : Layout) (t : Taken) (b : Batch) (rows : List Record) : Type 0 where
  pub rows_are : AreRows l.format rows
  pub count : t.records ≡ length rows
  pub last : t.last ≡ last_key rows
  pub within : length rows ≤ SEGMENT_SLOTS * (t.written + room_in l)
  pub shares : HasShares l.format b
  pub held : (i : ℕ) → i < places l.format b → share_in l.format i b ≡ packed_at rows (t.written + i)

-- the next record has a place in the frames, behind the others
pub record HasPlace (l : Layout) (t : Taken) : Type 0 where
  pub behind : SEGMENT_SLOTS * t.written ≤ t.records
  pub within : t.records < SEGMENT_SLOTS * (t.written + room_in l)

-- the first segments of the other region are the first of these
abbrev pub HasPacked : Place → List Record → ℕ → List ℕ → Type 0
HasPacked place rows written file = (i : ℕ) → i < written → IsSegment place.layout.format (packed_at rows i) (spare_bytes place i file)

-- Some segments of the records in the frames were written, whatever was answered.
pub record WritesPacked {X : Type 0} (place : Place) (result : Result X StoreFault) (old new : Taken) (f g : Batch) (a b : View) : Type 0 where
  pub taken : OnOk result ((rows : List Record) → IsTaken place.layout old f rows → IsTaken place.layout new g rows)
  pub packed : OnOk result (Told a → (rows : List Record) → IsTaken place.layout old f rows →
      HasPacked place rows old.written a.held → HasPacked place rows new.written b.held)
  pub same : new ≡ record old { written = new.written }
  pub journal : g.journal ≡ f.journal
  pub turn : g.turn ≡ f.turn
  pub steps : Steps (Spares place.layout place.region) a b
  -- nothing is read
  pub no_reads : b.travel ≡ record a.travel { written = b.travel.written }
  pub fault : IfErr result (λ fault. fault ≡ Failed)
  pub failed : IsErrOf result Failed → Rose a.disk_faults b.disk_faults

-- whether a record may follow those that were taken
abbrev pub goes_on_by : Taken → Record → Bool
goes_on_by t r = not t.ended && begins_above t.last (r ∷ [])

-- Whatever came of the packing of one record more, no call was made, or one, which was to write all the frames that are used.
abbrev pub TriesRun : Layout → Taken → ℕ → ℕ → Type 0
TriesRun l t before after = (after ≤ before) ⊎ ((after ≤ before + 1) × (SEGMENT_SLOTS * (t.written + room_in l) ≤ t.records + 1))

-- Between two counts of calls, segments from one number to another were written, by one call for each whole run of that many.
abbrev pub WritesRuns : ℕ → ℕ → ℕ → ℕ → ℕ → Type 0
WritesRuns room from to before after = (made : ℕ) × (room * made ≤ to - from) × (after ≤ before + made)
