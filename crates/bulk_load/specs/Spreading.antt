-- Packed records are spread over the segments of the region that isn't live, from the last one down. Some places of the frames
-- hold packed segments that were read, and those behind them the shares that are filled out of these.
use Rattle.std.specs.Prelude.{◌≡◌, ◌⊎◌, ℕ, ◌+◌, ◌-◌, ◌*◌, ◌/◌, ◌<◌, ◌≤◌, min, List, length, slice_range, Result, OnOk, IfErr, IsErrOf}
use Rattle.station.specs.Bytes.{Same}
use Rattle.station.specs.View.{View, Told, Rose}
use Rattle.station.specs.Steps.{Steps}
use Rattle.header_gate.specs.Places.{segment_size}
use Rattle.key_slot.specs.Record.{Record}
use Rattle.key_slot.specs.declared.sizes.TheConstants.{SEGMENT_SLOTS}
use Rattle.redo_journal.specs.Frames.{Batch}
use Rattle.redo_journal.specs.declared.place.Place.{Place}
use Rattle.resize_region.specs.Shares.{places, HasShares, share_in}
use Rattle.segment.specs.declared.fault.StoreFault.{StoreFault}
use Rattle.segment.specs.declared.fault.StoreFault.TheVariants.{Failed}
use Rattle.segment_frames.specs.Lists.{page_at}
use Rattle.segment_frames.specs.FrameReading.{IsPageFault}
use Rattle.bulk_load.specs.Packing.{AreRows, HasPacked, room_in}
use Rattle.bulk_load.specs.declared.packed.Packed.{Packed}
use Rattle.segment_frames.specs.SegmentParts.{parts, GoesInParts}
use Rattle.resize_region.specs.Source.{copy_calls}
use Rattle.header_gate.specs.declared.layout.Layout.{Layout}

-- how many segments n packed records use
abbrev pub used_by : ℕ → ℕ
used_by n = (n + (SEGMENT_SLOTS - 1)) / SEGMENT_SLOTS

-- how many of n packed records segment i has
abbrev pub packed_count : ℕ → ℕ → ℕ
packed_count n i = min SEGMENT_SLOTS (n - SEGMENT_SLOTS * i)

-- those of the first `rest` records that segment i has
abbrev pub left_at : List Record → ℕ → ℕ → List Record
left_at rows rest i = slice_range rows (SEGMENT_SLOTS * i) (min rest (SEGMENT_SLOTS * i + SEGMENT_SLOTS))

-- Of n packed records the first ones aren't in a share yet. Of these, those of the first segments aren't read, and the first
-- places hold the others, a segment each.
pub record IsPacked (format n : ℕ) (b : Batch) (s : Packed) : Type 0 where
  pub shares : HasShares format b
  pub some : 1 ≤ s.room
  pub room : s.room ≤ places format b
  pub within : s.rest ≤ n
  -- a segment that isn't read has all its records
  pub whole : (s.rest ≡ n) ⊎ (SEGMENT_SLOTS * s.unread ≤ s.rest)
  pub few : s.unread ≤ used_by s.rest
  pub all : s.rest ≤ SEGMENT_SLOTS * (s.unread + s.room)
  pub counts : (i : ℕ) → i < s.room → length (share_in format i b) ≡ packed_count s.rest (s.unread + i)

-- the places hold the segments of these records
abbrev pub HoldsPacked : ℕ → List Record → Batch → Packed → Type 0
HoldsPacked format rows b s = (i : ℕ) → i < s.room → share_in format i b ≡ left_at rows s.rest (s.unread + i)

-- they are these records, in the frames and in the file
pub record ArePacked (place : Place) (n : ℕ) (rows : List Record) (s : Packed) (b : Batch) (file : List ℕ) : Type 0 where
  pub are_rows : AreRows place.layout.format rows
  pub count : length rows ≡ n
  pub unread : HasPacked place rows s.unread file
  pub held : HoldsPacked place.layout.format rows b s

-- a place, into which the segment was read that the fault names, shows its damage: the first bad slot of the frames'
-- bytes, or the number of records found there and the other number that it was packed with
pub record ShowsPacked (format n : ℕ) (b : Batch) (fault : StoreFault) : Type 0 where
  pub f : ℕ
  pub segment : ℕ
  pub within : f < places format b
  pub there : SEGMENT_SLOTS * segment < n
  pub shows : IsPageFault format (page_at format b.slots f) segment (packed_count n segment) fault

-- a disk fault, or one that a frame shows
abbrev pub HasCause : ℕ → ℕ → Batch → StoreFault → Type 0
HasCause format n b fault = (fault ≡ Failed) ⊎ ShowsPacked format n b fault

-- Packed segments were read, or none, and some of their records were put into shares, whatever was answered.
pub record ReadsPacked {T : Type 0} (place : Place) (n : ℕ) (result : Result T StoreFault) (s t : Packed) (f g : Batch) (a b : View) : Type 0 where
  pub packed : OnOk result (IsPacked place.layout.format n g t)
  pub are : OnOk result (Told a → (rows : List Record) → ArePacked place n rows s f a.held → ArePacked place n rows t g b.held)
  pub room : t.room ≡ s.room
  pub unread : t.unread ≤ s.unread
  pub rest : g ≡ record f { slots = g.slots }
  pub steps : Steps Same a b
  pub unwritten : b.travel.written ≡ a.travel.written
  -- each segment's bytes are read once
  pub read : OnOk result (b.travel.read + segment_size place.layout * t.unread ≤ a.travel.read + segment_size place.layout * s.unread)
  pub most_read : b.travel.read ≤ a.travel.read + segment_size place.layout * s.unread
  -- if bytes are told only the disk stops it
  pub damaged : IfErr result (λ fault. Told a → (rows : List Record) → ArePacked place n rows s f a.held → fault ≡ Failed)
  pub cause : IfErr result (HasCause place.layout.format n g)
  pub failed : IsErrOf result Failed → Rose a.disk_faults b.disk_faults

-- Between two counts of calls, packed segments from one number on were read in parts, whatever came of the last of them.
abbrev pub TriesParts : ℕ → ℕ → ℕ → ℕ → ℕ → Type 0
TriesParts room count from before after = (to : ℕ) × GoesInParts room count from to before after

-- the calls that write that many records packed, and spread them over that many segments, and those of a flip
abbrev pub load_calls : Layout → ℕ → ℕ → ℕ
load_calls l records segments = parts (room_in l) (used_by records) + copy_calls (room_in l) (used_by records) segments + 4
