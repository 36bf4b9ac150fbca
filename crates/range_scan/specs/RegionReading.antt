-- A region as it is read, segment by segment.
use Rattle.std.specs.Prelude.{◌≡◌, ℕ, ◌+◌, ◌<◌, Bool, true, false, List, [], ◌∷◌, map, Option, Some, None, Result, Ok, Err}
use Rattle.std.specs.List.{range_with_len}
use Rattle.station.specs.Bytes.{byte}
use Rattle.key_slot.specs.Record.{Bytes, Record}
use Rattle.key_slot.specs.Segment.{segment_of, first_bad_slot}
use Rattle.key_slot.specs.declared.sizes.TheConstants.{SEGMENT_SLOTS}
use Rattle.header_gate.specs.declared.layout.Layout.{Layout}
use Rattle.header_gate.specs.Places.{segment_place, segment_size}
use Rattle.map_model.specs.FileReasons.{last_key, begins_above}
use Rattle.range_scan.specs.declared.reader.RegionFault.{RegionFault}
use Rattle.range_scan.specs.declared.reader.RegionFault.TheVariants.{Failed, NotSegment, OutOfOrder}
use Rattle.range_scan.specs.RegionReaderView.{ReaderView}

-- the bytes that a read of segment i of a region gives: those past the end of the file are zero
unfoldable pub page_in : Layout → ℕ → List ℕ → ℕ → List ℕ
page_in layout region file i = map (λ o. byte file (segment_place layout region i + o)) (range_with_len 0 (segment_size layout))

-- the bytes that the next read of a reader gives
abbrev pub next_page : ReaderView → List ℕ → List ℕ
next_page r file = page_in r.layout r.region file r.next

-- what is wrong with segment i, by its first bad slot and by whether it begins above the last key before it
abbrev pub fault_by : ℕ → Option ℕ → Bool → Option RegionFault
fault_by i (Some slot) above = Some (NotSegment i slot)
fault_by i None true = None
fault_by i None false = Some (OutOfOrder i)

-- what is wrong with the bytes of a segment of a format behind a last key
abbrev pub page_fault : ℕ → ℕ → Option Bytes → List ℕ → Option RegionFault
page_fault f i last page = fault_by i (first_bad_slot f page) (begins_above last (segment_of f page))

-- what a reader finds wrong with the next segment of a file
abbrev pub next_fault : ReaderView → List ℕ → Option RegionFault
next_fault r file = page_fault r.layout.format r.next r.last (next_page r file)

-- the last key, with these records behind it
abbrev pub last_behind : Option Bytes → List Record → Option Bytes
last_behind last [] = last
last_behind last (r ∷ rs) = last_key (r ∷ rs)

-- the reader behind a segment with these records
abbrev pub behind : List Record → ReaderView → ReaderView
behind rs r = record r { next = r.next + 1; last = last_behind r.last rs }

-- the reader after an answer, with these records if there were some
abbrev pub after_reading : Result Bool RegionFault → List Record → ReaderView → ReaderView
after_reading (Ok true) rs r = behind rs r
after_reading (Ok false) rs r = r
after_reading (Err fault) rs r = record r { next = r.next + 1; faulted = true }

-- the same after an answer that gives the records, if there were some
abbrev pub after_giving : Result (Option (List Record)) RegionFault → ReaderView → ReaderView
after_giving (Ok (Some rs)) r = behind rs r
after_giving (Ok None) r = r
after_giving (Err fault) r = record r { next = r.next + 1; faulted = true }

-- the fault names this segment, and a slot that a segment has, if it names one
abbrev pub Names : ℕ → RegionFault → Type 0
Names i Failed = Unit {0}
Names i (NotSegment segment slot) = (segment ≡ i) × (slot < SEGMENT_SLOTS)
Names i (OutOfOrder segment) = segment ≡ i
