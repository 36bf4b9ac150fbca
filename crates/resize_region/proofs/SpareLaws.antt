-- Frames that are written side by side into a region.
use Rattle.std.proofs.Common.{◌≡◌, ℕ, suc, ◌+◌, ◌-◌, ◌*◌, ◌^◌, ◌<◌, ◌≤◌, List, [], length, drop, get_or-take, get_or-drop, slice_range, sym, ap, ◌∙◌, arith}
use Rattle.std.proofs.lemmas.List.{ext_get_or, length-take-le}
use Rattle.station.specs.Bytes.{byte, Written, InRange, Touched}
use Rattle.station.proofs.Ranges.{byte-slice_range, length-slice_range, range_same}
use Rattle.key_slot.specs.declared.sizes.TheConstants.{SEGMENT_SLOTS, SLOT_SIZE}
use Rattle.header_gate.specs.declared.layout.Layout.{Layout}
use Rattle.header_gate.specs.Places.{IsFormat, height_limit, segment_size, segment_place, file_length}
use Rattle.header_gate.proofs.PagedSegments.{segment_within}
use Rattle.key_slot.proofs.SegmentLaws.{times_up, times_split}
use Rattle.raw_slots.specs.Slots.{bytes_of, slots_in}
use Rattle.raw_slots.proofs.Runs.{run_bytes}
use Rattle.raw_slots.proofs.Runs.{length-slice_range as length-run}
use Rattle.redo_journal.specs.declared.place.Place.{Place}
use Rattle.segment_frames.specs.Lists.{page_at}
use Rattle.map_model.specs.Regions.{region_bytes}
use Rattle.resize_region.specs.Spare.{spare_bytes}

-- frames of a segment among the first ones
frames_of_front : (own : ℕ) (slots : List (List ℕ)) (count i : ℕ) → i < count → own * count ≤ length slots → slice_range (slice_range slots 0 (0 + own * count)) (own * i) (own * i + own) ≡ slice_range slots (own * i) (own * i + own)
frames_of_front own slots count i lt room =
    let front = slice_range slots 0 (0 + own * count) in
    let ends : own * i + own ≤ own * count = omega (arith, times_up own (suc i) count lt) in
    let all : length front ≡ own * count = length-take-le (0 + own * count - 0) (drop 0 slots) (omega (arith, room)) ∙ omega arith in
    let one : length (slice_range front (own * i) (own * i + own)) ≡ own = length-run front (own * i) own (omega (arith, all, ends)) in
    let two : length (slice_range slots (own * i) (own * i + own)) ≡ own = length-run slots (own * i) own (omega (arith, room, ends)) in
    ext_get_or [] (slice_range front (own * i) (own * i + own)) (slice_range slots (own * i) (own * i + own)) (one ∙ sym two) (λ j below.
    let small : j < own = omega (arith, below, one) in
    let few : j < own * i + own - own * i = omega (arith, small) in
    get_or-take (own * i + own - own * i) (drop (own * i) front) j [] few ∙ get_or-drop (own * i) front j []
    ∙ get_or-take (0 + own * count - 0) (drop 0 slots) (own * i + j) [] (omega (arith, ends, small))
    ∙ sym (get_or-take (own * i + own - own * i) (drop (own * i) slots) j [] few ∙ get_or-drop (own * i) slots j []))

-- what was written are the frames
pub written_frame : (l : Layout) (region first count i : ℕ) (slots : List (List ℕ)) (bytes old new : List ℕ) → IsFormat l.hmax l.format → region < 2 → first + count ≤ 2 ^ height_limit l → SEGMENT_SLOTS * l.format * count ≤ length slots → i < count
    → slots_in (SEGMENT_SLOTS * l.format * count) bytes ≡ slice_range slots 0 (0 + SEGMENT_SLOTS * l.format * count) → length bytes ≡ SEGMENT_SLOTS * l.format * count * SLOT_SIZE → Written (segment_place l region first) bytes old new → length old ≡ file_length l
    → region_bytes l region (first + i) new ≡ page_at l.format slots i
written_frame l region first count i slots bytes old new known small inside room lt seen long written size =
    let own = SEGMENT_SLOTS * l.format in
    let ends : own * i + own ≤ own * count = omega (arith, times_up own (suc i) count lt) in
    let start = segment_place l region (first + i) in
    let from = own * i * SLOT_SIZE in
    let here : segment_place l region first + from ≡ start = omega arith in
    let whole : segment_size l ≡ own * SLOT_SIZE = omega arith in
    let front = slice_range slots 0 (0 + own * count) in
    let all : length front ≡ own * count = length-take-le (0 + own * count - 0) (drop 0 slots) (omega (arith, room)) ∙ omega arith in
    let within : start + segment_size l ≤ length new = omega (arith, written.size, size, segment_within l region (first + i) known small (omega (arith, lt, inside))) in
    let one : length (slice_range new start (start + segment_size l)) ≡ segment_size l = length-slice_range new start (start + segment_size l) (omega arith) within ∙ omega arith in
    let two : length (slice_range bytes from (from + own * SLOT_SIZE)) ≡ segment_size l = length-slice_range bytes from (from + own * SLOT_SIZE) (omega arith) (omega (arith, long, ends)) ∙ omega arith in
    ext_get_or 0 (slice_range new start (start + segment_size l)) (slice_range bytes from (from + own * SLOT_SIZE)) (one ∙ sym two) (λ k below.
    let k_small : k < segment_size l = omega (arith, below, one) in
    let at : start + k ≡ segment_place l region first + (from + k) = omega (arith, here) in
    byte-slice_range new start (start + segment_size l) k (omega (arith, k_small)) ∙ ap (byte new) at ∙ written.inside (from + k) (omega (arith, k_small, ends, long, whole))
    ∙ sym (byte-slice_range bytes from (from + own * SLOT_SIZE) k (omega (arith, k_small, whole))))
    ∙ run_bytes (own * count) (own * i) own bytes front seen (sym long) (omega (arith, all, ends)) ∙ ap bytes_of (frames_of_front own slots count i lt room)

-- the run lies within the file
pub run_within : (l : Layout) (region first count : ℕ) → IsFormat l.hmax l.format → region < 2 → 1 ≤ count → first + count ≤ 2 ^ height_limit l → segment_place l region first + segment_size l * count ≤ file_length l
run_within l region first count known small some inside =
    let last = segment_within l region (first + (count - 1)) known small (omega (arith, some, inside)) in
    omega (arith, last, times_split l.format 1 count some)

-- the bytes of a segment of the other region
pub spare_long : (place : Place) (i : ℕ) (file : List ℕ) → IsFormat place.layout.hmax place.layout.format → length file ≡ file_length place.layout → i < 2 ^ height_limit place.layout → length (spare_bytes place i file) ≡ segment_size place.layout
spare_long place i file known size lt =
    let start = segment_place place.layout (1 - place.region) i in
    length-slice_range file start (start + segment_size place.layout) (omega arith) (omega (arith, size, segment_within place.layout (1 - place.region) i known (omega arith) lt)) ∙ omega arith

-- those of earlier segments stay
pub spare_kept : (place : Place) (first count i : ℕ) (old new : List ℕ) → IsFormat place.layout.hmax place.layout.format → length old ≡ file_length place.layout → 1 ≤ count → first + count ≤ 2 ^ height_limit place.layout → i < first → Touched (InRange (segment_place place.layout (1 - place.region) first) (segment_size place.layout * count)) old new → spare_bytes place i new ≡ spare_bytes place i old
spare_kept place first count i old new known size some inside before touched =
    let l = place.layout in
    let start = segment_place l (1 - place.region) i in
    let end : start + segment_size l ≤ length old = omega (arith, size, segment_within l (1 - place.region) i known (omega arith) (omega (arith, inside, before))) in
    range_same old new start (start + segment_size l) (omega arith) end (omega (arith, end, touched.size)) (λ k from to. touched.rest k (λ there. omega (arith, there.0, to, times_up l.format (suc i) first before)))

-- and those of later ones
pub spare_behind : (place : Place) (first count i : ℕ) (old new : List ℕ) → IsFormat place.layout.hmax place.layout.format → length old ≡ file_length place.layout → first + count ≤ i → i < 2 ^ height_limit place.layout → Touched (InRange (segment_place place.layout (1 - place.region) first) (segment_size place.layout * count)) old new → spare_bytes place i new ≡ spare_bytes place i old
spare_behind place first count i old new known size after within touched =
    let l = place.layout in
    let start = segment_place l (1 - place.region) i in
    let end : start + segment_size l ≤ length old = omega (arith, size, segment_within l (1 - place.region) i known (omega arith) within) in
    range_same old new start (start + segment_size l) (omega arith) end (omega (arith, end, touched.size)) (λ k from to. touched.rest k (λ there. omega (arith, there.1, from, times_up l.format (first + count) i after)))
