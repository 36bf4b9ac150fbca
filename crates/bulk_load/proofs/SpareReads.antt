-- Runs of segments of the region that isn't live, read into frames and written from them.
use Rattle.std.proofs.Common.{◌≡◌, ◌⊎◌, inl, inr, ℕ, suc, ◌+◌, ◌-◌, ◌*◌, ◌^◌, ◌<◌, ◌≤◌, List, [], length, drop, get_or, get_or-take, get_or-drop, slice_range, refl, sym, ap, ◌∙◌, arith}
use Rattle.std.specs.List.{splice}
use Rattle.std.proofs.lemmas.List.{ext_get_or}
use Rattle.station.specs.Bytes.{byte, Filled, Written, InRange, Touched}
use Rattle.station.proofs.Ranges.{byte-slice_range, length-slice_range, range_same}
use Rattle.key_slot.specs.declared.sizes.TheConstants.{SEGMENT_SLOTS, SLOT_SIZE}
use Rattle.key_slot.proofs.SegmentLaws.{times_up}
use Rattle.header_gate.specs.declared.layout.Layout.{Layout}
use Rattle.header_gate.specs.Places.{IsFormat, segment_size, segment_place, file_length, height_limit}
use Rattle.header_gate.proofs.PagedSegments.{segment_within}
use Rattle.map_model.specs.Regions.{region_bytes}
use Rattle.raw_slots.specs.Slots.{bytes_of, slots_in}
use Rattle.raw_slots.proofs.SlotLists.{length-slots_in}
use Rattle.raw_slots.proofs.Runs.{run_bytes, length-splice}
use Rattle.raw_slots.proofs.Runs.{length-slice_range as length-run}
use Rattle.redo_journal.specs.declared.place.Place.{Place}
use Rattle.segment_frames.specs.Lists.{frames_of, page_at}
use Rattle.segment_frames.proofs.Slots.{splice_inside}
use Rattle.segment_frames.proofs.Grouped.{length-frames_of, frames_at}
use Rattle.resize_region.specs.Spare.{spare_bytes}

-- What is read.

module _ (l : Layout) (region : ℕ) (file : List ℕ) (s : List (List ℕ)) (n count : ℕ) (w : List ℕ) (known : IsFormat l.hmax l.format) (long : length w ≡ SEGMENT_SLOTS * l.format * count * SLOT_SIZE) (room : SEGMENT_SLOTS * l.format * count ≤ length s)
    (filled : Filled (segment_place l region n) file w) (small : region < 2) (inside : n + count ≤ 2 ^ height_limit l) (size_is : length file ≡ file_length l) where
  -- the slots of a segment's frames
  abbrev own : ℕ
  own = SEGMENT_SLOTS * l.format

  abbrev put : List (List ℕ)
  put = splice s 0 (0 + own * count) (slots_in (own * count) w)

  long_put : length (slots_in (own * count) w) ≡ own * count
  long_put = length-slots_in (own * count) w

  size_put : length put ≡ length s
  size_put = length-splice s 0 (own * count) (slots_in (own * count) w) (omega (arith, room)) long_put

  before : (i : ℕ) → i < count → own * i + own ≤ own * count
  before i lt = omega (arith, times_up own (suc i) count lt)

  -- the frames of a segment are a part of what was read
  frame_put : (i : ℕ) → i < count → frames_of l.format i put ≡ slice_range (slots_in (own * count) w) (own * i) (own * i + own)
  frame_put i lt =
      let ends = before i lt in
      let whole : length (frames_of l.format i put) ≡ own = length-frames_of l.format i put (omega (arith, ends, room, size_put)) in
      let part : length (slice_range (slots_in (own * count) w) (own * i) (own * i + own)) ≡ own = length-run (slots_in (own * count) w) (own * i) own (omega (arith, ends, long_put)) in
      ext_get_or [] (frames_of l.format i put) (slice_range (slots_in (own * count) w) (own * i) (own * i + own)) (whole ∙ sym part) (λ j below.
      let j_small : j < own = omega (arith, below, whole) in
      let here : own * i + j ≡ 0 + (own * i + j) = omega arith in
      frames_at l.format i j put j_small ∙ ap (λ (k : ℕ). get_or put k []) here
      ∙ splice_inside s 0 (own * count) (slots_in (own * count) w) [] (omega (arith, room)) long_put (own * i + j) (omega (arith, ends, j_small))
      ∙ sym (get_or-take (own * i + own - own * i) (drop (own * i) (slots_in (own * count) w)) j [] (omega (arith, j_small)) ∙ get_or-drop (own * i) (slots_in (own * count) w) j []))

  pub run_read : (i : ℕ) → i < count → page_at l.format put i ≡ region_bytes l region (n + i) file
  run_read i lt =
      let ends = before i lt in
      let from = own * i * SLOT_SIZE in
      let size_of = own * SLOT_SIZE in
      let start = segment_place l region (n + i) in
      let here : segment_place l region n + from ≡ start = omega arith in
      let whole : segment_size l ≡ size_of = omega arith in
      let within : start + segment_size l ≤ length file = omega (arith, size_is, segment_within l region (n + i) known small (omega (arith, lt, inside))) in
      let size : length (slice_range w from (from + size_of)) ≡ size_of = length-slice_range w from (from + size_of) (omega arith) (omega (arith, long, ends)) ∙ omega arith in
      ap bytes_of (frame_put i lt)
      ∙ sym (run_bytes (own * count) (own * i) own w (slots_in (own * count) w) refl (sym long) (omega (arith, ends, long_put)))
      ∙ ext_get_or 0 (slice_range w from (from + size_of)) (region_bytes l region (n + i) file) (size ∙ sym (length-slice_range file start (start + segment_size l) (omega arith) within ∙ omega arith)) (λ k below.
      let k_small : k < size_of = omega (arith, below, size) in
      let there : segment_place l region n + (from + k) ≡ start + k = omega (arith, here) in
      byte-slice_range w from (from + size_of) k (omega (arith, k_small)) ∙ filled (from + k) (omega (arith, k_small, ends, long)) ∙ ap (byte file) there
      ∙ sym (byte-slice_range file start (start + segment_size l) k (omega (arith, k_small, whole))))

-- What is written.

-- a run of a run
inner_run : (slots : List (List ℕ)) (start n a len : ℕ) → a + len ≤ n → start + n ≤ length slots → slice_range (slice_range slots start (start + n)) a (a + len) ≡ slice_range slots (start + a) (start + a + len)
inner_run slots start n a len inside room =
    let front = slice_range slots start (start + n) in
    let all : length front ≡ n = length-run slots start n room in
    let one : length (slice_range front a (a + len)) ≡ len = length-run front a len (omega (arith, all, inside)) in
    let two : length (slice_range slots (start + a) (start + a + len)) ≡ len = length-run slots (start + a) len (omega (arith, room, inside)) in
    ext_get_or [] (slice_range front a (a + len)) (slice_range slots (start + a) (start + a + len)) (one ∙ sym two) (λ j below.
    let small : j < len = omega (arith, below, one) in
    let here : start + (a + j) ≡ start + a + j = omega arith in
    get_or-take (a + len - a) (drop a front) j [] (omega (arith, small)) ∙ get_or-drop a front j []
    ∙ get_or-take (start + n - start) (drop start slots) (a + j) [] (omega (arith, inside, small)) ∙ get_or-drop start slots (a + j) []
    ∙ ap (λ (p : ℕ). get_or slots p []) here
    ∙ sym (get_or-take (start + a + len - (start + a)) (drop (start + a) slots) j [] (omega (arith, small)) ∙ get_or-drop (start + a) slots j []))

-- what was written are the frames from segment f on
pub run_written : (l : Layout) (region f first count i : ℕ) (slots : List (List ℕ)) (bytes old new : List ℕ) → IsFormat l.hmax l.format → region < 2 → first + count ≤ 2 ^ height_limit l → SEGMENT_SLOTS * l.format * f + SEGMENT_SLOTS * l.format * count ≤ length slots → i < count
    → slots_in (SEGMENT_SLOTS * l.format * count) bytes ≡ slice_range slots (SEGMENT_SLOTS * l.format * f) (SEGMENT_SLOTS * l.format * f + SEGMENT_SLOTS * l.format * count) → length bytes ≡ SEGMENT_SLOTS * l.format * count * SLOT_SIZE → Written (segment_place l region first) bytes old new → length old ≡ file_length l
    → region_bytes l region (first + i) new ≡ page_at l.format slots (f + i)
run_written l region f first count i slots bytes old new known small inside room lt seen long written size =
    let own = SEGMENT_SLOTS * l.format in
    let ends : own * i + own ≤ own * count = omega (arith, times_up own (suc i) count lt) in
    let start = segment_place l region (first + i) in
    let from = own * i * SLOT_SIZE in
    let here : segment_place l region first + from ≡ start = omega arith in
    let whole : segment_size l ≡ own * SLOT_SIZE = omega arith in
    let front = slice_range slots (own * f) (own * f + own * count) in
    let all : length front ≡ own * count = length-run slots (own * f) (own * count) room in
    let within : start + segment_size l ≤ length new = omega (arith, written.size, size, segment_within l region (first + i) known small (omega (arith, lt, inside))) in
    let one : length (slice_range new start (start + segment_size l)) ≡ segment_size l = length-slice_range new start (start + segment_size l) (omega arith) within ∙ omega arith in
    let two : length (slice_range bytes from (from + own * SLOT_SIZE)) ≡ segment_size l = length-slice_range bytes from (from + own * SLOT_SIZE) (omega arith) (omega (arith, long, ends)) ∙ omega arith in
    let there : own * f + own * i ≡ own * (f + i) = omega arith in
    ext_get_or 0 (slice_range new start (start + segment_size l)) (slice_range bytes from (from + own * SLOT_SIZE)) (one ∙ sym two) (λ k below.
    let k_small : k < segment_size l = omega (arith, below, one) in
    let at : start + k ≡ segment_place l region first + (from + k) = omega (arith, here) in
    byte-slice_range new start (start + segment_size l) k (omega (arith, k_small)) ∙ ap (byte new) at ∙ written.inside (from + k) (omega (arith, k_small, ends, long, whole))
    ∙ sym (byte-slice_range bytes from (from + own * SLOT_SIZE) k (omega (arith, k_small, whole))))
    ∙ run_bytes (own * count) (own * i) own bytes front seen (sym long) (omega (arith, all, ends)) ∙ ap bytes_of (inner_run slots (own * f) (own * count) (own * i) own ends room)
    ∙ ap (λ (p : ℕ). bytes_of (slice_range slots p (p + own))) there

-- the bytes of all other segments of the other region stay
pub spare_same : (place : Place) (first count i : ℕ) (old new : List ℕ) → IsFormat place.layout.hmax place.layout.format → length old ≡ file_length place.layout → i < 2 ^ height_limit place.layout → (i < first) ⊎ (first + count ≤ i)
    → Touched (InRange (segment_place place.layout (1 - place.region) first) (segment_size place.layout * count)) old new → spare_bytes place i new ≡ spare_bytes place i old
spare_same place first count i old new known size lt apart touched =
    let l = place.layout in
    let start = segment_place l (1 - place.region) i in
    let end : start + segment_size l ≤ length old = omega (arith, size, segment_within l (1 - place.region) i known (omega arith) lt) in
    range_same old new start (start + segment_size l) (omega arith) end (omega (arith, end, touched.size)) (λ k from to. touched.rest k (λ there. out apart k from to there))
  where
    out : (i < first) ⊎ (first + count ≤ i) → (k : ℕ) → segment_place place.layout (1 - place.region) i ≤ k → k < segment_place place.layout (1 - place.region) i + segment_size place.layout
        → InRange (segment_place place.layout (1 - place.region) first) (segment_size place.layout * count) k → ⊥
    out (inl before) k from to there = omega (arith, there.0, to, times_up place.layout.format (suc i) first before)
    out (inr behind) k from to there = omega (arith, there.1, from, times_up place.layout.format (first + count) i behind)
