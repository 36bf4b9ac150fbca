-- Segments that are read into frames.
use Rattle.std.proofs.Common.{◌≡◌, inl, inr, ℕ, zero, suc, ◌+◌, ◌-◌, ◌*◌, ◌/◌, ◌^◌, ◌<◌, ◌≤◌, List, [], length, drop, get_or, get_or-take, get_or-drop, slice_range, refl, sym, ap, subst, ◌∙◌, arith}
use Rattle.std.specs.List.{splice}
use Rattle.std.proofs.lemmas.List.{ext_get_or, length-take-le, length-drop}
use Rattle.std.proofs.lemmas.List.FromFn.{length-map-range_with_len, get_or-map-range_with_len}
use Rattle.std.proofs.Math.Nat.{pow-le-pow_right}
use Rattle.station.specs.Bytes.{byte, Filled}
use Rattle.station.proofs.Ranges.{byte-slice_range, length-slice_range}
use Rattle.key_slot.specs.declared.sizes.TheConstants.{SEGMENT_SLOTS, SLOT_SIZE}
use Rattle.key_slot.specs.Record.{Record}
use Rattle.key_slot.specs.Segment.{IsSegment, segment_of}
use Rattle.key_slot.specs.Format.{HasFormat, format_of}
use Rattle.key_slot.proofs.SegmentLaws.{times_up, segment_rows}
use Rattle.header_gate.specs.Header.{layout_in, live_copy}
use Rattle.header_gate.specs.Places.{IsSlotFormat, IsFormat, segment_size, segment_place, height_limit}
use Rattle.header_gate.specs.Paged.{pages_of_all}
use Rattle.header_gate.proofs.PagedSegments.{segment_within, length-pages_of_all}
use Rattle.map_model.specs.Image.{array_in, live_segment, slot_format, height_of}
use Rattle.map_model.specs.Image.{array_of}
use Rattle.map_model.proofs.Headers.{even_segment}
use Rattle.raw_slots.specs.Slots.{bytes_of, slots_in}
use Rattle.raw_slots.proofs.SlotLists.{length-slots_in}
use Rattle.raw_slots.proofs.Runs.{run_bytes, length-splice}
use Rattle.header_gate.specs.declared.layout.Layout.{Layout}
use Rattle.header_gate.specs.InPlace.{IsRecovered}
use Rattle.redo_journal.specs.declared.place.Place.{Place}
use Rattle.redo_journal.specs.Commit.{IsAt}
use Rattle.redo_journal.specs.Frames.{Batch, IsFrames}
use Rattle.map_model.specs.Array.{segment_at}
use Rattle.segment_frames.specs.HeldRecords.{grouped, HoldsRows}
use Rattle.segment_frames.specs.FrameStanding.{IsSettledAt}
use Rattle.segment_frames.specs.Lists.{frames_of, page_at, rows_at, segments_in, IsHeld}
use Rattle.segment_frames.specs.FrameReading.{HasRead, segment_bytes_at}
use Rattle.segment_frames.proofs.Slots.{splice_inside}
use Rattle.segment_frames.proofs.FrameLaws.{length-rows_in, rows_in_at, holds_decoded}
use Rattle.segment_frames.proofs.Grouped.{all_within, length-grouped, length-frames_of, frames_at}

-- Frames.

-- the frames of a segment of which no slot changed
pub frame_kept : (format f : ℕ) (old new : List (List ℕ)) → length new ≡ length old → SEGMENT_SLOTS * format * f + SEGMENT_SLOTS * format ≤ length old
    → ((p : ℕ) → p < SEGMENT_SLOTS * format * f + SEGMENT_SLOTS * format → get_or new p [] ≡ get_or old p []) → frames_of format f new ≡ frames_of format f old
frame_kept format f old new size room same =
    let long : length (frames_of format f new) ≡ SEGMENT_SLOTS * format = length-frames_of format f new (omega (arith, room, size)) in
    ext_get_or [] (frames_of format f new) (frames_of format f old) (long ∙ sym (length-frames_of format f old room)) (λ j lt.
    let small : j < SEGMENT_SLOTS * format = omega (arith, lt, long) in
    frames_at format f j new small ∙ same (SEGMENT_SLOTS * format * f + j) (omega (arith, small)) ∙ sym (frames_at format f j old small))

-- What is read.

module _ (place : Place) (file : List ℕ) (s : List (List ℕ)) (f n count : ℕ) (w : List ℕ) (known : IsFormat place.layout.hmax place.layout.format) (long : length w ≡ SEGMENT_SLOTS * place.layout.format * count * SLOT_SIZE) (room : SEGMENT_SLOTS * place.layout.format * f + SEGMENT_SLOTS * place.layout.format * count ≤ length s)
    (filled : Filled (segment_place place.layout place.region n) file w) (small : place.region < 2) (inside : n + count ≤ 2 ^ height_limit place.layout) (at : IsAt place file) where
  abbrev format : ℕ
  format = place.layout.format

  -- the slots of a segment's frames
  abbrev own : ℕ
  own = SEGMENT_SLOTS * place.layout.format

  abbrev put : List (List ℕ)
  put = splice s (own * f) (own * f + own * count) (slots_in (own * count) w)

  long_put : length (slots_in (own * count) w) ≡ own * count
  long_put = length-slots_in (own * count) w

  size_put : length put ≡ length s
  size_put = length-splice s (own * f) (own * count) (slots_in (own * count) w) room long_put

  before : (i : ℕ) → i < count → own * i + own ≤ own * count
  before i lt = omega (arith, times_up own (suc i) count lt)

  -- the frames of a segment are a part of what was read
  frame_put : (i : ℕ) → i < count → frames_of format (f + i) put ≡ slice_range (slots_in (own * count) w) (own * i) (own * i + own)
  frame_put i lt =
      let ends = before i lt in
      let whole : length (frames_of format (f + i) put) ≡ own = length-frames_of format (f + i) put (omega (arith, ends, room, size_put)) in
      let part : length (slice_range (slots_in (own * count) w) (own * i) (own * i + own)) ≡ own =
      length-take-le (own * i + own - own * i) (drop (own * i) (slots_in (own * count) w)) (omega (arith, ends, long_put, length-drop (own * i) (slots_in (own * count) w))) ∙ omega arith in
      ext_get_or [] (frames_of format (f + i) put) (slice_range (slots_in (own * count) w) (own * i) (own * i + own)) (whole ∙ sym part) (λ j below.
      let j_small : j < own = omega (arith, below, whole) in
      let here : own * (f + i) + j ≡ own * f + (own * i + j) = omega arith in
      frames_at format (f + i) j put j_small ∙ ap (λ (k : ℕ). get_or put k []) here
      ∙ splice_inside s (own * f) (own * count) (slots_in (own * count) w) [] room long_put (own * i + j) (omega (arith, ends, j_small))
      ∙ sym (get_or-take (own * i + own - own * i) (drop (own * i) (slots_in (own * count) w)) j [] (omega (arith, j_small)) ∙ get_or-drop (own * i) (slots_in (own * count) w) j []))

  pub has_read : HasRead place file put f n count
  has_read i lt =
      let ends = before i lt in
      let region = segment_place place.layout place.region n in
      let from = own * i * SLOT_SIZE in
      let size_of = own * SLOT_SIZE in
      let start = segment_place place.layout place.region (n + i) in
      let here : region + from ≡ start = omega arith in
      let whole : segment_size place.layout ≡ size_of = omega arith in
      let within : start + segment_size place.layout ≤ length file = omega (arith, at.size, segment_within place.layout place.region (n + i) known small (omega (arith, lt, inside))) in
      let size : length (slice_range w from (from + size_of)) ≡ size_of = length-slice_range w from (from + size_of) (omega arith) (omega (arith, long, ends)) ∙ omega arith in
      ap bytes_of (frame_put i lt)
      ∙ sym (run_bytes (own * count) (own * i) own w (slots_in (own * count) w) refl (sym long) (omega (arith, ends, long_put)))
      ∙ ext_get_or 0 (slice_range w from (from + size_of)) (segment_bytes_at place file (n + i)) (size ∙ sym (length-slice_range file start (start + segment_size place.layout) (omega arith) within ∙ omega arith)) (λ k below.
      let k_small : k < size_of = omega (arith, below, size) in
      let there : region + (from + k) ≡ start + k = omega (arith, here) in
      byte-slice_range w from (from + size_of) k (omega (arith, k_small)) ∙ filled (from + k) (omega (arith, k_small, ends, long)) ∙ ap (byte file) there
      ∙ sym (byte-slice_range file start (start + segment_size place.layout) k (omega (arith, k_small, whole))))

-- What stays read when frames behind it change.
pub read_kept : (place : Place) (file : List ℕ) (old new : List (List ℕ)) (f n count : ℕ) → length new ≡ length old → SEGMENT_SLOTS * place.layout.format * (f + count) ≤ length old
    → ((p : ℕ) → p < SEGMENT_SLOTS * place.layout.format * (f + count) → get_or new p [] ≡ get_or old p []) → HasRead place file old f n count → HasRead place file new f n count
read_kept place file old new f n count size room same read i lt =
    let own = SEGMENT_SLOTS * place.layout.format in
    let ends : own * suc (f + i) ≤ own * (f + count) = times_up own (suc (f + i)) (f + count) (omega (arith, lt)) in
    ap bytes_of (frame_kept place.layout.format (f + i) old new size (omega (arith, room, ends)) (λ p below. same p (omega (arith, below, ends)))) ∙ read i lt

-- What was decoded.
pub reads_as : (format : ℕ) (slots : List (List ℕ)) (f : ℕ) (rows : List Record) (bytes : List ℕ) → IsSegment format rows bytes → bytes ≡ page_at format slots f → rows_at format slots f ≡ rows
reads_as format slots f rows bytes is same = ap (segment_of format) (sym same) ∙ segment_rows format rows bytes is

pub decoded : (format : ℕ) (slots : List (List ℕ)) (f : ℕ) (rows : List Record) (bytes : List ℕ) → 1 ≤ format → SEGMENT_SLOTS * format * f + SEGMENT_SLOTS * format ≤ length slots → IsSegment format rows bytes → bytes ≡ page_at format slots f
    → slots_in (SEGMENT_SLOTS * format) bytes ≡ frames_of format f slots → HoldsRows format (rows_at format slots f) f (grouped format slots)
decoded format slots f rows bytes some room is same seen =
    subst (λ (r : List Record). HoldsRows format r f (grouped format slots)) (sym (reads_as format slots f rows bytes is same)) (holds_decoded format rows f slots bytes some room is seen)

-- a segment's length tells its format
pub format_is : (format : ℕ) (bytes : List ℕ) → IsSlotFormat format → length bytes ≡ SEGMENT_SLOTS * format * SLOT_SIZE → HasFormat bytes × (format_of bytes ≡ format)
format_is zero bytes is long = absurd (omega (arith, is.least))
format_is (suc zero) bytes is long = (inl (omega (arith, long)), ap (λ (n : ℕ). n / 4096) {x = length bytes} {y = 4096} (omega (arith, long)))
format_is (suc (suc zero)) bytes is long = (inr (omega (arith, long)), ap (λ (n : ℕ). n / 4096) {x = length bytes} {y = 8192} (omega (arith, long)))
format_is (suc (suc (suc n))) bytes is long = absurd (omega (arith, is.most))

-- a batch of whole segments, each of which holds its records
pub all_held : (format : ℕ) (b : Batch) → IsSlotFormat format → IsFrames b → b.numbers ≡ pages_of_all format (segments_in format b.numbers) → ((f : ℕ) → f < length (segments_in format b.numbers) → HoldsRows format (rows_at format b.slots f) f (grouped format b.slots)) → IsHeld format b
all_held format b known is pages each = record {
  known = known;
  frames = is;
  pages = pages;
  lists = record {
    room =
        let n = length (segments_in format b.numbers) in
        let paged : length b.numbers ≡ format * n = ap length pages ∙ length-pages_of_all format (segments_in format b.numbers) in
        let fits : format * (SEGMENT_SLOTS * n) ≤ length b.slots = omega (arith, is.frames, is.few, paged) in
        omega (arith, length-grouped format b.slots, length-rows_in format n b.slots, all_within format (SEGMENT_SLOTS * n) (length b.slots) known.least fits);
    each = λ f lt.
        let within : f < length (segments_in format b.numbers) = omega (arith, lt, length-rows_in format (length (segments_in format b.numbers)) b.slots) in
        subst (λ (r : List Record). HoldsRows format r f (grouped format b.slots)) (sym (rows_in_at format (length (segments_in format b.numbers)) b.slots f within)) (each f within);
  };
}

-- Segments of a settled image.

module _ (place : Place) (image : List ℕ) (is : IsSettledAt place image) where
  -- the bytes at its place are the segment's, where the journal lies in place
  pub settled_segment : IsRecovered place.layout image → (n : ℕ) → n < 2 ^ height_of image → segment_bytes_at place image n ≡ live_segment image n
  settled_segment done n lt =
      let inner : n < 2 ^ height_limit (layout_in image) = omega (arith, lt, pow-le-pow_right {n = 2} (omega arith) is.represents.header.height) in
      let layout : place.layout ≡ layout_in image = sym is.layout_is in
      let region : place.region ≡ live_copy image = sym is.region_is in
      (λ t. slice_range image (segment_place (layout t) (region t) n) (segment_place (layout t) (region t) n + segment_size (layout t)))
      ∙ sym (even_segment image is.represents.header (subst (λ (l : Layout). IsRecovered l image) layout done) n inner)

  pub length-array_of : length (array_of image) ≡ 2 ^ height_of image
  unfolding array_in
  length-array_of = length-map-range_with_len (λ i. segment_of (slot_format image) (live_segment image i)) 0 (2 ^ height_of image)

  pub list_of_segment : (n : ℕ) → n < 2 ^ height_of image → segment_at (array_of image) n ≡ segment_of (slot_format image) (live_segment image n)
  unfolding array_in
  list_of_segment n lt = get_or-map-range_with_len (λ i. segment_of (slot_format image) (live_segment image i)) 0 (2 ^ height_of image) n n [] lt (omega arith)
