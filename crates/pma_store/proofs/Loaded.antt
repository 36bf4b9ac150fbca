-- A segment more in the frames of a batch.
use Rattle.std.proofs.Common.{◌≡◌, ℕ, suc, ◌+◌, ◌*◌, ◌/◌, ◌-◌, ◌<◌, ◌≤◌, List, [], ◌∷◌, ◌++◌, length, get_or, refl, sym, ap, subst, ◌∙◌, arith, inl, inr}
use Rattle.std.specs.List.{splice}
use Rattle.std.proofs.lemmas.Bool.{cases_lt}
use Rattle.std.proofs.lemmas.List.{append-nil, length-append, ext_get_or, get_or_append_left, get_or-append_right}
use Rattle.std.proofs.lemmas.List.Concat.{flat_map-append}
use Rattle.header_gate.specs.Paged.{pages_of, pages_of_all}
use Rattle.header_gate.proofs.PagedSegments.{page_there}
use Rattle.key_slot.specs.Record.{Record}
use Rattle.key_slot.specs.Segment.{IsSegment}
use Rattle.key_slot.specs.declared.sizes.TheConstants.{SEGMENT_SLOTS}
use Rattle.key_slot.proofs.SegmentLaws.{times_up}
use Rattle.map_model.specs.Array.{Array, segment_at}
use Rattle.raw_slots.specs.Slots.{slots_in}
use Rattle.raw_slots.proofs.SlotLists.{length-slots_in}
use Rattle.redo_journal.specs.Frames.{Batch, IsFrames}
use Rattle.segment_frames.specs.HeldRecords.{grouped, HoldsRows, HoldsLists}
use Rattle.segment_frames.specs.Lists.{frames_of, rows_in, segments_in, held_lists, IsHeld}
use Rattle.segment_frames.proofs.Alike.{held_turned}
use Rattle.segment_frames.proofs.FrameLaws.{holds_decoded, lists_back, length-rows_in}
use Rattle.segment_frames.proofs.Grouped.{frames_at, grouped_same, length-frames_of, length-grouped, all_within, segment_room}
use Rattle.segment_frames.proofs.PageNumbers.{pages_back, whole_pages}
use Rattle.segment_frames.proofs.Slots.{splice_before, splice_inside}
use Rattle.raw_slots.proofs.Runs.{length-splice}
use Rattle.pma_store.specs.declared.batch_scan.BatchScan.{BatchScan}
use Rattle.pma_store.specs.Looked.{AreLoaded}

-- The pages of the batch so far lie below those of a segment above its segments.
pub pages_below : (format : ℕ) (b : Batch) (segment : ℕ) → IsHeld format b → ((k : ℕ) → k < length (segments_in format b.numbers) → get_or (segments_in format b.numbers) k 0 < segment) → (j : ℕ) → j < length b.numbers → get_or b.numbers j 0 < format * segment
pages_below format b segment held above j lt =
    let numbers = segments_in format b.numbers in
    let same : get_or b.numbers j 0 ≡ get_or (pages_of_all format numbers) j 0 = ap (λ (ns : List ℕ). get_or ns j 0) held.pages in
    let page = page_there format numbers j held.known.least (omega (arith, lt, ap length held.pages)) in
    omega (arith, same, page.number_is, page.small, times_up format (suc (get_or numbers (j / format) 0)) segment (above (j / format) page.within))

pub pages_more : (format : ℕ) (b : Batch) (segment : ℕ) → IsHeld format b → b.numbers ++ pages_of format segment ≡ pages_of_all format (segments_in format b.numbers ++ segment ∷ [])
pages_more format b segment held =
    ap (λ (ns : List ℕ). ns ++ pages_of format segment) held.pages
    ∙ ap (λ (ns : List ℕ). pages_of_all format (segments_in format b.numbers) ++ ns) (sym (append-nil (pages_of format segment)))
    ∙ sym (flat_map-append (pages_of format) (segments_in format b.numbers) (segment ∷ []))

module _ (format : ℕ) (b : Batch) (f segment : ℕ) (rows : List Record) (written : List ℕ) (held : IsHeld format b) (last : f ≡ length (segments_in format b.numbers)) (room : format * (f + 1) ≤ b.journal) (is : IsSegment format rows written) where
  abbrev own : ℕ
  own = SEGMENT_SLOTS * format

  abbrev slots : List (List ℕ)
  slots = splice b.slots (own * f) (own * f + own) (slots_in own written)

  -- the batch with the segment
  abbrev pub with_segment : Batch
  with_segment = record { journal = b.journal; turn = b.turn; numbers = pages_of_all format (segments_in format b.numbers ++ segment ∷ []); slots = slots }

  there : own * f + own ≤ length b.slots
  there = segment_room format f b.journal b.slots held.frames.frames room

  size : length slots ≡ length b.slots
  size = length-splice b.slots (own * f) own (slots_in own written) there (length-slots_in own written)

  -- its frames hold the rows
  seen : slots_in own written ≡ frames_of format f slots
  seen =
      let whole : length (frames_of format f slots) ≡ own = length-frames_of format f slots (omega (arith, there, size)) in
      ext_get_or [] (slots_in own written) (frames_of format f slots) (length-slots_in own written ∙ sym whole) (λ j lt.
      let small : j < own = omega (arith, lt, length-slots_in own written) in
      sym (frames_at format f j slots small ∙ splice_inside b.slots (own * f) own (slots_in own written) [] there (length-slots_in own written) j small))

  here : HoldsRows format rows f (grouped format slots)
  here = holds_decoded format rows f slots written held.known.least (omega (arith, there, size)) is seen

  -- and the frames before them what they held
  before : (k : ℕ) (own_rows : List Record) → k < f → HoldsRows format own_rows k (grouped format b.slots) → HoldsRows format own_rows k (grouped format slots)
  before k own_rows lt was = record {
    most = was.most;
    records = was.records;
    slots_are = λ j low.
        grouped_same format (SEGMENT_SLOTS * k + j) b.slots slots size (λ r few.
        splice_before b.slots (own * f) own (slots_in own written) [] there (length-slots_in own written) (format * (SEGMENT_SLOTS * k + j) + r)
        (omega (arith, few, times_up format (suc (SEGMENT_SLOTS * k + j)) (SEGMENT_SLOTS * f) (omega (arith, lt, low)))))
        ∙ was.slots_are j low;
  }

  abbrev lists : Array
  lists = held_lists format b ++ rows ∷ []

  count : length (held_lists format b) ≡ f
  count = length-rows_in format (length (segments_in format b.numbers)) b.slots ∙ sym last

  all : HoldsLists format lists (grouped format slots)
  all = record {
    room =
        let fits : format * (SEGMENT_SLOTS * (f + 1)) ≤ length slots = omega (arith, there, size) in
        omega (arith, length-append (held_lists format b) (rows ∷ []), count, length-grouped format slots, all_within format (SEGMENT_SLOTS * (f + 1)) (length slots) held.known.least fits);
    each = λ k lt. elim (cases_lt k f) [
      | inl low ↦
          let inside : k < length (held_lists format b) = omega (arith, low, count) in
          subst (λ (r : List Record). HoldsRows format r k (grouped format slots)) (sym (get_or_append_left (held_lists format b) (rows ∷ []) [] k inside)) (before k (segment_at (held_lists format b) k) low (held.lists.each k inside))
      | inr high ↦
          let at : k ≡ f = omega (arith, high, lt, length-append (held_lists format b) (rows ∷ []), count) in
          let none : k - f ≡ 0 = omega (arith, at) in
          subst (λ (r : List Record). HoldsRows format r k (grouped format slots)) (sym (get_or-append_right (held_lists format b) (rows ∷ []) f k [] count high ∙ ap (λ (n : ℕ). segment_at (rows ∷ []) n) none))
          (subst (λ (n : ℕ). HoldsRows format rows n (grouped format slots)) (sym at) here)
    ];
  }

  pub numbers_are : segments_in format with_segment.numbers ≡ segments_in format b.numbers ++ segment ∷ []
  numbers_are = pages_back format with_segment.numbers (segments_in format b.numbers ++ segment ∷ []) held.known.least refl

  pub lists_are : held_lists format with_segment ≡ held_lists format b ++ rows ∷ []
  lists_are =
      let long : length (segments_in format with_segment.numbers) ≡ length lists = ap length numbers_are ∙ length-append (segments_in format b.numbers) (segment ∷ []) ∙ omega (arith, last, count, length-append (held_lists format b) (rows ∷ [])) in
      ap (λ (n : ℕ). rows_in format n slots) long ∙ lists_back format lists slots held.known.least all

  pub still_held : IsFrames (record b { numbers = with_segment.numbers }) → IsHeld format with_segment
  still_held frames = record {
    known = held.known;
    frames = record { journal = frames.journal; turn = frames.turn; frames = size ∙ frames.frames; few = frames.few; ascends = frames.ascends; small = frames.small };
    pages = whole_pages format with_segment.numbers (segments_in format b.numbers ++ segment ∷ []) held.known.least refl;
    lists = subst (λ (a : Array). HoldsLists format a (grouped format slots)) (sym lists_are) all;
  }

-- frames that note another gate hold the same
pub loaded_turned : (format : ℕ) (b : Batch) (look : BatchScan) (from turn : ℕ) → turn < 2 → AreLoaded format b look from → AreLoaded format (record b { turn = turn }) look from
loaded_turned format b look from turn small is = record {
  held = held_turned format turn b small is.held;
  count_is = is.count_is;
  few = is.few;
  numbers_are = is.numbers_are;
  below = is.below;
  fits = is.fits;
  filled = is.filled;
}
