-- The pages of runs of segments, and the segments of pages.
use Rattle.std.proofs.Common.{◌≡◌, inl, inr, ℕ, zero, suc, ◌+◌, ◌*◌, ◌/◌, ◌<◌, ◌≤◌, List, ◌∷◌, ◌++◌, length, get_or, sym, ap, ap₂, ◌∙◌, arith, ne_eqb}
use Rattle.std.specs.Prelude.{map, if◌then◌else◌, ◌==◌, Bool, true, false}
use Rattle.std.specs.List.{range_with_len}
use Rattle.std.proofs.lemmas.List.{ext_get_or}
use Rattle.std.proofs.lemmas.List.Concat.{flat_map-append}
use Rattle.std.proofs.lemmas.List.FromFn.{length-map-range_with_len, get_or-map-range_with_len}
use Rattle.std.proofs.Math.Nat.{mul-div_cancel_left, mul-div-le}
use Rattle.header_gate.specs.declared.layout.Layout.{Layout}
use Rattle.header_gate.specs.Paged.{pages_of, pages_of_all}
use Rattle.header_gate.proofs.PagedSegments.{page_at, page_of_segment, length-pages_of_all}
use Rattle.header_gate.specs.Recovered.{Ascends}
use Rattle.key_slot.proofs.SegmentLaws.{times_up}
use Rattle.std.proofs.lemmas.Bool.{cases_lt}
use Rattle.segment_frames.specs.declared.runs.Runs.{Runs}
use Rattle.redo_journal.specs.Neighbours.{run_count}
use Rattle.redo_journal.proofs.RunCounts.{run_count_joined, run_count_side_by_side}
use Rattle.segment_frames.specs.FrameReading.{call_for, calls_for}
use Rattle.segment_frames.specs.Lists.{most_segments, numbers_of, segments_in}

-- runs side by side
range_joined : (a m n : ℕ) → range_with_len a m ++ range_with_len (a + m) n ≡ range_with_len a (m + n)
range_joined a zero n = ap (λ (k : ℕ). range_with_len k n) {x = a + 0} {y = a} (omega arith) ∙ ap (range_with_len a) {x = n} {y = 0 + n} (omega arith)
range_joined a (suc m) n =
    let at : a + suc m ≡ a + 1 + m = omega arith in
    let size : suc (m + n) ≡ suc m + n = omega arith in
    ap (λ (k : ℕ). range_with_len a (suc m) ++ range_with_len k n) at ∙ ap (λ (l : List ℕ). a ∷ l) (range_joined (a + 1) m n) ∙ ap (range_with_len a) size

-- the pages of a run of segments are a run of pages
pub pages_of_run : (format a n : ℕ) → pages_of_all format (range_with_len a n) ≡ range_with_len (format * a) (format * n)
pages_of_run format a zero = ap (range_with_len (format * a)) {x = 0} {y = format * 0} (omega arith)
pages_of_run format a (suc n) =
    let at : format * (a + 1) ≡ format * a + format = omega arith in
    let size : format + format * n ≡ format * suc n = omega arith in
    ap (λ (l : List ℕ). pages_of format a ++ l) (pages_of_run format (a + 1) n ∙ ap (λ (k : ℕ). range_with_len k (format * n)) at)
    ∙ range_joined (format * a) format (format * n) ∙ ap (range_with_len (format * a)) size

-- a run of segments has pages only where it has segments
few_pages : (format n : ℕ) → call_for (format * n) ≤ call_for n
few_pages format zero = omega (arith, ap call_for {x = format * 0} {y = 0} (omega arith))
few_pages format (suc n) =
    let some : call_for (suc n) ≡ 1 = ap (λ b. if b then 0 else 1) (ne_eqb (suc n) 0 (λ e. omega (arith, e))) in
    omega (arith, some, most (format * suc n == 0))
  where
    most : (b : Bool) → (if b then 0 else 1) ≤ 1
    most true = omega arith
    most false = omega arith

pub pages_of_runs : (format : ℕ) (r : Runs) → pages_of_all format (numbers_of r) ≡ range_with_len (format * r.low) (format * r.low_len) ++ range_with_len (format * r.high) (format * r.high_len)
unfolding numbers_of
pages_of_runs format r =
    flat_map-append (pages_of format) (range_with_len r.low r.low_len) (range_with_len r.high r.high_len)
    ∙ ap₂ ◌++◌ (pages_of_run format r.low r.low_len) (pages_of_run format r.high r.high_len)

-- the segments of the pages of segments are those segments
pub segments_back : (format : ℕ) (numbers : List ℕ) → 1 ≤ format → segments_in format (pages_of_all format numbers) ≡ numbers
unfolding segments_in
segments_back format numbers some =
    let pages = pages_of_all format numbers in
    let first = λ (k : ℕ). get_or pages (format * k) 0 / format in
    let count : length pages / format ≡ length numbers = ap (λ (k : ℕ). k / format) (length-pages_of_all format numbers) ∙ mul-div_cancel_left (length numbers) {n = format} (omega (arith, some)) in
    let size : length (map first (range_with_len 0 (length pages / format))) ≡ length numbers = length-map-range_with_len first 0 (length pages / format) ∙ count in
    ext_get_or 0 (map first (range_with_len 0 (length pages / format))) numbers size (λ k lt.
    let within : k < length numbers = omega (arith, lt, size) in
    let at : format * k + 0 ≡ format * k = omega arith in
    let page : get_or pages (format * k) 0 ≡ format * get_or numbers k 0 = ap (λ (i : ℕ). get_or pages i 0) (sym at) ∙ page_at format numbers k 0 within (omega (arith, some)) ∙ omega arith in
    get_or-map-range_with_len first 0 (length pages / format) k k 0 (omega (arith, within, count)) (omega arith)
    ∙ ap (λ (n : ℕ). n / format) page ∙ mul-div_cancel_left (get_or numbers k 0) {n = format} (omega (arith, some)))

-- the pages of a batch are those of its segments, where they are those of any
pub pages_back : (format : ℕ) (pages numbers : List ℕ) → 1 ≤ format → pages ≡ pages_of_all format numbers → segments_in format pages ≡ numbers
pages_back format pages numbers some are = ap (segments_in format) are ∙ segments_back format numbers some

pub whole_pages : (format : ℕ) (pages numbers : List ℕ) → 1 ≤ format → pages ≡ pages_of_all format numbers → pages ≡ pages_of_all format (segments_in format pages)
whole_pages format pages numbers some are = are ∙ ap (pages_of_all format) (sym (pages_back format pages numbers some are))

-- segments whose pages ascend ascend
pub segments_ascend : (format : ℕ) (numbers : List ℕ) → 1 ≤ format → Ascends (pages_of_all format numbers) → Ascends numbers
segments_ascend format numbers some ascends i j lt below =
    let size = length-pages_of_all format numbers in
    let first = page_at format numbers i 0 (omega (arith, lt, below)) (omega (arith, some)) in
    let second = page_at format numbers j 0 below (omega (arith, some)) in
    let before : format * i + 0 < format * j + 0 = omega (arith, some, times_up format (suc i) j lt) in
    let less = ascends (format * i + 0) (format * j + 0) before (omega (arith, size, page_of_segment format (length numbers) j 0 below (omega (arith, some)))) in
    elim (cases_lt (get_or numbers i 0) (get_or numbers j 0)) [
      | inl is ↦ is
      | inr le ↦ absurd (omega (arith, first, second, less, times_up format (get_or numbers j 0) (get_or numbers i 0) le))
    ]

-- the pages of that many segments go into the journal
pub fits_journal : (l : Layout) (n : ℕ) → n ≤ most_segments l → l.format * n ≤ l.journal
fits_journal l n le = omega (arith, times_up l.format n (l.journal / l.format) le, mul-div-le l.journal l.format)

-- the pages of two runs make a run for each that has a segment
pub few_runs : (format : ℕ) (pages : List ℕ) (r : Runs) → pages ≡ pages_of_all format (segments_in format pages) → segments_in format pages ≡ numbers_of r → run_count pages ≤ calls_for r
few_runs format pages r whole named =
    let high = range_with_len (format * r.high) (format * r.high_len) in
    omega (
      arith,
      ap run_count (whole ∙ ap (pages_of_all format) named ∙ pages_of_runs format r),
      run_count_joined (format * r.low) (format * r.low_len) high,
      run_count_side_by_side (format * r.high) (format * r.high_len),
      few_pages format r.low_len,
      few_pages format r.high_len,
    )

-- a run is read or written by one call at most
pub call_few : (n : ℕ) → call_for n ≤ 1
call_few n = few (n == 0)
  where
    few : (b : Bool) → (if b then 0 else 1) ≤ 1
    few true = omega arith
    few false = omega arith

-- two runs by two
pub calls_few : (r : Runs) → calls_for r ≤ 2
calls_few r = omega (arith, call_few r.low_len, call_few r.high_len)

-- and by one where the higher one is empty
pub one_run : (r : Runs) → r.high_len ≡ 0 → calls_for r ≤ 1
one_run r none = omega (arith, call_few r.low_len, ap call_for none)
