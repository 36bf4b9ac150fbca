-- A segment lies in its region by its pages, and images replayed over the pages of segments are segments replayed over it.
use Rattle.std.proofs.Common.{◌≡◌, inl, inr, ℕ, zero, suc, ◌+◌, ◌-◌, ◌*◌, ◌/◌, ◌%◌, ◌^◌, ◌<◌, ◌≤◌, List, [], ◌∷◌, ◌++◌, length, get_or, refl, sym, ◌∙◌, ap, arith, length-append}
use Rattle.std.proofs.lemmas.Bool.{cases_lt}
use Rattle.std.proofs.lemmas.List.{get_or_append_left}
use Rattle.std.proofs.lemmas.List.FromFn.{length-range_with_len, get_or-range_with_len}
use Rattle.std.proofs.Math.Seq.{get_or-append_right}
use Rattle.std.proofs.Math.Pow.{pow_mono}
use Rattle.std.proofs.lemmas.Grind.{get_or_default_zero}
use Rattle.station.specs.Bytes.{byte}
use Rattle.header_gate.specs.declared.layout.Layout.{Layout}
use Rattle.header_gate.specs.Places.{IsSlotFormat, IsFormat, page_size, segment_size, page_place, segment_place, height_limit, area_place, file_length}
use Rattle.header_gate.specs.Recovered.{Ascends, IsBatch, replayed_over}
use Rattle.header_gate.specs.Paged.{pages_of, pages_of_all, segment_image}
use Rattle.header_gate.proofs.RecoveredPages.{page_before_area, laid_over_named, laid_over_unnamed}

-- Places.

-- what holds at each format holds
pub each_format : (P : ℕ → Type 0) (hmax format : ℕ) → IsFormat hmax format → P 1 → (1 ≤ hmax → P 2) → P format
each_format P hmax zero is one two = absurd (omega (arith, is.least))
each_format P hmax (suc zero) is one two = one
each_format P hmax (suc (suc zero)) is one two = two (omega (arith, is.room))
each_format P hmax (suc (suc (suc n))) is one two = absurd (omega (arith, is.most))

-- it is a slot format
pub known_format : (hmax format : ℕ) → IsFormat hmax format → IsSlotFormat format
known_format hmax format is = record { least = is.least; most = is.most }

-- the pages of a store fit its region
pub pages_fit : (hmax format height : ℕ) → IsFormat hmax format → height ≤ hmax + 1 - format → format * 2 ^ height ≤ 2 ^ hmax
pages_fit hmax format height is = each_format (λ f. height ≤ hmax + 1 - f → f * 2 ^ height ≤ 2 ^ hmax) hmax format is
    (λ low. omega (arith, pow_mono {i = height} {j = hmax} (omega (arith, low))))
    (λ some low. omega (arith, pow_mono {i = suc height} {j = hmax} (omega (arith, low, some))))

-- a page of a segment is one of the region
pub page_of_segment : (format n i q : ℕ) → i < n → q < format → format * i + q < format * n
page_of_segment format zero i q below small = absurd (omega arith)
page_of_segment format (suc n) zero q below small = omega (arith, small)
page_of_segment format (suc n) (suc i) q below small = omega (arith, page_of_segment format n i q (omega arith) small)

-- a segment of a region ends before the index
pub segment_before_area : (l : Layout) (region i : ℕ) → IsFormat l.hmax l.format → region < 2 → i < 2 ^ height_limit l → segment_place l region i + segment_size l ≤ area_place l
segment_before_area l region i is small below =
    let last = page_of_segment l.format (2 ^ height_limit l) i (l.format - 1) below (omega (arith, is.least)) in
    let fits = pages_fit l.hmax l.format (height_limit l) is (omega arith) in
    omega (arith, is.least, page_before_area l region (l.format * i + (l.format - 1)) small (omega (arith, last, fits)))

-- and within the file
pub segment_within : (l : Layout) (region i : ℕ) → IsFormat l.hmax l.format → region < 2 → i < 2 ^ height_limit l → segment_place l region i + segment_size l ≤ file_length l
segment_within l region i is small below = omega (arith, segment_before_area l region i is small below)

-- Pages of segments.

pub length-pages_of_all : (format : ℕ) (numbers : List ℕ) → length (pages_of_all format numbers) ≡ format * length numbers
length-pages_of_all format [] = omega arith
length-pages_of_all format (n ∷ numbers) = length-append (pages_of format n) (pages_of_all format numbers) ∙ omega (arith, length-range_with_len (format * n) format, length-pages_of_all format numbers)

pub page_at : (format : ℕ) (numbers : List ℕ) (k q : ℕ) → k < length numbers → q < format → get_or (pages_of_all format numbers) (format * k + q) 0 ≡ format * get_or numbers k 0 + q
page_at format [] k q lt small = absurd (omega (arith, lt))
page_at format (n ∷ numbers) zero q lt small =
    let size = length-range_with_len (format * n) format in
    ap (λ (j : ℕ). get_or (pages_of format n ++ pages_of_all format numbers) j 0) {x = format * 0 + q} {y = q} (omega arith)
    ∙ get_or_append_left (pages_of format n) (pages_of_all format numbers) 0 q (omega (arith, size, small))
    ∙ get_or-range_with_len (format * n) format q 0 small
page_at format (n ∷ numbers) (suc k) q lt small =
    let size = length-range_with_len (format * n) format in
    get_or-append_right (pages_of format n) (pages_of_all format numbers) (format * suc k + q) 0 (omega (arith, size))
    ∙ ap (λ (j : ℕ). get_or (pages_of_all format numbers) j 0) {x = format * suc k + q - length (pages_of format n)} {y = format * k + q} (omega (arith, size))
    ∙ page_at format numbers k q (omega (arith, lt)) small

times_up : (f m n : ℕ) → m ≤ n → f * m ≤ f * n
times_up f m n le = grind arith

-- a page is one of one segment
one_segment : (format n i r q : ℕ) → r < format → q < format → format * n + r ≡ format * i + q → n ≡ i
one_segment format zero zero r q small few same = refl
one_segment format zero (suc i) r q small few same = absurd (omega (arith, small, same))
one_segment format (suc n) zero r q small few same = absurd (omega (arith, few, same))
one_segment format (suc n) (suc i) r q small few same = ap suc (one_segment format n i r q small few (omega (arith, same)))

-- where page j of the pages of segments lies
pub record IsPageOf (format : ℕ) (numbers : List ℕ) (j k r : ℕ) : Type 0 where
  pub split : j ≡ format * k + r
  pub within : k < length numbers
  pub small : r < format
  pub number_is : get_or (pages_of_all format numbers) j 0 ≡ format * get_or numbers k 0 + r

pub page_there : (format : ℕ) (numbers : List ℕ) (j : ℕ) → 1 ≤ format → j < length (pages_of_all format numbers) → IsPageOf format numbers j (j / format) (j % format)
page_there format numbers j some lt =
    let size = length-pages_of_all format numbers in
    let parts : format * (j / format) + j % format ≡ j = omega (arith, some) in
    let small : j % format < format = omega (arith, some) in
    let within : j / format < length numbers = elim (cases_lt (j / format) (length numbers)) [
      | inl below ↦ below
      | inr past ↦ absurd (omega (arith, parts, lt, size, times_up format (length numbers) (j / format) past))
    ] in
    record {
      split = sym parts;
      within = within;
      small = small;
      number_is = ap (λ (n : ℕ). get_or (pages_of_all format numbers) n 0) (sym parts) ∙ page_at format numbers (j / format) (j % format) within small;
    }

no_page : (format : ℕ) (numbers : List ℕ) (i q : ℕ) → ((k : ℕ) → k < length numbers → get_or numbers k 0 ≡ i → ⊥) → q < format
    → (j : ℕ) → j < length (pages_of_all format numbers) → get_or (pages_of_all format numbers) j 0 ≡ format * i + q → ⊥
no_page format numbers i q none few j lt is =
    let there = page_there format numbers j (omega (arith, few)) lt in
    none (j / format) there.within (one_segment format (get_or numbers (j / format) 0) i (j % format) q there.small few (sym there.number_is ∙ is))

pub pages_ascend : (format : ℕ) (numbers : List ℕ) → 1 ≤ format → Ascends numbers → Ascends (pages_of_all format numbers)
pages_ascend format numbers some ascends i j before lt =
    let one = page_there format numbers i some (omega (arith, before, lt)) in
    let two = page_there format numbers j some lt in
    let a = i / format in
    let b = j / format in
    elim (cases_lt a b) [
      | inl below ↦ omega (arith, one, two, times_up format (suc (get_or numbers a 0)) (get_or numbers b 0) (ascends a b below two.within))
      | inr above ↦ elim (cases_lt b a) [
        | inl over ↦ absurd (omega (arith, one, two, before, times_up format (suc b) a over))
        | inr same ↦
            let e : b ≡ a = omega (arith, above, same) in
            let f : format * b ≡ format * a = ap (λ (n : ℕ). format * n) e in
            let g : format * get_or numbers b 0 ≡ format * get_or numbers a 0 = ap (λ (n : ℕ). format * get_or numbers n 0) e in
            omega (arith, one, two, before, f, g)
      ]
    ]

-- the pages of a batch of segments are a batch of pages
pub pages_batch : (journal bound format : ℕ) (numbers : List ℕ) → 1 ≤ format → format * length numbers ≤ journal → IsBatch (length numbers) bound numbers → IsBatch journal (format * bound) (pages_of_all format numbers)
pages_batch journal bound format numbers some few batch = record {
  least_is = omega (arith, length-pages_of_all format numbers, times_up format 1 (length numbers) batch.least_is);
  most_is = omega (arith, length-pages_of_all format numbers);
  ascends = pages_ascend format numbers some batch.ascends;
  below = λ j d lt.
      let there = page_there format numbers j some lt in
      let same : get_or (pages_of_all format numbers) j d ≡ get_or (pages_of_all format numbers) j 0 = omega (arith, get_or_default_zero (pages_of_all format numbers) j d lt) in
      omega (arith, same, there, times_up format (suc (get_or numbers (j / format) 0)) bound (batch.below (j / format) 0 there.within));
}

-- Images.

-- a byte of a laid segment is its image's
pub segment_named : (l : Layout) (live : ℕ) (numbers : List ℕ) (image : ℕ → ℕ → ℕ) (file : List ℕ) (k o : ℕ) → Ascends (pages_of_all l.format numbers) → k < length numbers → o < segment_size l
    → segment_place l live (get_or numbers k 0) + o < length file → byte (replayed_over l live (pages_of_all l.format numbers) image file) (segment_place l live (get_or numbers k 0) + o) ≡ segment_image l.format image k o
segment_named l live numbers image file k o ascends lt small within =
    let q = o / page_size in
    let r = o % page_size in
    let few : q < l.format = omega (arith, small) in
    let number = page_at l.format numbers k q lt few in
    let page = get_or (pages_of_all l.format numbers) (l.format * k + q) 0 in
    let place : page_place l live page + r ≡ segment_place l live (get_or numbers k 0) + o = omega (arith, number) in
    ap (byte (replayed_over l live (pages_of_all l.format numbers) image file)) (sym place)
    ∙ laid_over_named l live (pages_of_all l.format numbers) image file (l.format * k + q) r ascends
    (omega (arith, length-pages_of_all l.format numbers, page_of_segment l.format (length numbers) k q lt few)) (omega arith) (omega (arith, place, within))

-- a byte of another segment stays
pub segment_unnamed : (l : Layout) (live : ℕ) (numbers : List ℕ) (image : ℕ → ℕ → ℕ) (file : List ℕ) (i o : ℕ) → ((k : ℕ) → k < length numbers → get_or numbers k 0 ≡ i → ⊥) → o < segment_size l
    → segment_place l live i + o < length file → byte (replayed_over l live (pages_of_all l.format numbers) image file) (segment_place l live i + o) ≡ byte file (segment_place l live i + o)
segment_unnamed l live numbers image file i o none small within =
    let q = o / page_size in
    let r = o % page_size in
    let few : q < l.format = omega (arith, small) in
    let place : page_place l live (l.format * i + q) + r ≡ segment_place l live i + o = omega arith in
    ap (byte (replayed_over l live (pages_of_all l.format numbers) image file)) (sym place)
    ∙ laid_over_unnamed l live (pages_of_all l.format numbers) image file (l.format * i + q) r (no_page l.format numbers i q none few) (omega arith) (omega (arith, place, within))
    ∙ ap (byte file) place
