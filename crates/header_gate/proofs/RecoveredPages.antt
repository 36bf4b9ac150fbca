-- What a recovered image keeps of its file, and what images replayed over it change: the header page and the pages of a region.
use Rattle.std.proofs.Common.{◌≡◌, ◌⊎◌, inl, inr, ℕ, zero, suc, ◌+◌, ◌-◌, ◌*◌, ◌^◌, ◌<◌, ◌≤◌, Bool, true, false, cond, List, [], ◌∷◌, length, get_or, refl, ◌∙◌, ap, arith}
use Rattle.std.specs.Prelude.{◌==◌, ◌&&◌, ◌||◌, nat_le, nat_lt}
use Rattle.std.proofs.lemmas.Bool.Decides.{nat_tests}
use Rattle.std.proofs.lemmas.Bool.{cases_lt}
use Rattle.station.specs.Bytes.{byte}
use Rattle.header_gate.specs.declared.layout.Layout.{Layout}
use Rattle.header_gate.specs.Header.{live_copy}
use Rattle.header_gate.specs.Places.{table_place, image_place, journal_end, region_place, page_place, area_place, file_length, page_size}
use Rattle.header_gate.specs.Recovered.{is_in_page, laid_byte, is_journal, recovered, replayed_over, live_shift, live_table, is_laid, Ascends}
use Rattle.header_gate.specs.InPlace.{IsRecovered}
use Rattle.header_gate.proofs.RecoveredBytes.{byte-recovered, byte-replayed_over}

-- Places.

-- a place before a page or behind it
pub outside : (region n p : ℕ) → (p < region + page_size * n) ⊎ (region + page_size * n + page_size ≤ p) → is_in_page region n p ≡ false
outside region n p (inl low) = grind (arith, nat_tests)
outside region n p (inr high) = grind (arith, nat_tests)

-- a place of a page
pub inside : (region n p : ℕ) → region + page_size * n ≤ p → p < region + page_size * n + page_size → is_in_page region n p ≡ true
inside region n p low high = grind (arith, nat_tests)

-- a place of another page
pub other_page : (region n i o p : ℕ) → p ≡ region + page_size * i + o → o < page_size → (n ≡ i → ⊥) → is_in_page region n p ≡ false
other_page region n i o p is lt other = elim (cases_lt i n) [
  | inl below ↦ outside region n p (inl (omega arith))
  | inr above ↦ elim (cases_lt n i) [
    | inl over ↦ outside region n p (inr (omega arith))
    | inr same ↦ absurd (other (omega arith))
  ]
]

-- a place that is neither the gate nor in the journal
pub not_journal : (l : Layout) (p : ℕ) → (p ≡ 512 → ⊥) → (p < table_place) ⊎ (journal_end l ≤ p) → is_journal l p ≡ false
not_journal l p other where_is = apart (journal_end l) where_is
  where
    apart : (end : ℕ) → (p < table_place) ⊎ (end ≤ p) → ((p == 512) || (nat_le table_place p && nat_lt p end)) ≡ false
    apart end (inl low) = grind (arith, nat_tests, other)
    apart end (inr high) = grind (arith, nat_tests, other)

-- the page lies before the regions, and a region's pages before the file's end
pub page_before : (l : Layout) (region : ℕ) → table_place ≤ journal_end l × (journal_end l ≤ region_place l region)
page_before l region = (omega arith, omega arith)

-- two regions of n pages each
fits_twice : (n region i : ℕ) → region < 2 → i < n → page_size * n * region + page_size * i + page_size ≤ page_size * n * 2
fits_twice n zero i small below = omega arith
fits_twice n (suc zero) i small below = omega arith
fits_twice n (suc (suc region)) i small below = absurd (omega arith)

-- a page of a region ends before the index
pub page_before_area : (l : Layout) (region i : ℕ) → region < 2 → i < 2 ^ l.hmax → page_place l region i + page_size ≤ area_place l
page_before_area l region i small below = omega (arith, fits_twice (2 ^ l.hmax) region i small below)

-- and within the file
pub page_within : (l : Layout) (region i : ℕ) → region < 2 → i < 2 ^ l.hmax → page_place l region i + page_size ≤ file_length l
page_within l region i small below = omega (arith, page_before_area l region i small below)

-- Images replayed over a byte.

-- a place in none of the pages keeps its byte
pub laid_beside : (region : ℕ) (image : ℕ → ℕ → ℕ) (under p k : ℕ) (ns : List ℕ) → ((j : ℕ) → j < length ns → is_in_page region (get_or ns j 0) p ≡ false) → laid_byte region image under p k ns ≡ under
laid_beside region image under p k [] out = refl
laid_beside region image under p k (n ∷ ns) out =
    ap (λ (b : Bool). cond b (image k (p - (region + page_size * n))) (laid_byte region image under p (suc k) ns)) (out 0 (omega arith))
    ∙ laid_beside region image under p (suc k) ns (λ j lt. out (suc j) (omega arith))

-- in a page the first image of it lies
pub laid_inside : (region : ℕ) (image : ℕ → ℕ → ℕ) (under p k : ℕ) (ns : List ℕ) (j : ℕ) → j < length ns → is_in_page region (get_or ns j 0) p ≡ true → ((i : ℕ) → i < j → is_in_page region (get_or ns i 0) p ≡ false)
    → laid_byte region image under p k ns ≡ image (k + j) (p - (region + page_size * get_or ns j 0))
laid_inside region image under p k [] j lt is out = absurd (omega arith)
laid_inside region image under p k (n ∷ ns) zero lt is out =
    ap (λ (b : Bool). cond b (image k (p - (region + page_size * n))) (laid_byte region image under p (suc k) ns)) is
    ∙ ap (λ (i : ℕ). image i (p - (region + page_size * n))) {x = k} {y = k + 0} (omega arith)
laid_inside region image under p k (n ∷ ns) (suc j) lt is out =
    ap (λ (b : Bool). cond b (image k (p - (region + page_size * n))) (laid_byte region image under p (suc k) ns)) (out 0 (omega arith))
    ∙ laid_inside region image under p (suc k) ns j (omega arith) is (λ i below. out (suc i) (omega arith))
    ∙ ap (λ (i : ℕ). image i (p - (region + page_size * get_or ns j 0))) {x = suc k + j} {y = k + suc j} (omega arith)

-- The header page.

-- a value that is the same in both cases
either : {A : Type 0} (b : Bool) (x y : A) → x ≡ y → cond b x y ≡ y
either true x y same = same
either false x y same = refl

-- a place before a region is in none of its pages
before_all : (region p : ℕ) (ns : List ℕ) → p < region → (j : ℕ) → j < length ns → is_in_page region (get_or ns j 0) p ≡ false
before_all region p ns lt j below = outside region (get_or ns j 0) p (inl (omega arith))

-- but the gate, it stays
pub recovered_page : (l : Layout) (file : List ℕ) (p : ℕ) → p < length file → p < page_size → (p ≡ 512 → ⊥) → byte (recovered l file) p ≡ byte file p
recovered_page l file p lt low other =
    let region = region_place l (live_copy file) in
    let laid = laid_byte region (λ k o. byte file (image_place l k + live_shift l file + o)) (byte file p) p 0 (live_table l file) in
    let before : p < region = omega (arith, low, page_before l (live_copy file)) in
    byte-recovered l file p lt
    ∙ ap (λ (b : Bool). cond b 0 (cond (is_laid l file) laid (byte file p))) (not_journal l p other (inl low))
    ∙ either (is_laid l file) laid (byte file p) (laid_beside region (λ k o. byte file (image_place l k + live_shift l file + o)) (byte file p) p 0 (live_table l file) (before_all region p (live_table l file) before))

-- images replayed over a region leave the header page
pub laid_over_page : (l : Layout) (live : ℕ) (numbers : List ℕ) (image : ℕ → ℕ → ℕ) (file : List ℕ) (p : ℕ) → p < length file → p < page_size → byte (replayed_over l live numbers image file) p ≡ byte file p
laid_over_page l live numbers image file p lt low =
    let before : p < region_place l live = omega (arith, low, page_before l live) in
    byte-replayed_over l live numbers image file p lt ∙ laid_beside (region_place l live) image (byte file p) p 0 numbers (before_all (region_place l live) p numbers before)

-- The pages.

-- where the journal lies in place, what lies behind the journals stays
pub recovered_behind : (l : Layout) (file : List ℕ) (p : ℕ) → IsRecovered l file → p < length file → journal_end l ≤ p → byte (recovered l file) p ≡ byte file p
recovered_behind l file p is lt behind =
    let other : p ≡ 512 → ⊥ = λ e. omega (arith, e, behind, page_before l 0) in
    byte-recovered l file p lt ∙ is p (not_journal l p other (inr behind))

-- a byte of a laid page is its image's
pub laid_over_named : (l : Layout) (live : ℕ) (numbers : List ℕ) (image : ℕ → ℕ → ℕ) (file : List ℕ) (k o : ℕ) → Ascends numbers → k < length numbers → o < page_size
    → page_place l live (get_or numbers k 0) + o < length file → byte (replayed_over l live numbers image file) (page_place l live (get_or numbers k 0) + o) ≡ image k o
laid_over_named l live numbers image file k o ascends lt small within =
    let p = page_place l live (get_or numbers k 0) + o in
    let region = region_place l live in
    byte-replayed_over l live numbers image file p within
    ∙ laid_inside region image (byte file p) p 0 numbers k lt (inside region (get_or numbers k 0) p (omega arith) (omega (arith, small)))
    (λ i below. other_page region (get_or numbers i 0) (get_or numbers k 0) o p refl small (λ e. omega (arith, e, ascends i k below lt)))
    ∙ (λ t. image (first t) (offset t))
  where
    first : 0 + k ≡ k
    first = omega arith

    offset : page_place l live (get_or numbers k 0) + o - (region_place l live + page_size * get_or numbers k 0) ≡ o
    offset = omega arith

-- a byte of another page stays
pub laid_over_unnamed : (l : Layout) (live : ℕ) (numbers : List ℕ) (image : ℕ → ℕ → ℕ) (file : List ℕ) (i o : ℕ) → ((k : ℕ) → k < length numbers → get_or numbers k 0 ≡ i → ⊥) → o < page_size
    → page_place l live i + o < length file → byte (replayed_over l live numbers image file) (page_place l live i + o) ≡ byte file (page_place l live i + o)
laid_over_unnamed l live numbers image file i o none small within =
    let p = page_place l live i + o in
    let region = region_place l live in
    byte-replayed_over l live numbers image file p within
    ∙ laid_beside region image (byte file p) p 0 numbers (λ j lt. other_page region (get_or numbers j 0) i o p refl small (none j lt))
