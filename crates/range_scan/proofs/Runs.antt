-- Bytes of several segments, one after another.
use Rattle.std.proofs.Common.{◌≡◌, ℕ, zero, suc, ◌+◌, ◌-◌, ◌*◌, ◌<◌, ◌≤◌, List, [], ◌∷◌, ◌++◌, length, take, drop, refl, sym, ◌∙◌, ap, subst, arith}
use Rattle.std.proofs.lemmas.List.{get_or-take, get_or-drop, length-drop, length-take-le, take-append-le, drop-append-le}
use Rattle.station.specs.Bytes.{byte, Filled}
use Rattle.header_gate.specs.declared.layout.Layout.{Layout}
use Rattle.header_gate.specs.Places.{segment_place, segment_size}
use Rattle.key_slot.specs.Record.{Bytes}
use Rattle.range_scan.specs.PageView.{pages_of, page_of}
use Rattle.range_scan.specs.RegionReading.{page_in}
use Rattle.range_scan.specs.Running.{pages_in, first_of, read_for, rest_of}
use Rattle.range_scan.proofs.Pages.{page_filled}

pub drop_on : {X : Type 0} (xs : List X) (m n : ℕ) → drop n (drop m xs) ≡ drop (m + n) xs
drop_on xs zero n = ap (λ (k : ℕ). drop k xs) {x = n} {y = 0 + n} (omega arith)
drop_on {X} [] (suc m) zero = ap (λ (k : ℕ). drop {A = X} k []) {x = suc m} {y = suc m + 0} (omega arith)
drop_on {X} [] (suc m) (suc n) = ap (λ (k : ℕ). drop {A = X} k []) {x = suc (m + suc n)} {y = suc m + suc n} (omega arith)
drop_on (x ∷ xs) (suc m) n = drop_on xs m n ∙ ap (λ (k : ℕ). drop k (x ∷ xs)) {x = suc (m + n)} {y = suc m + n} (omega arith)

pub length-pages_of : (size n : ℕ) (bytes : Bytes) → length (pages_of size n bytes) ≡ n
length-pages_of size zero bytes = refl
length-pages_of size (suc n) bytes = omega (arith, length-pages_of size n (drop size bytes))

-- one segment and those behind it
pub size_less : (size n : ℕ) → 0 < n → size + size * (n - 1) ≡ size * n
size_less size n some =
    let parted : size + size * (n - 1) ≡ size * (n - 1 + 1) = omega arith in
    let whole : n - 1 + 1 ≡ n = omega (arith, some) in
    parted ∙ ap (λ (k : ℕ). size * k) whole

-- the first of them
pub pages_first : (size n : ℕ) (bytes page : Bytes) → 0 < n → first_of (pages_of size n bytes) page ≡ take size bytes
pages_first size zero bytes page some = absurd (omega (arith, some))
pages_first size (suc n) bytes page some = refl

-- and the others
pub pages_rest : (size n : ℕ) (bytes : Bytes) → 0 < n → drop 1 (pages_of size n bytes) ≡ pages_of size (n - 1) (drop size bytes)
pages_rest size zero bytes some = absurd (omega (arith, some))
pages_rest size (suc n) bytes some = ap (λ (k : ℕ). pages_of size k (drop size bytes)) {x = n} {y = suc n - 1} (omega arith)

-- a page that goes on to the first of those that were read along
module _ (size n start : ℕ) (bytes : Bytes) (some : 0 < n) where
  pub stepped : page_of (take size (drop (start + size) bytes)) (pages_of size (n - 1) (drop (start + size + size) bytes)) ≡ page_of (first_of (pages_of size n (drop (start + size) bytes)) []) (drop 1 (pages_of size n (drop (start + size) bytes)))
  stepped =
      let rest = pages_rest size n (drop (start + size) bytes) some ∙ ap (pages_of size (n - 1)) (drop_on bytes (start + size) size) in
      λ i. page_of (sym (pages_first size n (drop (start + size) bytes) [] some) i) (sym rest i)

-- they are the first bytes of more
pub pages_front : (size n : ℕ) (xs ys : Bytes) → size * n ≤ length xs → pages_of size n (xs ++ ys) ≡ pages_of size n xs
pages_front size zero xs ys le = refl
pages_front size (suc n) xs ys le =
    let rest : pages_of size n (drop size (xs ++ ys)) ≡ pages_of size n (drop size xs) = ap (pages_of size n) (drop-append-le size xs ys (omega (arith, le))) ∙ pages_front size n (drop size xs) ys (omega (arith, le, length-drop size xs)) in
    λ i. take-append-le size xs ys (omega (arith, le)) i ∷ rest i

-- A buffer that a read filled.

pub filled_front : (place n : ℕ) (file bytes : List ℕ) → Filled place file bytes → n ≤ length bytes → Filled place file (take n bytes)
filled_front place n file bytes filled le k lt =
    let size = length-take-le n bytes le in
    get_or-take n bytes k 0 (omega (arith, lt, size)) ∙ filled k (omega (arith, lt, size, le))

pub filled_rest : (place n : ℕ) (file bytes : List ℕ) → Filled place file bytes → Filled (place + n) file (drop n bytes)
filled_rest place n file bytes filled k lt =
    get_or-drop n bytes k 0 ∙ filled (n + k) (omega (arith, lt, length-drop n bytes)) ∙ ap (byte file) {x = place + (n + k)} {y = place + n + k} (omega arith)

-- its first segment
pub first_filled : (layout : Layout) (region i : ℕ) (file bytes : List ℕ) → Filled (segment_place layout region i) file bytes → segment_size layout ≤ length bytes → take (segment_size layout) bytes ≡ page_in layout region file i
first_filled layout region i file bytes filled le =
    page_filled layout region i file (take (segment_size layout) bytes) (filled_front (segment_place layout region i) (segment_size layout) file bytes filled le) (length-take-le (segment_size layout) bytes le)

-- those behind it
pub behind_filled : (layout : Layout) (region i : ℕ) (file bytes : List ℕ) → Filled (segment_place layout region i) file bytes → Filled (segment_place layout region (i + 1)) file (drop (segment_size layout) bytes)
behind_filled layout region i file bytes filled =
    subst (λ (p : ℕ). Filled p file (drop (segment_size layout) bytes)) {x = segment_place layout region i + segment_size layout} {y = segment_place layout region (i + 1)} (omega arith)
    (filled_rest (segment_place layout region i) (segment_size layout) file bytes filled)

-- all of them
pub pages_filled : (layout : Layout) (region i n : ℕ) (file bytes : List ℕ) → Filled (segment_place layout region i) file bytes → segment_size layout * n ≤ length bytes → pages_of (segment_size layout) n bytes ≡ pages_in layout region file i n
pages_filled layout region i zero file bytes filled le = refl
pages_filled layout region i (suc n) file bytes filled le =
    let size = segment_size layout in
    let rest = pages_filled layout region (i + 1) n file (drop size bytes) (behind_filled layout region i file bytes filled) (omega (arith, le, length-drop size bytes)) in
    λ t. first_filled layout region i file bytes filled (omega (arith, le)) t ∷ rest t

-- the first of those that were read along, in a page
pub along_first : (size n start : ℕ) (bytes : Bytes) → 0 < n → take (start + size + size - (start + size)) (drop (start + size) bytes) ≡ first_of (pages_of size n (drop (start + size) bytes)) []
along_first size n start bytes some =
    ap (λ (k : ℕ). take k (drop (start + size) bytes)) {x = start + size + size - (start + size)} {y = size} (omega arith)
    ∙ sym (pages_first size n (drop (start + size) bytes) [] some)

-- where there are some, what else might stand for them makes no difference
pub first_any : (along : List Bytes) (page other : Bytes) → 0 < length along → first_of along page ≡ first_of along other
first_any [] page other some = absurd (omega (arith, some))
first_any (p ∷ along) page other some = refl

pub rest_any : (along pages : List Bytes) → 0 < length along → drop 1 along ≡ rest_of along pages
rest_any [] pages some = absurd (omega (arith, some))
rest_any (p ∷ along) pages some = refl

pub read_none : (along : List Bytes) (count : ℕ) → 0 < length along → read_for along count ≡ 0
read_none [] count some = absurd (omega (arith, some))
read_none (p ∷ along) count some = refl

-- Where what was read along are the bytes of the file from segment i on, the next segment that is met is segment i.
module _ (layout : Layout) (region : ℕ) (file : List ℕ) (i next : ℕ) where
  pub own_first : (along : List Bytes) → next ≡ i + length along → along ≡ pages_in layout region file i (length along) → first_of along (page_in layout region file next) ≡ page_in layout region file i
  own_first [] at own = ap (page_in layout region file) {x = next} {y = i} (omega (arith, at))
  own_first (p ∷ along) at own = ap (λ (a : List Bytes). first_of a p) own

  -- and those behind it are the next ones
  pub own_rest : (along behind : List Bytes) (count : ℕ) → next ≡ i + length along → along ≡ pages_in layout region file i (length along) → behind ≡ rest_of along (pages_in layout region file (next + 1) (count - 1)) → length behind + 1 ≡ length along + read_for along count
      → behind ≡ pages_in layout region file (i + 1) (length behind)
  own_rest [] behind count at own rest others =
      rest ∙ (λ t. pages_in layout region file (first t) (size t))
    where
      first : next + 1 ≡ i + 1
      first = omega (arith, at)

      size : count - 1 ≡ length behind
      size = omega (arith, others)
  own_rest (p ∷ along) behind count at own rest others =
      rest ∙ ap (drop 1) own ∙ ap (pages_in layout region file (i + 1)) {x = length along} {y = length behind} (omega (arith, others))
