-- Segments of a batch are written run by run.
use Rattle.std.proofs.Common.{◌≡◌, inl, inr, ℕ, zero, suc, [], ◌∷◌, ◌+◌, ◌-◌, ◌*◌, ◌/◌, ◌^◌, ◌≤◌, ◌<◌, List, length, get_or, sym, ◌∙◌, ap, arith, slice_range}
use Rattle.std.proofs.lemmas.Bool.{cases_lt}
use Rattle.station.specs.Bytes.{byte, InRange, Written}
use Rattle.station.proofs.Ranges.{byte-slice_range, length-slice_range}
use Rattle.header_gate.specs.declared.layout.Layout.{Layout}
use Rattle.header_gate.specs.Places.{page_size, region_place, area_place}
use Rattle.header_gate.specs.Recovered.{Ascends}
use Rattle.header_gate.proofs.Recoveries.{IsOutside}
use Rattle.header_gate.proofs.RecoveredPages.{page_before_area}
use Rattle.redo_journal.specs.Commit.{IsNamed}
use Rattle.redo_journal.specs.Applying.{IsPlaced, IsRun}

-- a run goes on with the next number
pub run_more : (numbers : List ℕ) (k end : ℕ) → IsRun numbers k end → end < length numbers → get_or numbers end 0 ≡ get_or numbers (end - 1) 0 + 1 → IsRun numbers k (end + 1)
run_more numbers k end run lt next = record {
  some = omega (arith, run.some);
  within = omega arith;
  each = λ j below. elim (cases_lt (k + j) end) [
    | inl before ↦ run.each j before
    | inr last ↦
        let m = j - 1 in
        let here : k + j ≡ end = omega (arith, below, last) in
        let back : k + m ≡ end - 1 = omega (arith, here, run.some) in
        omega (arith, ap (λ (n : ℕ). get_or numbers n 0) here, next, ap (λ (n : ℕ). get_or numbers n 0) back, run.each m (omega (arith, back, run.some)), here, run.some)
  ];
}

-- a place of a named page
pub named_at : (region k p : ℕ) (numbers : List ℕ) → k < length numbers → InRange (region + page_size * get_or numbers k 0) page_size p → IsNamed region numbers p
named_at region k p [] below r = absurd (omega arith)
named_at region zero p (n ∷ numbers) below r = inl r
named_at region (suc k) p (n ∷ numbers) below r = inr (named_at region k p numbers (omega arith) r)

-- A run of pages, with numbers k to below end, and its images.
module _ (region k end : ℕ) (numbers images : List ℕ) (run : IsRun numbers k end) (size : length images ≡ page_size * length numbers) where
  abbrev pub run_place : ℕ
  run_place = region + page_size * get_or numbers k 0

  abbrev pub run_images : List ℕ
  run_images = slice_range images (page_size * k) (page_size * end)

  pub length-run_images : length run_images ≡ page_size * end - page_size * k
  length-run_images = length-slice_range images (page_size * k) (page_size * end) (omega (arith, run.some)) (omega (arith, run.within, size))

  -- it ends where its last page does
  pub run_ends : run_place + length run_images ≡ region + page_size * get_or numbers (end - 1) 0 + page_size
  run_ends =
      let m = end - 1 - k in
      let last : k + m ≡ end - 1 = omega (arith, run.some) in
      omega (arith, length-run_images, ap (λ (n : ℕ). get_or numbers n 0) last, run.each m (omega (arith, last, run.some)), last, run.some)

  -- its places are named
  pub named_run : (p : ℕ) → InRange run_place (length run_images) p → IsNamed region numbers p
  named_run p r =
      let far = p - run_place in
      let m = far / page_size in
      let inside : k + m < end = omega (arith, length-run_images, r.0, r.1) in
      named_at region (k + m) p numbers (omega (arith, inside, run.within)) (omega (arith, r.0, run.each m inside), omega (arith, r.0, run.each m inside))

  -- its pages hold their images once these are written
  pub placed_run : (old new : List ℕ) → Ascends numbers → IsPlaced region numbers images k old → Written run_place run_images old new → IsPlaced region numbers images end new
  placed_run old new ascends placed written = record {
    each = λ j o lt small. elim (cases_lt j k) [
      | inl before ↦ written.rest (region + page_size * get_or numbers j 0 + o) (λ r. omega (arith, r.0, ascends j k before (omega (arith, run.some, run.within)), small)) ∙ placed.each j o before small
      | inr from ↦
          let m = j - k in
          let at : k + m ≡ j = omega (arith, from) in
          let inside : page_size * k + (page_size * m + o) < page_size * end = omega (arith, at, lt, small) in
          let next : get_or numbers j 0 ≡ get_or numbers k 0 + m = ap (λ (n : ℕ). get_or numbers n 0) (sym at) ∙ run.each m (omega (arith, at, lt)) in
          let e : region + page_size * get_or numbers j 0 + o ≡ run_place + (page_size * m + o) = omega (arith, next) in
          let f : page_size * k + (page_size * m + o) ≡ page_size * j + o = omega (arith, at) in
          ap (byte new) e ∙ written.inside (page_size * m + o) (omega (arith, inside, length-run_images)) ∙ byte-slice_range images (page_size * k) (page_size * end) (page_size * m + o) inside ∙ ap (byte images) f
    ];
  }

-- it lies behind the start of the region
pub named_behind : (region p : ℕ) (numbers : List ℕ) → IsNamed region numbers p → region ≤ p
named_behind region p [] named = absurd named
named_behind region p (n ∷ numbers) (inl r) = omega (arith, r.0)
named_behind region p (n ∷ numbers) (inr named) = named_behind region p numbers named

-- and before the index
pub named_within : (l : Layout) (region p : ℕ) (numbers : List ℕ) → region < 2 → ((k : ℕ) → k < length numbers → get_or numbers k 0 < 2 ^ l.hmax) → IsNamed (region_place l region) numbers p → p < area_place l
named_within l region p [] small below named = absurd named
named_within l region p (n ∷ numbers) small below (inl r) = omega (arith, r.1, page_before_area l region n small (below 0 (omega arith)))
named_within l region p (n ∷ numbers) small below (inr named) = named_within l region p numbers small (λ k lt. below (suc k) (omega arith)) named

-- no named page holds the place
pub not_named : (region p : ℕ) (numbers : List ℕ) → IsOutside region numbers p → IsNamed region numbers p → ⊥
not_named region p [] out named = named
not_named region p (n ∷ numbers) out (inl r) = out 0 (omega arith) r
not_named region p (n ∷ numbers) out (inr named) = not_named region p numbers (λ j lt r. out (suc j) (omega arith) r) named
