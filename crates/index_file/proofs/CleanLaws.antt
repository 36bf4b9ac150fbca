-- What stays clean.
use Rattle.std.proofs.Common.{◌≡◌, ◌⊎◌, inl, inr, ℕ, zero, suc, ◌%◌, ◌≤◌, List, Some, None, refl, sym, ap, subst, ◌∙◌, arith}
use Rattle.std.specs.Prelude.{Option}
use Rattle.station.specs.Bytes.{byte, Touched}
use Rattle.header_gate.specs.InPlace.{IsBare}
use Rattle.header_gate.specs.declared.layout.Layout.{Layout}
use Rattle.header_gate.specs.Header.{intent_gate, clean_gate, layout_in}
use Rattle.header_gate.specs.declared.reason.Reason.{Reason}
use Rattle.header_gate.specs.Places.{area_place}
use Rattle.header_gate.specs.Reasons.{header_reason}
use Rattle.header_gate.proofs.Soundness.{none_of_sound}
use Rattle.header_gate.proofs.NumberLaws.{number_same}
use Rattle.header_gate.proofs.RecoveredPages.{page_before}
use Rattle.key_slot.specs.Format.{wide}
use Rattle.key_slot.specs.Record.{Bytes}
use Rattle.map_model.specs.Store.{Map}
use Rattle.map_model.specs.Array.{Array, counts_of}
use Rattle.map_model.specs.Holding.{IsBalancedArray}
use Rattle.map_model.specs.Image.{Represents, array_in, height_of, map_of}
use Rattle.index_file.specs.Area.{HasArea, count_place}
use Rattle.index_file.specs.Clean.{IsLeft, IsClean, IsShut, IsCleanPlace, IsAreaPlace, Leaves, fence_of_segment, version_of, IsIndexed}
use Rattle.index_file.proofs.NodeLaws.{node_same}
use Rattle.index_file.proofs.Kept as kept

-- the same bytes behind the regions are the same index
pub area_same : (l : Layout) → l.format ≤ wide → (h : ℕ) (fence : ℕ → Bytes) (counts old new : List ℕ) → ((k : ℕ) → area_place l ≤ k → byte new k ≡ byte old k) → HasArea l h fence counts old → HasArea l h fence counts new
area_same l low h fence counts old new same is = record {
  nodes = λ d p depth number. node_same l.format _ _ _ new old _ _ low (λ k lt. same _ (omega arith)) (is.nodes d p depth number);
  counts_are = λ i lt. number_same new old (count_place l i) (count_place l i) (λ n x y small ex ey. let e : x ≡ y = omega (arith, ex, ey) in same x (omega (arith, ex)) ∙ ap (byte old) e) ∙ is.counts_are i lt;
}

-- an image with the index of its array, which differs from a settled one in the clean gate and in the index alone
pub left_new : (l : Layout) (old new : List ℕ) (m : Map) (height : ℕ) (is : Represents old m height) (bare : IsBare (layout_in old) old) (layout_is : layout_in old ≡ l) (touched : Touched (λ k. IsCleanPlace k ⊎ IsAreaPlace l k) old new)
    → intent_gate old ≡ 0 → IsBalancedArray height (array_in old height) → HasArea l height (fence_of_segment (array_in old height)) (counts_of (array_in old height)) new → IsLeft new
left_new l old new m height is bare layout_is touched intent balanced area =
    let tall : height_of new ≡ height = kept.height_same l old new m height is bare layout_is touched ∙ is.height_is in
    let array : array_in new height ≡ array_in old height = kept.array_same l old new m height is bare layout_is touched in
    let layout : layout_in new ≡ l = kept.layout_same l old new m height is bare layout_is touched ∙ layout_is in
    let P : ℕ → Type 0 = λ h. IsBalancedArray h (array_in new h) in
    let Q : ℕ → Type 0 = λ h. HasArea (layout_in new) h (fence_of_segment (array_in new h)) (counts_of (array_in new h)) new in
    let A : Array → Type 0 = λ a. IsBalancedArray height a in
    let B : Array → Type 0 = λ a. HasArea l height (fence_of_segment a) (counts_of a) new in
    let C : Layout → Type 0 = λ x. HasArea x height (fence_of_segment (array_in new height)) (counts_of (array_in new height)) new in
    record {
      represents = kept.own l old new m height is bare layout_is touched;
      bare = kept.still_bare l old new m height is bare layout_is touched;
      intent_even = kept.intent_same l old new m height is bare layout_is touched ∙ intent;
      balanced = subst P (sym tall) (subst A (sym array) balanced);
      area = subst Q (sym tall) (subst C (sym layout) (subst B (sym array) area));
    }

-- an image that was left stays one, whatever its clean gate
pub left_kept : (old new : List ℕ) → IsLeft old → Touched IsCleanPlace old new → IsLeft new
left_kept old new left touched =
    let l = layout_in old in
    let wide : Touched (λ k. IsCleanPlace k ⊎ IsAreaPlace l k) old new = record { size = touched.size; rest = λ k out. touched.rest k (λ here. out (inl here)) } in
    let behind : (k : ℕ) → area_place l ≤ k → byte new k ≡ byte old k = λ k past. touched.rest k (λ e. omega (arith, e, past, page_before l 2)) in
    left_new l old new (map_of old) (height_of old) left.represents left.bare refl wide left.intent_even left.balanced (area_same l left.represents.header.layout.format.most (height_of old) _ _ old new behind left.area)

-- the version stays where the clean gate alone changes
pub version_kept : (old new : List ℕ) → Touched IsCleanPlace old new → version_of new ≡ version_of old
version_kept old new touched = number_same new old 3080 3080 (λ n x y small ex ey. let e : x ≡ y = omega (arith, ex, ey) in touched.rest x (λ at. omega (arith, at, ex)) ∙ ap (byte old) e)

-- an even gate
pub clean_even : (image : List ℕ) → clean_gate image ≡ 0 → IsClean image
clean_even image even version odd = absurd (omega (arith, even, odd))

-- an index that means nothing
pub clean_shut : (image : List ℕ) → IsShut image → IsClean image
clean_shut image shut version odd = absurd (omega (arith, shut version, odd))

none_some : (r : Reason) (o : Option Reason) → o ≡ Some r → o ≡ None → ⊥
none_some r o is none = absurd cc

-- the index of a clean image that is refused
pub shut_refused : (image : List ℕ) (r : Reason) → IsClean image → header_reason image ≡ Some r → IsShut image
shut_refused image r clean refused version = by_gate (clean_gate image) refl (omega arith)
  where
    by_gate : (n : ℕ) → clean_gate image ≡ n → n ≤ 1 → clean_gate image ≡ 0
    by_gate zero e low = e
    by_gate (suc zero) e low = absurd (none_some r (header_reason image) refused (none_of_sound image (clean version e).represents.header))
    by_gate (suc (suc n)) e low = absurd (omega (arith, low))

-- the closing of an odd gate
pub clean_closing : (old new : List ℕ) → IsClean old → clean_gate old ≡ 1 → Touched IsCleanPlace old new → IsClean new
clean_closing old new clean odd touched version odd_new = left_kept old new (clean (subst IsIndexed (version_kept old new touched) version) odd) touched

-- what leaves a closed gate alone
pub clean_untouched : (old new : List ℕ) → clean_gate old ≡ 0 → byte new 704 ≡ byte old 704 → IsClean new
clean_untouched old new even same = clean_even new (ap (λ (b : ℕ). b % 2) same ∙ even)

-- The leaving.

-- while the index is written
pub leaves_first : (l : Layout) (old new : List ℕ) → clean_gate old ≡ 0 → Touched (IsAreaPlace l) old new → Leaves l old new
leaves_first l old new even touched = record {
  touched = record { size = touched.size; rest = λ k out. touched.rest k (λ here. out (inr here)) };
  clean = clean_untouched old new even (touched.rest 704 (λ here. omega (arith, here, page_before l 2)));
}

-- while the gate is opened
pub leaves_last : (l : Layout) (old mid new : List ℕ) → Touched (IsAreaPlace l) old mid → IsLeft mid → Touched IsCleanPlace mid new → Leaves l old new
leaves_last l old mid new first left second = record {
  touched = record { size = second.size ∙ first.size; rest = λ k out. second.rest k (λ here. out (inl here)) ∙ first.rest k (λ here. out (inr here)) };
  clean = λ version odd. left_kept mid new left second;
}

-- written behind the regions, with the index of its array
pub left_written : (l : Layout) (old new : List ℕ) (m : Map) (height : ℕ) → Represents old m height → IsBare (layout_in old) old → intent_gate old ≡ 0 → layout_in old ≡ l → IsBalancedArray height (array_in old height)
    → Touched (IsAreaPlace l) old new → HasArea l height (fence_of_segment (array_in old height)) (counts_of (array_in old height)) new → IsLeft new
left_written l old new m height is bare intent layout balanced touched area =
    left_new l old new m height is bare layout (record { size = touched.size; rest = λ k out. touched.rest k (λ here. out (inr here)) }) intent balanced area
