-- Bytes that a page holds.
use Rattle.std.proofs.Common.{◌≡◌, ◌≢◌, ℕ, ◌+◌, ◌-◌, ◌*◌, ◌/◌, ◌≤◌, Bool, false, cond, List, [], ◌∷◌, T, length, take, drop, replicate, Option, Some, None, refl, sym, ap, subst, ◌∙◌, arith, inl, inr, ne_eqb}
use Rattle.std.specs.Prelude.{if◌then◌else◌}
use Rattle.std.specs.List.{list_all}
use Rattle.std.specs.declared.cmp.Ordering.{Ordering}
use Rattle.std.specs.declared.cmp.Ordering.TheVariants.{Less, Equal, Greater}
use Rattle.std.specs.Ordering.{is_eq}
use Rattle.std.specs.FinMap.{find, slice_cmp-IsAntisymmetric, nat_cmp-IsAntisymmetric}
use Rattle.std.proofs.lemmas.List.{drop-replicate, length-replicate, length-take-le, length-drop, take-replicate}
use borrow.Author.Tests.{eq-eqb}
use Rattle.station.specs.View.{View, Told, Rose}
use Rattle.key_slot.specs.declared.sizes.TheConstants.{SEGMENT_SLOTS}
use Rattle.key_slot.specs.Format.{HasFormat, format_of, narrow, segment_length, slot_size}
use Rattle.key_slot.specs.Record.{Bytes, Record, key_cmp, is_record}
use Rattle.key_slot.specs.Segment.{FitsSegment, IsSegment, segment_bytes, segment_of}
use Rattle.key_slot.proofs.SegmentLaws.{segment_rows, segment_sound}
use Rattle.key_slot.proofs.Truth.{first, second}
use Rattle.header_gate.specs.Places.{IsFormat, page_size, segment_size}
use Rattle.header_gate.specs.declared.layout.Layout.{Layout}
use Rattle.map_model.specs.FileReasons.{begins_above}
use Rattle.segment.specs.declared.fault.Damage.TheVariants as damages
use Rattle.segment.specs.declared.fault.StoreFault.{StoreFault}
use Rattle.segment.specs.declared.fault.StoreFault.TheVariants as store
use Rattle.segment.specs.Validated.{damage_by, damage_of}
use Rattle.segment.specs.Rows.{value_of}
use Rattle.segment.specs.Viewed.{IsValidated}
use Rattle.range_scan.specs.declared.reader.RegionFault.{RegionFault}
use Rattle.range_scan.specs.declared.reader.RegionFault.TheVariants.{Failed, NotSegment, OutOfOrder}
use Rattle.range_scan.specs.SegmentFaults.{fault_of}
use Rattle.range_scan.specs.PageView.{page_of}
use Rattle.range_scan.specs.Pages.{IsFoundDamaged, IsBadSlot}
use Rattle.range_scan.specs.RegionReading.{page_in, page_fault, fault_by, Names}
use Rattle.range_scan.proofs.Pages.{has_format, format_is}

-- Zeros are a segment without records.

no_rows : (f : ℕ) → FitsSegment f []
no_rows f = record { most = omega arith; records = tt; ascending = tt }

pub nothing_fits : (f : ℕ) (rows : List Record) → rows ≡ [] → FitsSegment f rows
nothing_fits f rows none = subst (FitsSegment f) (sym none) (no_rows f)

-- the bytes have the length of their format
pub length_by : (bytes : Bytes) → HasFormat bytes → length bytes ≡ page_size * format_of bytes
length_by bytes (inl size) = omega (arith, size)
length_by bytes (inr size) = omega (arith, size)

pub format_least : (bytes : Bytes) → HasFormat bytes → 1 ≤ format_of bytes
format_least bytes (inl size) = omega (arith, size)
format_least bytes (inr size) = omega (arith, size)

zeros_are : (f : ℕ) (bytes : Bytes) → 1 ≤ f → length bytes ≡ page_size * f → bytes ≡ replicate (length bytes) 0 → IsSegment f [] bytes
unfolding segment_bytes
zeros_are f bytes some size zeros = record {
  fits = no_rows f;
  spelling = zeros ∙ ap (λ (n : ℕ). replicate n 0) {x = length bytes} {y = slot_size f * (SEGMENT_SLOTS - 0)} (omega (arith, size, some));
}

module _ (bytes : Bytes) (format : HasFormat bytes) (zeros : bytes ≡ replicate (length bytes) 0) where
  zeros_read : IsSegment (format_of bytes) [] bytes
  zeros_read = zeros_are (format_of bytes) bytes (format_least bytes format) (length_by bytes format) zeros

  pub zeros_rows : segment_of (format_of bytes) bytes ≡ []
  zeros_rows = segment_rows (format_of bytes) [] bytes zeros_read

  pub zeros_validated : IsValidated 0 bytes
  zeros_validated = record {
    format = format;
    sound = subst (λ (rows : List Record). IsSegment (format_of bytes) rows bytes) (sym zeros_rows) zeros_read;
    count = ap length zeros_rows;
  }

-- the first of more zeros
module _ (bytes : Bytes) (n size : ℕ) (zeros : bytes ≡ replicate n 0) (within : size ≤ n) where
  front : take size bytes ≡ replicate size 0
  front = ap (take size) zeros ∙ take-replicate size n 0 within

  pub front_size : length (take size bytes) ≡ size
  front_size = ap length front ∙ length-replicate {A = ℕ} size 0

  front_zeros : take size bytes ≡ replicate (length (take size bytes)) 0
  front_zeros = front ∙ ap (λ (k : ℕ). replicate k 0) (sym front_size)

  pub front_validated : HasFormat (take size bytes) → IsValidated 0 (take size bytes)
  front_validated format = zeros_validated (take size bytes) format front_zeros

  pub front_rows : HasFormat (take size bytes) → segment_of (format_of (take size bytes)) (take size bytes) ≡ []
  front_rows format = zeros_rows (take size bytes) format front_zeros

-- A page whose bytes were made zero.

pub same_format : (a b : Bytes) → length a ≡ length b → HasFormat b → HasFormat a
same_format a b same (inl size) = inl (same ∙ size)
same_format a b same (inr size) = inr (same ∙ size)

module _ (old new : Bytes) (start size n : ℕ) (zeros : new ≡ replicate n 0) (whole : length old ≡ n) (within : start + size ≤ length old) (format : HasFormat (take size (drop start old))) where
  zeros_behind : drop start new ≡ replicate (n - start) 0
  zeros_behind = ap (drop start) zeros ∙ drop-replicate start n 0

  one_size : length (take size (drop start new)) ≡ length (take size (drop start old))
  one_size = front_size (drop start new) (n - start) size zeros_behind (omega (arith, whole, within)) ∙ sym (length-take-le size (drop start old) (omega (arith, within, length-drop start old)))

  cleared_format : HasFormat (take size (drop start new))
  cleared_format = same_format (take size (drop start new)) (take size (drop start old)) one_size format

  pub cleared_validated : IsValidated 0 (take size (drop start new))
  cleared_validated = front_validated (drop start new) (n - start) size zeros_behind (omega (arith, whole, within)) cleared_format

  pub cleared_rows : segment_of (format_of (take size (drop start new))) (take size (drop start new)) ≡ []
  cleared_rows = front_rows (drop start new) (n - start) size zeros_behind (omega (arith, whole, within)) cleared_format

  pub cleared_same : format_of (take size (drop start new)) ≡ format_of (take size (drop start old))
  cleared_same = λ i. one_size i / segment_length narrow

module _ (layout : Layout) (format : IsFormat layout.hmax layout.format) (new : Bytes) (size n : ℕ) (zeros : new ≡ replicate n 0) (within : size ≤ n) (size_is : size ≡ segment_size layout) where
  none_format : HasFormat (take size new)
  none_format = has_format layout.hmax layout.format (take size new) format (front_size new n size zeros within ∙ size_is)

  pub none_validated : IsValidated 0 (take size new)
  none_validated = front_validated new n size zeros within none_format

  pub none_rows : segment_of (format_of (take size new)) (take size new) ≡ []
  none_rows = front_rows new n size zeros within none_format

  pub none_is : format_of (take size new) ≡ layout.format
  none_is = format_is layout.format (take size new) (front_size new n size zeros within ∙ size_is)

-- Faults.

module _ (layout : Layout) (region segment kept : ℕ) (a b : View) where
  -- what the decoding found
  pub found_bad : (fault : RegionFault) → IsBadSlot layout region segment a b fault → IsFoundDamaged layout region segment kept (fault_of fault) a b
  found_bad Failed bad = record { damage = λ told i why is. absurd cc; own = tt; failed = λ is. bad }
  found_bad (NotSegment i slot) bad = record {
    damage = λ told j why is. ap (λ (first : Option ℕ). damage_by first (length (segment_of layout.format (page_in layout region a.held segment))) kept) (bad.2 told) ∙ cc;
    own = (bad.0, bad.1);
    failed = λ is. absurd cc;
  }
  found_bad (OutOfOrder i) bad = absurd bad

  -- another number of records
  pub found_other : (fault : StoreFault) (found : ℕ) → fault ≡ store.Damaged segment (damages.OtherCount found kept) → found ≢ kept → (Told a → damage_of layout.format (page_in layout region a.held segment) kept ≡ Some (damages.OtherCount found kept)) → IsFoundDamaged layout region segment kept fault a b
  found_other fault found is other told = subst (λ (f : StoreFault). IsFoundDamaged layout region segment kept f a b) (sym is) (record {
    damage = λ t i why same. told t ∙ cc;
    own = (refl, refl, other);
    failed = λ failed. absurd cc;
  })

-- what is wrong with a segment of that many records
module _ (f kept : ℕ) (rows : List Record) (page : Bytes) (is : IsSegment f rows page) where
  by_rows : damage_of f page kept ≡ damage_by None (length rows) kept
  by_rows =
      ap (λ (bad : Option ℕ). damage_by bad (length (segment_of f page)) kept) (segment_sound f rows page is)
      ∙ ap (λ (rs : List Record). damage_by None (length rs) kept) (segment_rows f rows page is)

  pub damage_none : length rows ≡ kept → damage_of f page kept ≡ None
  damage_none count = by_rows ∙ ap (λ b. if b then None else Some (damages.OtherCount (length rows) kept)) (eq-eqb (length rows) kept count)

  pub damage_other : length rows ≢ kept → damage_of f page kept ≡ Some (damages.OtherCount (length rows) kept)
  damage_other other = by_rows ∙ ap (λ b. if b then None else Some (damages.OtherCount (length rows) kept)) (ne_eqb (length rows) kept other)

-- a bad slot, as a reader's fault
module _ (layout : Layout) (region segment : ℕ) (last : Option Bytes) (a b : View) where
  pub bad_refused : (fault : RegionFault) → IsBadSlot layout region segment a b fault → fault ≢ Failed → Told a → page_fault layout.format segment last (page_in layout region a.held segment) ≡ Some fault
  bad_refused Failed bad other told = absurd (other refl)
  bad_refused (NotSegment i slot) bad other told =
      ap (λ (first : Option ℕ). fault_by segment first (begins_above last (segment_of layout.format (page_in layout region a.held segment)))) (bad.2 told)
      ∙ ap (λ (n : ℕ). Some (NotSegment n slot)) (sym bad.0)
  bad_refused (OutOfOrder i) bad other told = absurd bad

  pub bad_named : (fault : RegionFault) → IsBadSlot layout region segment a b fault → Names segment fault
  bad_named Failed bad = tt
  bad_named (NotSegment i slot) bad = (bad.0, bad.1)
  bad_named (OutOfOrder i) bad = absurd bad

  pub bad_failed : (fault : RegionFault) → IsBadSlot layout region segment a b fault → fault ≡ Failed → Rose a.disk_faults b.disk_faults
  bad_failed Failed bad is = bad
  bad_failed (NotSegment i slot) bad is = absurd cc
  bad_failed (OutOfOrder i) bad is = absurd bad

-- a value that is found is a record's
pub found_fits : (f : ℕ) (rows : List Record) (key value : Bytes) → T (list_all (is_record f) rows) → value_of key rows ≡ Some value → T (is_record f (key, value))
found_fits f [] key value fits is = absurd cc
found_fits f (r ∷ rows) key value fits is = by_order (found_fits f rows key value (second (is_record f r) (list_all (is_record f) rows) fits)) (key_cmp key r.0) refl
  where
    here : T (is_record f r)
    here = first (is_record f r) (list_all (is_record f) rows) fits

    passed_over : is_eq (key_cmp key r.0) ≡ false → value_of key rows ≡ Some value
    passed_over other = sym (ap (λ (b : Bool). cond b (Some r.1) (find key_cmp key rows)) other) ∙ is

    by_order : (value_of key rows ≡ Some value → T (is_record f (key, value))) → (o : Ordering) → key_cmp key r.0 ≡ o → T (is_record f (key, value))
    by_order later Less same = later (passed_over (ap is_eq same))
    by_order later Greater same = later (passed_over (ap is_eq same))
    by_order later Equal same =
        let own : Some r.1 ≡ Some value = sym (ap (λ (b : Bool). cond b (Some r.1) (find key_cmp key rows)) (ap is_eq same)) ∙ is in
        let one : r.1 ≡ value = cc in
        let tied : r.0 ≡ key = sym (slice_cmp-IsAntisymmetric nat_cmp-IsAntisymmetric key r.0 same) in
        subst (λ (k : Bytes). T (is_record f (k, value))) tied (subst (λ (v : Bytes). T (is_record f (r.0, v))) one here)

-- the bytes of a page that was made
new_format : HasFormat (take 4096 (replicate 16384 0))
new_format = inl (front_size (replicate 16384 0) 16384 4096 refl (omega arith))

pub new_validated : IsValidated 0 (take 4096 (replicate 16384 0))
new_validated = front_validated (replicate 16384 0) 16384 4096 refl (omega arith) new_format

pub new_page : page_of (take 4096 (replicate 16384 0)) [] ≡ record { format = 1; rows = []; along = [] }
new_page = λ i. record { format = front_size (replicate 16384 0) 16384 4096 refl (omega arith) i / segment_length narrow; rows = front_rows (replicate 16384 0) 16384 4096 refl (omega arith) new_format i; along = [] }
