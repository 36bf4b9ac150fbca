-- The last record behind a bound is found in the segment to which the bound belongs, or in the one before it.
use Rattle.std.proofs.Common.{◌≡◌, ℕ, ◌+◌, ◌-◌, ◌<◌, ◌≤◌, ◌^◌, ◌⊎◌, zero, suc, Bool, true, false, cond, not, ◌&&◌, List, [], ◌∷◌, ◌++◌, T, length, take, drop, Option, Some, None, refl, sym, ◌∙◌, ap, subst, inl, inr, arith}
use mathlib.Core.Bool.{true≢false}
use Rattle.std.specs.Prelude.{is_some, slice_get}
use Rattle.std.specs.Option.{option_map}
use Rattle.std.specs.List.{last_or, list_all}
use Rattle.std.specs.Ordering.{is_lt}
use Rattle.std.specs.FinMap.{is_sorted}
use Rattle.std.specs.FinMap.Entries.{below_all, where_key}
use Rattle.std.proofs.lemmas.List.{append-nil, append_assoc, take-append-drop}
use Rattle.key_slot.specs.Ordered.{all_below}
use Rattle.key_slot.specs.Record.{Bytes, Record, key_cmp, IsAscending}
use Rattle.key_slot.proofs.Ordered.{is_sorted-append}
use Rattle.key_slot.proofs.Truth.{both, first, second, passed}
use Rattle.header_gate.specs.declared.layout.Layout.{Layout}
use Rattle.map_model.specs.Array.{Array, rows, segment_at}
use Rattle.map_model.specs.Cursors.{back, record_ahead}
use Rattle.map_model.specs.Image.{array_of}
use Rattle.map_model.specs.Scan.{is_within}
use Rattle.range_scan.specs.ScanBounds.{is_from, is_below, are_before, are_below, are_behind}
use Rattle.map_model.specs.Standing.{StandsBalanced}
use Rattle.segment.specs.Rows.{key_at}
use Rattle.range_scan.specs.SeekReads.{earlier, if_from, last_from}
use Rattle.range_scan.specs.Sweeping.{EndsBy, last_for}
use Rattle.range_scan.proofs.Amid.{rows_from, rows_parted}
use Rattle.range_scan.proofs.Beginning.{begins_before}
use Rattle.range_scan.proofs.BoundLaws.{lt_on, lt_le, within, within-append, within_past, no_both}
use Rattle.range_scan.proofs.Lookings.{rows_take}
use Rattle.range_scan.proofs.Standing.{array_is, count_is, cut_is, four}

and_true : (a : Bool) → (a && true) ≡ a
and_true true = refl
and_true false = refl

and_false : (a : Bool) → (a && false) ≡ false
and_false true = refl
and_false false = refl

some≢none : {A : Type 0} (x : A) → Some x ≡ None → ⊥
some≢none x e = subst T (ap is_some e) tt

-- a key is below the earlier of two bounds where it is below both
below_earlier : (past high : Option Bytes) (key : Bytes) → (is_below high key && is_below past key) ≡ is_below (earlier past high) key
below_earlier None high key = and_true (is_below high key)
below_earlier (Some past) None key = refl
below_earlier (Some past) (Some high) key = by_bound (is_lt (key_cmp past high)) refl
  where
    by_bound : (b : Bool) → is_lt (key_cmp past high) ≡ b → (is_lt (key_cmp key high) && is_lt (key_cmp key past)) ≡ is_below (cond b (Some past) (Some high)) key
    by_bound true lt = by_key (is_lt (key_cmp key past)) refl
      where
        by_key : (b : Bool) → is_lt (key_cmp key past) ≡ b → (is_lt (key_cmp key high) && is_lt (key_cmp key past)) ≡ is_lt (key_cmp key past)
        by_key true is = ap (λ (b : Bool). b && is_lt (key_cmp key past)) (lt_on key past high is lt)
        by_key false is = ap (λ (b : Bool). is_lt (key_cmp key high) && b) is ∙ and_false (is_lt (key_cmp key high)) ∙ sym is
    by_bound false le = by_key (is_lt (key_cmp key high)) refl
      where
        by_key : (b : Bool) → is_lt (key_cmp key high) ≡ b → (is_lt (key_cmp key high) && is_lt (key_cmp key past)) ≡ is_lt (key_cmp key high)
        by_key true is = ap (λ (b : Bool). is_lt (key_cmp key high) && b) (lt_le key past high is le) ∙ and_true (is_lt (key_cmp key high))
        by_key false is = ap (λ (b : Bool). b && is_lt (key_cmp key past)) is ∙ sym is

-- whether a key lies behind: within two bounds, and before a third
abbrev is_behind : Option Bytes → Option Bytes → Option Bytes → Bytes → Bool
is_behind low past high key = is_within low high key && is_below past key

behind_by : (low past high : Option Bytes) (key : Bytes) → is_behind low past high key ≡ is_within low (earlier past high) key
behind_by low past high key = by_from (is_from low key)
  where
    by_from : (b : Bool) → ((b && is_below high key) && is_below past key) ≡ (b && is_below (earlier past high) key)
    by_from true = below_earlier past high key
    by_from false = refl

same_tests : (f g : Bytes → Bool) → ((key : Bytes) → f key ≡ g key) → (rs : List Record) → where_key key_cmp f rs ≡ where_key key_cmp g rs
same_tests f g same [] = refl
same_tests f g same (r ∷ rs) =
    ap (λ (b : Bool). cond b (r ∷ where_key key_cmp f rs) (where_key key_cmp f rs)) (same r.0)
    ∙ ap (λ (es : List Record). cond (g r.0) (r ∷ es) es) (same_tests f g same rs)

-- the last record behind is the last within the bounds
pub last_behind_is : (low past high end : Option Bytes) (rs : List Record) → end ≡ earlier past high → record_ahead back (record { low = low; high = high; past = past }) rs ≡ last_or None (within low end rs)
last_behind_is low past high end rs is =
    ap (λ (es : List Record). last_or None es) (same_tests (is_behind low past high) (is_within low (earlier past high)) (behind_by low past high) rs)
    ∙ ap (λ (e : Option Bytes). last_or None (within low e rs)) (sym is)

-- The last of records.

last_kept : (o : Option Record) (rs : List Record) (r : Record) → last_or None rs ≡ Some r → last_or o rs ≡ Some r
last_kept o [] r is = absurd (some≢none r (sym is))
last_kept o (x ∷ rs) r is = is

last_is : (x : Record) (rs : List Record) → (r : Record) × (last_or None (x ∷ rs) ≡ Some r)
last_is x [] = (x, refl)
last_is x (y ∷ rs) = last_is y rs

last-append : (a rs : List Record) (r : Record) → last_or None rs ≡ Some r → last_or None (a ++ rs) ≡ Some r
last-append [] rs r is = is
last-append (x ∷ a) rs r is = last_kept (Some x) (a ++ rs) r (last-append a rs r is)

last_passes : (p : Record → Bool) (rs : List Record) (r : Record) → T (list_all p rs) → last_or None rs ≡ Some r → p r ≡ true
last_passes p [] r all is = absurd (some≢none r (sym is))
last_passes p (x ∷ []) r all is =
    let same : x ≡ r = cc in
    ap p (sym same) ∙ passed (p x) (first (p x) (list_all p []) all)
last_passes p (x ∷ y ∷ rs) r all is = last_passes p (y ∷ rs) r (second (p x) (list_all p (y ∷ rs)) all) is

pub last_above : (key : Bytes) (rs : List Record) (r : Record) → T (below_all key_cmp key rs) → last_or None rs ≡ Some r → is_lt (key_cmp key r.0) ≡ true
last_above key [] r above is = absurd (some≢none r (sym is))
last_above key (x ∷ []) r above is =
    let same : x ≡ r = cc in
    ap (λ (y : Record). is_lt (key_cmp key y.0)) (sym same) ∙ passed (is_lt (key_cmp key x.0)) (first (is_lt (key_cmp key x.0)) (below_all {X = Bytes} key_cmp key []) above)
last_above key (x ∷ y ∷ rs) r above is = last_above key (y ∷ rs) r (second (is_lt (key_cmp key x.0)) (below_all key_cmp key (y ∷ rs)) above) is

-- a key below one that is below a lower bound is below it
from_down : (low : Option Bytes) (x y : Bytes) → is_lt (key_cmp x y) ≡ true → is_from low y ≡ false → is_from low x ≡ false
from_down None x y lt is = absurd (true≢false is)
from_down (Some low) x y lt is = by_test (is_lt (key_cmp y low)) refl is
  where
    by_test : (b : Bool) → is_lt (key_cmp y low) ≡ b → not b ≡ false → is_from (Some low) x ≡ false
    by_test true yl e = ap not (lt_on x y low lt yl)
    by_test false yl e = absurd (true≢false e)

-- of ascending records whose last is below an upper bound, the last within the bounds is that one, or none is within
last_within : (low end : Option Bytes) (rs : List Record) (r : Record) → IsAscending rs → last_or None rs ≡ Some r → is_below end r.0 ≡ true → last_or None (within low end rs) ≡ if_from low (Some r)
last_within low end [] r ascending is below = absurd (some≢none r (sym is))
last_within low end (x ∷ []) r ascending is below =
    let same : x ≡ r = cc in
    ap (λ (y : Record). last_or None (within low end (y ∷ []))) same
    ∙ ap (λ (b : Bool). last_or None (cond b (r ∷ []) [])) (ap (λ (b : Bool). is_from low r.0 && b) below ∙ and_true (is_from low r.0))
    ∙ by_from (is_from low r.0)
  where
    by_from : (b : Bool) → last_or None (cond b (r ∷ []) []) ≡ cond b (Some r) None
    by_from true = refl
    by_from false = refl
last_within low end (x ∷ y ∷ rs) r ascending is below = by_from (is_from low r.0) refl (last_within low end (y ∷ rs) r (second (below_all key_cmp x.0 (y ∷ rs)) (is_sorted key_cmp (y ∷ rs)) ascending) is below)
  where
    rest : List Record
    rest = within low end (y ∷ rs)

    by_own : (b : Bool) → last_or None rest ≡ Some r → last_or None (cond b (x ∷ rest) rest) ≡ Some r
    by_own true there = last_kept (Some x) rest r there
    by_own false there = there

    by_from : (b : Bool) → is_from low r.0 ≡ b → last_or None rest ≡ cond b (Some r) None → last_or None (cond (is_within low end x.0) (x ∷ rest) rest) ≡ cond b (Some r) None
    by_from true from there = by_own (is_within low end x.0) there
    by_from false from none =
        ap (λ (b : Bool). last_or None (cond (b && is_below end x.0) (x ∷ rest) rest))
        (from_down low x.0 r.0 (last_above x.0 (y ∷ rs) r (first (below_all key_cmp x.0 (y ∷ rs)) (is_sorted key_cmp (y ∷ rs)) ascending) is) from)
        ∙ none

-- Bounds of parts.

pub behind-append : (high : Option Bytes) (a b : List Record) → T (are_behind high a) → T (are_behind high b) → T (are_behind high (a ++ b))
behind-append high [] b p q = q
behind-append high (r ∷ a) b p q =
    both (not (is_below high r.0)) (are_behind high (a ++ b)) (first (not (is_below high r.0)) (are_behind high a) p) (behind-append high a b (second (not (is_below high r.0)) (are_behind high a) p) q)

before_rest : (low : Option Bytes) (a b : List Record) → T (are_before low (a ++ b)) → T (are_before low b)
before_rest low [] b all = all
before_rest low (r ∷ a) b all = before_rest low a b (second (not (is_from low r.0)) (are_before low (a ++ b)) all)

pub below_none : (rs : List Record) → T (are_below None rs)
below_none [] = tt
below_none (r ∷ rs) = both (is_below None r.0) (are_below None rs) tt (below_none rs)

pub below_by : (end : Bytes) (rs : List Record) → T (all_below key_cmp end rs) → T (are_below (Some end) rs)
below_by end [] below = tt
below_by end (r ∷ rs) below =
    both (is_below (Some end) r.0) (are_below (Some end) rs) (first (is_lt (key_cmp r.0 end)) (all_below key_cmp end rs) below) (below_by end rs (second (is_lt (key_cmp r.0 end)) (all_below key_cmp end rs) below))

-- A segment behind which all records are behind the bound.
module _ (low end : Option Bytes) (segments : Array) (ascending : IsAscending (rows segments)) (n index : ℕ) (inside : n < length segments) (ends : EndsBy end (n + 1) segments)
    (below : T (are_below end (take index (segment_at segments n)))) (behind : T (are_behind end (drop index (segment_at segments n)))) where
  abbrev front : List Record
  front = rows (take n segments)

  abbrev here : List Record
  here = take index (segment_at segments n)

  abbrev rest : List Record
  rest = drop index (segment_at segments n) ++ rows (drop (n + 1) segments)

  parted : rows segments ≡ (front ++ here) ++ rest
  parted =
      rows_parted segments n
      ∙ ap (λ (rs : List Record). front ++ rs) (
      rows_from segments n inside
      ∙ ap (λ (rs : List Record). rs ++ rows (drop (n + 1) segments)) (sym (take-append-drop index (segment_at segments n)))
      ∙ append_assoc here (drop index (segment_at segments n)) (rows (drop (n + 1) segments))
      )
      ∙ sym (append_assoc front here rest)

  upto : within low end (rows segments) ≡ within low end (front ++ here)
  upto =
      ap (within low end) parted
      ∙ within-append low end (front ++ here) rest
      ∙ ap (λ (rs : List Record). within low end (front ++ here) ++ rs) (within_past low end rest (behind-append end (drop index (segment_at segments n)) (rows (drop (n + 1) segments)) behind ends))
      ∙ append-nil (within low end (front ++ here))

  upto_ascends : IsAscending (front ++ here)
  upto_ascends = (is_sorted-append {X = Bytes} key_cmp (front ++ here) rest (subst IsAscending parted ascending)).0

  -- the last record within the bounds stands in it, where one of its records is below the bound, or no segment is before it
  pub last_found : (n ≡ 0) ⊎ (0 < length (take index (segment_at segments n))) → last_or None (within low end (rows segments)) ≡ last_from low (take index (segment_at segments n))
  last_found some = ap (λ (rs : List Record). last_or None rs) upto ∙ by_list here refl below some
    where
      by_list : (rs : List Record) → here ≡ rs → T (are_below end rs) → (n ≡ 0) ⊎ (0 < length rs) → last_or None (within low end (front ++ here)) ≡ last_from low here
      by_list [] none all (inr more) = absurd (omega (arith, more))
      by_list [] none all (inl zeroth) =
          ap (λ (rs : List Record). last_or None (within low end (rows (take n segments) ++ rs))) none
          ∙ ap (λ (k : ℕ). last_or None (within low end (rows (take k segments) ++ []))) zeroth
          ∙ sym (ap (last_from low) none)
      by_list (x ∷ xs) are all other =
          let last = last_is x xs in
          let there : last_or None here ≡ Some last.0 = ap (λ (rs : List Record). last_or None rs) are ∙ last.1 in
          last_within low end (front ++ here) last.0 upto_ascends (last-append front here last.0 there) (last_passes (λ r. is_below end r.0) (x ∷ xs) last.0 all last.1)
          ∙ sym (ap (if_from low) there)

-- All records of the segments before the one to which a bound belongs are below it.
pub some_before : (end : Option Bytes) (segments : Array) (last n index : ℕ) → last ≡ last_for end segments → n + 1 ≡ last → n < length segments → IsAscending (rows segments) → 0 < length (segment_at segments n)
    → T (are_behind end (drop index (segment_at segments n))) → 0 < index
some_before end segments last n (suc index) is one inside ascending some behind = omega arith
some_before None segments last n zero is one inside ascending some behind = by_list (segment_at segments n) some behind
  where
    by_list : (rs : List Record) → 0 < length rs → T (are_behind None rs) → 0 < 0
    by_list [] more all = more
    by_list (r ∷ rs) more all = absurd (first false (are_behind None rs) all)
some_before (Some end) segments last n zero is one inside ascending some behind =
    let before = begins_before (Some end) segments (omega (arith, inside)) ascending in
    let upto : T (are_before (Some end) (rows (take (n + 1) segments))) = subst (λ (k : ℕ). T (are_before (Some end) (rows (take k segments)))) (sym (one ∙ is)) before in
    let own = before_rest (Some end) (rows (take n segments)) (segment_at segments n) (subst (λ (rs : List Record). T (are_before (Some end) rs)) (rows_take segments n inside) upto) in
    absurd (omega (arith, some, ap length (no_both (Some end) (segment_at segments n) behind own)))

-- In a store of more than one segment, each has four records at least.
pub four_there : (layout : Layout) (region height : ℕ) (counts image : List ℕ) → StandsBalanced layout region height counts image → (last n : ℕ) → n + 1 ≡ last → last < 2 ^ height → 4 ≤ length (segment_at (array_of image) n)
four_there layout region height counts image stands last n one lt =
    let here : n < 2 ^ height = omega (arith, one, lt) in
    let same = ap (λ (a : Array). length (segment_at a n)) (cut_is layout region height counts image stands.stands ∙ sym (array_is layout region height counts image stands.stands)) in
    omega (arith, four layout region height counts image stands n (by_height height lt) here, count_is layout region height counts image stands.stands n here, same)
  where
    by_height : (h : ℕ) → last < 2 ^ h → 1 ≤ h
    by_height zero small = absurd (omega (arith, small, one))
    by_height (suc h) small = omega arith

-- The record before an index.

last_at : (rs : List Record) (index : ℕ) (r : Record) → slice_get rs index ≡ Some r → last_or None (take (suc index) rs) ≡ Some r
last_at [] index r is = absurd (some≢none r (sym is))
last_at (x ∷ rs) zero r is = is
last_at (x ∷ rs) (suc index) r is = last_kept (Some x) (take (suc index) rs) r (last_at rs index r is)

last_before : (rs : List Record) (index : ℕ) (r : Record) → 0 < index → slice_get rs (index - 1) ≡ Some r → last_or None (take index rs) ≡ Some r
last_before rs zero r some is = absurd (omega (arith, some))
last_before rs (suc index) r some is = last_at rs index r (ap (slice_get rs) {x = index} {y = suc index - 1} (omega arith) ∙ is)

-- one that isn't below the bound
pub one_from : (low : Option Bytes) (r : Record) (rs : List Record) (index : ℕ) → 0 < index → slice_get rs (index - 1) ≡ Some r → is_from low r.0 ≡ true → Some r ≡ last_from low (take index rs)
one_from low r rs index some at from = sym (ap (if_from low) (last_before rs index r some at) ∙ ap (λ (b : Bool). cond b (Some r) None) from)

-- one that is
pub none_from : (low : Option Bytes) (l key : Bytes) (rs : List Record) (index : ℕ) → 0 < index → low ≡ Some l → key_at rs (index - 1) ≡ Some key → is_lt (key_cmp key l) ≡ true → None ≡ last_from low (take index rs)
none_from low l key rs index some is at lt = by_record (slice_get rs (index - 1)) refl at
  where
    by_record : (o : Option Record) → slice_get rs (index - 1) ≡ o → option_map (λ (r : Record). r.0) o ≡ Some key → None ≡ last_from low (take index rs)
    by_record None there e = absurd (some≢none key (sym e))
    by_record (Some r) there e =
        let same : r.0 ≡ key = cc in
        sym (ap (if_from low) (last_before rs index r some there)
        ∙ ap (λ (b : Bool). cond b (Some r) None) (ap (λ (o : Option Bytes). is_from o r.0) is ∙ ap not (ap (λ (k : Bytes). is_lt (key_cmp k l)) same ∙ lt)))
