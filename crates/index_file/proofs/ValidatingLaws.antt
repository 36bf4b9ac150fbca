-- The first of what is wrong with an index, test by test.
use Rattle.std.proofs.Common.{◌≡◌, ℕ, zero, suc, ◌+◌, ◌-◌, ◌*◌, ◌^◌, ◌<◌, ◌≤◌, Bool, true, false, cond, List, length, Some, None, refl, sym, ap, ◌∙◌, arith}
use Rattle.std.specs.Prelude.{Option, map, ◌&&◌, nat_le, not}
use Rattle.std.specs.List.{range_with_len}
use Rattle.std.specs.Ordering.{is_lt}
use Rattle.std.proofs.lemmas.Bool.{le-leb}
use Rattle.std.proofs.lemmas.List.{ext_get_or}
use Rattle.std.proofs.lemmas.List.FromFn.{length-map-range_with_len, get_or-map-range_with_len}
use Rattle.density_rule.specs.Bounds.{is_in_bounds}
use Rattle.density_rule.specs.Windows.{count_in, IsBalanced}
use Rattle.density_rule.proofs.Bounding.{in_bounds_from}
use Rattle.density_rule.proofs.Totals.{count_in-segment}
use Rattle.header_gate.specs.declared.layout.Layout.{Layout}
use Rattle.header_gate.specs.declared.reason.Reason.{Reason}
use Rattle.header_gate.specs.declared.reason.Reason.TheVariants.{Index}
use Rattle.header_gate.specs.Header.{number}
use Rattle.key_slot.specs.Record.{Bytes, key_cmp}
use Rattle.map_model.specs.FileReasons.{first_reason}
use Rattle.map_model.proofs.ArrayReasons.{none_below, none_of_each, first_stays, next_one}
use Rattle.veb_index.specs.Nodes.{fence_place}
use Rattle.index_file.specs.Area.{node_place, count_place}
use Rattle.index_file.specs.IndexCounts.{AreCounted, CountFailsAt}
use Rattle.index_file.specs.IndexReasons.{order_reason, counts_read, window_reason, row_reason}

-- none before, and one here
one_here : (reason : ℕ → Option Reason) (n : ℕ) (r : Reason) → first_reason reason n ≡ None → reason n ≡ Some r → first_reason reason (suc n) ≡ Some r
unfolding first_reason
one_here reason n r none here = next_one (first_reason reason n) (reason n) r none here

pub reason_here : (reason : ℕ → Option Reason) (n m : ℕ) (r : Reason) → first_reason reason n ≡ None → reason n ≡ Some r → n < m → first_reason reason m ≡ Some r
reason_here reason n m r none here lt = first_stays reason m (suc n) r (omega (arith, lt)) (one_here reason n r none here)

-- tests
pub if_true : (b : Bool) (r : Reason) → b ≡ true → cond b None (Some r) ≡ None
if_true b r is = ap (λ (c : Bool). cond c None (Some r)) is

pub if_false : (b : Bool) (r : Reason) → b ≡ false → cond b None (Some r) ≡ Some r
if_false b r is = ap (λ (c : Bool). cond c None (Some r)) is

pub true_if : (b : Bool) (r : Reason) → cond b None (Some r) ≡ None → b ≡ true
true_if true r is = refl
true_if false r is = absurd cc

-- Windows.

module _ (height : ℕ) (counts : List ℕ) where
  pub window_fine : (l : Layout) (j k : ℕ) → is_in_bounds height j (count_in counts j k) ≡ true → window_reason l height counts j k ≡ None
  window_fine l j k is = if_true (is_in_bounds height j (count_in counts j k)) (Index (count_place l (k * 2 ^ j))) is

  pub window_bad : (l : Layout) (j k : ℕ) → is_in_bounds height j (count_in counts j k) ≡ false → window_reason l height counts j k ≡ Some (Index (count_place l (k * 2 ^ j)))
  window_bad l j k is = if_false (is_in_bounds height j (count_in counts j k)) (Index (count_place l (k * 2 ^ j))) is

  pub balanced_by : ((l : Layout) → first_reason (row_reason l height counts) (height + 1) ≡ None) → IsBalanced height counts
  balanced_by none h k window =
      let row = none_below (row_reason (record { hmax = 0; journal = 4; version = 3; format = 1 }) height counts) (height + 1) (none (record { hmax = 0; journal = 4; version = 3; format = 1 })) h (omega (arith, window.low)) in
      let here = none_below (window_reason (record { hmax = 0; journal = 4; version = 3; format = 1 }) height counts h) (2 ^ (height - h)) row k window.in_store in
      in_bounds_from height h (count_in counts h k) (true_if (is_in_bounds height h (count_in counts h k)) (Index (count_place (record { hmax = 0; journal = 4; version = 3; format = 1 }) (k * 2 ^ h))) here)

-- Orders.

pub order_fine : (l : Layout) (h : ℕ) (fence : ℕ → Bytes) (i : ℕ) → not (is_lt (key_cmp (fence (i - 1)) (fence i))) ≡ false → order_reason l h fence i ≡ None
order_fine l h fence i is = ap (λ (b : Bool). cond (nat_le 2 i && b) (Some (Index (node_place l (fence_place h i)))) None) is ∙ by_first (nat_le 2 i)
  where
    by_first : (a : Bool) → cond (a && false) (Some (Index (node_place l (fence_place h i)))) None ≡ None
    by_first true = refl
    by_first false = refl

pub order_few : (l : Layout) (h : ℕ) (fence : ℕ → Bytes) (i : ℕ) → i ≤ 1 → order_reason l h fence i ≡ None
order_few l h fence zero few = refl
order_few l h fence (suc zero) few = refl
order_few l h fence (suc (suc i)) few = absurd (omega (arith, few))

pub order_bad : (l : Layout) (h : ℕ) (fence : ℕ → Bytes) (i : ℕ) → 2 ≤ i → not (is_lt (key_cmp (fence (i - 1)) (fence i))) ≡ true → order_reason l h fence i ≡ Some (Index (node_place l (fence_place h i)))
order_bad l h fence i some is = (λ t. cond (le-leb 2 i some t && is t) (Some (Index (node_place l (fence_place h i)))) None)

-- Counts.

pub counts_are_read : (l : Layout) (height : ℕ) (counts file : List ℕ) → length counts ≡ 2 ^ height → AreCounted l height (2 ^ height) counts file → counts ≡ counts_read l height file
counts_are_read l height counts file size are =
    let f : ℕ → ℕ = λ i. number file (count_place l i) in
    let read : length (map f (range_with_len 0 (2 ^ height))) ≡ 2 ^ height = length-map-range_with_len f 0 (2 ^ height) in
    ext_get_or 0 counts (map f (range_with_len 0 (2 ^ height))) (size ∙ sym read) (λ i lt.
    let below : i < 2 ^ height = omega (arith, lt, size) in
    are.counts_are i below ∙ sym (get_or-map-range_with_len f 0 (2 ^ height) i i 0 below (omega arith)))

pub count_fails_reason : (l : Layout) (height : ℕ) (file : List ℕ) (place : ℕ) → CountFailsAt l height (2 ^ height) file place → first_reason (row_reason l height (counts_read l height file)) (height + 1) ≡ Some (Index place)
count_fails_reason l height file place is =
    let f : ℕ → ℕ = λ i. number file (count_place l i) in
    let read : length (map f (range_with_len 0 (2 ^ height))) ≡ 2 ^ height = length-map-range_with_len f 0 (2 ^ height) in
    let count = λ (i : ℕ) (lt : i < 2 ^ height). count_in-segment (counts_read l height file) i (omega (arith, lt, read)) ∙ get_or-map-range_with_len f 0 (2 ^ height) i i 0 lt (omega arith) in
    let whole : 2 ^ (height - 0) ≡ 2 ^ height = ap (λ (n : ℕ). 2 ^ n) {x = height - 0} {y = height} (omega arith) in
    let none = none_of_each (window_reason l height (counts_read l height file) 0) is.segment (λ i lt.
    window_fine height (counts_read l height file) l 0 i (ap (is_in_bounds height 0) (count i (omega (arith, lt, is.below))) ∙ is.before i lt)) in
    let place_of : count_place l (is.segment * 2 ^ 0) ≡ place = ap (count_place l) {x = is.segment * 2 ^ 0} {y = is.segment} (omega arith) ∙ sym is.place_is in
    let here : window_reason l height (counts_read l height file) 0 is.segment ≡ Some (Index place) =
    window_bad height (counts_read l height file) l 0 is.segment (ap (is_in_bounds height 0) (count is.segment is.below) ∙ is.bad) ∙ ap (λ (p : ℕ). Some (Index p)) place_of in
    let row : row_reason l height (counts_read l height file) 0 ≡ Some (Index place) = reason_here (window_reason l height (counts_read l height file) 0) is.segment (2 ^ (height - 0)) (Index place) none here (omega (arith, is.below, whole)) in
    reason_here (row_reason l height (counts_read l height file)) 0 (height + 1) (Index place) (none_of_each (row_reason l height (counts_read l height file)) 0 (λ i lt. absurd (omega (arith, lt)))) row (omega arith)
