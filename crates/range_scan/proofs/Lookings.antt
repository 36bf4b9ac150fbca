-- The records behind a key are those of a scan that begins there, but for one that has the key.
use Rattle.std.proofs.Common.{◌≡◌, ℕ, zero, suc, ◌+◌, Bool, true, false, cond, not, ◌&&◌, List, [], ◌∷◌, ◌++◌, ◌-◌, ◌≤◌, ◌<◌, ◌^◌, T, length, get_or, take, drop, Option, Some, None, refl, sym, ◌∙◌, ap, subst, inl, inr, arith}
use mathlib.Core.Bool.{true≢false}
use Rattle.std.specs.Prelude.{slice_get, is_some}
use Rattle.std.specs.Option.{option_map}
use Rattle.std.specs.declared.cmp.Ordering.{Ordering}
use Rattle.std.specs.declared.cmp.Ordering.TheVariants.{Less, Equal, Greater}
use Rattle.std.specs.Ordering.{is_lt, is_gt, is_eq, ordering_reverse}
use Rattle.std.specs.Cmp.{IsTotalOrder, alike_right}
use Rattle.std.specs.Cmp.Lexicographic.{nat_list_cmp_total}
use Rattle.std.specs.FinMap.{is_sorted, entries, entries_sorted}
use Rattle.std.specs.FinMap.Entries.{below_all, where_key}
use Rattle.key_slot.specs.Record.{Bytes, Record, key_cmp, IsAscending}
use Rattle.key_slot.proofs.Truth.{first, second, passed}
use Rattle.map_model.specs.Scan.{is_within}
use Rattle.range_scan.specs.ScanBounds.{is_below, is_from, are_before, are_from}
use Rattle.range_scan.specs.SeekReads.{later, is_at, stands_at, IsIndexPast, first_below}
use Rattle.range_scan.specs.SeekReads.{NoneAhead, is_ahead}
use Rattle.segment.specs.Rows.{key_at}
use Rattle.range_scan.specs.Sweeping.{first_for}
use Rattle.range_scan.specs.RegionReaderView.{ReaderView}
use Rattle.range_scan.specs.Checking.{LieAbove}
use Rattle.range_scan.proofs.Standing.{own, cut_is, four, count_is}
use Rattle.range_scan.proofs.Amid.{rows_from}
use Rattle.std.proofs.lemmas.Bool.{cases_lt}
use Rattle.range_scan.proofs.Beginning.{starts_there, begins_there}
use Rattle.key_slot.proofs.Ordered.{is_sorted-append}
use Rattle.header_gate.specs.declared.layout.Layout.{Layout}
use Rattle.map_model.specs.Array.{Array, rows, cut}
use Rattle.map_model.specs.Image.{map_of, array_in, array_of}
use Rattle.map_model.specs.FileReasons.{begins_above}
use Rattle.map_model.specs.Standing.{StandsWith, StandsBalanced}
use Rattle.map_model.proofs.Reasonings.{own_rows}
use Rattle.range_scan.proofs.BoundLaws.{within, within_before, within_behind, within_both, from-append, no_both}
use Rattle.std.proofs.lemmas.List.Elements.{filter-append}
use Rattle.std.proofs.lemmas.List.{take_all, take-append-drop, length-drop, append-nil, append_assoc}

order : IsTotalOrder key_cmp
order = nat_list_cmp_total

and_false : (a : Bool) → (a && false) ≡ false
and_false true = refl
and_false false = refl

less_of : (o : Ordering) → is_lt o ≡ true → o ≡ Less
less_of Less e = refl
less_of Equal e = absurd (true≢false (sym e))
less_of Greater e = absurd (true≢false (sym e))

-- one that isn't below a key above another is above the other
above_from : (key low past : Bytes) → key_cmp past low ≡ Less → is_lt (key_cmp key low) ≡ false → key_cmp key past ≡ Greater
above_from key low past lt from = by_order (key_cmp key low) refl from
  where
    advanced : key_cmp past key ≡ Less → key_cmp key past ≡ Greater
    advanced e = order.antisymm key past ∙ ap ordering_reverse e

    by_order : (o : Ordering) → key_cmp key low ≡ o → is_lt o ≡ false → key_cmp key past ≡ Greater
    by_order Less is e = absurd (true≢false e)
    by_order Equal is e = order.congr key low past is ∙ order.antisymm low past ∙ ap ordering_reverse lt
    by_order Greater is e = advanced (order.trans past low key lt (order.antisymm low key ∙ ap ordering_reverse is))

-- one that is above a key that isn't below another isn't below the other
from_above : (key low past : Bytes) → is_lt (key_cmp past low) ≡ false → key_cmp key past ≡ Greater → is_lt (key_cmp key low) ≡ false
from_above key low past from gt = by_order (key_cmp key low) refl
  where
    by_order : (o : Ordering) → key_cmp key low ≡ o → is_lt o ≡ false
    by_order Equal is = refl
    by_order Greater is = refl
    by_order Less is = absurd (true≢false (sym (ap is_lt (order.trans past key low (order.antisymm past key ∙ ap ordering_reverse gt) is)) ∙ from))

-- a key lies ahead where it lies within the bounds from the later one on, and isn't the key behind which it must lie
pub ahead_by : (low past high : Option Bytes) (key : Bytes) → is_ahead low past high key ≡ (is_within (later low past) high key && not (is_at past key))
ahead_by None None high key = refl
ahead_by (Some low) None high key = refl
ahead_by None (Some past) high key = by_order (key_cmp key past)
  where
    by_order : (o : Ordering) → (is_below high key && is_gt o) ≡ ((not (is_lt o) && is_below high key) && not (is_eq o))
    by_order Less = and_false (is_below high key)
    by_order Equal = refl
    by_order Greater = refl
ahead_by (Some low) (Some past) high key = by_bound (is_lt (key_cmp past low)) refl
  where
    by_bound : (b : Bool) → is_lt (key_cmp past low) ≡ b → ((not (is_lt (key_cmp key low)) && is_below high key) && is_gt (key_cmp key past)) ≡ (is_within (cond b (Some low) (Some past)) high key && not (is_eq (key_cmp key past)))
    by_bound true lt = by_low (is_lt (key_cmp key low)) refl
      where
        by_low : (b : Bool) → is_lt (key_cmp key low) ≡ b → ((not b && is_below high key) && is_gt (key_cmp key past)) ≡ ((not b && is_below high key) && not (is_eq (key_cmp key past)))
        by_low true is = refl
        by_low false is = ap (λ (o : Ordering). is_below high key && is_gt o) (above_from key low past (less_of _ lt) is) ∙ sym (ap (λ (o : Ordering). is_below high key && not (is_eq o)) (above_from key low past (less_of _ lt) is))
    by_bound false from = by_order (key_cmp key past) refl
      where
        by_order : (o : Ordering) → key_cmp key past ≡ o → ((not (is_lt (key_cmp key low)) && is_below high key) && is_gt o) ≡ ((not (is_lt o) && is_below high key) && not (is_eq o))
        by_order Less is = and_false (not (is_lt (key_cmp key low)) && is_below high key)
        by_order Equal is = and_false (not (is_lt (key_cmp key low)) && is_below high key) ∙ sym (and_false (is_below high key))
        by_order Greater is = ap (λ (b : Bool). (not b && is_below high key) && true) (from_above key low past from is)

-- records that pass two tests
passing_both : (f g h : Bytes → Bool) → ((key : Bytes) → h key ≡ (f key && g key)) → (rs : List Record) → where_key key_cmp h rs ≡ where_key key_cmp g (where_key key_cmp f rs)
passing_both f g h same [] = refl
passing_both f g h same (r ∷ rs) =
    ap (λ (b : Bool). cond b (r ∷ where_key key_cmp h rs) (where_key key_cmp h rs)) (same r.0)
    ∙ ap (λ (es : List Record). cond (f r.0 && g r.0) (r ∷ es) es) (passing_both f g h same rs)
    ∙ by_first (f r.0)
  where
    by_first : (b : Bool) → cond (b && g r.0) (r ∷ where_key key_cmp g (where_key key_cmp f rs)) (where_key key_cmp g (where_key key_cmp f rs)) ≡ where_key key_cmp g (cond b (r ∷ where_key key_cmp f rs) (where_key key_cmp f rs))
    by_first true = refl
    by_first false = refl

-- of records above a key none has it
all_apart : (past : Option Bytes) (key : Bytes) (rs : List Record) → is_at past key ≡ true → T (below_all key_cmp key rs) → where_key key_cmp (λ k. not (is_at past k)) rs ≡ rs
all_apart past key [] at below = refl
all_apart past key (r ∷ rs) at below =
    ap (λ (b : Bool). cond (not b) (r ∷ kept) kept) (apart past at)
    ∙ ap (λ (es : List Record). r ∷ es) (all_apart past key rs at (second (is_lt (key_cmp key r.0)) (below_all key_cmp key rs) below))
  where
    kept : List Record
    kept = where_key key_cmp (λ k. not (is_at past k)) rs

    lt : key_cmp key r.0 ≡ Less
    lt = less_of _ (passed _ (first (is_lt (key_cmp key r.0)) (below_all key_cmp key rs) below))

    apart : (o : Option Bytes) → is_at o key ≡ true → is_at o r.0 ≡ false
    apart None e = refl
    apart (Some p) e = by_tie (key_cmp key p) refl e
      where
        by_tie : (o : Ordering) → key_cmp key p ≡ o → is_eq o ≡ true → is_eq (key_cmp r.0 p) ≡ false
        by_tie Less is f = absurd (true≢false (sym f))
        by_tie Greater is f = absurd (true≢false (sym f))
        by_tie Equal is f = ap is_eq (sym (alike_right order key p r.0 is) ∙ order.antisymm r.0 key ∙ ap ordering_reverse lt)

-- of ascending records only the first can have a key below which none is
first_apart : (past : Option Bytes) (rs : List Record) → IsAscending rs → slice_get (where_key key_cmp (λ k. not (is_at past k)) rs) 0 ≡ cond (stands_at past (slice_get rs 0)) (slice_get rs 1) (slice_get rs 0)
first_apart past [] ascending = refl
first_apart past (r ∷ rs) ascending = by_at (is_at past r.0) refl
  where
    kept : List Record
    kept = where_key key_cmp (λ k. not (is_at past k)) rs

    by_at : (b : Bool) → is_at past r.0 ≡ b → slice_get (cond (not b) (r ∷ kept) kept) 0 ≡ cond b (slice_get rs 0) (Some r)
    by_at true at = ap (λ (es : List Record). slice_get es 0) (all_apart past r.0 rs at (first (below_all key_cmp r.0 rs) (is_sorted key_cmp rs) ascending))
    by_at false at = refl

-- The records that lie ahead of two bounds and a key.

abbrev pub ahead_of : Option Bytes → Option Bytes → Option Bytes → List Record → List Record
ahead_of low past high rs = where_key key_cmp (is_ahead low past high) rs

ahead_is : (low past high : Option Bytes) (rs : List Record) → ahead_of low past high rs ≡ where_key key_cmp (λ k. not (is_at past k)) (within (later low past) high rs)
ahead_is low past high rs = passing_both (is_within (later low past) high) (λ k. not (is_at past k)) (is_ahead low past high) (ahead_by low past high) rs

pub ahead-append : (low past high : Option Bytes) (a b : List Record) → ahead_of low past high (a ++ b) ≡ ahead_of low past high a ++ ahead_of low past high b
ahead-append low past high a b = filter-append (λ (r : Record). is_ahead low past high r.0) a b

-- none of those below the later bound does
pub ahead_before : (low past high : Option Bytes) (rs : List Record) → T (are_before (later low past) rs) → ahead_of low past high rs ≡ []
ahead_before low past high rs before = ahead_is low past high rs ∙ ap (where_key key_cmp (λ k. not (is_at past k))) (within_before (later low past) high rs before)

-- a record with the key itself doesn't
at_not : (low past high : Option Bytes) (key : Bytes) → is_at past key ≡ true → is_ahead low past high key ≡ false
at_not low past high key at = ahead_by low past high key ∙ ap (λ (b : Bool). is_within (later low past) high key && not b) at ∙ and_false (is_within (later low past) high key)

-- records at whose end the index stands
pub none_past : (low past high : Option Bytes) (rs : List Record) (index : ℕ) → IsIndexPast (later low past) past rs index → length rs ≤ index → ahead_of low past high rs ≡ []
none_past low past high rs index p at_end =
    ap (ahead_of low past high) (sym (take-append-drop p.from rs))
    ∙ ahead-append low past high (take p.from rs) (drop p.from rs)
    ∙ ap (λ (es : List Record). es ++ ahead_of low past high (drop p.from rs)) (ahead_before low past high (take p.from rs) p.before)
    ∙ by_list (drop p.from rs) (length-drop p.from rs) p.index_is
  where
    by_list : (ds : List Record) → length ds ≡ length rs - p.from → index ≡ cond (stands_at past (slice_get ds 0)) (p.from + 1) p.from → ahead_of low past high ds ≡ []
    by_list [] size is = refl
    by_list (x ∷ xs) size is = by_at (is_at past x.0) refl is
      where
        by_at : (b : Bool) → is_at past x.0 ≡ b → index ≡ cond b (p.from + 1) p.from → ahead_of low past high (x ∷ xs) ≡ []
        by_at false at here = absurd (omega (arith, here, at_end, size))
        by_at true at here = by_rest xs (omega (arith, here, at_end, size))
          where
            by_rest : (es : List Record) → length es ≡ 0 → ahead_of low past high (x ∷ es) ≡ []
            by_rest [] none = ap (λ (b : Bool). cond b (x ∷ []) []) (at_not low past high x.0 at)
            by_rest (e ∷ es) none = absurd (omega (arith, none))

-- the records of later segments ascend
ascending_from : (segments : Array) (n : ℕ) → IsAscending (rows segments) → IsAscending (rows (drop n segments))
ascending_from segments zero ascending = ascending
ascending_from [] (suc n) ascending = ascending
ascending_from (s ∷ segments) (suc n) ascending = ascending_from segments n (is_sorted-append {X = Bytes} key_cmp s (rows segments) ascending).1

-- Where a look begins.
module _ (layout : Layout) (region height : ℕ) (counts image : List ℕ) (stands : StandsWith layout region height counts image) where
  pub all : rows (cut counts (entries (map_of image))) ≡ entries (map_of image)
  all = ap rows (cut_is layout region height counts image stands) ∙ own_rows image (map_of image) height (own layout region height counts image stands)

  -- its records ascend
  pub lies_from : (r : ReaderView) → r.last ≡ None → LieAbove r (cut counts (entries (map_of image)))
  lies_from r none = record {
    ascending = ascending_from (cut counts (entries (map_of image))) r.next (subst IsAscending (sym all) (entries_sorted (map_of image)));
    above = ap (λ (last : Option Bytes). begins_above last (rows (drop r.next (cut counts (entries (map_of image)))))) none;
  }

  -- and no record before it is ahead
  pub none_before : (start past high : Option Bytes) (first next : ℕ) → next ≡ first → first ≡ first_for start (array_of image) → NoneAhead start past high (rows (take next (cut counts (entries (map_of image)))))
  none_before start past high first next same is low later_is =
      let there : first ≡ first_for start (array_in image height) = is ∙ ap (λ (h : ℕ). first_for start (array_in image h)) stands.height_is in
      let before : T (are_before start (rows (take first (array_in image height)))) = starts_there layout region height counts image stands start first there in
      let own_before : T (are_before (later low past) (rows (take next (cut counts (entries (map_of image)))))) =
      subst (λ (b : Option Bytes). T (are_before b (rows (take next (cut counts (entries (map_of image))))))) later_is
      (subst (λ (n : ℕ). T (are_before start (rows (take n (cut counts (entries (map_of image))))))) (sym same)
      (subst (λ (segments : Array). T (are_before start (rows (take first segments)))) (sym (cut_is layout region height counts image stands)) before)) in
      ahead_before low past high (rows (take next (cut counts (entries (map_of image))))) own_before

some≢none : {A : Type 0} (x : A) → Some x ≡ None → ⊥
some≢none x e = subst T (ap is_some e) tt

-- The record at an index.

pub first_drop : (high : Option Bytes) (rs : List Record) (index : ℕ) (r : Record) → slice_get rs index ≡ Some r → first_below high (drop index rs) ≡ cond (is_below high r.0) (Some r) None
first_drop high [] index r is = absurd (some≢none r (sym is))
first_drop high (x ∷ rs) zero r is = by_same (some_inj x r is)
  where
    some_inj : (a b : Record) → Some a ≡ Some b → a ≡ b
    some_inj a b e = cc

    by_same : x ≡ r → cond (is_below high x.0) (Some x) None ≡ cond (is_below high r.0) (Some r) None
    by_same e = ap (λ (y : Record). cond (is_below high y.0) (Some y) None) e
first_drop high (x ∷ rs) (suc n) r is = first_drop high rs n r is

-- The second segment of a look has a record that is looked for.
pub second_found : (start past : Option Bytes) (rs : List Record) (index : ℕ) → IsIndexPast start past rs index → T (are_from start rs) → 4 ≤ length rs → length rs ≤ index → ⊥
second_found start past rs index p from four at_end =
    let front : T (are_from start (take p.from rs)) = (from-append start (take p.from rs) (drop p.from rs) (subst (λ (es : List Record). T (are_from start es)) (sym (take-append-drop p.from rs)) from)).0 in
    let none : take p.from rs ≡ [] = no_both start (take p.from rs) front p.before in
    let whole : drop p.from rs ≡ rs = ap (λ (es : List Record). es ++ drop p.from rs) (sym none) ∙ take-append-drop p.from rs in
    let far : index ≤ p.from + 1 = by_test (stands_at past (slice_get (drop p.from rs) 0)) p.index_is in
    omega (arith, ap length whole, length-drop p.from rs, far, four, at_end)
  where
    by_test : (b : Bool) → index ≡ cond b (p.from + 1) p.from → index ≤ p.from + 1
    by_test true is = omega (arith, is)
    by_test false is = omega (arith, is)

-- one segment more
pub rows_take : (segments : Array) (n : ℕ) → n < length segments → rows (take (n + 1) segments) ≡ rows (take n segments) ++ get_or segments n []
rows_take [] n lt = absurd (omega (arith, lt))
rows_take (s ∷ segments) zero lt = ap (λ (k : ℕ). rows (take k (s ∷ segments))) {x = zero + 1} {y = suc zero} (omega arith) ∙ append-nil s
rows_take (s ∷ segments) (suc n) lt =
    ap (λ (k : ℕ). rows (take k (s ∷ segments))) {x = suc n + 1} {y = suc (n + 1)} (omega arith)
    ∙ ap (λ (es : List Record). s ++ es) (rows_take segments n (omega (arith, lt))) ∙ sym (append_assoc s (rows (take n segments)) (get_or segments n []))

pub none_more : (start past high : Option Bytes) (segments : Array) (n index : ℕ) → n < length segments → NoneAhead start past high (rows (take n segments))
    → IsIndexPast start past (get_or segments n []) index → length (get_or segments n []) ≤ index → NoneAhead start past high (rows (take (n + 1) segments))
none_more start past high segments n index lt none p at_end low is =
    ap (ahead_of low past high) (rows_take segments n lt)
    ∙ ahead-append low past high (rows (take n segments)) (get_or segments n [])
    ∙ ap (λ (es : List Record). es ++ ahead_of low past high (get_or segments n [])) (none low is)
    ∙ none_past low past high (get_or segments n []) index (subst (λ (b : Option Bytes). IsIndexPast b past (get_or segments n []) index) is p) at_end

-- one that isn't below the bound
pub none_below : (high : Option Bytes) (h key : Bytes) (rs : List Record) (index : ℕ) → high ≡ Some h → key_at rs index ≡ Some key → is_lt (key_cmp key h) ≡ false → first_below high (drop index rs) ≡ None
none_below high h key [] index is at lt = absurd (some≢none key (sym at))
none_below high h key (x ∷ rs) zero is at lt =
    let same : x.0 ≡ key = cc in
    ap (λ (b : Bool). cond b (Some x) None) (ap (λ (o : Option Bytes). is_below o x.0) is ∙ ap (λ (k : Bytes). is_lt (key_cmp k h)) same ∙ lt)
none_below high h key (x ∷ rs) (suc n) is at lt = none_below high h key rs n is at lt

-- one that is
pub one_below : (high : Option Bytes) (r : Record) (rs : List Record) (index : ℕ) → slice_get rs index ≡ Some r → is_below high r.0 ≡ true → Some r ≡ first_below high (drop index rs)
one_below high r rs index at below = sym (first_drop high rs index r at ∙ ap (λ (b : Bool). cond b (Some r) None) below)

pub key_of_row : (rs : List Record) (index : ℕ) (r : Record) (key : Bytes) → slice_get rs index ≡ Some r → key_at rs index ≡ Some key → r.0 ≡ key
key_of_row rs index r key at key_is =
    let both : Some r.0 ≡ Some key = sym (ap (option_map (λ (x : Record). x.0)) at) ∙ key_is in
    cc

-- whether a record at an index has the key
pub at_index : (past : Option Bytes) (rs : List Record) (index : ℕ) (key : Bytes) → key_at rs index ≡ Some key → stands_at past (slice_get (drop index rs) 0) ≡ is_at past key
at_index past [] index key at = absurd (some≢none key (sym at))
at_index past (x ∷ rs) zero key at =
    let same : x.0 ≡ key = cc in
    ap (is_at past) same
at_index past (x ∷ rs) (suc n) key at = at_index past rs n key at

pub none_at : (past : Option Bytes) (o : Option Record) → past ≡ None → stands_at past o ≡ false
none_at past None is = refl
none_at past (Some r) is = ap (λ (p : Option Bytes). is_at p r.0) is

-- where all segments were read, none is ahead
pub none_in_all : (start past high : Option Bytes) (segments : Array) (n : ℕ) → length segments ≡ n → NoneAhead start past high (rows (take n segments)) → NoneAhead start past high (rows segments)
none_in_all start past high segments n size none low is = ap (λ (l : Array). ahead_of low past high (rows l)) (sym (take_all n segments (omega (arith, size)))) ∙ none low is

-- The second segment of a look: its records aren't below the bound, and there are four at least.
pub second_from : (layout : Layout) (region height : ℕ) (counts image : List ℕ) (stands : StandsWith layout region height counts image) (start : Option Bytes) (first n : ℕ) → n ≡ first + 1
    → n < length (cut counts (entries (map_of image))) → first ≡ first_for start (array_of image) → T (are_from start (get_or (cut counts (entries (map_of image))) n []))
second_from layout region height counts image stands start first n one lt is =
    let there : first ≡ first_for start (array_in image height) = is ∙ ap (λ (h : ℕ). first_for start (array_in image h)) stands.height_is in
    let segments = cut counts (entries (map_of image)) in
    let behind : T (are_from start (rows (drop n segments))) = subst (λ (k : ℕ). T (are_from start (rows (drop k segments)))) (sym one) (begins_there layout region height counts image stands start first there) in
    (from-append start (get_or segments n []) (rows (drop (n + 1) segments)) (subst (λ (rs : List Record). T (are_from start rs)) (rows_from segments n lt) behind)).0

pub second_four : (layout : Layout) (region height : ℕ) (counts image : List ℕ) (stands : StandsBalanced layout region height counts image) (first n : ℕ) → n ≡ first + 1 → n < 2 ^ height → 4 ≤ length (get_or (cut counts (entries (map_of image))) n [])
second_four layout region height counts image stands first n one lt = elim (cases_lt 0 height) [
  | inl some ↦ omega (arith, four layout region height counts image stands n (omega (arith, some)) lt, count_is layout region height counts image stands.stands n lt)
  | inr flat ↦
      let single : 2 ^ height ≡ 1 = ap (λ (h : ℕ). 2 ^ h) {x = height} {y = 0} (omega (arith, flat)) in
      absurd (omega (arith, single, lt, one))
]

-- the first of ascending records that aren't below the later bound, where it has another key: it is ahead, or none is
pub first_is : (low past high : Option Bytes) (y : Record) (ys rest : List Record) → is_from (later low past) y.0 ≡ true → is_at past y.0 ≡ false → IsAscending (y ∷ rest)
    → slice_get (ahead_of low past high (y ∷ rest)) 0 ≡ first_below high (y ∷ ys)
first_is low past high y ys rest from apart ascending = by_high (is_below high y.0) refl
  where
    by_high : (b : Bool) → is_below high y.0 ≡ b → slice_get (ahead_of low past high (y ∷ rest)) 0 ≡ cond (is_below high y.0) (Some y) None
    by_high true below =
        let lies : is_ahead low past high y.0 ≡ true = ahead_by low past high y.0 ∙ (λ i. within_both (later low past) high y.0 from below i && not (apart i)) in
        ap (λ (b : Bool). slice_get (cond b (y ∷ ahead_of low past high rest) (ahead_of low past high rest)) 0) lies ∙ sym (ap (λ (b : Bool). cond b (Some y) None) below)
    by_high false above =
        ap (λ (rs : List Record). slice_get rs 0) (ahead_is low past high (y ∷ rest) ∙ ap (where_key key_cmp (λ k. not (is_at past k))) (within_behind (later low past) high y rest above ascending))
        ∙ sym (ap (λ (b : Bool). cond b (Some y) None) above)

drop_one : (n : ℕ) (rs : List Record) (x : Record) (xs : List Record) → drop n rs ≡ x ∷ xs → drop (suc n) rs ≡ xs
drop_one zero [] x xs is = absurd cc
drop_one zero (r ∷ rs) x xs is = cc
drop_one (suc n) [] x xs is = absurd cc
drop_one (suc n) (r ∷ rs) x xs is = drop_one n rs x xs is

apart_above : (past : Option Bytes) (x y : Bytes) → key_cmp x y ≡ Less → is_at past x ≡ true → is_at past y ≡ false
apart_above None x y lt e = refl
apart_above (Some p) x y lt e = by_tie (key_cmp x p) refl e
  where
    by_tie : (o : Ordering) → key_cmp x p ≡ o → is_eq o ≡ true → is_eq (key_cmp y p) ≡ false
    by_tie Less is f = absurd (true≢false (sym f))
    by_tie Greater is f = absurd (true≢false (sym f))
    by_tie Equal is f = ap is_eq (sym (alike_right order x p y is) ∙ order.antisymm y x ∙ ap ordering_reverse lt)

-- the first record ahead stands at the index
pub first_found : (low past high : Option Bytes) (rs rest : List Record) (index : ℕ) → IsIndexPast (later low past) past rs index → index < length rs → IsAscending (rs ++ rest)
    → slice_get (ahead_of low past high (rs ++ rest)) 0 ≡ first_below high (drop index rs)
first_found low past high rs rest index p lt ascending =
    let whole : rs ++ rest ≡ take p.from rs ++ (drop p.from rs ++ rest) = ap (λ (l : List Record). l ++ rest) (sym (take-append-drop p.from rs)) ∙ append_assoc (take p.from rs) (drop p.from rs) rest in
    let onward : IsAscending (drop p.from rs ++ rest) = (is_sorted-append {X = Bytes} key_cmp (take p.from rs) (drop p.from rs ++ rest) (subst IsAscending whole ascending)).1 in
    ap (λ (l : List Record). slice_get (ahead_of low past high l) 0) whole
    ∙ ap (λ (l : List Record). slice_get l 0) (ahead-append low past high (take p.from rs) (drop p.from rs ++ rest))
    ∙ ap (λ (l : List Record). slice_get (l ++ ahead_of low past high (drop p.from rs ++ rest)) 0) (ahead_before low past high (take p.from rs) p.before)
    ∙ by_list (drop p.from rs) refl p.behind p.index_is onward
  where
    by_list : (ds : List Record) → drop p.from rs ≡ ds → T (are_from (later low past) ds) → index ≡ cond (stands_at past (slice_get ds 0)) (p.from + 1) p.from → IsAscending (ds ++ rest)
        → slice_get (ahead_of low past high (ds ++ rest)) 0 ≡ first_below high (drop index rs)
    by_list [] are from is asc = absurd (omega (arith, is, lt, length-drop p.from rs, ap length are))
    by_list (x ∷ xs) are from is asc = by_at (is_at past x.0) refl is
      where
        by_at : (b : Bool) → is_at past x.0 ≡ b → index ≡ cond b (p.from + 1) p.from → slice_get (ahead_of low past high (x ∷ (xs ++ rest))) 0 ≡ first_below high (drop index rs)
        by_at false at here =
            first_is low past high x xs (xs ++ rest) (passed _ (first (is_from (later low past) x.0) (are_from (later low past) xs) from)) at asc
            ∙ ap (first_below high) (sym (ap (λ (n : ℕ). drop n rs) here ∙ are))
        by_at true at here =
            ap (λ (b : Bool). slice_get (cond b (x ∷ ahead_of low past high (xs ++ rest)) (ahead_of low past high (xs ++ rest))) 0) (at_not low past high x.0 at)
            ∙ by_rest xs are from asc
            ∙ ap (first_below high) (sym (ap (λ (n : ℕ). drop n rs) {x = index} {y = suc p.from} (omega (arith, here)) ∙ drop_one p.from rs x xs are))
          where
            by_rest : (es : List Record) → drop p.from rs ≡ x ∷ es → T (are_from (later low past) (x ∷ es)) → IsAscending (x ∷ (es ++ rest)) → slice_get (ahead_of low past high (es ++ rest)) 0 ≡ first_below high es
            by_rest [] is_one f a = absurd (omega (arith, here, lt, length-drop p.from rs, ap length is_one))
            by_rest (y ∷ ys) is_more f a =
                first_is low past high y ys (ys ++ rest) (passed _ (first (is_from (later low past) y.0) (are_from (later low past) ys) (second (is_from (later low past) x.0) (are_from (later low past) (y ∷ ys)) f)))
                (apart_above past x.0 y.0 (less_of _ (passed _ (first (is_lt (key_cmp x.0 y.0)) (below_all key_cmp x.0 (ys ++ rest)) (first (below_all key_cmp x.0 (y ∷ (ys ++ rest))) (is_sorted key_cmp (y ∷ (ys ++ rest))) a)))) at)
                (second (below_all key_cmp x.0 (y ∷ (ys ++ rest))) (is_sorted key_cmp (y ∷ (ys ++ rest))) a)

rows_split : (segments : Array) (n : ℕ) → rows segments ≡ rows (take n segments) ++ rows (drop n segments)
rows_split segments zero = refl
rows_split [] (suc n) = refl
rows_split (s ∷ segments) (suc n) = ap (λ (l : List Record). s ++ l) (rows_split segments n) ∙ sym (append_assoc s (rows (take n segments)) (rows (drop n segments)))

pub found_in : (low past high : Option Bytes) (segments : Array) (n index : ℕ) (rs : List Record) → n < length segments → rs ≡ get_or segments n [] → ahead_of low past high (rows (take n segments)) ≡ []
    → IsIndexPast (later low past) past rs index → index < length rs → IsAscending (rows (drop n segments)) → slice_get (ahead_of low past high (rows segments)) 0 ≡ first_below high (drop index rs)
found_in low past high segments n index rs lt same none p there ascending =
    let here : rows (drop n segments) ≡ rs ++ rows (drop (n + 1) segments) = rows_from segments n lt ∙ ap (λ (l : List Record). l ++ rows (drop (n + 1) segments)) (sym same) in
    ap (λ (l : List Record). slice_get (ahead_of low past high l) 0) (rows_split segments n)
    ∙ ap (λ (l : List Record). slice_get l 0) (ahead-append low past high (rows (take n segments)) (rows (drop n segments)))
    ∙ ap (λ (l : List Record). slice_get (l ++ ahead_of low past high (rows (drop n segments))) 0) none
    ∙ ap (λ (l : List Record). slice_get (ahead_of low past high l) 0) here
    ∙ first_found low past high rs (rows (drop (n + 1) segments)) index p there (subst IsAscending here ascending)
