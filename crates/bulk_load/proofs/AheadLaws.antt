-- The records of the live region that are ahead of a merge.
use Rattle.std.proofs.lemmas.Bool.{cases_lt}
use Rattle.std.proofs.Common.{◌≡◌, ℕ, zero, suc, ◌+◌, ◌^◌, ◌<◌, Bool, true, false, cond, not, List, [], ◌∷◌, ◌++◌, T, length, drop, slice_get, Option, Some, None, refl, sym, ap, subst, ◌∙◌, arith, inl, inr}
use Rattle.std.specs.List.{list_all}
use Rattle.std.specs.Prelude.{IfSome, Result, Ok, Err}
use Rattle.std.specs.declared.cmp.Ordering.{Ordering}
use Rattle.std.specs.declared.cmp.Ordering.TheVariants.{Less, Equal, Greater}
use Rattle.std.specs.Ordering.{is_lt, is_eq}
use Rattle.std.specs.FinMap.{is_sorted}
use Rattle.std.specs.FinMap.Entries.{below_all}
use Rattle.std.proofs.Math.ListN.{drop_of_length-le}
use Rattle.key_slot.specs.Record.{Bytes, Record, key_cmp, IsAscending}
use Rattle.key_slot.specs.Segment.{FitsSegment}
use Rattle.key_slot.proofs.Truth.{first, second, less, is_less, passed as passed_true, passes}
use Rattle.key_slot.proofs.Ordered.{greater_back, less_back}
use Rattle.map_model.specs.Array.{Array, rows}
use Rattle.map_model.specs.FileReasons.{last_key, begins_above}
use Rattle.map_model.proofs.Ends.{joined, parted}
use Rattle.range_scan.specs.RegionReading.{last_behind}
use Rattle.range_scan.proofs.Amid.{drop_at}
use Rattle.redo_journal.specs.declared.place.Place.{Place}
use Rattle.range_scan.specs.Checking.{LieAbove}
use Rattle.station.specs.View.{View}
use Rattle.station.proofs.Composition.{no_steps, same_on, told_on}
use Rattle.map_model.specs.Image.{array_of}
use Rattle.range_scan.specs.SegmentFaults.{IsDamageAt}
use Rattle.range_scan.specs.Walk.{after_walk}
use Rattle.range_scan.proofs.Walks.{walk_none, walk_on}
use Rattle.resize_region.proofs.OldRowLaws.{failed_as, failed_is, never_failed, rose_on}
use Rattle.segment.specs.declared.fault.StoreFault.{StoreFault}
use Rattle.window_tally.specs.TallyView.{TallyView}
use Rattle.bulk_load.specs.declared.ahead.Ahead.{Ahead}
use Rattle.bulk_load.specs.Ahead.{IsAhead, IsAbove, ReadsAhead, ReadsLive, StopsAt, at_hand, begins_under, begins_with, left_in, over, passed, under, hand}
use Rattle.bulk_load.specs.MergeText.{above}
use Rattle.bulk_load.proofs.MergeLaws.{above_lower, above_same, order, tied_back}

-- Keys.

-- what is above a key is above each key below that
pub above_on : (k r : Bytes) (rs : List Record) → key_cmp k r ≡ Less → begins_above (Some r) rs ≡ true → begins_above (Some k) rs ≡ true
above_on k r [] lt is = refl
above_on k r (s ∷ rs) lt is = passed_true _ (is_less _ (order.trans k r s.0 lt (less _ (passes _ is))))

-- the last key of a list is that of each of its ends
pub last_drop : (p : ℕ) (rs more : List Record) → begins_above (last_key rs) more ≡ true → begins_above (last_key (drop p rs)) more ≡ true
last_drop zero rs more is = is
last_drop (suc p) [] more is = refl
last_drop (suc p) (r ∷ []) more is = last_drop p [] more refl
last_drop (suc p) (r ∷ s ∷ rs) more is = last_drop p (s ∷ rs) more is

pub behind_page : (last : Option Bytes) (rs more : List Record) → last ≡ last_behind last rs → begins_above last more ≡ true → begins_above (last_key rs) more ≡ true
behind_page last [] more same is = refl
behind_page last (r ∷ rs) more same is = ap (λ (k : Option Bytes). begins_above k more) (sym same) ∙ is

pub ascending_drop : (p : ℕ) (rs : List Record) → IsAscending rs → IsAscending (drop p rs)
ascending_drop zero rs up = up
ascending_drop (suc p) [] up = up
ascending_drop (suc p) (r ∷ rs) up = ascending_drop p rs (second (below_all key_cmp r.0 rs) (is_sorted key_cmp rs) up)

-- What is ahead.

module _ (place : Place) (a : Ahead) (is : IsAhead place a) where
  -- the records ahead ascend
  pub ascending_left : (segments : Array) → LieAbove a.reader segments → IsAscending (left_in segments a)
  ascending_left segments in_order =
      joined (at_hand a) (rows (drop a.reader.next segments)) (ascending_drop a.index a.page.rows is.fits.ascending) in_order.ascending
      (last_drop a.index a.page.rows (rows (drop a.reader.next segments)) (behind_page a.reader.last a.page.rows (rows (drop a.reader.next segments)) is.last_is in_order.above))

  -- the next record
  module _ (r : Record) (there : slice_get a.page.rows a.index ≡ Some r) where
    pub hand_is : at_hand a ≡ r ∷ at_hand (passed a)
    hand_is = drop_at a.page.rows a.index r there

    pub left_is : (segments : Array) → left_in segments a ≡ r ∷ left_in segments (passed a)
    left_is segments = ap (λ (l : List Record). l ++ rows (drop a.reader.next segments)) hand_is

    -- the others are above it
    pub above_passed : IsAbove (Some r.0) (passed a)
    above_passed = record {
      here = parted (r ∷ []) (at_hand (passed a)) (subst IsAscending hand_is (ascending_drop a.index a.page.rows is.fits.ascending));
      onward = λ none more rs behind.
          ap (λ (l : List Record). begins_above (last_key l) rs) (sym (hand_is ∙ ap (λ (l : List Record). r ∷ l) none)) ∙ last_drop a.index a.page.rows rs (behind_page a.reader.last a.page.rows rs is.last_is behind);
    }

    -- and stay above what all of them were
    pub still_above : (key : Option Bytes) → IsAbove key a → IsAbove key (passed a)
    still_above None above = record { here = refl; onward = λ none more rs behind. refl }
    still_above (Some k) above =
        let lt : key_cmp k r.0 ≡ Less = less _ (passes _ (ap (λ (l : List Record). begins_above (Some k) l) (sym hand_is) ∙ above.here)) in
        record {
          here = above_on k r.0 (at_hand (passed a)) lt above_passed.here;
          onward = λ none more rs behind. above_on k r.0 rs lt (above_passed.onward none more rs behind);
        }

-- Records under a key.

pub under_hit : (key : Option Bytes) (r : Record) (l : List Record) → begins_under key (r ∷ []) ≡ true → under key (r ∷ l) ≡ r ∷ under key l
under_hit None r l hit = refl
under_hit (Some k) r l hit = ap (λ (b : Bool). cond b (r ∷ under (Some k) l) (under (Some k) l)) hit

pub over_hit : (key : Option Bytes) (r : Record) (l : List Record) → begins_under key (r ∷ []) ≡ true → over key (r ∷ l) ≡ over key l
over_hit None r l hit = refl
over_hit (Some k) r l hit = ap (λ (b : Bool). cond (not b) (r ∷ over (Some k) l) (over (Some k) l)) hit

-- ascending records of which the first isn't below a key
next_over : (k : Bytes) (r s : Record) → key_cmp r.0 s.0 ≡ Less → is_lt (key_cmp r.0 k) ≡ false → is_lt (key_cmp s.0 k) ≡ false
next_over k r s lt high =
    elim (key_cmp s.0 k) as (λ o. key_cmp s.0 k ≡ o → is_lt o ≡ false) [
      | Less ↦ λ p. ap is_lt (sym (order.trans r.0 s.0 k lt p)) ∙ high
      | Equal ↦ λ p. refl
      | Greater ↦ λ p. refl
    ] refl

first_less : (r s : Record) (l : List Record) → IsAscending (r ∷ s ∷ l) → key_cmp r.0 s.0 ≡ Less
first_less r s l up = less _ (first (is_lt (key_cmp r.0 s.0)) (below_all key_cmp r.0 l) (first (below_all key_cmp r.0 (s ∷ l)) (is_sorted key_cmp (s ∷ l)) up))

rest_up : (r : Record) (l : List Record) → IsAscending (r ∷ l) → IsAscending l
rest_up r l up = second (below_all key_cmp r.0 l) (is_sorted key_cmp l) up

true_false : true ≡ false → ⊥
true_false e = cc

pub under_stop : (key : Option Bytes) (l : List Record) → IsAscending l → begins_under key l ≡ false → under key l ≡ []
under_stop None [] up stop = refl
under_stop None (r ∷ l) up stop = absurd (true_false stop)
under_stop (Some k) [] up stop = refl
under_stop (Some k) (r ∷ []) up stop = ap (λ (b : Bool). cond b (r ∷ []) []) stop
under_stop (Some k) (r ∷ s ∷ l) up stop =
    ap (λ (b : Bool). cond b (r ∷ under (Some k) (s ∷ l)) (under (Some k) (s ∷ l))) stop ∙ under_stop (Some k) (s ∷ l) (rest_up r (s ∷ l) up) (next_over k r s (first_less r s l up) stop)

pub over_stop : (key : Option Bytes) (l : List Record) → IsAscending l → begins_under key l ≡ false → over key l ≡ l
over_stop None [] up stop = refl
over_stop None (r ∷ l) up stop = absurd (true_false stop)
over_stop (Some k) [] up stop = refl
over_stop (Some k) (r ∷ []) up stop = ap (λ (b : Bool). cond (not b) (r ∷ []) []) stop
over_stop (Some k) (r ∷ s ∷ l) up stop =
    ap (λ (b : Bool). cond (not b) (r ∷ over (Some k) (s ∷ l)) (over (Some k) (s ∷ l))) stop
    ∙ ap (λ (t : List Record). r ∷ t) (over_stop (Some k) (s ∷ l) (rest_up r (s ∷ l) up) (next_over k r s (first_less r s l up) stop))

-- Where the copying stops.

module _ (segments : Array) (a : Ahead) (end : a.reader.end ≡ length segments) (key : Option Bytes) (stops : StopsAt key a) where
  none_left : at_hand a ≡ [] → left_in segments a ≡ []
  none_left none =
      ap (λ (l : List Record). l ++ rows (drop a.reader.next segments)) none
      ∙ ap (λ (s : Array). rows s) (drop_of_length-le segments {i = a.reader.next} (omega (arith, stops.all none, end)))

  pub left_over : begins_under key (left_in segments a) ≡ false
  left_over = by (at_hand a) refl
    where
      by : (hand : List Record) → at_hand a ≡ hand → begins_under key (left_in segments a) ≡ false
      by [] is = ap (begins_under key) (none_left is) ∙ none key
        where
          none : (k : Option Bytes) → begins_under k [] ≡ false
          none None = refl
          none (Some k) = refl
      by (r ∷ hand) is = ap (λ (l : List Record). begins_under key (l ++ rows (drop a.reader.next segments))) is ∙ head key r hand (rows (drop a.reader.next segments)) ∙ ap (begins_under key) (sym is) ∙ stops.here
        where
          head : (k : Option Bytes) (r : Record) (l more : List Record) → begins_under k ((r ∷ l) ++ more) ≡ begins_under k (r ∷ l)
          head None r l more = refl
          head (Some k) r l more = refl

  pub left_with : (k : Bytes) → begins_with k (left_in segments a) ≡ begins_with k (at_hand a)
  left_with k = by (at_hand a) refl
    where
      by : (hand : List Record) → at_hand a ≡ hand → begins_with k (left_in segments a) ≡ begins_with k (at_hand a)
      by [] is = ap (begins_with k) (none_left is) ∙ ap (begins_with k) (sym is)
      by (r ∷ hand) is = ap (λ (l : List Record). begins_with k (l ++ rows (drop a.reader.next segments))) is ∙ ap (begins_with k) (sym is)

-- Records above a key.

pub above_over : (k : Bytes) (l : List Record) → above k (over (Some k) l) ≡ above k l
above_over k [] = refl
above_over k (r ∷ l) =
    elim (key_cmp r.0 k) as (λ o. key_cmp r.0 k ≡ o → above k (cond (not (is_lt o)) (r ∷ over (Some k) l) (over (Some k) l)) ≡ above k (r ∷ l)) [
      | Less ↦ λ p. above_over k l ∙ sym (ap (λ (o : Ordering). cond (is_lt o) (r ∷ above k l) (above k l)) (greater_back order r.0 k p))
      | Equal ↦ λ p. ap (λ (t : List Record). cond (is_lt (key_cmp k r.0)) (r ∷ t) t) (above_over k l)
      | Greater ↦ λ p. ap (λ (t : List Record). cond (is_lt (key_cmp k r.0)) (r ∷ t) t) (above_over k l)
    ] refl

pub above_first : (k : Bytes) (l : List Record) → IsAscending l → begins_under (Some k) l ≡ false → above k l ≡ cond (begins_with k l) (drop 1 l) l
above_first k [] up stop = refl
above_first k (r ∷ l) up stop =
    elim (key_cmp k r.0) as (λ o. key_cmp k r.0 ≡ o → above k (r ∷ l) ≡ cond (is_eq (key_cmp r.0 k)) l (r ∷ l)) [
      | Less ↦ λ p. above_lower k r l up p ∙ sym (ap (λ (o : Ordering). cond (is_eq o) l (r ∷ l)) (greater_back order k r.0 p))
      | Equal ↦ λ p. above_same k r l up p ∙ sym (ap (λ (o : Ordering). cond (is_eq o) l (r ∷ l)) (tied_back k r.0 p))
      | Greater ↦ λ p. absurd (true_false (ap is_lt (sym (less_back order k r.0 p)) ∙ stop))
    ] refl

-- The next segment is read.

pub behind_last : (last new : Option Bytes) (rs : List Record) → new ≡ last_behind last rs → new ≡ last_behind new rs
behind_last last new [] is = refl
behind_last last new (r ∷ rs) is = is

-- what was above a key before it
pub next_above : (key old_last new_last : Option Bytes) (rs more : List Record) → new_last ≡ last_behind old_last rs → ((l : List Record) → begins_above old_last l ≡ true → begins_above key l ≡ true) → rs ≡ [] → begins_above new_last more ≡ true → begins_above key more ≡ true
next_above key old_last new_last rs more is onward none behind = onward more (sym (ap (λ (k : Option Bytes). begins_above k more) (is ∙ ap (last_behind old_last) none)) ∙ behind)

pub hand_none : (p : ℕ) (rs : List Record) → p ≡ length rs → drop p rs ≡ []
hand_none p rs at = drop_of_length-le rs {i = p} (omega (arith, at))

-- A reading that goes on.

pub reads_none : (place : Place) (h : Ahead) (a : View) → ReadsLive place h a → ReadsAhead {T = Unit {0}} place (Ok tt) h h a a
reads_none place h a live = record {
  live = live;
  same = λ told. refl;
  above = λ key is. is;
  count = omega arith;
  tally = refl;
  steps = no_steps a;
  reads = sym (walk_none place.layout place.region h.reader.next h.reader.next a.travel refl);
  calls = omega arith;
  onward = omega arith;
  upto = omega (arith, live.ahead.within, live.ahead.end_is);
  damaged = tt;
  cause = tt;
  failed = λ e. absurd (never_failed {T = Unit {0}} tt e);
}

module _ (place : Place) (h i j : Ahead) (a b c : View) (one : ReadsAhead {T = Unit {0}} place (Ok tt) h i a b) where
  tall : i.tally.now.height ≡ h.tally.now.height
  tall = ap (λ (t : TallyView). t.height) one.tally

  -- to no fault
  pub reads_ok : {T U : Type 0} (x : T) (y : U) → ReadsAhead {T = T} place (Ok x) i j b c → ReadsAhead {T = U} place (Ok y) h j a c
  reads_ok x y two = record {
    live = two.live;
    same = λ told. subst (λ (held : List ℕ). left_in (array_of held) j ≡ left_in (array_of held) i) (one.steps.held told) (two.same (told_on one.steps.frame told)) ∙ one.same told;
    above = λ key is. two.above key (one.above key is);
    count = omega (arith, one.count, two.count);
    tally = two.tally ∙ one.tally;
    steps = same_on one.steps two.steps;
    reads = two.reads ∙ ap (after_walk place.layout place.region i.reader.next j.reader.next) one.reads ∙ walk_on place.layout place.region h.reader.next i.reader.next j.reader.next a.travel one.onward two.onward;
    calls = omega (arith, one.calls, two.calls, one.onward, two.onward);
    onward = omega (arith, one.onward, two.onward);
    upto = omega (arith, two.upto, ap (λ (k : ℕ). 2 ^ k) tall);
    damaged = tt;
    cause = tt;
    failed = λ e. absurd (never_failed y e);
  }

  -- or up to a fault
  pub reads_err : {T U : Type 0} (result : Result U StoreFault) (fault : StoreFault) → result ≡ Err fault → ReadsAhead {T = T} place (Err fault) i j b c → ReadsAhead {T = U} place result h j a c
  reads_err {T = T} {U = U} result fault same two = subst (λ (x : Result U StoreFault). ReadsAhead {T = U} place x h j a c) (sym same) (record {
    live = tt;
    same = tt;
    above = tt;
    count = tt;
    tally = two.tally ∙ one.tally;
    steps = same_on one.steps two.steps;
    reads = two.reads ∙ ap (after_walk place.layout place.region i.reader.next j.reader.next) one.reads ∙ walk_on place.layout place.region h.reader.next i.reader.next j.reader.next a.travel one.onward two.onward;
    calls = omega (arith, one.calls, two.calls, one.onward, two.onward);
    onward = omega (arith, one.onward, two.onward);
    upto = omega (arith, two.upto, ap (λ (k : ℕ). 2 ^ k) tall);
    damaged = λ told. two.damaged (told_on one.steps.frame told);
    cause = (two.cause.0, omega (arith, two.cause.1, ap (λ (k : ℕ). 2 ^ k) tall), omega (arith, one.onward, two.cause.2), two.cause.3, subst (λ (t : TallyView). IsDamageAt two.cause.0 t.counts fault) one.tally two.cause.4);
    failed = λ e. rose_on a b c.disk_faults one.steps.frame.disk_faults (two.failed (failed_as {T = T} fault (failed_is {T = U} fault e)));
  })

-- The record at a place.

pub hand_some : (p : ℕ) (rs : List Record) → p < length rs → (r : Record) × (slice_get rs p ≡ Some r)
hand_some zero [] lt = absurd (omega (arith, lt))
hand_some zero (r ∷ rs) lt = (r, refl)
hand_some (suc p) [] lt = absurd (omega (arith, lt))
hand_some (suc p) (r ∷ rs) lt = hand_some p rs (omega (arith, lt))

pub hand_not : (p : ℕ) (rs : List Record) → p < length rs → drop p rs ≡ [] → ⊥
hand_not p rs lt none = let h = hand_some p rs lt in let e : 1 + length (drop (p + 1) rs) ≡ 0 = omega (arith, ap (λ (l : List Record). length l) (sym (drop_at rs p h.0 h.1) ∙ none)) in omega (arith, e)

pub none_under : (key : Option Bytes) → begins_under key [] ≡ false
none_under None = refl
none_under (Some k) = refl

pub head_under : (key : Option Bytes) (r : Record) (l : List Record) → begins_under key (r ∷ l) ≡ begins_under key (r ∷ [])
head_under None r l = refl
head_under (Some k) r l = refl

pub head_above : (key : Option Bytes) (r : Record) (l : List Record) → begins_above key (r ∷ l) ≡ begins_above key (r ∷ [])
head_above None r l = refl
head_above (Some k) r l = refl

pub some_lt : (p : ℕ) (rs : List Record) (r : Record) → slice_get rs p ≡ Some r → p < length rs
some_lt zero [] r is = absurd cc
some_lt zero (x ∷ rs) r is = omega arith
some_lt (suc p) [] r is = absurd cc
some_lt (suc p) (x ∷ rs) r is = omega (arith, some_lt p rs r is)

pub all_at : (test : Record → Bool) (p : ℕ) (rs : List Record) (r : Record) → T (list_all test rs) → slice_get rs p ≡ Some r → T (test r)
all_at test zero [] r all is = absurd cc
all_at test zero (x ∷ rs) r all is = let same : x ≡ r = cc in subst (λ (y : Record). T (test y)) same (first (test x) (list_all test rs) all)
all_at test (suc p) [] r all is = absurd cc
all_at test (suc p) (x ∷ rs) r all is = all_at test p rs r (second (test x) (list_all test rs) all) is

-- what was copied up to a key is below it
pub upto_of : (key last : Option Bytes) (r : Record) → begins_under key (r ∷ []) ≡ true → last ≡ Some r.0 → IfSome key (λ k. begins_above last ((k, []) ∷ []) ≡ true)
upto_of None last r hit same = record {}
upto_of (Some k) last r hit same = ap (λ (x : Option Bytes). begins_above x ((k, []) ∷ [])) same ∙ hit

pub no_rows_fit : (format : ℕ) → FitsSegment format []
no_rows_fit format = record { most = omega arith; records = tt; ascending = tt }

-- where copying stops without a key, nothing is left
pub none_left_over : (h : Ahead) → StopsAt None h → h.reader.next ≡ h.reader.end
none_left_over h stops = stops.all (by (at_hand h) stops.here)
  where
    by : (l : List Record) → begins_under None l ≡ false → l ≡ []
    by [] is = refl
    by (r ∷ l) is = absurd (true_false is)

pub none_at_hand : (h : Ahead) → StopsAt None h → hand h ≡ 0
none_at_hand h stops = elim (cases_lt h.index (length h.page.rows)) [
  | inl lt ↦ absurd (hand_not h.index h.page.rows lt (by (at_hand h) stops.here))
  | inr ge ↦ omega (arith, ge)
]
  where
    by : (l : List Record) → begins_under None l ≡ false → l ≡ []
    by [] is = refl
    by (r ∷ l) is = absurd (true_false is)
