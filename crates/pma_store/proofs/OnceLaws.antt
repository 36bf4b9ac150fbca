-- Which segments items edit, and that a batch which is one commit is made as one.
use Rattle.std.proofs.Common.{◌≡◌, inl, inr, ℕ, zero, suc, ◌+◌, ◌*◌, ◌^◌, ◌<◌, ◌≤◌, ◌==◌, ◌&&◌, ◌||◌, Bool, true, false, cond, not, nat_lt, List, [], ◌∷◌, ◌++◌, length, take, get_or, Result, Err, refl, sym, ap, subst, ◌∙◌, arith}
use mathlib.Core.Bool.{true≢false}
use Rattle.std.specs.Str.{bytes_eq}
use Rattle.std.proofs.lemmas.Bool.{cases_eq, cases_lt, ne_eqb}
use Rattle.std.proofs.lemmas.List.{get_or-map, get_or-take, length-map, length-take-le, take_all}
use Rattle.density_rule.specs.CountUpdates.{counts_after}
use Rattle.header_gate.specs.declared.layout.Layout.{Layout}
use Rattle.header_gate.specs.Recovered.{Ascends}
use Rattle.key_slot.specs.Record.{Bytes, Record, IsAscending}
use Rattle.key_slot.specs.declared.sizes.TheConstants.{SEGMENT_SLOTS}
use Rattle.map_model.specs.Array.{Array, counts_of, rows, segment_at, segment_for}
use Rattle.map_model.specs.ArrayState.{ArrayState, next_states}
use Rattle.map_model.specs.ArrayUpdates.{has_key}
use Rattle.map_model.specs.Holding.{HoldsMap, IsBalancedArray}
use Rattle.map_model.specs.Items.{are_distinct}
use Rattle.map_model.specs.ItemWords.{has_item}
use Rattle.map_model.specs.Store.{Update, bind, unbind, key_of}
use Rattle.one_commit.specs.declared.changes.ItemChange.{ItemChange}
use Rattle.one_commit.specs.Editing.{AreEdits, charge_by, charge_one, edited_by, items_for}
use Rattle.one_commit.specs.Fitting.{add_none_to, begins_with, change_before, changes_in, fit_one_commit, follows, keep_places, stay_within}
use Rattle.one_commit.proofs.Alike.{both_true, neither_true, not_true}
use Rattle.one_commit.proofs.Edits.{are_edits}
use Rattle.redo_journal.specs.Frames.{Batch}
use Rattle.segment_frames.specs.Lists.{most_segments, segments_in, IsHeld}
use Rattle.segment_frames.proofs.PageNumbers.{segments_ascend}
use Rattle.window_tally.specs.Choice.{adds}
use Rattle.window_tally.specs.declared.Change.TheVariants.{Add, Take}
use Rattle.pma_store.specs.declared.batch_scan.BatchScan.{BatchScan}
use Rattle.pma_store.specs.Looked.{AreLoaded, BelongThere, LacksRoom}
use Rattle.pma_store.specs.Once.{AreUsed, IsEdited, IsShort, edited_segments, stands_in, with_number}
use Rattle.pma_store.specs.Own.{edits_by, own_items, FindsIn, HasEdit}
use Rattle.pma_store.proofs.BatchCalls.{no_more}
use Rattle.pma_store.proofs.BatchScanLaws.{before_last, found_there, last_there, one_longer}
use Rattle.pma_store.proofs.OwnEdits.{own_edits}
use Rattle.pma_store.proofs.Written.{most_there, some_there, tall_by}

-- A segment that an item edits stands among those that are edited.

-- where a number stands in a list
abbrev Place : ℕ → List ℕ → Type 0
Place n ns = (k : ℕ) × (k < length ns) × (get_or ns k 0 ≡ n)

later : (n m : ℕ) (ns : List ℕ) → Place n ns → Place n (m ∷ ns)
later n m ns there = (suc there.0, omega (arith, there.1), there.2)

found_in : (n : ℕ) (ns : List ℕ) → stands_in n ns ≡ true → Place n ns
found_in n [] e = absurd (true≢false (sym e))
found_in n (m ∷ ms) e = elim (cases_eq n m) [
  | inl same ↦ (0, omega arith, sym same)
  | inr other ↦ later n m ms (found_in n ms (ap (λ (b : Bool). b || stands_in n ms) (sym (ne_eqb n m other)) ∙ e))
]

added : (n : ℕ) (ns : List ℕ) → Place n (with_number n ns)
added n ns = by (stands_in n ns) refl
  where
    by : (b : Bool) → stands_in n ns ≡ b → Place n (cond b ns (n ∷ ns))
    by true e = found_in n ns e
    by false e = (0, omega arith, refl)

kept_in : (n m : ℕ) (ns : List ℕ) → Place n ns → Place n (with_number m ns)
kept_in n m ns there = by (stands_in m ns)
  where
    by : (b : Bool) → Place n (cond b ns (m ∷ ns))
    by true = there
    by false = later n m ns there

edited_at : (segments : Array) (items : List Update) (i j : ℕ) → j < length items → ((d : Update) → segment_for segments (key_of (get_or items j d)) ≡ i) → ((d : Update) → edits_by (get_or items j d) (has_key segments (key_of (get_or items j d))) ≡ true) → Place i (edited_segments segments items)
edited_at segments [] i j lt own edits = absurd (omega (arith, lt))
edited_at segments (u ∷ us) i zero lt own edits =
    subst (λ (b : Bool). Place i (cond b (with_number (segment_for segments (key_of u)) (edited_segments segments us)) (edited_segments segments us))) (sym (edits u))
    (subst (λ (n : ℕ). Place i (with_number n (edited_segments segments us))) (sym (own u)) (added i (edited_segments segments us)))
edited_at segments (u ∷ us) i (suc j) lt own edits = by (edits_by u (has_key segments (key_of u))) (edited_at segments us i j (omega (arith, lt)) own edits)
  where
    by : (b : Bool) → Place i (edited_segments segments us) → Place i (cond b (with_number (segment_for segments (key_of u)) (edited_segments segments us)) (edited_segments segments us))
    by true there = kept_in i (segment_for segments (key_of u)) (edited_segments segments us) there
    by false there = there

pub edited_there : (segments : Array) (items : List Update) (i : ℕ) → IsEdited segments items i → Place i (edited_segments segments items)
edited_there segments items i is = edited_at segments items i is.j is.within is.own is.edits

-- There are no more of them than items that edit one, and each of these is charged two images.

with_few : (n : ℕ) (ns : List ℕ) → length (with_number n ns) ≤ length ns + 1
with_few n ns = by (stands_in n ns)
  where
    by : (b : Bool) → length (cond b ns (n ∷ ns)) ≤ length ns + 1
    by true = omega arith
    by false = omega arith

pub edited_charge : (segments : Array) (items : List Update) → 2 * length (edited_segments segments items) ≤ charge_by segments items
edited_charge segments [] = omega arith
edited_charge segments (u ∷ us) = by (edited_charge segments us) u (has_key segments (key_of u))
  where
    by : 2 * length (edited_segments segments us) ≤ charge_by segments us → (v : Update) (b : Bool) → 2 * length (cond (edits_by v b) (with_number (segment_for segments (key_of u)) (edited_segments segments us)) (edited_segments segments us)) ≤ charge_one b v + charge_by segments us
    by rest (bind key value) b = omega (arith, with_few (segment_for segments (key_of u)) (edited_segments segments us), rest)
    by rest (unbind key) true = omega (arith, with_few (segment_for segments (key_of u)) (edited_segments segments us), rest)
    by rest (unbind key) false = omega (arith, rest)

pub edited_few : (segments : Array) (items : List Update) → length (edited_segments segments items) ≤ length items
edited_few segments [] = omega arith
edited_few segments (u ∷ us) = by (edited_few segments us) (edits_by u (has_key segments (key_of u)))
  where
    by : length (edited_segments segments us) ≤ length us → (b : Bool) → length (cond b (with_number (segment_for segments (key_of u)) (edited_segments segments us)) (edited_segments segments us)) ≤ suc (length us)
    by rest true = omega (arith, with_few (segment_for segments (key_of u)) (edited_segments segments us), rest)
    by rest false = omega (arith, rest)

-- ascending ones are no more
ascending_few : (segments : Array) (items : List Update) (ns : List ℕ) → Ascends ns → ((k : ℕ) → k < length ns → IsEdited segments items (get_or ns k 0)) → length ns ≤ length (edited_segments segments items)
ascending_few segments items ns ascends edited = no_more ns (edited_segments segments items) ascends (λ k lt. edited_there segments items (get_or ns k 0) (edited k lt))

-- those in frames ascend
frames_ascend : (format : ℕ) (b : Batch) → IsHeld format b → Ascends (segments_in format b.numbers)
frames_ascend format b held = segments_ascend format (segments_in format b.numbers) held.known.least (subst Ascends held.pages held.frames.ascends)

pub used_few : (l : Layout) (segments : Array) (items : List Update) (b : Batch) (whole : Bool) → IsHeld l.format b → AreUsed l segments items b whole → length (segments_in l.format b.numbers) ≤ length (edited_segments segments items)
used_few l segments items b whole held used = ascending_few segments items (segments_in l.format b.numbers) (frames_ascend l.format b held) used.edited

-- What holds of items holds of the first ones of them.

none_front : (key : Bytes) (items : List Update) (k : ℕ) → has_item key items ≡ false → has_item key (take k items) ≡ false
none_front key items zero none = refl
none_front key [] (suc k) none = refl
none_front key (u ∷ us) (suc k) none =
    let parts = neither_true (bytes_eq key (key_of u)) (has_item key us) none in
    ap (λ (b : Bool). b || has_item key (take k us)) parts.0 ∙ none_front key us k parts.1

and_true : (a b : Bool) → a ≡ true → b ≡ true → (a && b) ≡ true
and_true a b e f = ap (λ (x : Bool). x && b) e ∙ f

distinct_front : (items : List Update) (k : ℕ) → are_distinct items ≡ true → are_distinct (take k items) ≡ true
distinct_front items zero e = refl
distinct_front [] (suc k) e = refl
distinct_front (u ∷ us) (suc k) e =
    let parts = both_true (not (has_item (key_of u) us)) (are_distinct us) e in
    and_true (not (has_item (key_of u) (take k us))) (are_distinct (take k us)) (ap not (none_front (key_of u) us k (not_true (has_item (key_of u) us) parts.0))) (distinct_front us k parts.1)

within_front : (height : ℕ) (segments : Array) (items : List Update) (k : ℕ) (counts : List ℕ) → stay_within height counts (changes_in segments items) ≡ true → stay_within height counts (changes_in segments (take k items)) ≡ true
within_front height segments items zero counts e = refl
within_front height segments [] (suc k) counts e = refl
within_front height segments (u ∷ us) (suc k) counts e = by (changes_in segments us) (changes_in segments (take k us)) (λ c. within_front height segments us k c) u (has_key segments (key_of u)) e
  where
    one : (c : ItemChange) (all front : List ItemChange) → ((counts : List ℕ) → stay_within height counts all ≡ true → stay_within height counts front ≡ true) → stay_within height counts (c ∷ all) ≡ true → stay_within height counts (c ∷ front) ≡ true
    one c all front rest e =
        let parts = both_true (follows height counts c) (stay_within height (counts_after (adds c.change) counts c.segment) all) e in
        and_true (follows height counts c) (stay_within height (counts_after (adds c.change) counts c.segment) front) parts.0 (rest (counts_after (adds c.change) counts c.segment) parts.1)

    by : (all front : List ItemChange) → ((counts : List ℕ) → stay_within height counts all ≡ true → stay_within height counts front ≡ true) → (v : Update) (b : Bool) → stay_within height counts (change_before b segments v all) ≡ true → stay_within height counts (change_before b segments v front) ≡ true
    by all front rest (bind key value) true e = rest counts e
    by all front rest (bind key value) false e = one (record { segment = segment_for segments key; change = Add; first = false }) all front rest e
    by all front rest (unbind key) true e = one (record { segment = segment_for segments key; change = Take; first = begins_with key (segment_at segments (segment_for segments key)) }) all front rest e
    by all front rest (unbind key) false e = rest counts e

or_more : (a b c : Bool) → (b ≡ true → c ≡ true) → (a || b) ≡ true → (a || c) ≡ true
or_more true b c more e = refl
or_more false b c more e = more e

adds_front : (i : ℕ) (segments : Array) (items : List Update) (k : ℕ) → add_none_to i (changes_in segments items) ≡ true → add_none_to i (changes_in segments (take k items)) ≡ true
adds_front i segments items zero e = refl
adds_front i segments [] (suc k) e = refl
adds_front i segments (u ∷ us) (suc k) e = by (changes_in segments us) (changes_in segments (take k us)) (adds_front i segments us k) u (has_key segments (key_of u)) e
  where
    one : (c : ItemChange) (all front : List ItemChange) → (add_none_to i all ≡ true → add_none_to i front ≡ true) → add_none_to i (c ∷ all) ≡ true → add_none_to i (c ∷ front) ≡ true
    one c all front rest e =
        let parts = both_true (not (adds c.change && (c.segment == i))) (add_none_to i all) e in
        and_true (not (adds c.change && (c.segment == i))) (add_none_to i front) parts.0 (rest parts.1)

    by : (all front : List ItemChange) → (add_none_to i all ≡ true → add_none_to i front ≡ true) → (v : Update) (b : Bool) → add_none_to i (change_before b segments v all) ≡ true → add_none_to i (change_before b segments v front) ≡ true
    by all front rest (bind key value) true e = rest e
    by all front rest (bind key value) false e = one (record { segment = segment_for segments key; change = Add; first = false }) all front rest e
    by all front rest (unbind key) true e = one (record { segment = segment_for segments key; change = Take; first = begins_with key (segment_at segments (segment_for segments key)) }) all front rest e
    by all front rest (unbind key) false e = rest e

places_front : (segments : Array) (items : List Update) (k : ℕ) → keep_places (changes_in segments items) ≡ true → keep_places (changes_in segments (take k items)) ≡ true
places_front segments items zero e = refl
places_front segments [] (suc k) e = refl
places_front segments (u ∷ us) (suc k) e = by (changes_in segments us) (changes_in segments (take k us)) (λ i. adds_front i segments us k) (places_front segments us k) u (has_key segments (key_of u)) e
  where
    one : (c : ItemChange) (all front : List ItemChange) → ((i : ℕ) → add_none_to i all ≡ true → add_none_to i front ≡ true) → (keep_places all ≡ true → keep_places front ≡ true) → keep_places (c ∷ all) ≡ true → keep_places (c ∷ front) ≡ true
    one c all front none rest e =
        let parts = both_true (not (nat_lt 0 c.segment && c.first) || add_none_to c.segment all) (keep_places all) e in
        and_true (not (nat_lt 0 c.segment && c.first) || add_none_to c.segment front) (keep_places front) (or_more (not (nat_lt 0 c.segment && c.first)) (add_none_to c.segment all) (add_none_to c.segment front) (none c.segment) parts.0) (rest parts.1)

    by : (all front : List ItemChange) → ((i : ℕ) → add_none_to i all ≡ true → add_none_to i front ≡ true) → (keep_places all ≡ true → keep_places front ≡ true) → (v : Update) (b : Bool) → keep_places (change_before b segments v all) ≡ true → keep_places (change_before b segments v front) ≡ true
    by all front none rest (bind key value) true e = rest e
    by all front none rest (bind key value) false e = one (record { segment = segment_for segments key; change = Add; first = false }) all front none rest e
    by all front none rest (unbind key) true e = one (record { segment = segment_for segments key; change = Take; first = begins_with key (segment_at segments (segment_for segments key)) }) all front none rest e
    by all front none rest (unbind key) false e = rest e

fit_front : (height : ℕ) (counts : List ℕ) (segments : Array) (items : List Update) (k : ℕ) → fit_one_commit height counts (changes_in segments items) ≡ true → fit_one_commit height counts (changes_in segments (take k items)) ≡ true
fit_front height counts segments items k e =
    let parts = both_true (stay_within height counts (changes_in segments items)) (keep_places (changes_in segments items)) e in
    and_true (stay_within height counts (changes_in segments (take k items))) (keep_places (changes_in segments (take k items))) (within_front height segments items k counts parts.0) (places_front segments items k parts.1)

-- Items that are one commit overfill no segment and empty none from 1 on.

module _ (hmax : ℕ) (s : ArrayState) (items : List Update) (holds : HoldsMap hmax s.map s.height s.array) (balanced : IsBalancedArray s.height s.array) (size : length s.array ≡ 2 ^ s.height) (distinct : are_distinct items ≡ true)
    (fit : fit_one_commit s.height (counts_of s.array) (changes_in s.array items) ≡ true) where
  pub are_all : AreEdits hmax s items (next_states hmax s items)
  are_all = are_edits hmax s items holds balanced distinct fit

  module _ (k at : ℕ) (inside : at < length s.array) where
    front : AreEdits hmax s (take k items) (next_states hmax s (take k items))
    front = are_edits hmax s (take k items) holds balanced (distinct_front items k distinct) (fit_front s.height (counts_of s.array) s.array items k fit)

    abbrev next : Array
    next = (next_states hmax s (take k items)).array

    count_is : get_or (counts_of (next_states hmax s (take k items)).array) at 0 ≡ length (edited_by (items_for s.array at (take k items)) (segment_at s.array at))
    count_is = get_or-map (length {A = Record}) (next_states hmax s (take k items)).array at [] 0 (omega (arith, inside, front.size)) ∙ ap (length {A = Record}) (front.segments_are at inside)

    long : length (counts_of (next_states hmax s (take k items)).array) ≡ 2 ^ s.height
    long = length-map (next_states hmax s (take k items)).array (length {A = Record}) ∙ front.size ∙ size

    low : at < 2 ^ s.height
    low = omega (arith, inside, size)

    pub few_there : length (edited_by (items_for s.array at (take k items)) (segment_at s.array at)) ≤ SEGMENT_SLOTS
    few_there = omega (arith, count_is, most_there s.height (counts_of (next_states hmax s (take k items)).array) at long low (are_all.balanced k))

    pub some_left : 0 < at → 0 < length (edited_by (items_for s.array at (take k items)) (segment_at s.array at))
    some_left pos = omega (arith, count_is, some_there s.height (counts_of (next_states hmax s (take k items)).array) at long low (are_all.balanced k) (tall_by s.height at low pos))

  pub not_short : (l : Layout) → length (edited_segments s.array items) ≤ most_segments l → IsShort l s.array items → ⊥
  not_short l room (inl over) = omega (arith, room, over)
  not_short l room (inr (inl fills)) = omega (arith, fills.over, few_there fills.first fills.at fills.inside)
  not_short l room (inr (inr empties)) =
      let whole : take (length items) items ≡ items = take_all (length items) items (omega arith) in
      let left = some_left (length items) empties.at empties.inside empties.some in
      omega (arith, empties.none, left, ap (λ (us : List Update). length (edited_by (items_for s.array empties.at us) (segment_at s.array empties.at))) whole)

-- A segment more is looked at.

-- one of its items edits it
pub has_edited : (segments : Array) (numbers : List ℕ) (items : List Update) (n : ℕ) (own : List Record) (new : List (Result ℕ ℕ)) (some : 0 < length segments) (ascends : IsAscending (rows segments)) (distinct : are_distinct items ≡ true) (size : length numbers ≡ length items)
    → BelongThere segments numbers items → own ≡ segment_at segments n → ((k : ℕ) (d : Update) → k < length items → get_or numbers k 0 ≡ n → FindsIn (key_of (get_or items k d)) own (get_or new k (Err 0))) → HasEdit n numbers items new → IsEdited segments items n
has_edited segments numbers items n own new some ascends distinct size belong own_is finds is = record {
  j = is.item;
  within = is.within;
  own = λ d. sym (belong is.item d is.within) ∙ is.own;
  edits = λ d.
      let there = found_there 1 segments numbers items some ascends distinct size belong (get_or new is.item (Err 0)) (get_or items is.item d) n (sym is.own ∙ belong is.item d is.within)
      (subst (λ (r : List Record). FindsIn (key_of (get_or items is.item d)) r (get_or new is.item (Err 0))) own_is (finds is.item d is.within is.own)) in
      ap (edits_by (get_or items is.item d)) (sym there) ∙ is.edits d;
}

module _ (l : Layout) (segments : Array) (numbers : List ℕ) (items : List Update) (ascends : IsAscending (rows segments)) (distinct : are_distinct items ≡ true) (few : length items ≤ 16) (size : length numbers ≡ length items) (belong : BelongThere segments numbers items)
    (n : ℕ) (inside : n < length segments) (own : List Record) (own_is : own ≡ segment_at segments n) (b : Batch) (look : BatchScan) (loaded : AreLoaded l.format b look n) (edited : IsEdited segments items n) where
  some : 0 < length segments
  some = omega (arith, inside)

  abbrev ns : List ℕ
  ns = segments_in l.format b.numbers

  -- with it they are still ascending, and edited
  one_more : AreUsed l segments items b true → length (segments_in l.format b.numbers) + 1 ≤ length (edited_segments segments items)
  one_more used = omega (arith, one_longer ns n 0, ascending_few segments items (ns ++ n ∷ []) climbs all)
    where
      climbs : Ascends (ns ++ n ∷ [])
      climbs i j lt low = elim (cases_lt j (length ns)) [
        | inl inner ↦ omega (arith, before_last ns n 0 i (omega (arith, lt, inner)), before_last ns n 0 j inner, frames_ascend l.format b loaded.held i j lt inner)
        | inr outer ↦
            let last : j ≡ length ns = omega (arith, outer, low, one_longer ns n 0) in
            omega (arith, before_last ns n 0 i (omega (arith, lt, last)), last_there ns n 0 j last, loaded.below i (omega (arith, lt, last, loaded.count_is)))
      ]

      all : (k : ℕ) → k < length (ns ++ n ∷ []) → IsEdited segments items (get_or (ns ++ n ∷ []) k 0)
      all k lt = elim (cases_lt k (length ns)) [
        | inl inner ↦ subst (IsEdited segments items) (sym (before_last ns n 0 k inner)) (used.edited k inner)
        | inr outer ↦ subst (IsEdited segments items) (sym (last_there ns n 0 k (omega (arith, outer, lt, one_longer ns n 0)))) edited
      ]

  -- its own items are those that edit it, also of the first ones
  front_edits : (k : ℕ) → k ≤ length items → edited_by (own_items n (take k numbers) (take k items)) own ≡ edited_by (items_for segments n (take k items)) (segment_at segments n)
  front_edits k le =
      let long : length (take k items) ≡ k = length-take-le k items le in
      ap (edited_by (own_items n (take k numbers) (take k items))) own_is
      ∙ own_edits segments n (take k numbers) (take k items) some ascends (distinct_front items k distinct) (length-take-le k numbers (omega (arith, le, size)) ∙ sym long)
      (λ j d lt.
      let low : j < k = omega (arith, lt, long) in
      get_or-take k numbers j 0 low ∙ belong j d (omega (arith, low, le)) ∙ ap (λ (u : Update). segment_for segments (key_of u)) (sym (get_or-take k items j d low)))

  short_by : AreUsed l segments items b true → LacksRoom l n numbers items own look.count → IsShort l segments items
  short_by used (inl (inl many)) = absurd (omega (arith, many, loaded.count_is, one_more used, edited_few segments items, few))
  short_by used (inl (inr full)) = inl (omega (arith, full, loaded.count_is, one_more used))
  short_by used (inr (inl fills)) = inr (inl (record {
    at = n;
    inside = inside;
    first = fills.item + 1;
    over = subst (λ (r : List Record). SEGMENT_SLOTS < length r) (front_edits (fills.item + 1) (omega (arith, fills.within))) fills.over;
  }))
  short_by used (inr (inr empty)) = inr (inr (record {
    at = n;
    some = empty.0;
    inside = inside;
    none = ap (length {A = Record}) (sym (ap (edited_by (own_items n numbers items)) own_is ∙ own_edits segments n numbers items some ascends distinct size belong)) ∙ empty.1;
  }))

  pub used_more : (next : Batch) (whole : Bool) → (whole ≡ true → segments_in l.format next.numbers ≡ segments_in l.format b.numbers ++ n ∷ []) → (whole ≡ false → next ≡ b) → (whole ≡ false → LacksRoom l n numbers items own look.count) → AreUsed l segments items b true → AreUsed l segments items next whole
  used_more next true more kept lacks used = record {
    edited = λ k lt. elim (cases_lt k (length ns)) [
      | inl inner ↦ subst (IsEdited segments items) (sym (ap (λ (m : List ℕ). get_or m k 0) (more refl) ∙ before_last ns n 0 k inner)) (used.edited k inner)
      | inr outer ↦ subst (IsEdited segments items) (sym (ap (λ (m : List ℕ). get_or m k 0) (more refl) ∙ last_there ns n 0 k (omega (arith, outer, lt, ap (length {A = ℕ}) (more refl), one_longer ns n 0)))) edited
    ];
    short = λ e. absurd (true≢false e);
  }
  used_more next false more kept lacks used = record {
    edited = λ k lt. subst (λ (x : Batch). IsEdited segments items (get_or (segments_in l.format x.numbers) k 0)) (sym (kept refl)) (used.edited k (subst (λ (x : Batch). k < length (segments_in l.format x.numbers)) (kept refl) lt));
    short = λ e. short_by used (lacks refl);
  }

-- before any is looked at
pub used_none : (l : Layout) (segments : Array) (items : List Update) (b : Batch) (whole : Bool) → segments_in l.format b.numbers ≡ [] → whole ≡ true → AreUsed l segments items b whole
used_none l segments items b whole none is = record {
  edited = λ k lt. absurd (omega (arith, lt, ap (length {A = ℕ}) none));
  short = λ e. absurd (true≢false (sym is ∙ e));
}
