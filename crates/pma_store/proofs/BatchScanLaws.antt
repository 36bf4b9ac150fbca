-- A batch that is looked over, one segment more at a time.
use Rattle.std.proofs.Common.{◌≡◌, ℕ, suc, ◌+◌, ◌-◌, ◌<◌, ◌≤◌, ◌==◌, Bool, true, false, cond, T, List, [], ◌∷◌, ◌++◌, length, set, get_or, Result, Err, refl, sym, ap, subst, ◌∙◌, arith, inl, inr, is_some}
use Rattle.std.specs.Prelude.{is_ok}
use mathlib.Core.Bool.{true≢false}
use Rattle.std.specs.FinMap.{find}
use Rattle.std.specs.List.{list_all}
use Rattle.std.proofs.lemmas.Bool.{cases_lt, cases_eq, ne_eqb}
use Rattle.std.proofs.lemmas.List.{length-append, get_or_append_left, get_or-append_right, get_or-set_same, get_or-set_other}
use Rattle.batch_intent.specs.Spelling.{fits_item}
use Rattle.key_slot.specs.Record.{Record, key_cmp, is_record, IsAscending}
use Rattle.key_slot.specs.Segment.{FitsSegment}
use Rattle.key_slot.proofs.Truth.{first, second}
use Rattle.map_model.specs.Array.{Array, rows, segment_at, segment_for}
use Rattle.map_model.specs.ArrayUpdates.{has_key, edited}
use Rattle.map_model.specs.Items.{are_distinct}
use Rattle.map_model.specs.Store.{Update, bind, unbind, key_of}
use Rattle.map_model.proofs.Belonging.{segment_for_is, rows-find}
use Rattle.one_commit.specs.Editing.{edited_by, edits, items_for}
use Rattle.header_gate.specs.Places.{IsSlotFormat}
use Rattle.header_gate.specs.Places.{segment_place, segment_size}
use Rattle.one_commit.specs.Touched.{IsLeastOf}
use Rattle.redo_journal.specs.declared.place.Place.{Place}
use Rattle.station.specs.View.{View, after_read}
use Rattle.station.specs.declared.travel.Travel.{Travel}
use Rattle.redo_journal.specs.Frames.{Batch, IsFrames}
use Rattle.segment_frames.proofs.PageNumbers.{pages_back, whole_pages}
use Rattle.segment_frames.proofs.ReadLaws.{all_held}
use Rattle.segment_frames.specs.Lists.{held_lists, segments_in, IsHeld}
use Rattle.segment_frames.proofs.FrameLaws.{length-rows_in}
use Rattle.pma_store.specs.declared.batch_scan.BatchScan.{BatchScan}
use Rattle.pma_store.specs.Looked.{AreLoaded, BelongThere, HasFound, HasLooked, LoadsEdits, LoadsMore, ReadsOnce, after_reads}
use Rattle.pma_store.specs.Own.{own_items, FindsIn, edits_by}
use Rattle.pma_store.proofs.Editing.{edited_fits}
use Rattle.pma_store.proofs.ItemsApplied.{fits_format}
use Rattle.pma_store.proofs.OwnEdits.{own_edits}

-- The items of a segment keep to what its slots have room for.
pub own_fits : (f n : ℕ) (numbers : List ℕ) (items : List Update) (own : List Record) → T (list_all (fits_item f) items) → T (list_all (is_record f) own) → T (list_all (is_record f) (edited_by (own_items n numbers items) own))
own_fits f n [] items own fit all = all
own_fits f n (i ∷ is) [] own fit all = all
own_fits f n (i ∷ is) (u ∷ us) own fit all =
    let rest = second (fits_item f u) (list_all (fits_item f) us) fit in
    by (i == n) (own_fits f n is us (edited u own) rest (edited_fits f u own all (fits_format f u (first (fits_item f u) (list_all (fits_item f) us) fit)))) (own_fits f n is us own rest all)
  where
    by : (b : Bool) → T (list_all (is_record f) (edited_by (own_items n is us) (edited u own))) → T (list_all (is_record f) (edited_by (own_items n is us) own)) → T (list_all (is_record f) (edited_by (cond b (u ∷ own_items n is us) (own_items n is us)) own))
    by true made left = made
    by false made left = left

-- What stands in a list with one more at its end.

module _ {A : Type 0} (xs : List A) (x d : A) where
  pub before_last : (k : ℕ) → k < length xs → get_or (xs ++ x ∷ []) k d ≡ get_or xs k d
  before_last k lt = get_or_append_left xs (x ∷ []) d k lt

  pub last_there : (k : ℕ) → k ≡ length xs → get_or (xs ++ x ∷ []) k d ≡ x
  last_there k at =
      let none : k - length xs ≡ 0 = omega (arith, at) in
      get_or-append_right xs (x ∷ []) (length xs) k d refl (omega (arith, at)) ∙ ap (λ (n : ℕ). get_or (x ∷ []) n d) none

  pub one_longer : length (xs ++ x ∷ []) ≡ length xs + 1
  one_longer = length-append xs (x ∷ [])

-- A segment more in frames.

pub count_lists : (format : ℕ) (b : Batch) → length (held_lists format b) ≡ length (segments_in format b.numbers)
count_lists format b = length-rows_in format (length (segments_in format b.numbers)) b.slots

pub loads_more : (format n : ℕ) (own : List Record) (b next : Batch) (look : BatchScan) → AreLoaded format b look n → length look.edited ≡ 16 → look.count < 16 → (0 < n → 0 < length own) → FitsSegment format own → IsHeld format next → LoadsMore format n own b next
    → AreLoaded format next (record look { edited = set look.edited look.count n; count = look.count + 1 }) (n + 1)
loads_more format n own b next look is size few filled fits held more =
    let numbers = segments_in format b.numbers in
    let all = segments_in format next.numbers in
    let number = λ (k : ℕ). ap (λ (l : List ℕ). get_or l k 0) more.numbers_are in
    let list = λ (k : ℕ). ap (λ (l : Array). segment_at l k) more.lists_are in
    record {
      held = held;
      count_is = omega (arith, is.count_is, ap length more.numbers_are, one_longer numbers n 0);
      few = omega (arith, few);
      numbers_are = λ k lt. elim (cases_lt k look.count) [
        | inl low ↦ get_or-set_other look.edited look.count k n 0 (λ same. omega (arith, same, low)) ∙ is.numbers_are k low ∙ sym (number k ∙ before_last numbers n 0 k (omega (arith, low, is.count_is)))
        | inr high ↦
            let at : k ≡ look.count = omega (arith, lt, high) in
            ap (λ (j : ℕ). get_or (set look.edited look.count n) j 0) at ∙ get_or-set_same look.edited look.count n 0 (omega (arith, few, size)) ∙ sym (number k ∙ last_there numbers n 0 k (omega (arith, at, is.count_is)))
      ];
      below = λ k lt. elim (cases_lt k look.count) [
        | inl low ↦ omega (arith, number k, before_last numbers n 0 k (omega (arith, low, is.count_is)), is.below k low)
        | inr high ↦ omega (arith, number k, last_there numbers n 0 k (omega (arith, lt, high, is.count_is)))
      ];
      fits = λ k lt. elim (cases_lt k look.count) [
        | inl low ↦ subst (FitsSegment format) (sym (list k ∙ before_last (held_lists format b) own [] k (omega (arith, low, is.count_is, count_lists format b)))) (is.fits k low)
        | inr high ↦ subst (FitsSegment format) (sym (list k ∙ last_there (held_lists format b) own [] k (omega (arith, lt, high, is.count_is, count_lists format b)))) fits
      ];
      filled = λ k lt pos. elim (cases_lt k look.count) [
        | inl low ↦
            let old : get_or all k 0 ≡ get_or numbers k 0 = number k ∙ before_last numbers n 0 k (omega (arith, low, is.count_is)) in
            omega (arith, is.filled k low (omega (arith, pos, old)), ap length (list k ∙ before_last (held_lists format b) own [] k (omega (arith, low, is.count_is, count_lists format b))))
        | inr high ↦
            let at : k ≡ length numbers = omega (arith, lt, high, is.count_is) in
            omega (arith, filled (omega (arith, pos, number k, last_there numbers n 0 k at)), ap length (list k ∙ last_there (held_lists format b) own [] k (omega (arith, at, count_lists format b))))
      ];
    }

-- no segment yet
pub none_numbers : (format : ℕ) (b : Batch) → IsSlotFormat format → b.numbers ≡ [] → segments_in format b.numbers ≡ []
none_numbers format b known none = pages_back format b.numbers [] known.least none

pub loads_none : (format : ℕ) (b : Batch) (look : BatchScan) → IsSlotFormat format → IsFrames b → b.numbers ≡ [] → look.count ≡ 0 → AreLoaded format b look 0
loads_none format b look known frames none fresh =
    let size = ap length (none_numbers format b known none) in
    record {
      held = all_held format b known frames (whole_pages format b.numbers [] known.least none) (λ f lt. absurd (omega (arith, lt, size)));
      count_is = omega (arith, fresh, size);
      few = omega (arith, fresh);
      numbers_are = λ k lt. absurd (omega (arith, lt, fresh));
      below = λ k lt. absurd (omega (arith, lt, fresh));
      fits = λ k lt. absurd (omega (arith, lt, fresh));
      filled = λ k lt. absurd (omega (arith, lt, fresh));
    }

pub looks_none : (format : ℕ) (segments : Array) (numbers : List ℕ) (items : List Update) (b : Batch) (look : BatchScan) → IsSlotFormat format → b.numbers ≡ [] → HasLooked format segments numbers items b look 0
looks_none format segments numbers items b look known none = record {
  found = λ k d lt low. absurd (omega (arith, low));
  edits = λ whole. record {
    named = λ k lt. absurd (omega (arith, lt, ap length (none_numbers format b known none)));
    unnamed = λ i low. absurd (omega (arith, low));
  };
}

pub loads_later : (format from to : ℕ) (b : Batch) (look : BatchScan) → from ≤ to → AreLoaded format b look from → AreLoaded format b look to
loads_later format from to b look le is = record {
  held = is.held;
  count_is = is.count_is;
  few = is.few;
  numbers_are = is.numbers_are;
  below = λ k lt. omega (arith, is.below k lt, le);
  fits = is.fits;
  filled = is.filled;
}

-- Which items edit a segment.

none_edit : (segments : Array) (n : ℕ) (items : List Update) → ((k : ℕ) (d : Update) → k < length items → edits segments n (has_key segments (key_of (get_or items k d))) (get_or items k d) ≡ false) → items_for segments n items ≡ []
none_edit segments n [] none = refl
none_edit segments n (u ∷ us) none =
    ap (λ (b : Bool). cond b (u ∷ items_for segments n us) (items_for segments n us)) (none 0 u (omega arith)) ∙ none_edit segments n us (λ k d lt. none (suc k) d (omega (arith, lt)))

elsewhere : (segments : Array) (n : ℕ) (u : Update) (b : Bool) → (segment_for segments (key_of u) ≡ n → ⊥) → edits segments n b u ≡ false
elsewhere segments n (bind key value) b apart = ne_eqb (segment_for segments key) n apart
elsewhere segments n (unbind key) true apart = ne_eqb (segment_for segments key) n apart
elsewhere segments n (unbind key) false apart = refl

no_edit : (segments : Array) (n : ℕ) (u : Update) (there b : Bool) → there ≡ b → edits_by u there ≡ false → edits segments n b u ≡ false
no_edit segments n (bind key value) there b same none = absurd (true≢false none)
no_edit segments n (unbind key) there true same none = absurd (true≢false (sym same ∙ none))
no_edit segments n (unbind key) there false same none = refl

-- One segment more.

module _ (format : ℕ) (segments : Array) (numbers : List ℕ) (items : List Update) (some : 0 < length segments) (ascends : IsAscending (rows segments)) (distinct : are_distinct items ≡ true) (size : length numbers ≡ length items) (belong : BelongThere segments numbers items) where
  -- a key is found in its segment as in the array
  pub found_there : (found : Result ℕ ℕ) (u : Update) (n : ℕ) → n ≡ segment_for segments (key_of u) → FindsIn (key_of u) (segment_at segments n) found → is_ok found ≡ has_key segments (key_of u)
  found_there found u n at finds =
      finds.present ∙ ap (λ (i : ℕ). is_some (find key_cmp (key_of u) (segment_at segments i))) at ∙ sym (ap is_some (rows-find segments (key_of u) (segment_for segments (key_of u)) (segment_for_is segments (key_of u) some) ascends))

  -- no item belongs to a segment
  pub none_there : (n : ℕ) → ((k : ℕ) → k < length items → get_or numbers k 0 ≡ n → ⊥) → items_for segments n items ≡ []
  none_there n none = none_edit segments n items (λ k d lt. elsewhere segments n (get_or items k d) (has_key segments (key_of (get_or items k d))) (λ here. none k lt (belong k d lt ∙ here)))

  -- those between one segment and the next are left out
  pub looks_later : (from to : ℕ) (b : Batch) (look : BatchScan) → ((k : ℕ) → k < length numbers → from ≤ get_or numbers k 0 → to ≤ get_or numbers k 0) → HasLooked format segments numbers items b look from → HasLooked format segments numbers items b look to
  looks_later from to b look none is = record {
    found = λ k d lt low. elim (cases_lt (get_or numbers k 0) from) [
      | inl below ↦ is.found k d lt below
      | inr above ↦ absurd (omega (arith, none k (omega (arith, lt, size)) above, low))
    ];
    edits = λ whole. record {
      named = (is.edits whole).named;
      unnamed = λ i low apart. elim (cases_lt i from) [
        | inl below ↦ (is.edits whole).unnamed i below apart
        | inr above ↦ none_there i (λ k lt here. omega (arith, none k (omega (arith, lt, size)) (omega (arith, above, here)), here, low))
      ];
    };
  }

  module _ (n : ℕ) (own : List Record) (own_is : own ≡ segment_at segments n) (old new : List (Result ℕ ℕ))
      (finds : (k : ℕ) (d : Update) → k < length items → get_or numbers k 0 ≡ n → FindsIn (key_of (get_or items k d)) own (get_or new k (Err 0)))
      (others : (k : ℕ) → (get_or numbers k 0 ≡ n → ⊥) → get_or new k (Err 0) ≡ get_or old k (Err 0)) where
    pub finds_more : HasFound segments numbers items old n → HasFound segments numbers items new (n + 1)
    finds_more was k d lt low = elim (cases_eq (get_or numbers k 0) n) [
      | inl here ↦ subst (λ (r : List Record). FindsIn (key_of (get_or items k d)) r (get_or new k (Err 0))) (own_is ∙ ap (segment_at segments) (sym here)) (finds k d lt here)
      | inr apart ↦ subst (λ (x : Result ℕ ℕ). FindsIn (key_of (get_or items k d)) (segment_at segments (get_or numbers k 0)) x) (sym (others k apart)) (was k d lt (omega (arith, low, apart)))
    ]

    -- none of the segment's items edits it
    pub none_here : ((k : ℕ) (d : Update) → k < length items → get_or numbers k 0 ≡ n → edits_by (get_or items k d) (is_ok (get_or new k (Err 0))) ≡ false) → items_for segments n items ≡ []
    none_here none = none_edit segments n items (λ k d lt. elim (cases_eq (get_or numbers k 0) n) [
      | inl here ↦
          no_edit segments n (get_or items k d) (is_ok (get_or new k (Err 0))) (has_key segments (key_of (get_or items k d)))
          (found_there (get_or new k (Err 0)) (get_or items k d) n (sym here ∙ belong k d lt) (subst (λ (r : List Record). FindsIn (key_of (get_or items k d)) r (get_or new k (Err 0))) own_is (finds k d lt here)))
          (none k d lt here)
      | inr apart ↦ elsewhere segments n (get_or items k d) (has_key segments (key_of (get_or items k d))) (λ there. apart (belong k d lt ∙ there))
    ])

    -- the batch stays
    pub edits_kept : (b : Batch) → items_for segments n items ≡ [] → LoadsEdits format segments items b n → LoadsEdits format segments items b (n + 1)
    edits_kept b none was = record {
      named = was.named;
      unnamed = λ i low apart. elim (cases_eq i n) [
        | inl here ↦ ap (λ (j : ℕ). items_for segments j items) here ∙ none
        | inr other ↦ was.unnamed i (omega (arith, low, other)) apart
      ];
    }

    -- the segment is in frames with its items made
    pub edits_more : (b next : Batch) → LoadsMore format n (edited_by (own_items n numbers items) own) b next → LoadsEdits format segments items b n → LoadsEdits format segments items next (n + 1)
    edits_more b next more was = record {
      named = λ k lt. elim (cases_lt k (length (segments_in format b.numbers))) [
        | inl low ↦
            list k ∙ before_last (held_lists format b) (edited_by (own_items n numbers items) own) [] k (omega (arith, low, count_lists format b)) ∙ was.named k low
            ∙ sym (ap (λ (i : ℕ). edited_by (items_for segments i items) (segment_at segments i)) (number k ∙ before_last (segments_in format b.numbers) n 0 k low))
        | inr high ↦
            let at : k ≡ length (segments_in format b.numbers) = omega (arith, lt, high, ap length more.numbers_are, one_longer (segments_in format b.numbers) n 0) in
            list k ∙ last_there (held_lists format b) (edited_by (own_items n numbers items) own) [] k (omega (arith, at, count_lists format b)) ∙ made_is
            ∙ sym (ap (λ (i : ℕ). edited_by (items_for segments i items) (segment_at segments i)) (number k ∙ last_there (segments_in format b.numbers) n 0 k at))
      ];
      unnamed = λ i low apart. elim (cases_eq i n) [
        | inl here ↦ absurd (apart (length (segments_in format b.numbers)) (omega (arith, ap length more.numbers_are, one_longer (segments_in format b.numbers) n 0)) (number (length (segments_in format b.numbers)) ∙ last_there (segments_in format b.numbers) n 0 (length (segments_in format b.numbers)) refl ∙ sym here))
        | inr other ↦ was.unnamed i (omega (arith, low, other)) (λ k lt same. apart k (omega (arith, lt, ap length more.numbers_are, one_longer (segments_in format b.numbers) n 0)) (number k ∙ before_last (segments_in format b.numbers) n 0 k lt ∙ same))
      ];
    }
      where
        number : (k : ℕ) → get_or (segments_in format next.numbers) k 0 ≡ get_or ((segments_in format b.numbers) ++ n ∷ []) k 0
        number k = ap (λ (l : List ℕ). get_or l k 0) more.numbers_are

        list : (k : ℕ) → segment_at (held_lists format next) k ≡ segment_at (held_lists format b ++ (edited_by (own_items n numbers items) own) ∷ []) k
        list k = ap (λ (l : Array). segment_at l k) more.lists_are

        made_is : (edited_by (own_items n numbers items) own) ≡ edited_by (items_for segments n items) (segment_at segments n)
        made_is = ap (edited_by (own_items n numbers items)) own_is ∙ own_edits segments n numbers items some ascends distinct size belong

-- Segments are read one by one.

pub reads_none : (place : Place) (numbers : List ℕ) (a : View) → ReadsOnce place numbers 0 a a
reads_none place numbers a = record {
  read = [];
  ascends = λ i j lt low. absurd (omega (arith, low));
  below = λ k lt. absurd (omega (arith, lt));
  told = λ k lt. absurd (omega (arith, lt));
  each = λ j lt low. absurd (omega (arith, low));
  travel_is = refl;
  calls = omega arith;
}

after_more : (place : Place) (ns : List ℕ) (n : ℕ) (t : Travel) → after_reads place (ns ++ n ∷ []) t ≡ after_read (segment_place place.layout place.region n) (segment_size place.layout) (after_reads place ns t)
after_more place [] n t = refl
after_more place (m ∷ ns) n t = after_more place ns n (after_read (segment_place place.layout place.region m) (segment_size place.layout) t)

pub reads_more : (place : Place) (numbers : List ℕ) (from n : ℕ) (a b c : View) (is : ReadsOnce place numbers from a b) → IsLeastOf numbers from (length numbers) n → c.travel ≡ after_read (segment_place place.layout place.region n) (segment_size place.layout) b.travel → c.calls ≤ b.calls + 1
    → (more : ReadsOnce place numbers (n + 1) a c) × (length more.read ≡ length is.read + 1)
reads_more place numbers from n a b c is least travel one = (
  record {
    read = is.read ++ n ∷ [];
    ascends = λ i j lt low. elim (cases_lt j (length is.read)) [
      | inl inner ↦ omega (arith, before_last is.read n 0 i (omega (arith, lt, inner)), before_last is.read n 0 j inner, is.ascends i j lt inner)
      | inr outer ↦
          let last : j ≡ length is.read = omega (arith, outer, low, one_longer is.read n 0) in
          omega (arith, before_last is.read n 0 i (omega (arith, lt, last)), last_there is.read n 0 j last, is.below i (omega (arith, lt, last)), least.above)
    ];
    below = λ k lt. elim (cases_lt k (length is.read)) [
      | inl inner ↦ omega (arith, before_last is.read n 0 k inner, is.below k inner, least.above)
      | inr outer ↦ omega (arith, last_there is.read n 0 k (omega (arith, outer, lt, one_longer is.read n 0)))
    ];
    told = λ k lt. elim (cases_lt k (length is.read)) [
      | inl inner ↦ let own = is.told k inner in (own.0, own.1, own.2 ∙ sym (before_last is.read n 0 k inner))
      | inr outer ↦ (least.at, least.inside, least.is ∙ sym (last_there is.read n 0 k (omega (arith, outer, lt, one_longer is.read n 0))))
    ];
    each = λ j lt low. elim (cases_lt (get_or numbers j 0) from) [
      | inl early ↦ let own = is.each j lt early in (own.0, omega (arith, own.1, one_longer is.read n 0), before_last is.read n 0 own.0 own.1 ∙ own.2)
      | inr late ↦ (length is.read, omega (arith, one_longer is.read n 0), last_there is.read n 0 (length is.read) refl ∙ omega (arith, low, least.lowest j lt late))
    ];
    travel_is = travel ∙ ap (after_read (segment_place place.layout place.region n) (segment_size place.layout)) is.travel_is ∙ sym (after_more place is.read n a.travel);
    calls = omega (arith, is.calls, one, one_longer is.read n 0);
  },
  one_longer is.read n 0,
)

pub reads_all : (place : Place) (numbers : List ℕ) (from to : ℕ) (a c : View) → from ≤ to → ((k : ℕ) → k < length numbers → get_or numbers k 0 < from) → (is : ReadsOnce place numbers from a c) → (all : ReadsOnce place numbers to a c) × (length all.read ≡ length is.read)
reads_all place numbers from to a c le none is = (
  record {
    read = is.read;
    ascends = is.ascends;
    below = λ k lt. omega (arith, is.below k lt, le);
    told = is.told;
    each = λ j lt low. is.each j lt (none j lt);
    travel_is = is.travel_is;
    calls = is.calls;
  },
  refl,
)
