-- The calls of a batch, from those of its parts.
use Rattle.std.proofs.Common.{◌≡◌, inl, inr, ℕ, zero, suc, ◌+◌, ◌*◌, ◌^◌, ◌<◌, ◌≤◌, cond, Bool, true, false, List, [], ◌∷◌, length, take, get_or, refl, sym, ap, subst, ◌∙◌, arith}
use Rattle.std.specs.Prelude.{nat_lt}
use Rattle.std.proofs.lemmas.Bool.{cases_lt}
use Rattle.std.proofs.lemmas.Bool.Decides.{nat_tests}
use Rattle.station.specs.Bytes.{Same}
use Rattle.station.specs.View.{View, Told}
use Rattle.station.specs.Steps.{Steps}
use Rattle.station.proofs.Composition.{told_on, told_back}
use Rattle.header_gate.specs.declared.layout.Layout.{Layout}
use Rattle.header_gate.specs.Paged.{pages_of_all}
use Rattle.header_gate.specs.Places.{height_limit}
use Rattle.header_gate.specs.Recovered.{Ascends}
use Rattle.map_model.specs.Array.{segment_for}
use Rattle.map_model.specs.ArrayState.{ArrayState, next_state, next_states}
use Rattle.map_model.specs.Image.{array_of}
use Rattle.map_model.specs.Store.{Update, key_of}
use Rattle.redo_journal.specs.Neighbours.{run_count}
use Rattle.redo_journal.proofs.RunCounts.{run_count_joined}
use Rattle.redo_journal.specs.declared.place.Place.{Place}
use Rattle.segment_frames.proofs.PageNumbers.{call_few}
use Rattle.window_tally.specs.TallyView.{TallyView}
use Rattle.pma_store.specs.StoreAnswers.{state_in}
use Rattle.pma_store.specs.BatchCalls.{AreForItems, AreOwnSegments, CallsBatch, CallsIntent, IsForItem, IsForItems, LooksOnce}
use Rattle.pma_store.specs.UpdateCalls.{runs_calls}
use Rattle.pma_store.specs.Looked.{BelongThere, ReadsOnce}
use Rattle.pma_store.specs.Once.{AreOneCommit, edited_segments}
use Rattle.pma_store.specs.StoreView.{StoreView}

-- Numbers that ascend are no more than those of a list in which each of them stands.

lt_true : (m n : ℕ) → m < n → nat_lt m n ≡ true
lt_true m n lt = grind (arith, nat_tests)

lt_false : (m n : ℕ) → n ≤ m → nat_lt m n ≡ false
lt_false m n le = grind (arith, nat_tests)

-- one where a number is below another
below : ℕ → ℕ → ℕ
below m n = cond (nat_lt m n) 1 0

below_one : (m n : ℕ) → m < n → below m n ≡ 1
unfolding below
below_one m n lt = ap (λ (b : Bool). cond b 1 0) (lt_true m n lt)

below_none : (m n : ℕ) → n ≤ m → below m n ≡ 0
unfolding below
below_none m n le = ap (λ (b : Bool). cond b 1 0) (lt_false m n le)

below_up : (m x y : ℕ) → x ≤ y → below m x ≤ below m y
below_up m x y le = elim (cases_lt m x) [
  | inl lt ↦ omega (arith, below_one m x lt, below_one m y (omega (arith, lt, le)))
  | inr ge ↦ omega (arith, below_none m x ge)
]

below_few : (m n : ℕ) → below m n ≤ 1
below_few m n = elim (cases_lt m n) [ inl lt ↦ omega (arith, below_one m n lt) | inr ge ↦ omega (arith, below_none m n ge) ]

-- how many of a list are below a number
under : ℕ → List ℕ → ℕ
under n [] = 0
under n (m ∷ ms) = below m n + under n ms

under_up : (x y : ℕ) (ns : List ℕ) → x ≤ y → under x ns ≤ under y ns
unfolding under
under_up x y [] le = omega arith
under_up x y (m ∷ ms) le = omega (arith, below_up m x y le, under_up x y ms le)

under_more : (x y : ℕ) (ns : List ℕ) (j : ℕ) → j < length ns → get_or ns j 0 ≡ x → x < y → under x ns + 1 ≤ under y ns
unfolding under
under_more x y [] j lt at low = absurd (omega (arith, lt))
under_more x y (m ∷ ms) zero lt at low = omega (arith, below_none m x (omega (arith, at)), below_one m y (omega (arith, at, low)), under_up x y ms (omega (arith, low)))
under_more x y (m ∷ ms) (suc j) lt at low = omega (arith, below_up m x y (omega (arith, low)), under_more x y ms j (omega (arith, lt)) at low)

under_few : (n : ℕ) (ns : List ℕ) → under n ns ≤ length ns
unfolding under
under_few n [] = omega arith
under_few n (m ∷ ms) = omega (arith, below_few m n, under_few n ms)

module _ (xs ns : List ℕ) (ascends : Ascends xs) (told : (k : ℕ) → k < length xs → (j : ℕ) × (j < length ns) × (get_or ns j 0 ≡ get_or xs k 0)) where
  climbs : (k : ℕ) → k < length xs → k ≤ under (get_or xs k 0) ns
  climbs zero lt = omega arith
  climbs (suc k) lt =
      let own = told k (omega (arith, lt)) in
      omega (arith, climbs k (omega (arith, lt)), under_more (get_or xs k 0) (get_or xs (suc k) 0) ns own.0 own.1 own.2 (ascends k (suc k) (omega arith) lt))

  up_to : (n : ℕ) → n ≡ length xs → n ≤ length ns
  up_to zero is = omega arith
  up_to (suc k) is =
      let own = told k (omega (arith, is)) in
      omega (arith, climbs k (omega (arith, is)), under_more (get_or xs k 0) (get_or xs k 0 + 1) ns own.0 own.1 own.2 (omega arith), under_few (get_or xs k 0 + 1) ns)

  pub no_more : length xs ≤ length ns
  no_more = up_to (length xs) refl

-- The look.

-- each of the segments that were read is one to which a key belongs
pub looks_once : {a c : View} (place : Place) (numbers : List ℕ) (items : List Update) (from height : ℕ) → length numbers ≡ length items → ((k : ℕ) → k < length numbers → get_or numbers k 0 < 2 ^ height) → (Told a → BelongThere (array_of a.held) numbers items)
    → (is : ReadsOnce place numbers from a c) → (looks : LooksOnce items height a c) × (length looks.looked ≡ length is.read)
looks_once place numbers items from height size within belong is = (
  record {
    looked = is.read;
    are_own = record {
      ascends = is.ascends;
      few = omega (arith, no_more is.read numbers is.ascends is.told, size);
      below = λ k lt. let own = is.told k lt in omega (arith, within own.0 own.1, own.2);
      own = λ told k d lt. let own = is.told k lt in (own.0, omega (arith, own.1, size), sym own.2 ∙ belong told own.0 d (omega (arith, own.1, size)));
    };
    most = is.calls;
  },
  refl,
)

none_own : (items : List Update) (height : ℕ) (a : View) → AreOwnSegments items height a []
none_own items height a = record {
  ascends = λ i j lt low. absurd (omega (arith, low));
  few = omega arith;
  below = λ k lt. absurd (omega (arith, lt));
  own = λ told k d lt. absurd (omega (arith, lt));
}

pub no_looks : (items : List Update) (height : ℕ) (a : View) → LooksOnce items height a a
no_looks items height a = record { looked = []; are_own = none_own items height a; most = omega arith }

-- Items.

-- one more
pub more_items : (l : Layout) (a : View) (x : ArrayState) (items : List Update) (k : ℕ) (d : Update) (t v w : TallyView) (n m : ℕ) → k < length items → IsForItems l a x t (take k items) v n → IsForItem l a (next_states (height_limit l) x (take k items)) v (get_or items k d) w m
    → IsForItems l a x t (take (suc k) items) w (n + m)
more_items l a x [] k d t v w n m lt are is = absurd (omega (arith, lt))
more_items l a x (u ∷ us) zero d t v w n m lt are is = (m, w, 0, subst (λ (t : TallyView). IsForItem l a x t u w m) are.0 is, (refl, refl), omega (arith, are.1))
more_items l a x (u ∷ us) (suc k) d t v w n m lt are is =
    (are.0, are.1, are.2 + m, are.3, more_items l a (next_state (height_limit l) x u) us k d are.1 v w are.2 m (omega (arith, lt)) are.4 is, omega (arith, are.5))

-- by the calls before
items_from : (a b : View) (l : Layout) (x y : ArrayState) (t last : TallyView) (items : List Update) (n : ℕ) → (Told a → Told b) → (Told a → x ≡ y) → IsForItems l b x t items last n → IsForItems l a y t items last n
items_from a b l x y t last [] n on same is = is
items_from a b l x y t last (u ∷ us) n on same is =
    let one : IsForItem l b x t u is.1 is.0 = is.3 in (
      is.0,
      is.1,
      is.2,
      record { at = one.at; within = one.within; own = λ told. one.own (on told) ∙ ap (λ (x : ArrayState). segment_for x.array (key_of u)) (same told); nexts = one.nexts; is = one.is },
      items_from a b l (next_state (height_limit l) x u) (next_state (height_limit l) y u) is.1 last us is.2 on (λ told. ap (λ (x : ArrayState). next_state (height_limit l) x u) (same told)) is.4,
      is.5,
    )

pub are_from : {a b : View} (items : List Update) (s : StoreView) (n : ℕ) → (Told a → Told b) → (Told a → state_in s b.held ≡ state_in s a.held) → AreForItems items s b n → AreForItems items s a n
are_from {a} {b} items s n on same are = record {
  begun = are.begun;
  some = are.some;
  last = are.last;
  are_for = items_from a b s.place.layout (state_in s b.held) (state_in s a.held) s.tally are.last (take are.begun items) n on same are.are_for;
}

-- Whole batches.

-- the pages of that many segments make no more runs
pub runs_few : (format : ℕ) (ns : List ℕ) → run_count (pages_of_all format ns) ≤ length ns
runs_few format [] = omega arith
runs_few format (n ∷ ns) = omega (arith, run_count_joined (format * n) format (pages_of_all format ns), runs_few format ns, call_few format)

-- the keys were looked for alone
pub look_alone : {a b : View} (items : List Update) (s : StoreView) → LooksOnce items s.tally.height a b → CallsBatch items s a b
look_alone items s looks = record {
  calls = length looks.looked + runs_calls s.place.layout 0;
  is_for = record { looked = looks.looked; are_own = looks.are_own; behind = runs_calls s.place.layout 0; is_for = inl (record { runs = 0; few = omega arith; is = refl }); is = refl; at_once = λ told are. record { runs = 0; few = omega arith; is = refl } };
  most = omega (arith, looks.most);
}

-- and then a commit was made
pub commit_behind : {a b c : View} (items : List Update) (s : StoreView) (runs : ℕ) (looks : LooksOnce items s.tally.height a b) → runs ≤ length looks.looked → (Told a → runs ≤ length (edited_segments (array_of a.held) items)) → c.calls ≤ b.calls + runs_calls s.place.layout runs → CallsBatch items s a c
commit_behind items s runs looks few used most = record {
  calls = length looks.looked + runs_calls s.place.layout runs;
  is_for = record { looked = looks.looked; are_own = looks.are_own; behind = runs_calls s.place.layout runs; is_for = inl (record { runs = runs; few = few; is = refl }); is = refl; at_once = λ told are. record { runs = runs; few = used told; is = refl } };
  most = omega (arith, looks.most, most);
}

-- or the items under the intent
pub intent_behind : {a b c : View} (items : List Update) (s : StoreView) → Steps Same a b → LooksOnce items s.tally.height a b → CallsIntent items s b c → (Told a → ¬ AreOneCommit s.place.layout (state_in s a.held) items) → CallsBatch items s a c
intent_behind {a} {b} items s steps looks intent unfit = record {
  calls = length looks.looked + intent.calls;
  is_for = record {
    looked = looks.looked;
    are_own = looks.are_own;
    behind = intent.calls;
    is_for = inr (record {
      of_items = intent.is_for.of_items;
      are_for = are_from items s intent.is_for.of_items (λ told. told_on steps.frame told) (λ told. ap (state_in s) (steps.held told)) intent.is_for.are_for;
      is = intent.is_for.is;
    });
    is = refl;
    at_once = λ told are. absurd (unfit told are);
  };
  most = omega (arith, looks.most, intent.most);
}

pub intent_alone : {a c : View} (items : List Update) (s : StoreView) → CallsIntent items s a c → (Told a → ¬ AreOneCommit s.place.layout (state_in s a.held) items) → CallsBatch items s a c
intent_alone {a} items s intent unfit = record {
  calls = intent.calls;
  is_for = record { looked = []; are_own = none_own items s.tally.height a; behind = intent.calls; is_for = inr intent.is_for; is = omega arith; at_once = λ told are. absurd (unfit told are) };
  most = intent.most;
}

-- the segments are those behind the look as well
own_behind : {a b : View} (items : List Update) (height : ℕ) (segments : List ℕ) → Steps Same a b → AreOwnSegments items height a segments → AreOwnSegments items height b segments
own_behind items height segments steps are = record {
  ascends = are.ascends;
  few = are.few;
  below = are.below;
  own = λ told k d lt.
      let before = told_back steps.frame told in
      let one = are.own before k d lt in
      (one.0, one.1, one.2 ∙ sym (ap (λ (x : List ℕ). segment_for (array_of x) (key_of (get_or items one.0 d))) (steps.held before)));
}

pub looks_behind : {a b : View} (items : List Update) (height : ℕ) → Steps Same a b → (looks : LooksOnce items height a b) → (behind : LooksOnce items height b b) × (length behind.looked ≡ length looks.looked)
looks_behind items height steps looks = (record { looked = looks.looked; are_own = own_behind items height looks.looked steps looks.are_own; most = omega arith }, refl)
