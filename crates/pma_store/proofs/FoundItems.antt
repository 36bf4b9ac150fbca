-- What was found of the items of a batch, one more at a time: their counts, the kinds of their changes, and the tallies behind them.
use Rattle.std.proofs.Common.{◌≡◌, ℕ, zero, suc, ◌+◌, ◌^◌, ◌<◌, Bool, true, false, List, [], ◌∷◌, ◌++◌, All, length, take, get_or, Option, Some, None, is_none, refl, sym, ap, subst, ◌∙◌, arith, inl, inr}
use Rattle.std.specs.Prelude.{sum}
use Rattle.std.specs.FinMap.{contains_key}
use Rattle.std.proofs.lemmas.List.{take_all}
use Rattle.map_model.specs.Image.{map_of}
use Rattle.map_model.specs.ItemWords.{ItemCounts, no_items}
use Rattle.map_model.specs.Store.{Map, Update, bind, unbind, key_of}
use Rattle.one_commit.specs.declared.changes.ItemChange.{ItemChange}
use Rattle.one_commit.specs.Editing.{counts_by, marks_by_changes}
use Rattle.one_commit.specs.Fitting.{finds, fits_behind, fit_one_commit, follows, is_put, keep_places, kind_in, kind_of, stay_within, with_change}
use Rattle.one_commit.proofs.Alike.{both_true}
use Rattle.density_rule.specs.CountUpdates.{counts_after, highest_broken}
use Rattle.recovery.specs.Intents.{meets_by}
use Rattle.window_tally.specs.declared.Change.{Change}
use Rattle.window_tally.specs.declared.Change.TheVariants.{Add, Take}
use Rattle.window_tally.specs.Choice.{adds}
use Rattle.window_tally.specs.TallyView.{TallyView}
use Rattle.station.specs.Bytes.{Same}
use Rattle.station.specs.View.{View, Told}
use Rattle.station.specs.Steps.{Steps}
use Rattle.station.proofs.Composition.{told_on}
use Rattle.pma_store.specs.declared.answers.Batch.{Batch}
use Rattle.pma_store.specs.declared.answers.Batch.TheVariants.{Done, Full, NoBatch}
use Rattle.pma_store.specs.Batching.{CountsEach, CountsEachOf}
use Rattle.pma_store.specs.SegmentCounts.{counted}
use Rattle.pma_store.specs.Damaging.{AreFoundTallies, CountsOne, IsFoundTally, IsNextTally}
use Rattle.pma_store.specs.ItemsMade.{CountsAsFound}
use Rattle.pma_store.specs.Readying.{broken_in}
use Rattle.pma_store.specs.StoreView.{StoreView}
use Rattle.pma_store.specs.ItemEffects.{AreFound, CountsFound, HaveRoom, SumsItem, TalliesFound, counted_all, counted_by, counted_first, flags, found_at, kinds_in, kinds_of, there_in, with_kind}
use Rattle.pma_store.proofs.Picks.{ready_fits}
use Rattle.pma_store.proofs.Sums.{SumsFirst, adds_in, takes_in}

abbrev none : Update
none = unbind []

-- One Bool for each item.

flag_at : (there : ℕ → Bool) (n i : ℕ) → i < n → get_or (flags there n) i false ≡ there i
flag_at there zero i lt = absurd (omega (arith, lt))
flag_at there (suc n) zero lt = refl
flag_at there (suc n) (suc i) lt = flag_at (λ k. there (suc k)) n i (omega (arith, lt))

pub length-flags : (there : ℕ → Bool) (n : ℕ) → length (flags there n) ≡ n
length-flags there zero = refl
length-flags there (suc n) = ap suc (length-flags (λ k. there (suc k)) n)

-- each of the keys is there by what was found
abbrev pub AreThere : (ℕ → Bool) → List Update → Map → Type 0
AreThere there items m = (i : ℕ) → i < length items → (d : Update) → there i ≡ contains_key m (key_of (get_or items i d))

found_keys : (there : ℕ → Bool) (items : List Update) (m : Map) → AreThere there items m → AreFound (flags there (length items)) items m (length items)
found_keys there items m are i lt d = flag_at there (length items) i lt ∙ are i lt d

-- The counts.

counted_suc : (items : List Update) (there : ℕ → Bool) (k : ℕ) (c : ItemCounts) → k < length items → counted_all (take (suc k) items) (flags there (suc k)) c ≡ counted_by (get_or items k none) (there k) (counted_all (take k items) (flags there k) c)
counted_suc [] there k c lt = absurd (omega (arith, lt))
counted_suc (u ∷ us) there zero c lt = refl
counted_suc (u ∷ us) there (suc k) c lt = counted_suc us (λ j. there (suc j)) k (counted_by u (there 0) c) (omega (arith, lt))

counted_upto : (items : List Update) (there : ℕ → Bool) (k : ℕ) → k < length items + 1 → counted_first items there k ≡ counted_all (take k items) (flags there k) no_items
counted_upto items there zero lt = refl
counted_upto items there (suc k) lt = ap (counted_by (get_or items k none) (there k)) (counted_upto items there k (omega (arith, lt))) ∙ sym (counted_suc items there k no_items (omega (arith, lt)))

pub counted_is : (items : List Update) (there : ℕ → Bool) → counted_first items there (length items) ≡ counted_all items (flags there (length items)) no_items
counted_is items there =
    counted_upto items there (length items) (omega arith) ∙ ap (λ (us : List Update). counted_all us (flags there (length items)) no_items) (take_all (length items) items (omega arith))

-- as many are stored as changes add a record, and as many removed as take one
counted_kinds : (us : List Update) (bs : List Bool) (c : ItemCounts) → ((counted_all us bs c).stored ≡ c.stored + adds_in (kinds_of us bs)) × ((counted_all us bs c).removed ≡ c.removed + takes_in (kinds_of us bs))
counted_kinds [] bs c = (omega arith, omega arith)
counted_kinds (u ∷ us) [] c = (omega arith, omega arith)
counted_kinds (bind key value ∷ us) (true ∷ bs) c = counted_kinds us bs (counted_by (bind key value) true c)
counted_kinds (bind key value ∷ us) (false ∷ bs) c = let rest = counted_kinds us bs (counted_by (bind key value) false c) in (omega (arith, rest.0), omega (arith, rest.1))
counted_kinds (unbind key ∷ us) (true ∷ bs) c = let rest = counted_kinds us bs (counted_by (unbind key) true c) in (omega (arith, rest.0), omega (arith, rest.1))
counted_kinds (unbind key ∷ us) (false ∷ bs) c = counted_kinds us bs (counted_by (unbind key) false c)

pub kinds_counted : (items : List Update) (there : ℕ → Bool) (cs : List ItemChange) (c : ItemCounts) → c ≡ counted_first items there (length items) → kinds_in cs ≡ kinds_of items (flags there (length items)) → (c.stored ≡ adds_in (kinds_in cs)) × (c.removed ≡ takes_in (kinds_in cs))
kinds_counted items there cs c is kinds =
    let own = counted_kinds items (flags there (length items)) no_items in
    let same = is ∙ counted_is items there in (
      omega (arith, ap (λ (x : ItemCounts). x.stored) same, own.0, ap adds_in kinds),
      omega (arith, ap (λ (x : ItemCounts). x.removed) same, own.1, ap takes_in kinds),
    )

-- The kinds of changes.

kind_more : (o : Option Change) (xs ys : List Change) → with_kind o (xs ++ ys) ≡ with_kind o xs ++ ys
kind_more None xs ys = refl
kind_more (Some change) xs ys = refl

kinds_suc : (items : List Update) (there : ℕ → Bool) (k : ℕ) → k < length items → kinds_of (take (suc k) items) (flags there (suc k)) ≡ kinds_of (take k items) (flags there k) ++ with_kind (kind_of (is_put (get_or items k none)) (there k)) []
kinds_suc [] there k lt = absurd (omega (arith, lt))
kinds_suc (u ∷ us) there zero lt = refl
kinds_suc (u ∷ us) there (suc k) lt =
    ap (with_kind (kind_of (is_put u) (there 0))) (kinds_suc us (λ j. there (suc j)) k (omega (arith, lt)))
    ∙ kind_more (kind_of (is_put u) (there 0)) (kinds_of (take k us) (flags (λ j. there (suc j)) k)) (with_kind (kind_of (is_put (get_or us k none)) (there (suc k))) [])

kinds_more : (cs : List ItemChange) (o : Option ItemChange) → kinds_in (cs ++ with_change o []) ≡ kinds_in cs ++ with_kind (kind_in o) []
kinds_more [] None = refl
kinds_more [] (Some c) = refl
kinds_more (c ∷ cs) o = ap (λ (ks : List Change). c.change ∷ ks) (kinds_more cs o)

-- one item more
pub kinds_next : (items : List Update) (there : ℕ → Bool) (k : ℕ) (cs : List ItemChange) (o : Option ItemChange) → k < length items → kinds_in cs ≡ kinds_of (take k items) (flags there k) → kind_in o ≡ kind_of (is_put (get_or items k none)) (there k)
    → kinds_in (cs ++ with_change o []) ≡ kinds_of (take (k + 1) items) (flags there (k + 1))
kinds_next items there k cs o lt are kind =
    let e : suc k ≡ k + 1 = omega arith in
    kinds_more cs o ∙ (λ τ. are τ ++ with_kind (kind τ) []) ∙ sym (kinds_suc items there k lt) ∙ ap (λ (n : ℕ). kinds_of (take n items) (flags there n)) e

pub kinds_all : (items : List Update) (there : ℕ → Bool) (k : ℕ) (cs : List ItemChange) → k ≡ length items → kinds_in cs ≡ kinds_of (take k items) (flags there k) → kinds_in cs ≡ kinds_of items (flags there (length items))
kinds_all items there k cs end are = are ∙ (λ τ. kinds_of (take (end τ) items) (flags there (end τ))) ∙ ap (λ (us : List Update). kinds_of us (flags there (length items))) (take_all (length items) items (omega arith))

-- The tallies of items that go by an intent.

-- what an item makes of the tally, as its key was found, if it was looked for, and the store isn't full
abbrev pub TallyItem : Option Bool → Update → ℕ → TallyView → TallyView → Type 0
TallyItem None u most t v = Unit {0}
TallyItem (Some b) u most t v = meets_by u b (sum t.counts) most ≡ false → IsFoundTally u b t v

pub tally_item : (found : Option Bool) (u : Update) (most : ℕ) (t v : TallyView) → CountsAsFound found u t v → SumsItem found u most (sum t.counts) (sum v.counts) → IsNextTally u t v → TallyItem found u most t v
tally_item None u most t v as_found sums next = tt
tally_item (Some true) (bind key value) most t v as_found sums next = λ room. as_found (λ change asks. absurd cc)
tally_item (Some false) (bind key value) most t v as_found sums next = λ room. elim next [
  | inl same ↦ absurd (omega (arith, sums room, ap (λ (x : TallyView). sum x.counts) same))
  | inr one ↦ one
]
tally_item (Some true) (unbind key) most t v as_found sums next = λ room. elim next [
  | inl same ↦ absurd (omega (arith, sums room, ap (λ (x : TallyView). sum x.counts) same))
  | inr one ↦ one
]
tally_item (Some false) (unbind key) most t v as_found sums next = λ room. as_found (λ change asks. absurd cc)

tallies_suc : (items : List Update) (there : ℕ → Bool) (k : ℕ) (t v w : TallyView) → k < length items → AreFoundTallies (take k items) (flags there k) t v → IsFoundTally (get_or items k none) (there k) v w → AreFoundTallies (take (suc k) items) (flags there (suc k)) t w
tallies_suc [] there k t v w lt are next = absurd (omega (arith, lt))
tallies_suc (u ∷ us) there zero t v w lt are next = (w, subst (λ (x : TallyView). IsFoundTally u (there 0) x w) are next, refl)
tallies_suc (u ∷ us) there (suc k) t v w lt are next = (are.0, are.1, tallies_suc us (λ j. there (suc j)) k are.0 v w (omega (arith, lt)) are.2 next)

-- the first k items have made this of it
abbrev pub TalliesFirst : Option (List Bool) → List Update → ℕ → ℕ → TallyView → TallyView → Type 0
TalliesFirst None items k most t v = Unit {0}
TalliesFirst (Some found) items k most t v = HaveRoom items (there_in found) (sum t.counts) most (length items) → AreFoundTallies (take k items) (flags (there_in found) k) t v

pub none_tallies : (found : Option (List Bool)) (items : List Update) (most : ℕ) (t : TallyView) → TalliesFirst found items 0 most t t
none_tallies None items most t = tt
none_tallies (Some found) items most t = λ room. refl

pub next_tallies : (found : Option (List Bool)) (items : List Update) (k most : ℕ) (t v w : TallyView) → k < length items → SumsFirst found items k most (sum t.counts) (sum v.counts) → TalliesFirst found items k most t v → TallyItem (found_at found k) (get_or items k none) most v w
    → TalliesFirst found items (k + 1) most t w
next_tallies None items k most t v w lt sums are one = tt
next_tallies (Some found) items k most t v w lt sums are one = λ room.
    let e : suc k ≡ k + 1 = omega arith in
    let fits : meets_by (get_or items k none) (there_in found k) (sum v.counts) most ≡ false = ap (λ (n : ℕ). meets_by (get_or items k none) (there_in found k) n most) (sums room).0 ∙ room k lt in
    subst (λ (n : ℕ). AreFoundTallies (take n items) (flags (there_in found) n) t w) e (tallies_suc items (there_in found) k t v w lt (are room) (one fits))

pub all_tallies : (found : Option (List Bool)) (items : List Update) (k most : ℕ) (t v : TallyView) → k ≡ length items → TalliesFirst found items k most t v → TalliesFound found items most t v
all_tallies None items k most t v end are = tt
all_tallies (Some found) items k most t v end are = λ room.
    subst (λ (us : List Update). AreFoundTallies us (flags (there_in found) (length items)) t v) (take_all (length items) items (omega arith))
    (subst (λ (n : ℕ). AreFoundTallies (take n items) (flags (there_in found) n) t v) end (are room))

-- The tallies of one commit: nothing is asked for, so each change is counted in its own segment.

none_is : (o : Option ℕ) → is_none o ≡ true → o ≡ None
none_is None e = refl
none_is (Some n) e = absurd cc

module _ (c : ItemChange) (t : TallyView) (within : c.segment < 2 ^ t.height) (fits : fits_behind t.height t.counts c ≡ true) where
  unbroken : broken_in c.change c.segment t ≡ None
  unfolding broken_in
  unbroken = none_is (highest_broken t.height (counts_after (adds c.change) t.counts c.segment) c.segment) fits

  counts_change : CountsOne c.change t (counted (Some c.change) c.segment t)
  counts_change = record {
    at = c.segment;
    at_in = within;
    there = c.segment;
    there_in = within;
    counts = ap (counted (Some c.change) c.segment) (sym (ready_fits c.change c.segment t unbroken));
  }

abbrev pub behind : List ItemChange → TallyView → TallyView
behind cs t = record t { counts = counts_by cs t.counts; marks = marks_by_changes t.height cs t.marks }

pub once_tallies : (us : List Update) (bs : List Bool) (cs : List ItemChange) (t : TallyView) → length bs ≡ length us → kinds_in cs ≡ kinds_of us bs → All (λ c. c.segment < 2 ^ t.height) cs → stay_within t.height t.counts cs ≡ true → AreFoundTallies us bs t (behind cs t)
once_tallies [] [] [] t size kinds inside within = refl
once_tallies [] [] (c ∷ cs) t size kinds inside within = absurd cc
once_tallies [] (b ∷ bs) cs t size kinds inside within = absurd (omega (arith, size))
once_tallies (u ∷ us) [] cs t size kinds inside within = absurd (omega (arith, size))
once_tallies (bind key value ∷ us) (true ∷ bs) cs t size kinds inside within = (t, refl, once_tallies us bs cs t (omega (arith, size)) kinds inside within)
once_tallies (unbind key ∷ us) (false ∷ bs) cs t size kinds inside within = (t, refl, once_tallies us bs cs t (omega (arith, size)) kinds inside within)
once_tallies (bind key value ∷ us) (false ∷ bs) [] t size kinds inside within = absurd cc
once_tallies (unbind key ∷ us) (true ∷ bs) [] t size kinds inside within = absurd cc
once_tallies (bind key value ∷ us) (false ∷ bs) (c ∷ cs) t size kinds inside within =
    let kind : c.change ≡ Add = cc in
    let rest : kinds_in cs ≡ kinds_of us bs = cc in
    let parts = both_true (follows t.height t.counts c) (stay_within t.height (counts_after (adds c.change) t.counts c.segment) cs) within in
    let one = counts_change c t (inside 0 c (omega arith)) (both_true (finds t.counts c) (fits_behind t.height t.counts c) parts.0).1 in (
      counted (Some c.change) c.segment t,
      subst (λ (change : Change). CountsOne change t (counted (Some c.change) c.segment t)) kind one,
      once_tallies us bs cs (counted (Some c.change) c.segment t) (omega (arith, size)) rest (λ k d lt. inside (suc k) d (omega (arith, lt))) parts.1,
    )
once_tallies (unbind key ∷ us) (true ∷ bs) (c ∷ cs) t size kinds inside within =
    let kind : c.change ≡ Take = cc in
    let rest : kinds_in cs ≡ kinds_of us bs = cc in
    let parts = both_true (follows t.height t.counts c) (stay_within t.height (counts_after (adds c.change) t.counts c.segment) cs) within in
    let one = counts_change c t (inside 0 c (omega arith)) (both_true (finds t.counts c) (fits_behind t.height t.counts c) parts.0).1 in (
      counted (Some c.change) c.segment t,
      subst (λ (change : Change). CountsOne change t (counted (Some c.change) c.segment t)) kind one,
      once_tallies us bs cs (counted (Some c.change) c.segment t) (omega (arith, size)) rest (λ k d lt. inside (suc k) d (omega (arith, lt))) parts.1,
    )

-- Whole batches.

pub each_once : {a : View} (items : List Update) (there : ℕ → Bool) (counts : ItemCounts) (changes : List ItemChange) (s t : StoreView) → counts ≡ counted_first items there (length items) → kinds_in changes ≡ kinds_of items (flags there (length items))
    → All (λ c. c.segment < 2 ^ s.tally.height) changes → fit_one_commit s.tally.height s.tally.counts changes ≡ true → t.tally ≡ behind changes s.tally → (Told a → AreThere there items (map_of a.held)) → CountsEach items counts s t a
each_once {a} items there counts changes s t counts_are kinds inside fit after keys =
    let within = (both_true (stay_within s.tally.height s.tally.counts changes) (keep_places changes) fit).0 in
    record {
      found = flags there (length items);
      counts_are = counts_are ∙ counted_is items there;
      tallies = subst (AreFoundTallies items (flags there (length items)) s.tally) (sym after) (once_tallies items (flags there (length items)) changes s.tally (length-flags there (length items)) kinds inside within);
      keys = λ told. found_keys there items (map_of a.held) (keys told);
    }

pub each_run : {a : View} (items : List Update) (found : List Bool) (most : ℕ) (counts : ItemCounts) (s t : StoreView) → CountsFound items (there_in found) (sum s.tally.counts) most counts → TalliesFound (Some found) items most s.tally t.tally
    → (Told a → AreFound found items (map_of a.held) (length items)) → CountsEach items counts s t a
each_run {a} items found most counts s t is tallies keys = record {
  found = flags (there_in found) (length items);
  counts_are = is.counts_are ∙ counted_is items (there_in found);
  tallies = tallies is.room;
  keys = λ told. found_keys (there_in found) items (map_of a.held) (keys told);
}

-- from before a call that changes nothing
pub each_before : {a b : View} (items : List Update) (done : Batch) (s t : StoreView) → Steps Same a b → CountsEachOf items done s t b → CountsEachOf items done s t a
each_before items (Done stored replaced removed absent charge) s t first each = record {
  found = each.found;
  counts_are = each.counts_are;
  tallies = each.tallies;
  keys = λ told. subst (λ (x : List ℕ). AreFound each.found items (map_of x) (length items)) (first.held told) (each.keys (told_on first.frame told));
}
each_before items (Full most) s t first each = tt
each_before items NoBatch s t first each = tt
