-- How updates and batches change the number of records that is kept.
use Rattle.std.proofs.Common.{◌≡◌, ℕ, zero, suc, ◌+◌, ◌-◌, ◌<◌, ◌≤◌, Bool, true, false, cond, List, [], ◌∷◌, All, length, take, get_or, Option, Some, None, refl, sym, ap, subst, ◌∙◌, arith, inl, inr}
use Rattle.std.specs.Prelude.{sum}
use mathlib.Core.Bool.{true≢false}
use Rattle.std.proofs.lemmas.Bool.{cases_eq, cases_lt}
use Rattle.std.proofs.lemmas.Bool.Decides.{nat_tests}
use Rattle.std.proofs.lemmas.List.{take_all}
use Rattle.std.proofs.lemmas.List.Sums.{sum_by-set}
use Rattle.density_rule.specs.CountUpdates.{counts_after}
use Rattle.batch_intent.specs.ItemView.{is_put}
use Rattle.density_rule.proofs.Changes.{length-counts_after}
use Rattle.map_model.specs.ItemWords.{ItemCounts, no_items}
use Rattle.map_model.specs.Store.{Update, bind, unbind}
use Rattle.one_commit.specs.declared.changes.ItemChange.{ItemChange}
use Rattle.one_commit.specs.Editing.{counts_by}
use Rattle.one_commit.specs.Fitting.{finds, fits_behind, follows, keep_places, stay_within, fit_one_commit}
use Rattle.one_commit.proofs.Alike.{both_true}
use Rattle.one_commit.proofs.Prefixes.{taken_there}
use Rattle.recovery.specs.Intents.{meets_by, puts_in, records_by}
use Rattle.window_tally.specs.declared.Change.{Change}
use Rattle.window_tally.specs.declared.Change.TheVariants.{Add, Take}
use Rattle.window_tally.specs.Choice.{adds}
use Rattle.pma_store.specs.Batching.{CountsBatch, done_by}
use Rattle.pma_store.specs.SegmentCounts.{SumsOne}
use Rattle.pma_store.specs.ItemEffects.{CountsFound, HaveRoom, SumsBy, SumsFound, SumsItem, counted_by, counted_first, found_at, kinds_in, records_first, there_in}
use Rattle.pma_store.specs.Updating.{need_of}
use Rattle.pma_store.specs.declared.update.Need.TheVariants as need

-- One record.

pub sum_counted : (change : Change) (cs : List ℕ) (at : ℕ) → at < length cs → (adds change ≡ false → 1 ≤ get_or cs at 0) → SumsOne change (sum cs) (sum (counts_after (adds change) cs at))
sum_counted Add cs at lt some = omega (arith, sum_by-set (λ (x : ℕ). x) cs at (get_or cs at 0 + 1) 0 lt)
sum_counted Take cs at lt some = omega (arith, some refl, sum_by-set (λ (x : ℕ). x) cs at (get_or cs at 0 - 1) 0 lt)

-- what an update asks for is what it makes of the number
pub nothing_sums : (u : Update) (there : Bool) (most n : ℕ) → need_of u there ≡ need.Nothing → SumsItem (Some there) u most n n
nothing_sums (bind key value) true most n asks = absurd cc
nothing_sums (bind key value) false most n asks = absurd cc
nothing_sums (unbind key) true most n asks = absurd cc
nothing_sums (unbind key) false most n asks = λ room. refl

pub replace_sums : (u : Update) (there : Bool) (most n : ℕ) → need_of u there ≡ need.Replace → SumsItem (Some there) u most n n
replace_sums (bind key value) true most n asks = λ room. refl
replace_sums (bind key value) false most n asks = absurd cc
replace_sums (unbind key) true most n asks = absurd cc
replace_sums (unbind key) false most n asks = absurd cc

pub change_sums : (u : Update) (there : Bool) (change : Change) (most before after : ℕ) → need_of u there ≡ need.Change change → ((change ≡ Add → before < most) → SumsOne change before after) → SumsItem (Some there) u most before after
change_sums (bind key value) true change most before after asks one = absurd cc
change_sums (bind key value) false change most before after asks one =
    λ room.
    let add : change ≡ Add = cc in
    subst (λ (c : Change). SumsOne c before after) add (one (λ _. below room))
  where
    below : meets_by (bind key value) false before most ≡ false → before < most
    below e = elim (cases_lt before most) [
      | inl lt ↦ lt
      | inr ge ↦ absurd (true≢false (sym (full ge) ∙ e))
    ]
      where
        full : most ≤ before → meets_by (bind key value) false before most ≡ true
        full ge = grind (arith, nat_tests)
change_sums (unbind key) true change most before after asks one =
    λ room.
    let take : change ≡ Take = cc in
    subst (λ (c : Change). SumsOne c before after) take (one (λ is. absurd cc))
change_sums (unbind key) false change most before after asks one = absurd cc

-- Changes of a batch, in their order.

-- how many of the changes add a record, and how many take one
abbrev pub adds_in : List Change → ℕ
adds_in [] = 0
adds_in (c ∷ cs) = cond (adds c) 1 0 + adds_in cs

abbrev pub takes_in : List Change → ℕ
takes_in [] = 0
takes_in (c ∷ cs) = cond (adds c) 0 1 + takes_in cs

pub sum_changes : (height : ℕ) (changes : List ItemChange) (cs : List ℕ) → All (λ c. c.segment < length cs) changes → stay_within height cs changes ≡ true → sum (counts_by changes cs) + takes_in (kinds_in changes) ≡ sum cs + adds_in (kinds_in changes)
sum_changes height [] cs inside within = omega arith
sum_changes height (c ∷ changes) cs inside within =
    let parts = both_true (follows height cs c) (stay_within height (counts_after (adds c.change) cs c.segment) changes) within in
    let here = both_true (finds cs c) (fits_behind height cs c) parts.0 in
    let lt : c.segment < length cs = inside 0 c (omega arith) in
    let size = length-counts_after (adds c.change) cs c.segment in
    let rest = sum_changes height changes (counts_after (adds c.change) cs c.segment) (λ k d low. omega (arith, inside (suc k) d (omega (arith, low)), size)) parts.1 in
    by _ _ c.change (sum_counted c.change cs c.segment lt (taken_there cs c here.0)) rest
  where
    by : (n m : ℕ) (change : Change) → SumsOne change (sum cs) m → n + takes_in (kinds_in changes) ≡ m + adds_in (kinds_in changes) → n + (cond (adds change) 0 1 + takes_in (kinds_in changes)) ≡ sum cs + (cond (adds change) 1 0 + adds_in (kinds_in changes))
    by n m Add one rest = omega (arith, one, rest)
    by n m Take one rest = omega (arith, one, rest)

-- Items, one more at a time.

abbrev none : Update
none = unbind []

-- the first k items were counted, with that many records behind them
pub record IsFirst (items : List Update) (there : ℕ → Bool) (start most k records : ℕ) (counts : ItemCounts) : Type 0 where
  pub records_are : records ≡ records_first items there start k
  pub counts_are : counts ≡ counted_first items there k
  pub room : HaveRoom items there start most k

pub none_first : (items : List Update) (there : ℕ → Bool) (start most : ℕ) → IsFirst items there start most 0 start no_items
none_first items there start most = record { records_are = refl; counts_are = refl; room = λ k lt. absurd (omega (arith, lt)) }

pub next_first : (items : List Update) (there : ℕ → Bool) (start most k records : ℕ) (counts : ItemCounts) → IsFirst items there start most k records counts → (u : Update) → u ≡ get_or items k none → (present : Bool) → present ≡ there k
    → meets_by u present records most ≡ false → (more : ℕ) (next : ItemCounts) → more ≡ records_by u present records → next ≡ counted_by u present counts → IsFirst items there start most (k + 1) more next
next_first items there start most k records counts is u item present found room more next more_is next_is =
    let e : suc k ≡ k + 1 = omega arith in
    subst (λ (n : ℕ). IsFirst items there start most n more next) e (record {
      records_are = more_is ∙ (λ τ. records_by (item τ) (found τ) (is.records_are τ));
      counts_are = next_is ∙ (λ τ. counted_by (item τ) (found τ) (is.counts_are τ));
      room = λ j low. elim (cases_eq j k) [
        | inl same ↦ ap (λ (i : ℕ). meets_by (get_or items i none) (there i) (records_first items there start i) most) same ∙ (λ τ. meets_by (sym item τ) (sym found τ) (sym is.records_are τ) most) ∙ room
        | inr other ↦ is.room j (omega (arith, low, other))
      ];
    })

-- they go by which keys are there
pub same_counts : (items : List Update) (p q : ℕ → Bool) (k : ℕ) → ((j : ℕ) → j < k → p j ≡ q j) → counted_first items p k ≡ counted_first items q k
same_counts items p q zero same = refl
same_counts items p q (suc k) same =
    let own : p k ≡ q k = same k (omega arith) in
    let rest = same_counts items p q k (λ j lt. same j (omega (arith, lt))) in
    λ τ. counted_by (get_or items k none) (own τ) (rest τ)

pub same_records : (items : List Update) (p q : ℕ → Bool) (start k : ℕ) → ((j : ℕ) → j < k → p j ≡ q j) → records_first items p start k ≡ records_first items q start k
same_records items p q start zero same = refl
same_records items p q start (suc k) same =
    let own : p k ≡ q k = same k (omega arith) in
    let rest = same_records items p q start k (λ j lt. same j (omega (arith, lt))) in
    λ τ. records_by (get_or items k none) (own τ) (rest τ)

pub same_room : (items : List Update) (p q : ℕ → Bool) (start most n : ℕ) → ((j : ℕ) → j < n → p j ≡ q j) → HaveRoom items p start most n → HaveRoom items q start most n
same_room items p q start most n same room k lt =
    let own : q k ≡ p k = sym (same k lt) in
    let records : records_first items q start k ≡ records_first items p start k = sym (same_records items p q start k (λ j low. same j (omega (arith, low, lt)))) in
    (λ τ. meets_by (get_or items k none) (own τ) (records τ) most) ∙ room k lt

-- each is counted once
pub total_first : (items : List Update) (there : ℕ → Bool) (k : ℕ) → (counted_first items there k).stored + (counted_first items there k).replaced + (counted_first items there k).removed + (counted_first items there k).absent ≡ k
total_first items there zero = refl
total_first items there (suc k) = by (get_or items k none) (there k) (counted_first items there k) (total_first items there k)
  where
    by : (u : Update) (b : Bool) (c : ItemCounts) → c.stored + c.replaced + c.removed + c.absent ≡ k → (counted_by u b c).stored + (counted_by u b c).replaced + (counted_by u b c).removed + (counted_by u b c).absent ≡ suc k
    by (bind key value) true c is = omega (arith, is)
    by (bind key value) false c is = omega (arith, is)
    by (unbind key) true c is = omega (arith, is)
    by (unbind key) false c is = omega (arith, is)

-- the puts as stored or replaced
pub puts_next : (items : List Update) (k : ℕ) → k < length items → puts_in (take (suc k) items) ≡ puts_in (take k items) + cond (is_put (get_or items k none)) 1 0
puts_next [] k lt = absurd (omega (arith, lt))
puts_next (u ∷ us) zero lt = by (is_put u)
  where
    by : (b : Bool) → cond b 1 0 ≡ 0 + cond b 1 0
    by true = refl
    by false = refl
puts_next (u ∷ us) (suc k) lt = by (is_put u) (puts_next us k (omega (arith, lt)))
  where
    by : (b : Bool) → puts_in (take (suc k) us) ≡ puts_in (take k us) + cond (is_put (get_or us k none)) 1 0
        → cond b (suc (puts_in (take (suc k) us))) (puts_in (take (suc k) us)) ≡ cond b (suc (puts_in (take k us))) (puts_in (take k us)) + cond (is_put (get_or us k none)) 1 0
    by true rest = omega (arith, rest)
    by false rest = rest

puts_first : (items : List Update) (there : ℕ → Bool) (k : ℕ) → k ≤ length items → (counted_first items there k).stored + (counted_first items there k).replaced ≡ puts_in (take k items)
puts_first items there zero le = refl
puts_first items there (suc k) le =
    by (get_or items k none) (there k) (counted_first items there k) (puts_first items there k (omega (arith, le))) ∙ sym (puts_next items k (omega (arith, le)))
  where
    by : (u : Update) (b : Bool) (c : ItemCounts) → c.stored + c.replaced ≡ puts_in (take k items) → (counted_by u b c).stored + (counted_by u b c).replaced ≡ puts_in (take k items) + cond (is_put u) 1 0
    by (bind key value) true c is = omega (arith, is)
    by (bind key value) false c is = omega (arith, is)
    by (unbind key) true c is = omega (arith, is)
    by (unbind key) false c is = omega (arith, is)

pub all_puts : (items : List Update) (there : ℕ → Bool) → (counted_first items there (length items)).stored + (counted_first items there (length items)).replaced ≡ puts_in items
all_puts items there = puts_first items there (length items) (omega arith) ∙ ap puts_in (take_all (length items) items (omega arith))

-- What the first k items made of the number of records, where they were looked for.

abbrev pub SumsFirst : Option (List Bool) → List Update → ℕ → ℕ → ℕ → ℕ → Type 0
SumsFirst None items k most before after = Unit {0}
SumsFirst (Some found) items k most before after = HaveRoom items (there_in found) before most (length items) →
    (after ≡ records_first items (there_in found) before k) × (after + (counted_first items (there_in found) k).removed ≡ before + (counted_first items (there_in found) k).stored)

pub none_sums : (found : Option (List Bool)) (items : List Update) (most n : ℕ) → SumsFirst found items 0 most n n
none_sums None items most n = tt
none_sums (Some found) items most n = λ room. (refl, refl)

one_sums : (u : Update) (b : Bool) (c : ItemCounts) (before mid after : ℕ) → mid + c.removed ≡ before + c.stored → SumsBy u b mid after → (after ≡ records_by u b mid) × (after + (counted_by u b c).removed ≡ before + (counted_by u b c).stored)
one_sums (bind key value) true c before mid after is one = (one, omega (arith, is, one))
one_sums (bind key value) false c before mid after is one = (one, omega (arith, is, one))
one_sums (unbind key) true c before mid after is one = (omega (arith, one), omega (arith, is, one))
one_sums (unbind key) false c before mid after is one = (one, omega (arith, is, one))

pub next_sums : (found : Option (List Bool)) (items : List Update) (k most before mid after : ℕ) → k < length items → SumsFirst found items k most before mid → SumsItem (found_at found k) (get_or items k none) most mid after → SumsFirst found items (k + 1) most before after
next_sums None items k most before mid after lt is one = tt
next_sums (Some found) items k most before mid after lt is one = λ room.
    let own = is room in
    let fits : meets_by (get_or items k none) (there_in found k) mid most ≡ false = ap (λ (n : ℕ). meets_by (get_or items k none) (there_in found k) n most) own.0 ∙ room k lt in
    let next = one_sums (get_or items k none) (there_in found k) (counted_first items (there_in found) k) before mid after own.1 (one fits) in
    let e : suc k ≡ k + 1 = omega arith in
    subst (λ (n : ℕ). (after ≡ records_first items (there_in found) before n) × (after + (counted_first items (there_in found) n).removed ≡ before + (counted_first items (there_in found) n).stored)) e
    (next.0 ∙ ap (λ (n : ℕ). records_by (get_or items k none) (there_in found k) n) own.0, next.1)

pub all_sums : (found : Option (List Bool)) (items : List Update) (k most before after : ℕ) → k ≡ length items → SumsFirst found items k most before after → SumsFound found items most before after
all_sums None items k most before after end is = tt
all_sums (Some found) items k most before after end is = λ room.
    subst (λ (n : ℕ). after + (counted_first items (there_in found) n).removed ≡ before + (counted_first items (there_in found) n).stored) end (is room).1

-- Whole batches.

pub found_as : (items : List Update) (p q : ℕ → Bool) (start most from top : ℕ) (counts : ItemCounts) → ((j : ℕ) → j < length items → p j ≡ q j) → start ≡ from → most ≡ top → CountsFound items p start most counts → CountsFound items q from top counts
found_as items p q start most from top counts same starts tops is =
    subst (λ (n : ℕ). CountsFound items q n top counts) starts (subst (λ (n : ℕ). CountsFound items q start n counts) tops (record {
      counts_are = is.counts_are ∙ same_counts items p q (length items) same;
      room = same_room items p q start most (length items) same is.room;
    }))

pub counts_batch : (items : List Update) (found : List Bool) (most before after charge : ℕ) (counts : ItemCounts) → CountsFound items (there_in found) before most counts → SumsFound (Some found) items most before after → CountsBatch items (done_by counts charge) before after
counts_batch items found most before after charge counts is sums =
    subst (λ (c : ItemCounts). CountsBatch items (done_by c charge) before after) (sym is.counts_are) (all_puts items (there_in found), total_first items (there_in found) (length items), sums is.room)

-- one commit
pub counts_once : (items : List Update) (there : ℕ → Bool) (height charge : ℕ) (changes : List ItemChange) (cs now : List ℕ) (counts : ItemCounts) → All (λ c. c.segment < length cs) changes → fit_one_commit height cs changes ≡ true → counts.stored ≡ adds_in (kinds_in changes) → counts.removed ≡ takes_in (kinds_in changes)
    → counts ≡ counted_first items there (length items) → now ≡ counts_by changes cs → CountsBatch items (done_by counts charge) (sum cs) (sum now)
counts_once items there height charge changes cs now counts inside fit adds_are takes_are counts_are is =
    let within = (both_true (stay_within height cs changes) (keep_places changes) fit).0 in
    let kept : sum now + counts.removed ≡ sum cs + counts.stored = omega (arith, ap (λ (l : List ℕ). sum l) is, sum_changes height changes cs inside within, adds_are, takes_are) in (
      ap (λ (c : ItemCounts). c.stored + c.replaced) counts_are ∙ all_puts items there,
      ap (λ (c : ItemCounts). c.stored + c.replaced + c.removed + c.absent) counts_are ∙ total_first items there (length items),
      kept,
    )
