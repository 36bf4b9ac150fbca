-- The counts behind changes in a row, and the tests of the next one.
use Rattle.std.proofs.Common.{◌≡◌, ℕ, zero, suc, ◌+◌, ◌/◌, ◌^◌, ◌<◌, ◌≤◌, Bool, true, false, not, ◌&&◌, ◌||◌, nat_lt, nat_le, List, [], ◌∷◌, length, take, drop, get_or, refl, sym, ap, subst, ◌∙◌, arith, Option, Some, None, is_none}
use mathlib.Core.Bool.{true≢false}
use Rattle.std.proofs.lemmas.Bool.{ltb-true, leb-true}
use Rattle.density_rule.specs.declared.TheConstants.{SEGMENT_RECORDS}
use Rattle.density_rule.specs.Bounds.{is_in_bounds, least_of, upper_of}
use Rattle.density_rule.specs.Windows.{count_in}
use Rattle.density_rule.specs.CountUpdates.{count_after, counts_after, greatest_below, is_broken}
use Rattle.density_rule.proofs.Greatest.{IsGreatest, greatest_is}
use Rattle.density_rule.specs.Marks.{Marks, updated_marks}
use Rattle.density_rule.proofs.Totals.{count_in-segment}
use Rattle.density_rule.proofs.Changes.{length-counts_after, count_in-updated, count_in-not_updated, count-le-count_in}
use Rattle.window_tally.specs.declared.Change.{Change}
use Rattle.window_tally.specs.declared.Change.TheVariants.{Add, Take}
use Rattle.window_tally.specs.Choice.{adds}
use Rattle.one_commit.specs.declared.changes.ItemChange.{ItemChange}
use Rattle.one_commit.specs.Fitting.{finds, fits_behind, follows, stay_within}
use Rattle.one_commit.specs.Editing.{counts_by, marks_by_changes}
use Rattle.one_commit.proofs.Alike.{both_true}

-- counts behind changes

pub length-counts_by : (cs : List ItemChange) (counts : List ℕ) → length (counts_by cs counts) ≡ length counts
length-counts_by [] counts = refl
length-counts_by (c ∷ cs) counts = length-counts_by cs (counts_after (adds c.change) counts c.segment) ∙ length-counts_after (adds c.change) counts c.segment

counts_suc : (cs : List ItemChange) (i : ℕ) (d : ItemChange) (counts : List ℕ) → i < length cs → counts_by (take (suc i) cs) counts ≡ counts_after (adds (get_or cs i d).change) (counts_by (take i cs) counts) (get_or cs i d).segment
counts_suc [] i d counts lt = absurd (omega arith)
counts_suc (c ∷ cs) zero d counts lt = refl
counts_suc (c ∷ cs) (suc i) d counts lt = counts_suc cs i d (counts_after (adds c.change) counts c.segment) (omega arith)

pub counts_more : (cs : List ItemChange) (i : ℕ) (d : ItemChange) (counts : List ℕ) → i < length cs → counts_by (take (i + 1) cs) counts ≡ counts_after (adds (get_or cs i d).change) (counts_by (take i cs) counts) (get_or cs i d).segment
counts_more cs i d counts lt = ap (λ (n : ℕ). counts_by (take n cs) counts) {x = i + 1} {y = suc i} (omega arith) ∙ counts_suc cs i d counts lt

-- the tests of changes, split at one of them

within_split : (height : ℕ) (cs : List ItemChange) (i : ℕ) (d : ItemChange) (counts : List ℕ) → i < length cs
    → stay_within height counts cs ≡ (stay_within height counts (take i cs) && (follows height (counts_by (take i cs) counts) (get_or cs i d) && stay_within height (counts_by (take (suc i) cs) counts) (drop (suc i) cs)))
within_split height [] i d counts lt = absurd (omega arith)
within_split height (c ∷ cs) zero d counts lt = refl
within_split height (c ∷ cs) (suc i) d counts lt =
    ap (λ (b : Bool). follows height counts c && b) (within_split height cs i d (counts_after (adds c.change) counts c.segment) (omega arith))
    ∙ and_and (follows height counts c) (stay_within height (counts_after (adds c.change) counts c.segment) (take i cs)) _
  where
    and_and : (a b c : Bool) → (a && (b && c)) ≡ ((a && b) && c)
    and_and true b c = refl
    and_and false b c = refl

within_suc : (height : ℕ) (cs : List ItemChange) (i : ℕ) (d : ItemChange) (counts : List ℕ) → i < length cs
    → stay_within height counts (take (suc i) cs) ≡ (stay_within height counts (take i cs) && follows height (counts_by (take i cs) counts) (get_or cs i d))
within_suc height [] i d counts lt = absurd (omega arith)
within_suc height (c ∷ cs) zero d counts lt = and_true (follows height counts c)
  where
    and_true : (a : Bool) → (a && true) ≡ (true && a)
    and_true true = refl
    and_true false = refl
within_suc height (c ∷ cs) (suc i) d counts lt =
    ap (λ (b : Bool). follows height counts c && b) (within_suc height cs i d (counts_after (adds c.change) counts c.segment) (omega arith))
    ∙ and_and (follows height counts c) (stay_within height (counts_after (adds c.change) counts c.segment) (take i cs)) _
  where
    and_and : (a b c : Bool) → (a && (b && c)) ≡ ((a && b) && c)
    and_and true b c = refl
    and_and false b c = refl

pub within_more : (height : ℕ) (cs : List ItemChange) (i : ℕ) (d : ItemChange) (counts : List ℕ) → i < length cs → stay_within height counts (take i cs) ≡ true → follows height (counts_by (take i cs) counts) (get_or cs i d) ≡ true
    → stay_within height counts (take (i + 1) cs) ≡ true
within_more height cs i d counts lt before own =
    ap (λ (n : ℕ). stay_within height counts (take n cs)) {x = i + 1} {y = suc i} (omega arith) ∙ within_suc height cs i d counts lt
    ∙ ap (λ (b : Bool). b && follows height (counts_by (take i cs) counts) (get_or cs i d)) before ∙ own

pub within_fails : (height : ℕ) (cs : List ItemChange) (i : ℕ) (d : ItemChange) (counts : List ℕ) → i < length cs → follows height (counts_by (take i cs) counts) (get_or cs i d) ≡ false → false ≡ stay_within height counts cs
within_fails height cs i d counts lt fails =
    sym (within_split height cs i d counts lt
    ∙ ap (λ (b : Bool). stay_within height counts (take i cs) && (b && stay_within height (counts_by (take (suc i) cs) counts) (drop (suc i) cs))) fails
    ∙ and_false (stay_within height counts (take i cs)))
  where
    and_false : (a : Bool) → (a && false) ≡ false
    and_false true = refl
    and_false false = refl

pub follows_at : (height : ℕ) (cs : List ItemChange) (i : ℕ) (d : ItemChange) (counts : List ℕ) → i < length cs → stay_within height counts cs ≡ true → follows height (counts_by (take i cs) counts) (get_or cs i d) ≡ true
follows_at height cs i d counts lt within =
    (both_true _ _ (both_true (stay_within height counts (take i cs)) _ (sym (within_split height cs i d counts lt) ∙ within)).1).0

-- one change more

pub taken_there : (counts : List ℕ) (c : ItemChange) → finds counts c ≡ true → adds c.change ≡ false → 1 ≤ get_or counts c.segment 0
taken_there counts c f takes = ltb-true 0 (get_or counts c.segment 0) (sym (ap (λ (b : Bool). b || nat_lt 0 (get_or counts c.segment 0)) takes) ∙ f)

pub count_own : (counts : List ℕ) (c : ItemChange) (h k : ℕ) → c.segment < length counts → finds counts c ≡ true → c.segment / 2 ^ h ≡ k → count_in (counts_after (adds c.change) counts c.segment) h k ≡ count_after (adds c.change) (count_in counts h k)
count_own counts c h k lt f is = subst (λ (n : ℕ). count_in (counts_after (adds c.change) counts c.segment) h n ≡ count_after (adds c.change) (count_in counts h n)) is (count_in-updated counts c.segment h (adds c.change) lt (taken_there counts c f))

pub some_own : (counts : List ℕ) (c : ItemChange) (h k : ℕ) → c.segment < length counts → finds counts c ≡ true → c.segment / 2 ^ h ≡ k → c.change ≡ Take → 1 ≤ count_in counts h k
some_own counts c h k lt f is takes =
    let there = taken_there counts c f (ap adds takes) in
    subst (λ (n : ℕ). 1 ≤ count_in counts h n) is (omega (arith, there, count-le-count_in counts c.segment h lt))

pub count_other : (counts : List ℕ) (c : ItemChange) (h k : ℕ) → c.segment < length counts → (c.segment / 2 ^ h ≡ k → ⊥) → count_in (counts_after (adds c.change) counts c.segment) h k ≡ count_in counts h k
count_other counts c h k lt apart = count_in-not_updated counts c.segment h k (adds c.change) lt apart

pub count_after-le : (b : Bool) (n : ℕ) → count_after b n ≤ n + 1
count_after-le true n = omega arith
count_after-le false n = omega arith

-- the windows over a segment

none_below : (test : ℕ → Bool) (n : ℕ) → ((j : ℕ) → j < n → test j ≡ false) → is_none (greatest_below test n) ≡ true
none_below test n all = by (greatest_below test n) (greatest_is test n)
  where
    by : (o : Option ℕ) → IsGreatest test n o → is_none o ≡ true
    by None is = refl
    by (Some i) is = absurd (true≢false (sym is.1 ∙ all i is.0))

some_below : (test : ℕ → Bool) (n j : ℕ) → j < n → test j ≡ true → is_none (greatest_below test n) ≡ false
some_below test n j lt t = by (greatest_below test n) (greatest_is test n)
  where
    by : (o : Option ℕ) → IsGreatest test n o → is_none o ≡ false
    by None is = absurd (true≢false (sym t ∙ is j lt))
    by (Some i) is = refl

pub all_fit : (height : ℕ) (counts : List ℕ) (c : ItemChange) → ((h : ℕ) → h < suc height → is_broken height (counts_after (adds c.change) counts c.segment) c.segment h ≡ false) → fits_behind height counts c ≡ true
all_fit height counts c all = none_below (is_broken height (counts_after (adds c.change) counts c.segment) c.segment) (suc height) all

pub one_breaks : (height : ℕ) (counts : List ℕ) (c : ItemChange) (h : ℕ) → h < suc height → is_broken height (counts_after (adds c.change) counts c.segment) c.segment h ≡ true → fits_behind height counts c ≡ false
one_breaks height counts c h lt t = some_below (is_broken height (counts_after (adds c.change) counts c.segment) c.segment) (suc height) h lt t

-- whether window (h, segment / 2^h) is broken, by its count
pub broken_by : (height : ℕ) (counts : List ℕ) (c : ItemChange) (h : ℕ) → c.segment < length counts → finds counts c ≡ true
    → is_broken height (counts_after (adds c.change) counts c.segment) c.segment h ≡ not (is_in_bounds height h (count_after (adds c.change) (count_in counts h (c.segment / 2 ^ h))))
broken_by height counts c h lt f = ap (λ (n : ℕ). not (is_in_bounds height h n)) (count_own counts c h (c.segment / 2 ^ h) lt f refl)

-- marks behind changes

marks_suc : (height : ℕ) (cs : List ItemChange) (i : ℕ) (d : ItemChange) (marks : Marks) → i < length cs → marks_by_changes height (take (suc i) cs) marks ≡ updated_marks height (get_or cs i d).segment (marks_by_changes height (take i cs) marks)
marks_suc height [] i d marks lt = absurd (omega arith)
marks_suc height (c ∷ cs) zero d marks lt = refl
marks_suc height (c ∷ cs) (suc i) d marks lt = marks_suc height cs i d (updated_marks height c.segment marks) (omega arith)

pub marks_more : (height : ℕ) (cs : List ItemChange) (i : ℕ) (d : ItemChange) (marks : Marks) → i < length cs → marks_by_changes height (take (i + 1) cs) marks ≡ updated_marks height (get_or cs i d).segment (marks_by_changes height (take i cs) marks)
marks_more height cs i d marks lt = ap (λ (n : ℕ). marks_by_changes height (take n cs) marks) {x = i + 1} {y = suc i} (omega arith) ∙ marks_suc height cs i d marks lt

-- a segment to which one adds has room

none_holds : (test : ℕ → Bool) (n : ℕ) → is_none (greatest_below test n) ≡ true → (j : ℕ) → j < n → test j ≡ false
none_holds test n none = by (greatest_below test n) (greatest_is test n) none
  where
    by : (o : Option ℕ) → IsGreatest test n o → is_none o ≡ true → (j : ℕ) → j < n → test j ≡ false
    by None is e = is
    by (Some i) is e = absurd cc

pub room_for : (height : ℕ) (counts : List ℕ) (c : ItemChange) → c.segment < length counts → follows height counts c ≡ true → c.change ≡ Add → get_or counts c.segment 0 < SEGMENT_RECORDS
room_for height counts c lt e add =
    let parts = both_true (finds counts c) (fits_behind height counts c) e in
    let whole = sym (broken_by height counts c 0 lt parts.0) ∙ none_holds (is_broken height (counts_after (adds c.change) counts c.segment) c.segment) (suc height) parts.1 0 (omega arith) in
    let bounds = both_true (nat_le (least_of height 0) (count_after (adds c.change) (count_in counts 0 (c.segment / 2 ^ 0)))) _ (not_no _ whole) in
    let most : count_after (adds c.change) (count_in counts 0 (c.segment / 2 ^ 0)) ≤ upper_of 0 = leb-true _ _ bounds.1 in
    let one : count_after (adds c.change) (count_in counts 0 (c.segment / 2 ^ 0)) ≡ count_in counts 0 (c.segment / 2 ^ 0) + 1 = ap (λ (x : Change). count_after (adds x) (count_in counts 0 (c.segment / 2 ^ 0))) add in
    let own : count_in counts 0 (c.segment / 2 ^ 0) ≡ count_in counts 0 c.segment = ap (count_in counts 0) {x = c.segment / 2 ^ 0} {y = c.segment} (omega arith) in
    omega (arith, most, one, own, count_in-segment counts c.segment lt)
  where
    not_no : (b : Bool) → not b ≡ false → b ≡ true
    not_no true e = refl
    not_no false e = absurd cc
