-- What the live journal says of a file while other bytes change.
use Rattle.std.proofs.Common.{◌≡◌, inl, inr, ℕ, zero, suc, ◌+◌, ◌-◌, ◌^◌, ◌≤◌, ◌<◌, Bool, true, false, List, [], length, refl, sym, ◌∙◌, ap, subst, arith}
use Rattle.std.proofs.lemmas.Bool.{cases_Bool, cases_eq}
use Rattle.std.proofs.lemmas.List.{ext_get_or}
use Rattle.std.specs.Prelude.{◌%◌, ◌||◌, ◌==◌}
use Rattle.station.specs.Bytes.{byte, Touched}
use Rattle.station.specs.View.{View, Told, MayHold, EachHeld, NothingPending, Lawful}
use Rattle.station.specs.Bytes.{Same}
use Rattle.station.specs.Steps.{Steps}
use Rattle.station.proofs.Composition.{told_back, honest_back, each_on}
use Rattle.header_gate.specs.declared.layout.Layout.{Layout}
use Rattle.header_gate.specs.declared.layout.TheConstants.{PAIRED}
use Rattle.header_gate.specs.Header.{number, live_copy, gate}
use Rattle.header_gate.specs.Places.{page_size, table_place, image_place, journal_shift, journal_end, region_place}
use Rattle.header_gate.specs.Recovered.{laid_byte, is_journal, recovered_byte, recovered, numbers_at, live_shift, live_table, is_laid, IsTableOf}
use Rattle.header_gate.specs.InPlace.{IsDone, IsRecovered, IsBare}
use Rattle.header_gate.proofs.Shifts.{shift_first, shift_second, shift_most}
use Rattle.header_gate.proofs.Recoveries.{IsOutside, length-numbers_from, laid_same, table_same, recovered_journal, recovered_laid, recovered_unlaid, recovered_done, laid_odd, laid_paired, unlaid_even}
use Rattle.header_gate.proofs.RecoveredBytes.{same_recovered}
use Rattle.station.specs.Steps.{Frame}
use Rattle.std.specs.Prelude.{if◌then◌else◌}
use Rattle.redo_journal.specs.Commit.{IsNamed, IsTurnPlace, next_gate}
use Rattle.std.proofs.lemmas.Bool.Decides.{nat_tests}
use Rattle.redo_journal.specs.Replaying.{gate_after}
use Rattle.redo_journal.specs.Rest.{IsCoveredPlace, AtRest, RestsAt}
use Rattle.redo_journal.proofs.Pages.{named_behind, not_named}

-- a place of the live journal
abbrev pub IsLivePlace : Layout → List ℕ → ℕ → Type 0
IsLivePlace l d p = (table_place + live_shift l d ≤ p) × (p < image_place l l.journal + live_shift l d)

-- the live journal has room for its table
abbrev pub IsShort : Layout → List ℕ → Type 0
IsShort l d = is_laid l d ≡ true → length (live_table l d) ≤ l.journal

-- the same live copy, gate, and live journal
pub record SameLive (l : Layout) (d i : List ℕ) : Type 0 where
  pub copy : live_copy i ≡ live_copy d
  pub gate_is : gate i ≡ gate d
  pub table : length (live_table l d) ≤ l.journal → live_table l i ≡ live_table l d
  pub images : (k o : ℕ) → k < l.journal → o < page_size → byte i (image_place l k + live_shift l d + o) ≡ byte d (image_place l k + live_shift l d + o)

pub same_shift : (l : Layout) (d i : List ℕ) → gate i ≡ gate d → live_shift l i ≡ live_shift l d
same_shift l d i same = ap (journal_shift l) same

pub same_laid : (l : Layout) (d i : List ℕ) → gate i ≡ gate d → is_laid l i ≡ is_laid l d
same_laid l d i same = ap (λ (n : ℕ). (l.version == PAIRED) || (n == 1)) same

-- so it is where neither the selector nor the live journal is touched, and the gate stays
pub same_live : (l : Layout) (X : ℕ → Type 0) (d i : List ℕ) → Touched X d i → gate i ≡ gate d → (X 0 → ⊥) → ((p : ℕ) → X p → IsLivePlace l d p → ⊥) → SameLive l d i
same_live l X d i touched gate_is selector apart =
    let keeps : (p : ℕ) → IsLivePlace l d p → byte i p ≡ byte d p = λ p live. touched.rest p (λ x. apart p x live) in
    record {
      copy = ap (λ (b : ℕ). b % 2) (touched.rest 0 selector);
      gate_is = gate_is;
      table = λ few.
          ap (λ (s : ℕ). numbers_at (table_place + s) i) (same_shift l d i gate_is)
          ∙ table_same i d (table_place + live_shift l d) (image_place l l.journal + live_shift l d) (λ k above below. keeps k (above, below)) (omega (arith, few));
      images = λ k o below small. keeps (image_place l k + live_shift l d + o) (omega arith, omega (arith, below, small));
    }

-- then the recovered byte is the same, where no named page lies or a laid byte is the same
pub recovered_live : (l : Layout) (d i : List ℕ) (p : ℕ) → SameLive l d i → IsShort l d → is_journal l p ≡ false → (is_laid l d ≡ false → byte i p ≡ byte d p)
    → (is_laid l d ≡ true → IsOutside (region_place l (live_copy d)) (live_table l d) p → byte i p ≡ byte d p) → recovered_byte l i p ≡ recovered_byte l d p
recovered_live l d i p same short isnt unlaid_same outside_same = elim (cases_Bool (is_laid l d)) [
  | inr unlaid ↦ recovered_unlaid l i p isnt (same_laid l d i same.gate_is ∙ unlaid) ∙ unlaid_same unlaid ∙ sym (recovered_unlaid l d p isnt unlaid)
  | inl laid ↦
      let region = region_place l (live_copy d) in
      recovered_laid l i p isnt (same_laid l d i same.gate_is ∙ laid)
      ∙ (λ t. laid_byte (region_place l (same.copy t)) (λ k o. byte i (image_place l k + same_shift l d i same.gate_is t + o)) (byte i p) p 0 (same.table (short laid) t))
      ∙ laid_same region (λ k o. byte i (image_place l k + live_shift l d + o)) (λ k o. byte d (image_place l k + live_shift l d + o)) (byte i p) (byte d p) p 0 (live_table l d)
      (λ j o above below small. same.images j o (omega (arith, below, short laid)) small) (outside_same laid)
      ∙ sym (recovered_laid l d p isnt laid)
]

-- bytes that neither the live journal nor the regions have are touched
pub recovered_apart : (l : Layout) (X : ℕ → Type 0) (d i : List ℕ) → Touched X d i → SameLive l d i → IsShort l d → ((p : ℕ) → is_journal l p ≡ false → X p → ⊥) → (p : ℕ) → recovered_byte l i p ≡ recovered_byte l d p
recovered_apart l X d i touched same short apart p = elim (cases_Bool (is_journal l p)) [
  | inl is ↦ recovered_journal l i p is ∙ sym (recovered_journal l d p is)
  | inr isnt ↦ recovered_live l d i p same short isnt (λ unlaid. touched.rest p (apart p isnt)) (λ laid out. touched.rest p (apart p isnt))
]

-- pages that the live journal names are touched
pub recovered_covered : (l : Layout) (X : ℕ → Type 0) (d i : List ℕ) → Touched X d i → ((p : ℕ) → X p → (is_laid l d ≡ true) × IsNamed (region_place l (live_copy d)) (live_table l d) p) → SameLive l d i → IsShort l d
    → (p : ℕ) → recovered_byte l i p ≡ recovered_byte l d p
recovered_covered l X d i touched named same short p = elim (cases_Bool (is_journal l p)) [
  | inl is ↦ recovered_journal l i p is ∙ sym (recovered_journal l d p is)
  | inr isnt ↦ recovered_live l d i p same short isnt
      (λ unlaid. touched.rest p (λ x. bool_apart (is_laid l d) (named p x).0 unlaid))
      (λ laid out. touched.rest p (λ x. not_named (region_place l (live_copy d)) p (live_table l d) out (named p x).1))
]
  where
    bool_apart : (b : Bool) → b ≡ true → b ≡ false → ⊥
    bool_apart true is isnt = absurd cc
    bool_apart false is isnt = absurd cc

-- the two journals of a pair lie apart
pub turns_apart : (l : Layout) (turn p : ℕ) → l.version ≡ PAIRED → turn < 2 → IsTurnPlace l turn p → IsTurnPlace l (1 - turn) p → ⊥
turns_apart l zero p is small (low, high) (other_low, other_high) = omega (arith, high, other_low, shift_first l, shift_second l is)
turns_apart l (suc zero) p is small (low, high) (other_low, other_high) = omega (arith, low, other_high, shift_first l, shift_second l is)
turns_apart l (suc (suc turn)) p is small one two = absurd (omega (arith, small))

-- a place of a journal lies before the regions
pub turn_before : (l : Layout) (turn p : ℕ) → IsTurnPlace l turn p → (table_place ≤ p) × (p < journal_end l)
turn_before l turn p is = (omega (arith, is.0), omega (arith, is.1, shift_most l turn))

-- A station at rest.

pub covered_live : (l : Layout) (d i : List ℕ) → Touched (IsCoveredPlace l d) d i → SameLive l d i
covered_live l d i touched =
    let behind : (p : ℕ) → IsCoveredPlace l d p → journal_end l ≤ p = λ p covered. omega (arith, named_behind (region_place l (live_copy d)) p (live_table l d) covered.1) in
    same_live l (IsCoveredPlace l d) d i touched (ap (λ (b : ℕ). b % 2) (touched.rest 512 (λ x. omega (arith, behind 512 x)))) (λ x. omega (arith, behind 0 x))
    (λ p x live. omega (arith, behind p x, live.1, shift_most l (gate d)))

-- each image that a station at rest may leave, by the held bytes
pub rest_each : (l : Layout) (a : View) → Lawful a → AtRest l a → (image : List ℕ) → MayHold a image → Told a × Touched (IsCoveredPlace l a.held) a.held image
rest_each l a law rest image (inl told) = (told.0, record { size = ap length told.1; rest = λ p out. ap (λ (f : List ℕ). byte f p) told.1 })
rest_each l a law rest image (inr honest) = ((law.tells honest.0).0, rest.covered honest.0 image honest.1)

pub short_done : (l : Layout) (d : List ℕ) → IsDone l d → IsShort l d
short_done l d done laid = (done laid).table.most_is

-- it recovers to what the held bytes recover to
pub rest_recovers : (l : Layout) (a : View) → Lawful a → AtRest l a → EachHeld (λ image. recovered l image ≡ recovered l a.held) a
rest_recovers l a law rest image left =
    let told_touched = rest_each l a law rest image left in
    let touched = told_touched.1 in
    let done = rest.done told_touched.0 in
    same_recovered l a.held image touched.size (λ p lt.
    recovered_covered l (IsCoveredPlace l a.held) a.held image touched (λ q x. (laid_paired l a.held x.0, x.1)) (covered_live l a.held image touched) (short_done l a.held done) p)

-- and its live journal is a table of pages
pub rest_tables : (l : Layout) (a : View) → Lawful a → AtRest l a → EachHeld (λ image. is_laid l image ≡ true → IsTableOf l.journal (2 ^ l.hmax) (live_table l image)) a
rest_tables l a law rest image left laid =
    let told_touched = rest_each l a law rest image left in
    let same = covered_live l a.held image told_touched.1 in
    let laid_held : is_laid l a.held ≡ true = sym (same_laid l a.held image same.gate_is) ∙ laid in
    let table = (rest.done told_touched.0 laid_held).table in
    subst (IsTableOf l.journal (2 ^ l.hmax)) (sym (same.table table.most_is)) table

-- before version 4 nothing is pending
pub rest_settled : (l : Layout) (a : View) → (l.version ≡ PAIRED → ⊥) → AtRest l a → NothingPending a
rest_settled l a single rest honest image left =
    let touched = rest.covered honest image left in
    ext_get_or 0 image a.held touched.size (λ p lt. touched.rest p (λ x. single x.0))

-- where nothing is pending, and the journal lies in place
pub rest_nothing : (l : Layout) (a : View) → NothingPending a → (Told a → IsDone l a.held) → AtRest l a
rest_nothing l a nothing done = record {
  covered = λ honest image left. let is = nothing honest image left in record { size = ap length is; rest = λ p out. ap (λ (f : List ℕ). byte f p) is };
  done = done;
}

-- a closed gate in a file with one journal
pub done_even : (l : Layout) (d : List ℕ) → (l.version ≡ PAIRED → ⊥) → byte d 512 ≡ 0 → IsDone l d
done_even l d single even laid = absurd (apart (is_laid l d) laid (unlaid_even l d single (λ odd. omega (arith, odd, even))))
  where
    apart : (b : Bool) → b ≡ true → b ≡ false → ⊥
    apart true is isnt = absurd cc
    apart false is isnt = absurd cc

-- the journal that the gate names is to be laid
pub laid_turn : (l : Layout) (turn : ℕ) (d : List ℕ) → ((l.version ≡ PAIRED → ⊥) → turn ≡ 1) → gate d ≡ turn → is_laid l d ≡ true
laid_turn l turn d single is = elim (cases_eq l.version PAIRED) [
  | inl paired ↦ laid_paired l d paired
  | inr isnt ↦ laid_odd l d (is ∙ single isnt)
]

-- an empty table lies in place
pub done_empty : (l : Layout) (d : List ℕ) → length (live_table l d) ≡ 0 → IsDone l d
done_empty l d none laid = record {
  table = record {
    most_is = omega (arith, none);
    ascends = λ i j lt within. absurd (omega (arith, within, none));
    below = λ i e lt. absurd (omega (arith, lt, none));
  };
  pages = λ j o below small. absurd (omega (arith, below, none));
}

-- what is read of it doesn't disturb it
pub rest_still : (l : Layout) (a b : View) → Lawful a → AtRest l a → Steps Same a b → AtRest l b
rest_still l a b law rest ab = record {
  covered = λ honest image left.
      let honest_a = honest_back ab.frame honest in
      let same : b.held ≡ a.held = ab.held (law.tells honest_a).0 in
      let from = ab.images honest_a image left in
      let touched = rest.covered honest_a from.0 from.1 in
      subst (λ (i : List ℕ). Touched (IsCoveredPlace l b.held) b.held i) (sym from.2) (subst (λ (h : List ℕ). Touched (IsCoveredPlace l h) h from.0) (sym same) touched);
  done = λ told. let told_a = told_back ab.frame told in subst (IsDone l) (sym (ab.held told_a)) (rest.done told_a);
}

pub rest_head : (l : Layout) (a : View) → Lawful a → AtRest l a → EachHeld (λ image. (gate image ≡ gate a.held) × (live_copy image ≡ live_copy a.held)) a
rest_head l a law rest image left =
    let same = covered_live l a.held image (rest_each l a law rest image left).1 in
    (same.gate_is, same.copy)

pub rest_held : (l : Layout) (a : View) → AtRest l a → Told a → IsRecovered l a.held
rest_held l a rest told = recovered_done l a.held (rest.done told)

-- the gate of each image is that of the held bytes
pub rest_gates : {a b : View} (l : Layout) (n : ℕ) → Lawful b → Frame a b → AtRest l b → (Told a → gate b.held ≡ n) → EachHeld (λ image. gate image ≡ n) b
rest_gates {a} {b} l n law frame rest is image left =
    let told = (rest_each l b law rest image left).0 in
    (rest_head l b law rest image left).0 ∙ is (told_back frame told)

pub next_small : (l : Layout) (turn : ℕ) → next_gate l turn < 2
next_small l turn = by (l.version == PAIRED)
  where
    by : (b : Bool) → (if b then 1 - turn else 0) < 2
    by true = omega arith
    by false = omega arith

-- what a replay leaves of the gate
pub gate_replayed : (l : Layout) (turn : ℕ) (d i : List ℕ) → gate d ≡ turn → ((l.version ≡ PAIRED → ⊥) → byte i 512 ≡ 0) → (l.version ≡ PAIRED → byte i 512 ≡ byte d 512) → gate i ≡ gate_after l turn
gate_replayed l turn d i is closed kept = elim (cases_eq l.version PAIRED) [
  | inl paired ↦
      let e : gate_after l turn ≡ turn = grind (arith, nat_tests, paired) in
      ap (λ (b : ℕ). b % 2) (kept paired) ∙ is ∙ sym e
  | inr single ↦
      let e : gate_after l turn ≡ 0 = grind (arith, nat_tests, single) in
      omega (arith, closed single, e)
]

-- What holds between commits.

pub rests_by : {a b : View} (l : Layout) (n : ℕ) → Lawful b → Frame a b → AtRest l b → ((l.version ≡ PAIRED → ⊥) → n ≡ 0) → (Told a → gate b.held ≡ n) → RestsAt l n b
rests_by l n law frame rest single is = record { single = single; gates = rest_gates l n law frame rest is; rest = rest }

pub rests_still : (l : Layout) (n : ℕ) (a b : View) → Lawful a → RestsAt l n a → Steps Same a b → RestsAt l n b
rests_still l n a b law rests ab = record {
  single = rests.single;
  gates = each_on (λ image. gate image ≡ n) (λ image. gate image ≡ n) ab rests.gates (λ d i is same. ap gate same ∙ is);
  rest = rest_still l a b law rests.rest ab;
}

-- before version 4 that is nothing pending, and an even gate
pub rests_settled : (l : Layout) (n : ℕ) (a : View) → (l.version ≡ PAIRED → ⊥) → RestsAt l n a → NothingPending a × EachHeld (λ image. gate image ≡ 0) a
rests_settled l n a single rests = (rest_settled l a single rests.rest, λ image left. rests.gates image left ∙ rests.single single)

pub settled_rests : (l : Layout) (a : View) → (l.version ≡ PAIRED → ⊥) → NothingPending a → EachHeld (λ image. gate image ≡ 0) a → RestsAt l 0 a
settled_rests l a single nothing even = record {
  single = λ isnt. refl;
  gates = even;
  rest = rest_nothing l a nothing (λ told laid. absurd (apart (is_laid l a.held) laid (unlaid_even l a.held single (λ odd. omega (arith, odd, even a.held (inl (told, refl)))))));
}
  where
    apart : (b : Bool) → b ≡ true → b ≡ false → ⊥
    apart true is isnt = absurd cc
    apart false is isnt = absurd cc

pub next_single : (l : Layout) (turn : ℕ) → (l.version ≡ PAIRED → ⊥) → next_gate l turn ≡ 0
next_single l turn single = grind (arith, nat_tests, single)

pub after_single : (l : Layout) (turn : ℕ) → (l.version ≡ PAIRED → ⊥) → gate_after l turn ≡ 0
after_single l turn single = grind (arith, nat_tests, single)

-- a live journal of an image is that of the held bytes
pub rest_live : (l : Layout) (a : View) → Lawful a → AtRest l a → (image : List ℕ) → MayHold a image → is_laid l image ≡ true → (is_laid l a.held ≡ true) × (live_table l image ≡ live_table l a.held)
rest_live l a law rest image left laid =
    let told_touched = rest_each l a law rest image left in
    let same = covered_live l a.held image told_touched.1 in
    let laid_held : is_laid l a.held ≡ true = sym (same_laid l a.held image same.gate_is) ∙ laid in
    (laid_held, same.table (rest.done told_touched.0 laid_held).table.most_is)

-- where no page is to be laid, the live journal's count is 0
pub bare_none : (l : Layout) (turn : ℕ) (file : List ℕ) → ((l.version ≡ PAIRED → ⊥) → turn ≡ 1) → gate file ≡ turn → IsBare l file → number file (table_place + journal_shift l turn) ≡ 0
bare_none l turn file single is bare =
    let none : numbers_at (table_place + journal_shift l turn) file ≡ [] = ap (λ (t : ℕ). numbers_at (table_place + journal_shift l t) file) (sym is) ∙ (bare (laid_turn l turn file single is)).1 in
    sym (length-numbers_from (number file (table_place + journal_shift l turn)) (table_place + journal_shift l turn + 4) file) ∙ ap (λ (ns : List ℕ). length ns) none
