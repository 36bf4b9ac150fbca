-- A journal's table is read into the frames and validated there.
use Rattle.std.proofs.Common.{◌≡◌, inl, inr, ℕ, ◌+◌, ◌-◌, ◌*◌, ◌<◌, ◌≤◌, Bool, true, false, cond, Option, List, ◌++◌, length, take, drop, get_or, Some, None, sym, ◌∙◌, ap, subst, arith}
use borrow.Rule.Slice.PartMut.{put_mid}
use mathlib.Core.Bool.{true≢false}
use Rattle.std.proofs.lemmas.Result.{on_ok_weaker, IfErr-weaker}
use Rattle.std.proofs.lemmas.Bool.{cases_Bool, cases_lt, cases_eq}
use Rattle.std.proofs.lemmas.Bool.Decides.{nat_tests}
use Rattle.std.specs.Prelude.{◌&&◌, not, Result, Ok, is_ok, []}
use Rattle.std.proofs.lemmas.List.{get_or_append_left, get_or-append_right, get_or-take, get_or-drop, length-take-le}
use Rattle.raw_slots.specs.Slots.{bytes_of}
use Rattle.raw_slots.specs.declared.TheConstants.{SLOT_SIZE}
use Rattle.station.specs.Bytes.{byte, InRange, Same}
use Rattle.station.specs.View.{View, Told}
use Rattle.station.specs.Steps.{Steps}
use Rattle.station.proofs.Composition.{told_on, same_on}
use Rattle.header_gate.specs.declared.header.HeaderFault.{HeaderFault}
use Rattle.header_gate.specs.declared.reason.Reason.{Reason}
use Rattle.header_gate.specs.declared.reason.Reason.TheVariants.{Journal}
use Rattle.header_gate.specs.Header.{number, gate}
use Rattle.header_gate.specs.Places.{page_size, table_place, journal_shift, pages_at}
use Rattle.header_gate.specs.declared.layout.Layout.{Layout}
use Rattle.header_gate.specs.declared.layout.TheConstants.{PAIRED}
use Rattle.header_gate.specs.Recovered.{IsTableOf, numbers_from, numbers_at, table_reason, misplaced_reason, live_shift, is_laid, journal_reason}
use Rattle.header_gate.proofs.NumberLaws.{number_same}
use Rattle.header_gate.proofs.Recoveries.{length-numbers_from, get_or-numbers_from, table_moved}
use Rattle.header_gate.proofs.Journals.{IsInPlace, all_in_place, first_out_of_place, count_wrong, count_right, none_table, reason_named, reason_unnamed}
use Rattle.redo_journal.specs.declared.frames.TheConstants.{FRAME_SLOTS}
use Rattle.redo_journal.specs.Frames.{Batch, HasTable, NumberFits, IsTable, IsTableFault, number_in, table_length, first_frames}
use Rattle.redo_journal.specs.Frames.IsTableFault.{none, many, wrong}
use Rattle.redo_journal.specs.Replaying.{HasRead, ReadsJournal, journal_fault, may_be_none, table_start}
use Rattle.redo_journal.proofs.Live.{laid_turn}
use Rattle.redo_journal.proofs.FrameBytes.{front_byte, table_numbers_are}

-- a byte of the part that was written to a buffer
pub put_byte : (old part : List ℕ) (start m k : ℕ) → start ≤ length old → k < length part → byte (put_mid start m old part) (start + k) ≡ byte part k
put_byte old part start m k within lt =
    let rest = drop m (drop start old) in
    let e : start + k - start ≡ k = omega arith in
    get_or-append_right (take start old) (part ++ rest) start (start + k) 0 (length-take-le start old within) (omega arith)
    ∙ ap (byte (part ++ rest)) e
    ∙ get_or_append_left part rest 0 k lt

-- a byte outside that part stays
pub put_apart : (old part : List ℕ) (start m k : ℕ) → start + m ≤ length old → length part ≡ m → (InRange start m k → ⊥) → byte (put_mid start m old part) k ≡ byte old k
put_apart old part start m k inside size out =
    let rest = drop m (drop start old) in
    let front : length (take start old) ≡ start = length-take-le start old (omega (arith, inside)) in
    elim (cases_lt k start) [
      | inl before ↦ get_or_append_left (take start old) (part ++ rest) 0 k (omega (arith, front, before)) ∙ get_or-take start old k 0 before
      | inr from ↦ elim (cases_lt k (start + m)) [
        | inl within ↦ absurd (out (from, within))
        | inr behind ↦
            let e : start + (m + (k - start - m)) ≡ k = omega (arith, behind) in
            get_or-append_right (take start old) (part ++ rest) start k 0 front from
            ∙ get_or-append_right part rest m (k - start) 0 size (omega (arith, behind))
            ∙ get_or-drop m (drop start old) (k - start - m) 0
            ∙ get_or-drop start old (m + (k - start - m)) 0
            ∙ ap (byte old) e
      ]
    ]

-- The validation of a table at the front of some bytes.

module _ (bytes : List ℕ) (start most bound : ℕ) where
  size : length (numbers_at 0 bytes) ≡ number bytes 0
  size = length-numbers_from (number bytes 0) 4 bytes

  number_is : (j : ℕ) → j < number bytes 0 → get_or (numbers_at 0 bytes) j 0 ≡ number_in bytes 0 j
  number_is j lt = let e : 0 + 4 + 4 * j ≡ 0 + table_length j = omega arith in get_or-numbers_from (number bytes 0) 4 j bytes lt ∙ ap (number bytes) e

  in_place : (j : ℕ) → j < number bytes 0 → NumberFits bytes 0 bound j → IsInPlace bound 0 (numbers_at 0 bytes) j
  in_place j lt fits = record {
    small = omega (arith, number_is j lt, fits.small);
    first = λ e. omega arith;
    above = λ m e. omega (arith, number_is j lt, number_is m (omega (arith, e, lt)), fits.above m e);
  }

  fits : (j : ℕ) → j < number bytes 0 → IsInPlace bound 0 (numbers_at 0 bytes) j → NumberFits bytes 0 bound j
  fits j lt is = record {
    small = omega (arith, number_is j lt, is.small);
    above = λ m e. omega (arith, number_is j lt, number_is m (omega (arith, e, lt)), is.above m e);
  }

  pub table_accepted : IsTable bytes 0 most bound → table_reason start most bound (number bytes 0) (numbers_at 0 bytes) ≡ None
  table_accepted is =
      count_right start most bound (number bytes 0) (numbers_at 0 bytes) is.some is.few
      ∙ ap (misplaced_reason start) (all_in_place bound 0 0 (numbers_at 0 bytes) (λ j lt. let inner : j < number bytes 0 = omega (arith, lt, size) in in_place j inner (is.numbers j inner)))

  pub table_batch : (ns : List ℕ) → IsTable bytes 0 most bound → HasTable bytes 0 ns → IsTableOf most bound ns
  table_batch ns is has =
      let batch = none_table start most bound (number bytes 0) (numbers_at 0 bytes) size (table_accepted is) in
      subst (IsTableOf most bound) (table_numbers_are bytes ns 0 has) (record { most_is = batch.most_is; ascends = batch.ascends; below = batch.below })

  at_start : Some (Journal start) ≡ Some (Journal (start + 0))
  at_start = let e : start ≡ start + 0 = omega arith in ap (λ (p : ℕ). Some (Journal p)) e

  pub table_refused : (place : ℕ) → IsTableFault bytes 0 most bound place → table_reason start most bound (number bytes 0) (numbers_at 0 bytes) ≡ Some (Journal (start + place))
  table_refused place (none e) = count_wrong start most bound (number bytes 0) (numbers_at 0 bytes) (inl e) ∙ at_start
  table_refused place (many lt) = count_wrong start most bound (number bytes 0) (numbers_at 0 bytes) (inr lt) ∙ at_start
  table_refused place (wrong i lt few before bad) =
      let e : start + 4 + 4 * (0 + i) ≡ start + table_length i = omega arith in
      count_right start most bound (number bytes 0) (numbers_at 0 bytes) (omega (arith, lt)) few
      ∙ ap (misplaced_reason start) (first_out_of_place bound 0 0 i (numbers_at 0 bytes) (omega (arith, lt, size)) (λ m less. in_place m (omega (arith, less, lt)) (before m less)) (λ is. bad (fits i lt is)))
      ∙ ap (λ (p : ℕ). Some (Journal p)) e

-- What stands in the frames once it is read.

pub count_read : (slots : List (List ℕ)) (file : List ℕ) (place : ℕ) → HasRead slots 0 4 file place → number (bytes_of slots) 0 ≡ number file place
count_read slots file place read = number_same (bytes_of slots) file 0 place (λ n x y lt ex ey. ap (byte (bytes_of slots)) ex ∙ read n lt ∙ ap (byte file) (sym ey))

-- the count stays while the numbers are read behind it
pub count_kept : (first second : List (List ℕ)) → ((k : ℕ) → k < 4 → byte (bytes_of second) k ≡ byte (bytes_of first) k) → number (bytes_of second) 0 ≡ number (bytes_of first) 0
count_kept first second kept = number_same (bytes_of second) (bytes_of first) 0 0 (λ n x y lt ex ey.
    let e : x ≡ y = omega arith in
    kept x (omega (arith, lt)) ∙ ap (byte (bytes_of first)) e)

module _ (first second : List (List ℕ)) (file : List ℕ) (place count : ℕ) (counted : count ≡ number (bytes_of first) 0) (read : HasRead first 0 4 file place)
    (kept : (k : ℕ) → k < 4 → byte (bytes_of second) k ≡ byte (bytes_of first) k) (rest : HasRead second 4 (4 * count) file (place + 4)) where
  whole : HasRead second 0 (4 + 4 * length (numbers_at 0 (bytes_of second))) file place
  whole k lt =
      let size = length-numbers_from (number (bytes_of second) 0) 4 (bytes_of second) in
      let same = count_kept first second kept in
      elim (cases_lt k 4) [
        | inl front ↦
            let e : 0 + k ≡ k = omega arith in
            ap (byte (bytes_of second)) e ∙ kept k front ∙ ap (byte (bytes_of first)) (sym e) ∙ read k front
        | inr behind ↦
            let e : 0 + k ≡ 4 + (k - 4) = omega arith in
            let f : place + 4 + (k - 4) ≡ place + k = omega arith in
            ap (byte (bytes_of second)) e ∙ rest (k - 4) (omega (arith, lt, behind, size, same, counted)) ∙ ap (byte file) f
      ]

  pub table_read : numbers_at place file ≡ numbers_at 0 (bytes_of second)
  table_read = table_moved file (bytes_of second) place 0 (λ k lt. sym (whole k lt))

  pub reason_read : (most bound : ℕ) → table_reason place most bound (number file place) (numbers_at place file) ≡ table_reason place most bound (number (bytes_of second) 0) (numbers_at 0 (bytes_of second))
  reason_read most bound t = table_reason place most bound ((sym (count_read first file place read) ∙ sym (count_kept first second kept)) t) (table_read t)

-- a lower height has fewer pages
pub lower_batch : (most low high : ℕ) (ns : List ℕ) → low ≤ high → IsTableOf most low ns → IsTableOf most high ns
lower_batch most low high ns le batch = record {
  most_is = batch.most_is;
  ascends = batch.ascends;
  below = λ j d lt. omega (arith, batch.below j d lt);
}

-- the images that were read are the frames
pub images_read : (slots : List (List ℕ)) (images file : List ℕ) (count place : ℕ) → images ≡ bytes_of (first_frames count slots) → length images ≡ FRAME_SLOTS * count * SLOT_SIZE → HasRead slots 0 (page_size * count) file place
    → (k : ℕ) → k < length images → byte file (place + k) ≡ byte images k
images_read slots images file count place is size read k lt =
    let e : 0 + k ≡ k = omega arith in
    sym (read k (omega (arith, lt, size))) ∙ ap (byte (bytes_of slots)) e
    ∙ sym (ap (λ (l : List ℕ). byte l k) is ∙ front_byte slots (FRAME_SLOTS * count) k (omega (arith, lt, ap length is)))

-- The reason against the live journal.

named_by : (laid empty : Bool) → laid ≡ true → empty ≡ false → (laid && not empty) ≡ true
named_by laid empty is isnt = grind (arith, nat_tests, is, isnt)

unnamed_by : (laid empty : Bool) → empty ≡ true → (laid && not empty) ≡ false
unnamed_by laid empty is = grind (arith, nat_tests, is)

module _ (l : Layout) (turn height : ℕ) (file : List ℕ) where
  abbrev start : ℕ
  start = table_start l turn

  abbrev reason : Option Reason
  reason = table_reason start l.journal (pages_at l height) (number file start) (numbers_at start file)

  -- where there is a page to be named
  pub fault_some : may_be_none l (number file start) ≡ false → journal_fault l turn height file ≡ reason
  fault_some isnt = ap (λ (b : Bool). cond b None reason) isnt

  pub fault_none : may_be_none l (number file start) ≡ true → journal_fault l turn height file ≡ None
  fault_none is = ap (λ (b : Bool). cond b None reason) is

  pub reason_fault : ((l.version ≡ PAIRED → ⊥) → turn ≡ 1) → gate file ≡ turn → journal_reason l height file ≡ journal_fault l turn height file
  reason_fault single is =
      let laid = laid_turn l turn file single is in
      let shift : live_shift l file ≡ journal_shift l turn = ap (journal_shift l) is in
      let same : may_be_none l (number file (table_place + live_shift l file)) ≡ may_be_none l (number file start) = ap (λ (s : ℕ). may_be_none l (number file (table_place + s))) shift in
      elim (cases_Bool (may_be_none l (number file start))) [
        | inl empty ↦ reason_unnamed l height file (unnamed_by (is_laid l file) (may_be_none l (number file (table_place + live_shift l file))) (same ∙ empty)) ∙ sym (fault_none empty)
        | inr some ↦
            reason_named l height file (named_by (is_laid l file) (may_be_none l (number file (table_place + live_shift l file))) laid (same ∙ some))
            ∙ ap (λ (s : ℕ). table_reason (table_place + s) l.journal (pages_at l height) (number file (table_place + s)) (numbers_at (table_place + s) file)) shift
            ∙ sym (fault_some some)
      ]

-- a count that isn't 0 names a page
pub some_named : (l : Layout) (count : ℕ) → 1 ≤ count → may_be_none l count ≡ false
some_named l count some = grind (arith, nat_tests, some)

pub single_named : (l : Layout) (count : ℕ) → (l.version ≡ PAIRED → ⊥) → may_be_none l count ≡ false
single_named l count single = grind (arith, nat_tests, single)

pub none_named : (l : Layout) (count : ℕ) → l.version ≡ PAIRED → count ≡ 0 → may_be_none l count ≡ true
none_named l count is zero_is = grind (arith, nat_tests, is, zero_is)

-- a call that changes no byte, and then a reading
pub reads_on : {result : Result (Unit {0}) HeaderFault} {a b c : View} (l : Layout) (turn height : ℕ) (f mid g : Batch) → Steps Same a b → b.travel.written ≡ a.travel.written → mid.journal ≡ f.journal → mid.turn ≡ f.turn
    → ReadsJournal l turn height result mid g b c → ReadsJournal l turn height result f g a c
reads_on {result} {a} {b} {c} l turn height f mid g ab written journal turn_kept reads =
    record {
      batch = reads.batch;
      some = reads.some;
      table = on_ok_weaker result (λ is told. subst (λ (file : List ℕ). numbers_at (table_start l turn) file ≡ g.numbers) (ab.held told) (is (told_on ab.frame told))) reads.table;
      sound = on_ok_weaker result (λ is told. subst (λ (file : List ℕ). journal_fault l turn height file ≡ None) (ab.held told) (is (told_on ab.frame told))) reads.sound;
      refused = IfErr-weaker result _ _ (λ e is told r same. subst (λ (file : List ℕ). journal_fault l turn height file ≡ Some r) (ab.held told) (is (told_on ab.frame told) r same)) reads.refused;
      journal = reads.journal ∙ journal;
      turn_kept = reads.turn_kept ∙ turn_kept;
      steps = same_on ab reads.steps;
      written = reads.written ∙ written;
      cause = λ failed. let rose = reads.cause failed in omega (arith, rose, ab.frame.disk_faults);
    }

-- an empty journal of two was read
pub reads_none : {a b : View} (l : Layout) (turn height : ℕ) (f g : Batch) (slots : List (List ℕ)) → ((l.version ≡ PAIRED → ⊥) → ⊥) → (Told a → HasRead slots 0 4 a.held (table_start l turn)) → number (bytes_of slots) 0 ≡ 0
    → Steps Same a b → b.travel.written ≡ a.travel.written → g.journal ≡ f.journal → g.turn ≡ f.turn → g.numbers ≡ [] → ReadsJournal l turn height (Ok (tt {0})) f g a b
reads_none {a} {b} l turn height f g slots paired read zero_is ab written journal turn_kept none_is =
    let count : Told a → number a.held (table_start l turn) ≡ 0 = λ told. sym (count_read slots a.held (table_start l turn) (read told)) ∙ zero_is in
    let is : l.version ≡ PAIRED = elim (cases_eq l.version PAIRED) [ inl e ↦ e | inr isnt ↦ absurd (paired isnt) ] in
    record {
      batch = subst (IsTableOf l.journal (pages_at l height)) (sym none_is) (record { most_is = omega arith; ascends = λ i j lt within. absurd (omega (arith, within)); below = λ i e lt. absurd (omega (arith, lt)) });
      some = λ isnt. absurd (isnt is);
      table = λ told. ap (λ (n : ℕ). numbers_from n (table_start l turn + 4) a.held) (count told) ∙ sym none_is;
      sound = λ told. fault_none l turn height a.held (none_named l (number a.held (table_start l turn)) is (count told));
      refused = tt;
      journal = journal;
      turn_kept = turn_kept;
      steps = ab;
      written = written;
      cause = λ failed. absurd (true≢false (ap is_ok failed));
    }
