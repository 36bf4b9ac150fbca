-- The records of a region that is read segment after segment.
use Rattle.std.proofs.Common.{◌≡◌, ◌-◌, ℕ, ◌+◌, ◌^◌, ◌<◌, ◌≤◌, List, [], ◌∷◌, ◌++◌, append_assoc, slice_get, Some, length, drop, get_or, None, sym, ap, subst, ◌∙◌, arith}
use Rattle.std.specs.Prelude.{Result, Ok, Err, IsErrOf, is_err}
use Rattle.std.proofs.lemmas.Bool.{false≢true}
use Rattle.std.specs.FinMap.{entries}
use Rattle.std.proofs.Math.ListN.{drop_of_length-le}
use Rattle.station.specs.Bytes.{Same}
use Rattle.station.specs.View.{View, Rose}
use Rattle.station.specs.Steps.{Steps}
use Rattle.station.proofs.Composition.{same_on, told_on}
use Rattle.key_slot.specs.Record.{Record}
use Rattle.key_slot.specs.Segment.{IsSegment}
use Rattle.map_model.specs.Array.{Array, rows, cut}
use Rattle.map_model.specs.Image.{array_in, array_of, map_of}
use Rattle.map_model.specs.FileReasons.{begins_above}
use Rattle.redo_journal.specs.declared.place.Place.{Place}
use Rattle.range_scan.specs.Checking.{LieAbove}
use Rattle.range_scan.specs.RegionReaderView.{ReaderView}
use Rattle.range_scan.specs.RegionReading.{page_in, page_fault}
use Rattle.range_scan.specs.Walk.{after_walk}
use Rattle.range_scan.proofs.Amid.{rows_from, drop_at}
use Rattle.range_scan.proofs.Checks.{above_start, above_next}
use Rattle.range_scan.proofs.Standing.{cut_is, cut_size, read_is, page_fine}
use Rattle.range_scan.proofs.Walks.{walk_on}
use Rattle.segment.specs.declared.fault.StoreFault.{StoreFault}
use Rattle.segment.specs.declared.fault.StoreFault.TheVariants.{Failed}
use Rattle.resize_region.specs.Shares.{StandsBare}
use Rattle.header_gate.specs.InPlace.{IsRecovered}
use Rattle.header_gate.proofs.Journals.{bare_recovered}
use Rattle.window_tally.specs.TallyView.{TallyView}
use Rattle.resize_region.specs.declared.old_rows.OldRows.{OldRows}
use Rattle.resize_region.specs.OldRows.{ReadsRows, rows_ahead}

-- Answers.

abbrev fault_in : {T : Type 0} → Result T StoreFault → StoreFault
fault_in (Ok v) = Failed
fault_in (Err fault) = fault

pub failed_is : {T : Type 0} (fault : StoreFault) → IsErrOf {T = T} {E = StoreFault} (Err fault) Failed → fault ≡ Failed
failed_is {T = T} fault is = ap (fault_in {T = T}) is

pub failed_as : {T : Type 0} (fault : StoreFault) → fault ≡ Failed → IsErrOf {T = T} {E = StoreFault} (Err fault) Failed
failed_as {T = T} fault is = λ i. Err (is i)

pub never_failed : {T : Type 0} (v : T) → IsErrOf {T = T} {E = StoreFault} (Ok v) Failed → ⊥
never_failed {T = T} v is = false≢true (ap (is_err {T = T} {E = StoreFault}) is)

pub rose_on : (a b : View) (now : ℕ) → a.disk_faults ≤ b.disk_faults → Rose b.disk_faults now → Rose a.disk_faults now
rose_on a b now le rose = omega (arith, le, rose)

module _ (place : Place) (t : TallyView) (image : List ℕ) (has : StandsBare place t image) where
  done : IsRecovered place.layout image
  done = bare_recovered place.layout image has.bare

  -- the array of the image, by its records and the counts
  pub own_cut : cut t.counts (entries (map_of image)) ≡ array_of image
  own_cut = cut_is place.layout place.region t.height t.counts image has.stands ∙ ap (array_in image) (sym has.stands.height_is)

  pub own_size : length (array_of image) ≡ 2 ^ t.height
  own_size = ap length (sym own_cut) ∙ cut_size place.layout place.region t.height t.counts image has.stands

  -- what is read of a segment are its records
  pub own_read : (i : ℕ) (rs : List Record) → i < 2 ^ t.height → IsSegment place.layout.format rs (page_in place.layout place.region image i) → rs ≡ get_or (array_of image) i []
  own_read i rs lt is = read_is place.layout place.region t.height t.counts image has.stands done i rs lt is ∙ ap (λ (a : Array). get_or a i []) own_cut

  -- nothing is wrong with it
  pub own_fine : (r : ReaderView) → r.next < 2 ^ t.height → LieAbove r (array_of image) → page_fault place.layout.format r.next r.last (page_in place.layout place.region image r.next) ≡ None
  own_fine r lt lies =
      page_fine place.layout place.region t.height t.counts image has.stands done r.next r.last lt
      (ap (λ (a : Array). begins_above r.last (get_or a r.next [])) own_cut ∙ above_next r (array_of image) lies (omega (arith, lt, own_size)))

  -- the start
  pub own_start : (r : ReaderView) → r.next ≡ 0 → r.last ≡ None → LieAbove r (array_of image)
  own_start r start none = subst (LieAbove r) own_cut (above_start place.layout place.region t.height t.counts image has.stands r start none)

-- the records ahead stay while the next segment is read, once those of the last one were taken
pub ahead_read : (segments : Array) (n : ℕ) (old new : List Record) → n < length segments → new ≡ get_or segments n [] → drop 0 new ++ rows (drop (n + 1) segments) ≡ drop (length old) old ++ rows (drop n segments)
ahead_read segments n old new lt is =
    ap (λ (s : List Record). s ++ rows (drop (n + 1) segments)) is ∙ sym (rows_from segments n lt)
    ∙ ap (λ (s : List Record). s ++ rows (drop n segments)) (sym (drop_of_length-le old (omega arith)))

-- and while the next of them goes to a share
pub ahead_taken : (share rs behind : List Record) (n : ℕ) (r : Record) → slice_get rs n ≡ Some r → (share ++ r ∷ []) ++ (drop (n + 1) rs ++ behind) ≡ share ++ (drop n rs ++ behind)
ahead_taken share rs behind n r is = append_assoc share (r ∷ []) (drop (n + 1) rs ++ behind) ∙ ap (λ (l : List Record). share ++ (l ++ behind)) (sym (drop_at rs n r is))

-- at the start all are ahead
pub ahead_start : (segments : Array) (r : OldRows) (k : ℕ) → r.page.rows ≡ [] → r.reader.next ≡ 0 → 0 ≡ k → rows_ahead segments r ≡ drop k (rows segments)
ahead_start segments r k none start same =
    let empty : List Record = [] in
    ap (λ (l : List Record). drop r.index l ++ rows (drop r.reader.next segments)) none ∙ ap (λ (l : List Record). l ++ rows (drop r.reader.next segments)) (drop_of_length-le empty {i = r.index} (omega arith))
    ∙ ap (λ (n : ℕ). rows (drop n segments)) start ∙ ap (λ (n : ℕ). drop n (rows segments)) same

-- A reading that goes on: some segments were read without a fault, and then others.
module _ (place : Place) (t : TallyView) (r s u : OldRows) (a b c : View) (steps : Steps Same a b) (reads : b.travel ≡ after_walk place.layout place.region r.reader.next s.reader.next a.travel) (onward : r.reader.next ≤ s.reader.next)
    (calls : b.calls ≤ a.calls + (s.reader.next - r.reader.next)) where
  pub walked_on : s.reader.next ≤ u.reader.next → c.travel ≡ after_walk place.layout place.region s.reader.next u.reader.next b.travel → c.travel ≡ after_walk place.layout place.region r.reader.next u.reader.next a.travel
  walked_on further last =
      last ∙ ap (after_walk place.layout place.region s.reader.next u.reader.next) reads ∙ walk_on place.layout place.region r.reader.next s.reader.next u.reader.next a.travel onward further

  -- up to a fault
  pub reads_err : {T U : Type 0} (result : Result U StoreFault) (fault : StoreFault) → result ≡ Err fault → ReadsRows {T = T} place t (Err fault) s u b c → ReadsRows {T = U} place t result r u a c
  reads_err {T = T} {U = U} result fault same last = subst (λ (x : Result U StoreFault). ReadsRows {T = U} place t x r u a c) (sym same) (record {
    steps = same_on steps last.steps;
    reads = walked_on last.onward last.reads;
    calls = omega (arith, calls, last.calls, onward, last.onward);
    onward = omega (arith, onward, last.onward);
    upto = last.upto;
    damaged = λ told. last.damaged (told_on steps.frame told);
    cause = last.cause;
    failed = λ is. rose_on a b c.disk_faults steps.frame.disk_faults (last.failed (failed_as {T = T} fault (failed_is {T = U} fault is)));
  })

  -- or to no fault
  pub reads_ok : {T U : Type 0} (v : T) (w : U) → ReadsRows {T = T} place t (Ok v) s u b c → ReadsRows {T = U} place t (Ok w) r u a c
  reads_ok v w last = record {
    steps = same_on steps last.steps;
    reads = walked_on last.onward last.reads;
    calls = omega (arith, calls, last.calls, onward, last.onward);
    onward = omega (arith, onward, last.onward);
    upto = last.upto;
    damaged = tt;
    cause = tt;
    failed = λ is. absurd (never_failed w is);
  }

-- what was read without a fault
pub reads_done : (place : Place) (t : TallyView) (r s : OldRows) (a b : View) → Steps Same a b → b.travel ≡ after_walk place.layout place.region r.reader.next s.reader.next a.travel → r.reader.next ≤ s.reader.next → b.calls ≤ a.calls + (s.reader.next - r.reader.next) → s.reader.next ≤ 2 ^ t.height → ReadsRows {T = Unit {0}} place t (Ok tt) r s a b
reads_done place t r s a b steps reads onward calls upto = record {
  steps = steps;
  reads = reads;
  calls = calls;
  onward = onward;
  upto = upto;
  damaged = tt;
  cause = tt;
  failed = λ is. absurd (never_failed {T = Unit {0}} tt is);
}
