-- What was written of the shares, and what comes of a fault.
use Rattle.std.proofs.Common.{◌≡◌, inl, inr, ℕ, List, ◌+◌, ◌-◌, ◌*◌, ◌<◌, ◌≤◌, sym, subst, ap, ◌∙◌, arith}
use Rattle.std.specs.Prelude.{Result, Ok, Err, OnOk, IfErr, IsErrOf}
use Rattle.key_slot.proofs.SegmentLaws.{times_up}
use Rattle.station.specs.View.{View, Told, Rose}
use Rattle.station.specs.Steps.{Steps}
use Rattle.station.specs.declared.travel.Travel.{Travel}
use Rattle.station.proofs.Composition.{same_on, told_on}
use Rattle.header_gate.specs.Places.{segment_size}
use Rattle.map_model.specs.Array.{rows, spread_over}
use Rattle.map_model.specs.Image.{array_of}
use Rattle.map_model.specs.Regions.{Spares}
use Rattle.range_scan.specs.SegmentFaults.{IsDamageAt}
use Rattle.range_scan.proofs.Walks.{walk_written}
use Rattle.redo_journal.specs.declared.place.Place.{Place}
use Rattle.redo_journal.specs.Frames.{Batch}
use Rattle.segment.specs.declared.fault.StoreFault.{StoreFault}
use Rattle.segment.specs.declared.fault.StoreFault.TheVariants.{Failed}
use Rattle.window_tally.specs.TallyView.{TallyView}
use Rattle.resize_region.specs.declared.old_rows.OldRows.{OldRows}
use Rattle.resize_region.specs.Spare.{HasWritten}
use Rattle.resize_region.specs.OldRows.{IsDamageIn, ReadsRows}
use Rattle.resize_region.specs.Source.{Walks}
use Rattle.resize_region.specs.Upgraded.{widened, in_wide}
use Rattle.resize_region.specs.Widening.{WritesWide}
use Rattle.resize_region.proofs.WalkLaws.{walks_on}
use Rattle.resize_region.proofs.OldRowLaws.{rose_on, failed_is, failed_as}

-- what is written for that many segments
pub spent : (n t f : ℕ) → f ≤ t → n * (t - f) + n * (f + 1) ≡ n * (t + 1 - 0)
spent n t f le =
    let parts : n * (t - f) + n * (f + 1) ≡ n * (t - f + (f + 1)) = omega arith in
    parts ∙ ap (λ (k : ℕ). n * k) {x = t - f + (f + 1)} {y = t + 1 - 0} (omega (arith, le))

pub on : (n t f : ℕ) → n * (t - f) ≡ n * (t + 1 - (f + 1))
on n t f = ap (λ (k : ℕ). n * k) {x = t - f} {y = t + 1 - (f + 1)} (omega arith)

-- what is written with another run is paid for by the segments
pub total : (n start mid now t f m : ℕ) → mid ≤ start + n * (t - f) → now ≤ mid + n * (f + 1) → f ≤ t → t < m → now ≤ start + n * m
total n start mid now t f m one two le lt = omega (arith, one, two, spent n t f le, times_up n (t + 1 - 0) m (omega (arith, lt)))

module _ (place : Place) (t : TallyView) (segments : ℕ) (f g : Batch) (a b c : View) {U V : Type 0} (result : Result U StoreFault) (fault : StoreFault) (is : result ≡ Err fault) (steps : Steps (Spares place.layout place.region) a c) (journal : g.journal ≡ f.journal) (turn : g.turn ≡ f.turn)
    (cost : c.travel.written ≤ a.travel.written + segment_size (widened place.layout) * segments) where
  -- a fault of what is read
  pub writes_err : (Told a → fault ≡ Failed) → IsDamageIn place t a c fault → a.disk_faults ≤ b.disk_faults → (IsErrOf {T = V} {E = StoreFault} (Err fault) Failed → Rose b.disk_faults c.disk_faults) → WritesWide {T = U} result place t segments f g a c
  writes_err damaged cause rises failed = subst (λ (x : Result U StoreFault). WritesWide {T = U} x place t segments f g a c) (sym is) (record {
    steps = steps;
    written = tt;
    journal = journal;
    turn = turn;
    cost = cost;
    damaged = damaged;
    cause = cause;
    failed = λ e. rose_on a b c.disk_faults rises (failed (failed_as {T = V} fault (failed_is {T = U} fault e)));
  })

  -- one of a write
  pub writes_failed : fault ≡ Failed → a.disk_faults ≤ b.disk_faults → (IsErrOf {T = V} {E = StoreFault} (Err fault) Failed → Rose b.disk_faults c.disk_faults) → WritesWide {T = U} result place t segments f g a c
  writes_failed same rises failed = writes_err (λ told. same) (inl same) rises failed

-- The segments that are left were read behind what was written.
module _ (place : Place) (t : TallyView) (segments : ℕ) (f g : Batch) (r s : OldRows) (a b c : View) {T U : Type 0} (v : T) (result : Result U StoreFault) (wrote : WritesWide {T = T} (Ok v) place t segments f g a b) (read : ReadsRows {T = U} place t result r s b c) (walks : Walks place 0 r.reader.next a.travel b.travel) where
  always : {P : Type 0} (x : Result U StoreFault) → P → OnOk x P
  always (Ok v) p = p
  always (Err e) p = tt

  told_before : (x : Result U StoreFault) → IfErr x (λ fault. Told b → fault ≡ Failed) → IfErr x (λ fault. Told a → fault ≡ Failed)
  told_before (Ok v) h = tt
  told_before (Err e) h = λ told. h (told_on wrote.steps.frame told)

  -- what was read last is damaged
  last_read : (x : Result U StoreFault) → IfErr x (λ fault. (i : ℕ) × (s.reader.next ≡ i + 1) × IsDamageAt i t.counts fault) → IfErr x (IsDamageIn place t a c)
  last_read (Ok v) h = tt
  last_read (Err e) h =
      let all = walks_on place 0 r.reader.next s.reader.next a.travel b.travel c.travel (omega arith) read.onward walks read.reads in
      inr (h.0, omega (arith, h.1, read.upto), h.2, subst (λ (n : ℕ). Walks place 0 n a.travel c.travel) h.1 all)

  pub writes_read : WritesWide {T = U} result place t segments f g a c
  writes_read = record {
    steps = same_on wrote.steps read.steps;
    written = always result (λ told i lt.
        subst (λ (held : List ℕ). HasWritten (in_wide place) (spread_over segments (rows (array_of a.held))) segments held) (sym (read.steps.held (told_on wrote.steps.frame told))) (wrote.written told) i lt);
    journal = wrote.journal;
    turn = wrote.turn;
    cost = omega (arith, wrote.cost, ap (λ (x : Travel). x.written) read.reads, walk_written place.layout place.region r.reader.next s.reader.next b.travel);
    damaged = told_before result read.damaged;
    cause = last_read result read.cause;
    failed = λ e. rose_on a b c.disk_faults wrote.steps.frame.disk_faults (read.failed e);
  }
