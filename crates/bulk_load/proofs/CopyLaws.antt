-- Records of a store that are copied, up to a fault.
use Rattle.bulk_load.proofs.AmidLaws.{walks_still, walks_both}
use Rattle.resize_region.proofs.WalkLaws.{walks_on}
use Rattle.resize_region.specs.Source.{Walks}
use Rattle.station.specs.declared.travel.Travel.{Travel}
use Rattle.std.proofs.Common.{◌≡◌, ℕ, ◌+◌, ◌^◌, ◌<◌, List, [], ◌∷◌, ◌++◌, length, Option, refl, sym, ap, subst, ◌∙◌, arith, true, sum, ◌≤◌}
use Rattle.std.specs.Prelude.{Result, Ok, Err, IsErrOf, is_err}
use Rattle.std.proofs.lemmas.Bool.{false≢true}
use Rattle.std.proofs.lemmas.List.{length-append}
use Rattle.station.specs.View.{View, Told, Rose}
use Rattle.key_slot.specs.Record.{Bytes, Record}
use Rattle.map_model.specs.Image.{array_of}
use Rattle.range_scan.specs.SegmentFaults.{IsDamageAt}
use Rattle.redo_journal.specs.declared.place.Place.{Place}
use Rattle.redo_journal.specs.Frames.{Batch}
use Rattle.segment.specs.declared.fault.StoreFault.{StoreFault}
use Rattle.segment.specs.declared.fault.StoreFault.TheVariants as store
use Rattle.window_tally.specs.TallyView.{TallyView}
use Rattle.bulk_load.specs.declared.ahead.Ahead.{Ahead}
use Rattle.bulk_load.specs.declared.fault.LoadFault.{LoadFault}
use Rattle.bulk_load.specs.declared.fault.LoadFault.TheVariants.{NotEmpty, Line, Full, Disk, Damaged, Script, Spent}
use Rattle.bulk_load.specs.declared.run.MergeRun.{MergeRun}
use Rattle.bulk_load.specs.Ahead.{ReadsAhead, begins_under, left_in, under, hand, read_by}
use Rattle.bulk_load.specs.Amid.{CopiesUnder, IsCopyFault, IsLiveDamage, Tries, IsOverKept, Goes}
use Rattle.bulk_load.specs.LoadFaults.{load_fault_of}
use Rattle.bulk_load.specs.Loads.{most_records}
use Rattle.bulk_load.specs.Resulting.{IsPackingFault}
use Rattle.bulk_load.proofs.AheadLaws.{under_hit}

-- Answers.

abbrev fault_in : {T : Type 0} → Result T LoadFault → LoadFault
fault_in (Ok v) = Disk
fault_in (Err fault) = fault

pub disk_is : {T : Type 0} (fault : LoadFault) → IsErrOf {T = T} {E = LoadFault} (Err fault) Disk → fault ≡ Disk
disk_is {T = T} fault is = ap (fault_in {T = T}) is

pub disk_as : {T : Type 0} (fault : LoadFault) → fault ≡ Disk → IsErrOf {T = T} {E = LoadFault} (Err fault) Disk
disk_as {T = T} fault is = λ i. Err (is i)

pub never_disk : {T : Type 0} (v : T) → IsErrOf {T = T} {E = LoadFault} (Ok v) Disk → ⊥
never_disk {T = T} v is = false≢true (ap (is_err {T = T} {E = LoadFault}) is)

-- a fault of a call on the file is the disk's where that is
pub disk_of : (x : StoreFault) → load_fault_of x ≡ Disk → x ≡ store.Failed
disk_of store.Failed is = refl
disk_of (store.Damaged segment why) is = absurd (no is)
  where
    no : Damaged segment why ≡ Disk → ⊥
    no e = cc

-- A fault of the reading.

module _ {T : Type 0} (place : Place) (h j : Ahead) (b c : View) (x : StoreFault) (reads : ReadsAhead {T = T} place (Err x) h j b c) where
  pub read_copy_fault : (key : Option Bytes) (s : MergeRun) (a : View) → (Told a → Told b) → IsCopyFault place key s a (load_fault_of x)
  read_copy_fault key s a on = by x refl
    where
      damaged : Told b → x ≡ store.Failed
      damaged = reads.damaged

      by : (y : StoreFault) → x ≡ y → IsCopyFault place key s a (load_fault_of y)
      by store.Failed is = record {}
      by (store.Damaged segment why) is = λ told. no (sym is ∙ damaged (on told))
        where
          no : store.Damaged segment why ≡ store.Failed → ⊥
          no e = cc

  pub read_over : (s : MergeRun) → IsOverKept place s (load_fault_of x)
  read_over s = by x
    where
      by : (y : StoreFault) → IsOverKept place s (load_fault_of y)
      by store.Failed = record {}
      by (store.Damaged segment why) = record {}

  pub read_damage : IsLiveDamage place h.reader.next b.travel c.travel h.tally.now (load_fault_of x)
  read_damage = by x refl
    where
      cause : (i : ℕ) × (i < 2 ^ h.tally.now.height) × (h.reader.next ≤ i) × (j.reader.next ≡ i + 1) × IsDamageAt i h.tally.now.counts x
      cause = reads.cause

      walks : Walks place h.reader.next j.reader.next b.travel c.travel
      walks = walks_on place h.reader.next h.reader.next j.reader.next b.travel b.travel c.travel (omega arith) reads.onward (walks_still place h.reader.next b.travel) reads.reads

      by : (y : StoreFault) → x ≡ y → IsLiveDamage place h.reader.next b.travel c.travel h.tally.now (load_fault_of y)
      by store.Failed is = record {}
      by (store.Damaged segment why) is = (cause.0, cause.1, cause.2, subst (λ (n : ℕ). Walks place h.reader.next n b.travel c.travel) cause.3 walks, subst (IsDamageAt cause.0 h.tally.now.counts) is cause.4)

-- A fault of the packing.

pub packing_copy_fault : (place : Place) (key : Option Bytes) (s : MergeRun) (a : View) (records : ℕ) (fault : LoadFault) → IsPackingFault (most_records place.layout) records fault
    → (copied rest : List Record) (r : Record) → records ≡ s.taken.records + length copied → begins_under key (r ∷ []) ≡ true → (Told a → under key (left_in (array_of a.held) s.ahead) ≡ copied ++ under key (r ∷ rest))
    → IsCopyFault place key s a fault
packing_copy_fault place key s a records (Full n) is copied rest r count hit split = (
  is.0,
  λ told.
      let parts : length (under key (left_in (array_of a.held) s.ahead)) ≡ length copied + length (under key (r ∷ rest)) = ap length (split told) ∙ length-append copied (under key (r ∷ rest)) in
      omega (arith, is.1, count, parts, ap length (under_hit key r rest hit)),
)
packing_copy_fault place key s a records Disk is copied rest r count hit split = record {}
packing_copy_fault place key s a records (Damaged segment why) is copied rest r count hit split = absurd is
packing_copy_fault place key s a records (NotEmpty n) is copied rest r count hit split = is
packing_copy_fault place key s a records (Line n) is copied rest r count hit split = is
packing_copy_fault place key s a records Script is copied rest r count hit split = is
packing_copy_fault place key s a records Spent is copied rest r count hit split = is

pub packing_over : (place : Place) (s : MergeRun) (records : ℕ) (fault : LoadFault) → IsPackingFault (most_records place.layout) records fault → records + read_by s.ahead < s.taken.records + hand s.ahead + sum s.ahead.tally.now.counts → IsOverKept place s fault
packing_over place s records (Full n) is more = omega (arith, is.1, more)
packing_over place s records Disk is more = record {}
packing_over place s records (Damaged segment why) is more = record {}
packing_over place s records (NotEmpty n) is more = record {}
packing_over place s records (Line n) is more = record {}
packing_over place s records Script is more = record {}
packing_over place s records Spent is more = record {}

-- what went before
pub damage_on : (place : Place) (w x n p : ℕ) (f g : Batch) (a b c : View) (t : TallyView) (fault : LoadFault) → Goes place w x n p f g a b → IsLiveDamage place p b.travel c.travel t fault → IsLiveDamage place n a.travel c.travel t fault
damage_on place w x n p f g a b c t (Full k) one is = record {}
damage_on place w x n p f g a b c t Disk one is = record {}
damage_on place w x n p f g a b c t (Damaged segment why) one is = (is.0, is.1, omega (arith, one.further, is.2), walks_both place n p (is.0 + 1) a.travel b.travel c.travel one.further (omega (arith, is.2)) one.reads is.3, is.4)
damage_on place w x n p f g a b c t (NotEmpty k) one is = record {}
damage_on place w x n p f g a b c t (Line k) one is = record {}
damage_on place w x n p f g a b c t Script one is = record {}
damage_on place w x n p f g a b c t Spent one is = record {}

pub packing_damage : (place : Place) (from : ℕ) (x y : Travel) (t : TallyView) (most records : ℕ) (fault : LoadFault) → IsPackingFault most records fault → IsLiveDamage place from x y t fault
packing_damage place from x y t most records (Full n) is = record {}
packing_damage place from x y t most records Disk is = record {}
packing_damage place from x y t most records (Damaged segment why) is = absurd is
packing_damage place from x y t most records (NotEmpty n) is = record {}
packing_damage place from x y t most records (Line n) is = record {}
packing_damage place from x y t most records Script is = record {}
packing_damage place from x y t most records Spent is = record {}

-- Both as an answer.
pub copies_err : {U : Type 0} (place : Place) (key : Option Bytes) (old new : MergeRun) (f g : Batch) (a b : View) (result : Result U LoadFault) (fault : LoadFault) → result ≡ Err fault → new.ahead.tally.now ≡ old.ahead.tally.now
    → Tries place (2 ^ old.ahead.tally.now.height) old.taken.written old.ahead.reader.next f g a b → IsCopyFault place key old a fault → IsOverKept place old fault → IsLiveDamage place old.ahead.reader.next a.travel b.travel old.ahead.tally.now fault → (fault ≡ Disk → Rose a.disk_faults b.disk_faults)
    → CopiesUnder place key result old new f g a b
copies_err {U = U} place key old new f g a b result fault same tally tries faulty over damage failed = subst (λ (x : Result U LoadFault). CopiesUnder place key x old new f g a b) (sym same) (record {
  amid = tt;
  stops = tt;
  upto = tt;
  taken = tt;
  packed = tt;
  left = tt;
  same = tt;
  ended = tt;
  count = tt;
  over = over;
  tally = tally;
  goes = tt;
  tries = tries;
  faulty = faulty;
  damage = damage;
  failed = λ is. failed (disk_is {T = U} fault is);
})
