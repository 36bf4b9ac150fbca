-- What a frame shows of a segment that was read into it, as a fault of the load.
use Rattle.std.proofs.Common.{◌≡◌, inl, inr, ℕ, Ok, is_err, ap, IsErrOf}
use Rattle.std.proofs.lemmas.Bool.{false≢true}
use Rattle.line_source.specs.SourceView.{SourceView}
use Rattle.line_source.specs.LineReaderView.{ReaderView}
use Rattle.redo_journal.specs.Frames.{Batch}
use Rattle.segment.specs.declared.fault.StoreFault.{StoreFault}
use Rattle.segment.specs.declared.fault.StoreFault.TheVariants as store
use Rattle.bulk_load.specs.declared.fault.LoadFault.{LoadFault}
use Rattle.bulk_load.specs.declared.fault.LoadFault.TheVariants.{NotEmpty, Line, Full, Disk, Damaged, Script, Spent}
use Rattle.bulk_load.specs.LoadFaults.{IsReadingFault, IsShownBy, load_fault_of}
use Rattle.bulk_load.specs.Spreading.{HasCause}

pub file_shown : (format n : ℕ) (b : Batch) (fault : StoreFault) → HasCause format n b fault → IsShownBy format b (load_fault_of fault)
file_shown format n b store.Failed cause = record {}
file_shown format n b (store.Damaged segment why) (inl failed) = absurd (other failed)
  where
    other : store.Damaged segment why ≡ store.Failed → ⊥
    other e = cc
file_shown format n b (store.Damaged segment why) (inr shows) = (n, shows)

pub read_shown : (format most : ℕ) (r0 : ReaderView) (s0 s : SourceView) (b : Batch) (fault : LoadFault) → IsReadingFault format most r0 s0 s fault → IsShownBy format b fault
read_shown format most r0 s0 s b (NotEmpty k) is = record {}
read_shown format most r0 s0 s b (Line k) is = record {}
read_shown format most r0 s0 s b (Full k) is = record {}
read_shown format most r0 s0 s b Disk is = record {}
read_shown format most r0 s0 s b (Damaged segment why) is = absurd is
read_shown format most r0 s0 s b Script is = record {}
read_shown format most r0 s0 s b Spent is = record {}

-- what is no disk fault
pub no_disk : {X : Type 0} (v : X) → IsErrOf {T = X} {E = LoadFault} (Ok v) Disk → ⊥
no_disk {X = X} v is = false≢true (ap (is_err {T = X} {E = LoadFault}) is)
