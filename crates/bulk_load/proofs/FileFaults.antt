-- Faults of calls on the file.
use Rattle.segment.specs.declared.fault.StoreFault.{StoreFault}
use Rattle.segment.specs.declared.fault.StoreFault.TheVariants as store
use Rattle.std.proofs.Common.{ℕ}
use Rattle.line_source.specs.LineReaderView.{ReaderView}
use Rattle.line_source.specs.SourceView.{SourceView}
use Rattle.bulk_load.specs.declared.fault.LoadFault.{LoadFault}
use Rattle.bulk_load.specs.declared.fault.LoadFault.TheVariants.{NotEmpty, Line, Full, Disk, Damaged, Script, Spent}
use Rattle.bulk_load.specs.LoadFaults.{IsFileFault, IsWritingFault, load_fault_of}

pub file_fault_is : (fault : StoreFault) → IsFileFault (load_fault_of fault)
file_fault_is store.Failed = record {}
file_fault_is (store.Damaged segment why) = record {}

pub file_writing : (format most : ℕ) (r0 : ReaderView) (s0 s : SourceView) (fault : LoadFault) → IsFileFault fault → IsWritingFault format most r0 s0 s fault
file_writing format most r0 s0 s Disk is = record {}
file_writing format most r0 s0 s (Damaged segment why) is = record {}
file_writing format most r0 s0 s (NotEmpty n) is = is
file_writing format most r0 s0 s (Line n) is = absurd is
file_writing format most r0 s0 s (Full n) is = absurd is
file_writing format most r0 s0 s Script is = absurd is
file_writing format most r0 s0 s Spent is = absurd is
