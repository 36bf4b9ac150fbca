-- Why a text isn't loaded.
use Rattle.std.specs.Prelude.{◌≡◌, ℕ, ◌+◌, ◌<◌, Bool, List, length}
use Rattle.redo_journal.specs.Frames.{Batch}
use Rattle.bulk_load.specs.Spreading.{ShowsPacked}
use Rattle.segment.specs.declared.fault.StoreFault.{StoreFault}
use Rattle.segment.specs.declared.fault.StoreFault.TheVariants as store
use Rattle.bulk_load.specs.declared.fault.LoadFault.{LoadFault}
use Rattle.bulk_load.specs.declared.fault.LoadFault.TheVariants.{NotEmpty, Line, Full, Disk, Damaged, Script, Spent}
use Rattle.key_slot.specs.Record.{Record}
use Rattle.line_source.specs.Lines.{raw_lines}
use Rattle.line_source.specs.SourceView.{SourceView, SourceTold, SourceRose}
use Rattle.line_source.specs.LineReaderView.{ReaderView, rest}
use Rattle.line_source.specs.Progress.{IsCutShort}
use Rattle.bulk_load.specs.LoadLines.{Loading, reads, wrong, full, loading, IsWrongLine}

-- the fault of a call on the file
abbrev pub load_fault_of : StoreFault → LoadFault
load_fault_of store.Failed = Disk
load_fault_of (store.Damaged segment why) = Damaged segment why

-- the complete lines among the bytes that were taken make no refusal due
pub record IsCutIn (format most : ℕ) (r0 : ReaderView) (s0 s : SourceView) : Type 0 where
  pub given : List (List ℕ)
  pub cut : IsCutShort (rest r0 s0) s.left given
  pub rows : List Record
  pub ended : Bool
  pub reading : loading format most given ≡ reads rows ended

-- the complete lines among the bytes that were taken make no refusal due, and all bytes were taken that may be
pub record IsSpentIn (format most : ℕ) (r0 : ReaderView) (s0 s : SourceView) : Type 0 where
  pub read : IsCutIn format most r0 s0 s
  pub all : length s0.left ≡ length s.left + r0.room

-- a fault of one line, by what comes of the lines up to it: it is wrong there, or has a record too many. A disk call may
-- fail in any
abbrev pub IsLineFault : ℕ → Loading → LoadFault → Type 0
IsLineFault most s (Line n) = s ≡ wrong n
IsLineFault most s (Full n) = (s ≡ full) × (n ≡ most)
IsLineFault most s Disk = Unit {0}
IsLineFault most s (NotEmpty n) = ⊥
IsLineFault most s (Damaged segment why) = ⊥
IsLineFault most s Script = ⊥
IsLineFault most s Spent = ⊥

-- Why reading ended before the end, by what comes of the lines, if the source tells them. `Script` comes only if a
-- read failed, and `Spent` only if all bytes were taken that may be; and either only if the complete lines among the bytes
-- that were taken aren't at fault.
abbrev pub IsReadingFault : ℕ → ℕ → ReaderView → SourceView → SourceView → LoadFault → Type 0
IsReadingFault format most r0 s0 s (Line n) = SourceTold s0 → IsWrongLine format most (raw_lines (rest r0 s0)) n
IsReadingFault format most r0 s0 s (Full n) = (n ≡ most) × (SourceTold s0 → loading format most (raw_lines (rest r0 s0)) ≡ full)
IsReadingFault format most r0 s0 s Disk = Unit {0}
IsReadingFault format most r0 s0 s Script = SourceRose s0 s × (SourceTold s0 → IsCutIn format most r0 s0 s)
IsReadingFault format most r0 s0 s Spent = SourceTold s0 → IsSpentIn format most r0 s0 s
IsReadingFault format most r0 s0 s (NotEmpty n) = ⊥
IsReadingFault format most r0 s0 s (Damaged segment why) = ⊥

-- Why a text isn't loaded into a store of that many records. `NotEmpty` comes exactly if there are some, and nothing was
-- taken from the source then.
abbrev pub IsLoadFault : ℕ → ℕ → ℕ → ReaderView → SourceView → SourceView → LoadFault → Type 0
IsLoadFault format most records r0 s0 s (NotEmpty n) = (n ≡ records) × (0 < records) × (s ≡ s0)
IsLoadFault format most records r0 s0 s (Damaged segment why) = records ≡ 0
IsLoadFault format most records r0 s0 s (Line n) = (records ≡ 0) × IsReadingFault format most r0 s0 s (Line n)
IsLoadFault format most records r0 s0 s (Full n) = (records ≡ 0) × IsReadingFault format most r0 s0 s (Full n)
IsLoadFault format most records r0 s0 s Disk = records ≡ 0
IsLoadFault format most records r0 s0 s Script = (records ≡ 0) × IsReadingFault format most r0 s0 s Script
IsLoadFault format most records r0 s0 s Spent = (records ≡ 0) × IsReadingFault format most r0 s0 s Spent

-- of the spreading: a disk fault, or damage
abbrev pub IsWritingFault : ℕ → ℕ → ReaderView → SourceView → SourceView → LoadFault → Type 0
IsWritingFault format most r0 s0 s (Damaged segment why) = Unit {0}
IsWritingFault format most r0 s0 s fault = IsReadingFault format most r0 s0 s fault

-- of a call on the file: a disk fault, or damage
abbrev pub IsFileFault : LoadFault → Type 0
IsFileFault Disk = Unit {0}
IsFileFault (Damaged segment why) = Unit {0}
IsFileFault (NotEmpty n) = ⊥
IsFileFault (Line n) = ⊥
IsFileFault (Full n) = ⊥
IsFileFault Script = ⊥
IsFileFault Spent = ⊥

-- any fault but damage
abbrev pub IsNoDamage : LoadFault → Type 0
IsNoDamage (Damaged segment why) = ⊥
IsNoDamage fault = Unit {0}

-- any fault but the disk's
abbrev pub IsNoDisk : LoadFault → Type 0
IsNoDisk Disk = ⊥
IsNoDisk fault = Unit {0}

-- a fault of the disk, of a segment that was read, or of the source, whose count of failed reads rose
abbrev pub IsOutsideFault : SourceView → SourceView → LoadFault → Type 0
IsOutsideFault s0 s Disk = Unit {0}
IsOutsideFault s0 s (Damaged segment why) = Unit {0}
IsOutsideFault s0 s Script = SourceRose s0 s
IsOutsideFault s0 s (NotEmpty n) = ⊥
IsOutsideFault s0 s (Line n) = ⊥
IsOutsideFault s0 s (Full n) = ⊥
IsOutsideFault s0 s Spent = ⊥

-- if a segment is damaged, a frame shows it
abbrev pub IsShownBy : ℕ → Batch → LoadFault → Type 0
IsShownBy format b (Damaged segment why) = (n : ℕ) × ShowsPacked format n b (store.Damaged segment why)
IsShownBy format b fault = Unit {0}
