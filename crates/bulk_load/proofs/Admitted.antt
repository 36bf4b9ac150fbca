-- A text that is admitted meets no fault of its own.
use Rattle.std.proofs.Common.{inl, inr, ℕ, ◌<◌, ◌≤◌, List, length, sym, ◌∙◌, arith}
use Rattle.key_slot.specs.Record.{Record}
use Rattle.line_source.specs.Lines.{raw_lines}
use Rattle.line_source.specs.SourceView.{SourceView, SourceTold}
use Rattle.line_source.specs.LineReaderView.{ReaderView, rest}
use Rattle.bulk_load.specs.declared.fault.LoadFault.{LoadFault}
use Rattle.bulk_load.specs.declared.fault.LoadFault.TheVariants.{NotEmpty, Line, Full, Disk, Damaged, Script, Spent}
use Rattle.bulk_load.specs.LoadFaults.{IsLoadFault, IsOutsideFault}
use Rattle.bulk_load.specs.LoadText.{IsLoadText}
use Rattle.bulk_load.specs.LoadLines.{IsWrongLine}
use Rattle.bulk_load.proofs.TextLaws.{text_read, no_wrong, no_full, same_end, true_false}

pub admitted : (format most : ℕ) (r0 : ReaderView) (s0 s : SourceView) (rows : List Record) (fault : LoadFault) → IsLoadText format (raw_lines (rest r0 s0)) rows → length rows ≤ most → SourceTold s0 → length s0.left < r0.room → IsLoadFault format most 0 r0 s0 s fault → IsOutsideFault s0 s fault
admitted format most r0 s0 s rows (NotEmpty n) text few told less is = absurd (omega (arith, is.1))
admitted format most r0 s0 s rows (Line n) text few told less is = no_line (is.1 told)
  where
    no_line : IsWrongLine format most (raw_lines (rest r0 s0)) n → ⊥
    no_line (inl w) = no_wrong (sym w ∙ text_read format most (raw_lines (rest r0 s0)) rows text few)
    no_line (inr u) = true_false (same_end (sym (text_read format most (raw_lines (rest r0 s0)) rows text few) ∙ u.1))
admitted format most r0 s0 s rows (Full n) text few told less is = no_full (sym (is.1.1 told) ∙ text_read format most (raw_lines (rest r0 s0)) rows text few)
admitted format most r0 s0 s rows Disk text few told less is = record {}
admitted format most r0 s0 s rows (Damaged segment why) text few told less is = record {}
admitted format most r0 s0 s rows Script text few told less is = is.1.0
admitted format most r0 s0 s rows Spent text few told less is = let all = (is.1 told).all in omega (arith, all, less)
