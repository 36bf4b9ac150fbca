-- A merge text that is admitted meets no fault of its own, and a text has one refusal.
use Rattle.std.proofs.Common.{◌≡◌, inl, inr, ℕ, ◌<◌, ◌≤◌, true, false, List, length, refl, sym, ap, ◌∙◌, arith}
use Rattle.std.specs.FinMap.{entries, len}
use Rattle.line_source.specs.Lines.{raw_lines}
use Rattle.line_source.specs.SourceView.{SourceView, SourceTold}
use Rattle.line_source.specs.LineReaderView.{ReaderView, rest}
use Rattle.map_model.specs.Store.{Map, Update}
use Rattle.bulk_load.specs.declared.fault.LoadFault.{LoadFault}
use Rattle.bulk_load.specs.declared.fault.LoadFault.TheVariants.{NotEmpty, Line, Full, Disk, Damaged, Script, Spent}
use Rattle.bulk_load.specs.LoadFaults.{IsOutsideFault}
use Rattle.bulk_load.specs.MergeCauses.{IsUpdatingFault}
use Rattle.bulk_load.specs.MergeText.{IsMergeText, map_after_edits}
use Rattle.bulk_load.specs.MergeLines.{IsOverfull, IsUnmergedLine}
use Rattle.bulk_load.proofs.MergeFaults.{map_read}
use Rattle.bulk_load.proofs.MergeReading.{full_no_wrong, no_full, no_wrong, same_edits, same_end}

true_false : true ≡ false → ⊥
true_false e = cc

pub admitted : (format most : ℕ) (m : Map) (r0 : ReaderView) (s0 s : SourceView) (edits : List Update) (fault : LoadFault) → IsMergeText format (raw_lines (rest r0 s0)) edits → len (map_after_edits m edits) ≤ most → SourceTold s0 → length s0.left < r0.room
    → IsUpdatingFault format most true m r0 s0 s fault → IsOutsideFault s0 s fault
admitted format most m r0 s0 s edits (NotEmpty n) text few told less is = is
admitted format most m r0 s0 s edits (Line n) text few told less is = no_line (is told refl)
  where
    no_line : IsUnmergedLine format most (entries m) (raw_lines (rest r0 s0)) n → ⊥
    no_line (inl w) = no_wrong (sym w ∙ map_read format most m (raw_lines (rest r0 s0)) edits text few)
    no_line (inr u) = true_false (same_end (sym (map_read format most m (raw_lines (rest r0 s0)) edits text few) ∙ u.1))
admitted format most m r0 s0 s edits (Full n) text few told less is = not_full (is.1 told refl)
  where
    not_full : IsOverfull format most m (raw_lines (rest r0 s0)) → ⊥
    not_full (inl f) = no_full (sym f ∙ map_read format most m (raw_lines (rest r0 s0)) edits text few)
    not_full (inr o) =
        let same = same_edits (sym (map_read format most m (raw_lines (rest r0 s0)) edits text few) ∙ o.1) in
        omega (arith, few, o.2, ap (λ (e : List Update). len (map_after_edits m e)) same)
admitted format most m r0 s0 s edits Disk text few told less is = record {}
admitted format most m r0 s0 s edits (Damaged segment why) text few told less is = record {}
admitted format most m r0 s0 s edits Script text few told less is = is.0
admitted format most m r0 s0 s edits Spent text few told less is = let all = (is told refl).all in omega (arith, all, less)

pub exclude : (format most n : ℕ) (m : Map) (lines : List (List ℕ)) → IsUnmergedLine format most (entries m) lines n → IsOverfull format most m lines → ⊥
exclude format most n m lines (inl w) (inl f) = full_no_wrong (sym f ∙ w)
exclude format most n m lines (inl w) (inr o) = no_wrong (sym w ∙ o.1)
exclude format most n m lines (inr u) (inl f) = no_full (sym f ∙ u.1)
exclude format most n m lines (inr u) (inr o) = true_false (same_end (sym o.1 ∙ u.1))
