use Rattle.std.proofs.Common.{Option, T, sym, subst, take}
use Rattle.key_slot.specs.Record.{Bytes}
use Rattle.range_scan.specs.ScanBounds.{are_below}
use Rattle.range_scan.proofs.LooksBack.{below_none, below_by}
use Rattle.range_scan.proofs.behind.end_in.Goals as goal

pub returns-in-Some-clause-below : goal.returns-in-Some-clause-below
returns-in-Some-clause-below c =
    let before = take c.place_from.result c.args.rows.now in
    subst (λ (end : Option Bytes). T (are_below end before)) (sym c.in-Some.is) (below_by c.in-Some.end before c.place_from.ensures.below)

pub returns-in-None-clause-below : goal.returns-in-None-clause-below
returns-in-None-clause-below c =
    let all = take c.len.result c.args.rows.now in
    subst (λ (end : Option Bytes). T (are_below end all)) (sym c.in-None.is) (below_none all)
