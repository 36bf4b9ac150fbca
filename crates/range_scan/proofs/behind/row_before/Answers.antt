use Rattle.std.proofs.Common.{◌-◌, not, Option, sym, ap, ◌∙◌, arith}
use Rattle.std.specs.Ordering.{is_lt}
use Rattle.key_slot.specs.Record.{Bytes, key_cmp}
use Rattle.key_slot.specs.Row.{record_of}
use Rattle.range_scan.specs.ScanBounds.{is_from}
use Rattle.range_scan.proofs.Lookings.{key_of_row}
use Rattle.range_scan.proofs.LooksBack.{one_from, none_from}
use Rattle.range_scan.proofs.behind.row_before.Goals as goal
use Rattle.range_scan.proofs.behind.row_before.Goals.{in-Some+else-lt, in_default}

pub returns-then-lt : goal.returns-then-lt
returns-then-lt c = none_from c.args.low.now c.in-Some.low c.key.result c.args.rows.now c.args.index (omega (arith, c.if-index-eq0.false)) c.in-Some.is c.key.ensures (sym c.lt.ensures ∙ c.if-lt.true)

pub returns : goal.returns
returns c = one_from c.args.low.now (record_of c.row.result) c.args.rows.now c.args.index (omega (arith, c.if-index-eq0.false)) c.row.ensures (elim c.match-low.branch [
  | in-Some+else-lt w ↦
      ap (λ (o : Option Bytes). is_from o (record_of c.row.result).0) w.in-Some.is
      ∙ ap not (ap (λ (k : Bytes). is_lt (key_cmp k w.in-Some.low)) (key_of_row c.args.rows.now (c.args.index - 1) (record_of c.row.result) w.key.result c.row.ensures w.key.ensures)
      ∙ sym w.lt.ensures ∙ w.if-lt.false)
  | in_default w ↦ ap (λ (o : Option Bytes). is_from o (record_of c.row.result).0) w.in_default.is
])
