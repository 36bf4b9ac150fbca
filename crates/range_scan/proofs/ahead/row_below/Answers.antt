use Rattle.std.proofs.Common.{Option, sym, ap, ◌∙◌}
use Rattle.key_slot.specs.Record.{Bytes, key_cmp}
use Rattle.key_slot.specs.Row.{record_of}
use Rattle.std.specs.Ordering.{is_lt}
use Rattle.range_scan.specs.ScanBounds.{is_below}
use Rattle.range_scan.proofs.Lookings.{none_below, one_below, key_of_row}
use Rattle.range_scan.proofs.ahead.row_below.Goals as goal
use Rattle.range_scan.proofs.ahead.row_below.Goals.{in-Some+else-not-lt, in_default}

pub returns-then-not-lt : goal.returns-then-not-lt
returns-then-not-lt c = sym (none_below c.args.high.now c.in-Some.high c.key.result c.args.rows.now c.args.index c.in-Some.is c.key.ensures (sym c.lt.ensures ∙ c.if-not-lt.true))

pub returns : goal.returns
returns c = one_below c.args.high.now (record_of c.row.result) c.args.rows.now c.args.index c.row.ensures (elim c.match-high.branch [
  | in-Some+else-not-lt w ↦
      ap (λ (o : Option Bytes). is_below o (record_of c.row.result).0) w.in-Some.is
      ∙ ap (λ (k : Bytes). is_lt (key_cmp k w.in-Some.high)) (key_of_row c.args.rows.now c.args.index (record_of c.row.result) w.key.result c.row.ensures w.key.ensures)
      ∙ sym w.lt.ensures ∙ w.if-not-lt.false
  | in_default w ↦ ap (λ (o : Option Bytes). is_below o (record_of c.row.result).0) w.in_default.is
])
