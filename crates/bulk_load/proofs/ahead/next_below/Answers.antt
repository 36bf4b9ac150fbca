use Rattle.std.proofs.Common.{◌+◌, List, drop, slice_get, sym, ap, ◌∙◌}
use Rattle.key_slot.specs.Record.{Record}
use Rattle.key_slot.specs.Row.{record_of}
use Rattle.range_scan.proofs.Amid.{drop_at}
use Rattle.bulk_load.specs.Ahead.{begins_under}
use Rattle.bulk_load.proofs.AheadLaws.{hand_not, none_under, head_under}
use Rattle.bulk_load.proofs.ahead.next_below.Goals as goal
use Rattle.bulk_load.proofs.ahead.next_below.Goals.{then-not-more-via-then-not-more, then-not-more-via-else-not-more+then-not-is_under}

pub returns-then-not-more-clause-stops : goal.returns-then-not-more-clause-stops
returns-then-not-more-clause-stops g c same = elim c.then-not-more.branch [
  | then-not-more-via-then-not-more w ↦
      let n = c.in_ok-more.ensures.none w.if-not-more.true in
      record { here = ap (begins_under c.args.key.now) n.0 ∙ none_under c.args.key.now; all = λ none. n.1 }
  | then-not-more-via-else-not-more+then-not-is_under w ↦
      let lt = c.in_ok-more.ensures.some w.if-not-more.false in
      record { here = sym w.is_under.ensures ∙ w.if-not-is_under.true; all = λ none. absurd (hand_not c.reach.new.ahead.index c.reach.new.ahead.page.rows lt none) }
]

pub returns-clause-under : goal.returns-clause-under
returns-clause-under g c =
    let a = c.reach.new.ahead in
    let rest = drop (a.index + 1) a.page.rows in
    let there = ap (λ (l : List Record). slice_get l a.index) (sym c.rows.ensures) ∙ c.row.ensures in
    sym (head_under c.args.key.now (record_of c.row.result) rest) ∙ sym (ap (begins_under c.args.key.now) (drop_at a.page.rows a.index (record_of c.row.result) there)) ∙ sym c.is_under.ensures ∙ c.if-not-is_under.false
