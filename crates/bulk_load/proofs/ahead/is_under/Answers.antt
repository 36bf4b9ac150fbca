use Rattle.std.proofs.Common.{List, Option, Some, None, sym, ap, ◌∙◌}
use Rattle.std.specs.Ordering.{is_lt}
use Rattle.std.specs.Option.{option_map}
use Rattle.key_slot.specs.Record.{Bytes, Record}
use Rattle.segment.specs.Rows.{key_at}
use Rattle.range_scan.proofs.Amid.{drop_at}
use Rattle.bulk_load.specs.Ahead.{at_hand, begins_under}
use Rattle.bulk_load.proofs.AheadLaws.{hand_some}
use Rattle.bulk_load.proofs.ahead.is_under.Goals as goal

pub returns-in-Some : goal.returns-in-Some
returns-in-Some c =
    let a = c.args.ahead.now in
    let h = hand_some a.index a.page.rows c.requires in
    c.is_lt.ensures
    ∙ ap is_lt (c.compare.ensures h.0.0 (ap (λ (l : List Record). key_at l a.index) c.rows.ensures ∙ ap (option_map (λ (r : Record). r.0)) h.1))
    ∙ sym (ap (begins_under (Some c.in-Some.key)) (drop_at a.page.rows a.index h.0 h.1)) ∙ ap (λ (k : Option Bytes). begins_under k (at_hand a)) (sym c.in-Some.is)

pub returns-in-None : goal.returns-in-None
returns-in-None c =
    let a = c.args.ahead.now in
    let h = hand_some a.index a.page.rows c.requires in
    sym (ap (λ (k : Option Bytes). begins_under k (at_hand a)) c.in-None.is ∙ ap (begins_under None) (drop_at a.page.rows a.index h.0 h.1))
