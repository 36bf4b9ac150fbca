use Rattle.std.proofs.Common.{◌<◌, List, length, sym, ap, ◌∙◌, arith}
use Rattle.std.specs.Ordering.{is_eq}
use Rattle.std.specs.Option.{option_map}
use Rattle.key_slot.specs.Record.{Record}
use Rattle.segment.specs.Rows.{key_at}
use Rattle.range_scan.proofs.Amid.{drop_at}
use Rattle.bulk_load.specs.Ahead.{begins_with}
use Rattle.bulk_load.proofs.AheadLaws.{hand_none, hand_some}
use Rattle.bulk_load.proofs.ahead.is_next.Goals as goal

pub returns-then-ahead-len-clause-found : goal.returns-then-ahead-len-clause-found
returns-then-ahead-len-clause-found c = sym (ap (begins_with c.args.key.now) (hand_none c.args.ahead.now.index c.args.ahead.now.page.rows (c.if-ahead-len.true ∙ c.len.ensures.len ∙ ap (λ (l : List Record). length l) c.rows-rows.ensures)))

pub returns-clause-found : goal.returns-clause-found
returns-clause-found c =
    let a = c.args.ahead.now in
    let lt : a.index < length a.page.rows = omega (arith, c.requires.index, c.if-ahead-len.false, c.len.ensures.len, ap (λ (l : List Record). length l) c.rows-rows.ensures) in
    let h = hand_some a.index a.page.rows lt in
    c.is_eq.ensures
    ∙ ap is_eq (c.compare.ensures h.0.0 (ap (λ (l : List Record). key_at l a.index) c.rows-rows.ensures ∙ ap (option_map (λ (r : Record). r.0)) h.1))
    ∙ sym (ap (begins_with c.args.key.now) (drop_at a.page.rows a.index h.0 h.1))
