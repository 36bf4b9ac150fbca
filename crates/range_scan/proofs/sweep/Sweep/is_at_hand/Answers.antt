use Rattle.std.proofs.Common.{◌≡◌, ◌<◌, true, List, Option, Some, length, sym, ap, ◌∙◌, arith}
use Rattle.std.specs.Prelude.{drop}
use Rattle.std.specs.Option.{option_map}
use Rattle.std.specs.Ordering.{is_lt}
use Rattle.key_slot.specs.Record.{Bytes, Record}
use Rattle.range_scan.specs.ScanBounds.{is_below, begins_below}
use Rattle.segment.specs.Rows.{key_at}
use Rattle.segment.proofs.Slots.{some_record}
use Rattle.range_scan.specs.SweepView.{SweepView}
use Rattle.range_scan.proofs.Inside.{begins_at, begins_anyway, hand_by}
use Rattle.range_scan.proofs.sweep.Sweep.is_at_hand.Goals as goal
use Rattle.range_scan.proofs.sweep.Sweep.is_at_hand.Goals.{Else-self-len}

wanting : (c : Else-self-len) → c.args.self.now.given < c.args.self.now.limit
wanting c = omega (arith, c.self.invariant.2.given_is, c.if-self.false, ap (λ (s : SweepView). s.given) c.self.view_is, ap (λ (s : SweepView). s.limit) c.self.view_is)

-- there is a record at the index
within : (c : Else-self-len) → c.self.inside.index < length c.self.inside.page.now.rows
within c = omega (arith, c.self.invariant.0, c.if-self-len.false, c.len.ensures.len, ap length c.rows-rows.ensures)

pub returns-in-Some-clause-at_hand : goal.returns-in-Some-clause-at_hand
returns-in-Some-clause-at_hand c =
    let i = c.self.inside in
    let here = (goal.at.returns-in-Some-clause-at_hand c).Else-self-len in
    let r = some_record i.page.now.rows i.index (within here) in
    let keyed : key_at i.page.now.rows i.index ≡ Some r.0.0 = ap (option_map (λ (q : Record). q.0)) r.1 in
    hand_by c.args.self.now c.is_lt.result (wanting here)
    (c.is_lt.ensures
    ∙ ap is_lt (c.compare.ensures r.0.0 (ap (λ (rows : List Record). key_at rows i.index) c.rows-rows.ensures ∙ keyed))
    ∙ ap (λ (high : Option Bytes). is_below high r.0.0) (sym c.in-Some.is)
    ∙ sym (begins_at i.high i.page.now.rows i.index r.0.0 keyed)
    ∙ ap (λ (s : SweepView). begins_below s.high s.kept) c.self.view_is)

pub returns-in-None-clause-at_hand : goal.returns-in-None-clause-at_hand
returns-in-None-clause-at_hand c =
    let i = c.self.inside in
    hand_by c.args.self.now true (wanting (goal.at.returns-in-None-clause-at_hand c).Else-self-len)
    (sym (begins_anyway i.page.now.rows i.index (within (goal.at.returns-in-None-clause-at_hand c).Else-self-len))
    ∙ ap (λ (high : Option Bytes). begins_below high (drop i.index i.page.now.rows)) (sym c.in-None.is)
    ∙ ap (λ (s : SweepView). begins_below s.high s.kept) c.self.view_is)
