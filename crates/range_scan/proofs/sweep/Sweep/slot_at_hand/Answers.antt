use Rattle.std.proofs.Common.{◌≡◌, ◌+◌, List, ◌∷◌, T, drop, sym, ap, subst, ◌∙◌}
use Rattle.std.specs.Prelude.{slice_get}
use Rattle.std.specs.List.{list_all}
use Rattle.key_slot.specs.Record.{Record, is_record}
use Rattle.key_slot.proofs.Truth.{first}
use Rattle.segment.specs.Fields.{row_in}
use Rattle.range_scan.specs.SweepView.{SweepView, IsAtHand}
use Rattle.range_scan.proofs.Inside.{kept_at}
use Rattle.range_scan.proofs.Takings.{takes_first}
use Rattle.range_scan.proofs.sweep.Sweep.slot_at_hand.Goals as goal
use Rattle.range_scan.proofs.sweep.Sweep.slot_at_hand.Goals.{After-slot}

at_hand : (c : After-slot) → IsAtHand c.args.self.now
at_hand c = c.is_at_hand.ensures.at_hand.0 c.if-not-is_at_hand.false

-- its record is the first that is kept
kept : (c : After-slot) → c.args.self.now.kept ≡ row_in c.slot.result ∷ drop (c.self.inside.index + 1) c.self.inside.page.now.rows
kept c =
    let i = c.self.inside in
    kept_at c.args.self.now i.page.now.rows i.index (sym (ap (λ (s : SweepView). s.kept) c.self.view_is)) (at_hand c) (row_in c.slot.result)
    (ap (λ (rows : List Record). slice_get rows i.index) (sym c.rows.ensures) ∙ c.slot.ensures.row)

pub returns-clause-row : goal.returns-clause-row
returns-clause-row c =
    let here = (goal.at.returns-clause-row c).After-slot in
    takes_first c.args.self.now (row_in c.slot.result) (drop (c.self.inside.index + 1) c.self.inside.page.now.rows) c.is_at_hand.ensures.is_sweep (at_hand here) (kept here)

pub returns-clause-fits : goal.returns-clause-fits
returns-clause-fits c =
    let here = (goal.at.returns-clause-fits c).After-slot in
    let f = c.args.self.now.reader.layout.format in
    let all = subst (λ (rows : List Record). T (list_all (is_record f) rows)) (kept here) c.is_at_hand.ensures.is_sweep.kept_fit in
    first (is_record f (row_in c.slot.result)) (list_all (is_record f) (drop (c.self.inside.index + 1) c.self.inside.page.now.rows)) all
