use Rattle.std.proofs.Common.{◌+◌, [], ◌∷◌, List, drop, sym, ap, subst, ◌∙◌}
use Rattle.std.specs.Prelude.{slice_get}
use Rattle.key_slot.specs.Record.{Record}
use Rattle.key_slot.specs.Row.{record_of}
use Rattle.range_scan.specs.SweepView.{SweepView, IsSweep}
use Rattle.range_scan.specs.Taking.{Takes}
use Rattle.range_scan.proofs.Inside.{kept_at}
use Rattle.range_scan.proofs.Takings.{takes_first}
use Rattle.range_scan.proofs.sweep.Sweep.take_row.Goals as goal

pub returns-clause-row : goal.returns-clause-row
returns-clause-row c =
    let s = c.args.self.now in
    let rows = c.self.inside.page.now.rows in
    let own = record_of c.row-row.result in
    let there = ap (λ (rs : List Record). slice_get rs c.self.inside.index) (sym c.rows.ensures) ∙ c.row-row.ensures in
    let kept = kept_at s rows c.self.inside.index (sym (ap (λ (x : SweepView). x.kept) c.self.view_is)) c.requires own there in
    subst (λ (t : SweepView). Takes (own ∷ []) s t) (sym c.pass.ensures.passed) (takes_first s own (drop (c.self.inside.index + 1) rows) (subst IsSweep c.self.view_is c.self.invariant.2) c.requires kept)
