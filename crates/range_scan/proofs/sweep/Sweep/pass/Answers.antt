use Rattle.std.proofs.Common.{◌+◌, List, refl, sym, ap, subst, ◌∙◌, arith}
use Rattle.key_slot.specs.Record.{Record}
use Rattle.range_scan.specs.SweepView.{SweepView, IsAtHand, passed}
use Rattle.range_scan.proofs.Inside.{drop_behind, index_within, sweep_behind}
use Rattle.range_scan.proofs.sweep.Sweep.pass.Goals as goal

pub overflow_add-self : goal.overflow_add-self
overflow_add-self c = omega (arith, index_within c.args.self.now c.self.inside.page.now.rows c.self.inside.index (sym (ap (λ (s : SweepView). s.kept) c.self.view_is)) c.requires, c.self.invariant.1)

pub invariant_of-self : goal.invariant_of-self
invariant_of-self c =
    let at = subst IsAtHand (sym c.self.view_is) c.requires in
    let within = index_within c.args.self.now c.self.inside.page.now.rows c.self.inside.index (sym (ap (λ (s : SweepView). s.kept) c.self.view_is)) c.requires in
    (omega (arith, within), c.self.invariant.1, sweep_behind _ c.self.inside.page.now.rows c.self.inside.index refl at c.self.invariant.2, c.self.invariant.3)

pub returns-clause-passed : goal.returns-clause-passed
returns-clause-passed c =
    let i = c.self.inside in
    let with_kept : List Record → SweepView = λ ks. record { reader = i.reader; tally = i.tally.now; first = i.first; low = i.low; high = i.high; limit = i.limit; given = i.given + 1; kept = ks; along = i.page.now.along; faulted = i.faulted } in
    ap with_kept (drop_behind i.page.now.rows i.index) ∙ ap passed c.self.view_is

pub returns-clause-is_sweep : goal.returns-clause-is_sweep
returns-clause-is_sweep c = sweep_behind _ c.self.inside.page.now.rows c.self.inside.index refl (subst IsAtHand (sym c.self.view_is) c.requires) c.self.invariant.2
