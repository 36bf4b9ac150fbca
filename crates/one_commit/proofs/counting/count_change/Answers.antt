use Rattle.std.proofs.Common.{◌+◌, ◌≤◌, ap, subst, sym, ◌∙◌, arith}
use Rattle.cost_ledger.specs.Potential.{potential_of}
use Rattle.density_rule.specs.Marks.{updated_marks}
use Rattle.density_rule.specs.CountUpdates.{counts_after}
use Rattle.density_rule.specs.Windows.{IsBalanced}
use Rattle.window_tally.specs.declared.Change.{Change}
use Rattle.window_tally.specs.Choice.{adds}
use Rattle.window_tally.specs.TallyView.{TallyView}
use Rattle.one_commit.specs.declared.changes.ItemChange.{ItemChange}
use Rattle.one_commit.proofs.Prefixes.{room_for}
use Rattle.one_commit.proofs.Paying.{change_balances, change_pays}
use Rattle.one_commit.proofs.counting.count_change.Goals as goal

-- the tally after a change
abbrev after : TallyView → ItemChange → Change → TallyView
after t c change = record t { counts = counts_after (adds change) t.counts c.segment; marks = updated_marks t.height c.segment t.marks }

pub add-requires-clause-room : goal.add-requires-clause-room
add-requires-clause-room c = room_for c.args.tally.now.height c.args.tally.now.counts c.args.change (omega (arith, c.requires.in_store, c.requires.tally.size)) c.requires.follows c.in-Add.is

pub returns-in-Add-clause-balanced : goal.returns-in-Add-clause-balanced
returns-in-Add-clause-balanced c =
    subst (λ (t : TallyView). IsBalanced t.height t.counts) (sym (c.add.ensures.after ∙ ap (after c.args.tally.now c.args.change) (sym c.in-Add.is)))
    (change_balances c.args.tally.now c.args.change c.requires.tally c.requires.balanced c.requires.in_store c.requires.follows)

pub returns-in-Add-clause-paid : goal.returns-in-Add-clause-paid
returns-in-Add-clause-paid c =
    subst (λ (t : TallyView). potential_of t ≤ potential_of c.args.tally.now + 512) (sym (c.add.ensures.after ∙ ap (after c.args.tally.now c.args.change) (sym c.in-Add.is)))
    (change_pays c.args.tally.now c.args.change c.requires.tally c.requires.balanced c.requires.in_store c.requires.follows)

pub returns-in-Take-clause-balanced : goal.returns-in-Take-clause-balanced
returns-in-Take-clause-balanced c =
    subst (λ (t : TallyView). IsBalanced t.height t.counts) (sym (c.take.ensures.after ∙ ap (after c.args.tally.now c.args.change) (sym c.in-Take.is)))
    (change_balances c.args.tally.now c.args.change c.requires.tally c.requires.balanced c.requires.in_store c.requires.follows)

pub returns-in-Take-clause-paid : goal.returns-in-Take-clause-paid
returns-in-Take-clause-paid c =
    subst (λ (t : TallyView). potential_of t ≤ potential_of c.args.tally.now + 512) (sym (c.take.ensures.after ∙ ap (after c.args.tally.now c.args.change) (sym c.in-Take.is)))
    (change_pays c.args.tally.now c.args.change c.requires.tally c.requires.balanced c.requires.in_store c.requires.follows)
