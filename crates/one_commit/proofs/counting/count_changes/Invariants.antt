use Rattle.std.proofs.Common.{◌≡◌, ◌+◌, ◌*◌, ◌≤◌, take}
use Rattle.cost_ledger.specs.Potential.{potential_of}
use Rattle.density_rule.specs.Windows.{IsBalanced}
use Rattle.window_tally.specs.TallyView.{IsTally}
use Rattle.one_commit.specs.Editing.{counts_by, marks_by_changes}
use Rattle.one_commit.proofs.counting.count_changes.Given as goal

abbrev pub invariant-loop-i : goal.invariant-loop-i
invariant-loop-i l = record {
  counted : l.tally ≡ record l.fn.tally { counts = counts_by (take l.i l.changes) l.fn.tally.counts; marks = marks_by_changes l.fn.tally.height (take l.i l.changes) l.fn.tally.marks };
  tally : IsTally l.tally;
  balanced : IsBalanced l.tally.height l.tally.counts;
  paid : potential_of l.tally ≤ potential_of l.fn.tally + 512 * l.i;
}
