use Rattle.std.proofs.Common.{ℕ, ◌+◌, ◌<◌, false, List, length, take, get_or, sym, ap, ◌∙◌, arith}
use Rattle.density_rule.specs.CountUpdates.{counts_after}
use Rattle.density_rule.specs.Marks.{Marks, updated_marks}
use Rattle.window_tally.specs.declared.Change.TheVariants.{Add}
use Rattle.window_tally.specs.Choice.{adds}
use Rattle.window_tally.specs.TallyView.{TallyView}
use Rattle.one_commit.specs.declared.changes.ItemChange.{ItemChange}
use Rattle.one_commit.specs.Fitting.{follows}
use Rattle.one_commit.specs.Editing.{counts_by, marks_by_changes}
use Rattle.one_commit.proofs.Prefixes.{counts_more, marks_more, follows_at}
use Rattle.one_commit.proofs.counting.count_changes.Goals as goal

abbrev none : ItemChange
none = record { segment = 0; change = Add; first = false }

pub count_change-requires-clause-follows : goal.count_change-requires-clause-follows
count_change-requires-clause-follows c =
    let cs = c.args.changes.now in
    let lt : c.loop-i.i < length cs = omega (arith, c.loop-i-test.true) in
    ap (λ (t : TallyView). follows t.height t.counts (get_or cs c.loop-i.i none)) c.loop-i.invariant.counted
    ∙ follows_at c.args.tally.now.height cs c.loop-i.i none c.args.tally.now.counts lt c.requires.within

pub loop-i-preserved : goal.loop-i-preserved
loop-i-preserved c =
    let cs = c.args.changes.now in
    let i = c.loop-i.i in
    let start = c.args.tally.now in
    let one = get_or cs i none in
    let lt : i < length cs = omega (arith, c.loop-i-test.true) in
    record {
      counted =
          c.count_change.ensures.counted
          ∙ ap (λ (t : TallyView). record t { counts = counts_after (adds one.change) t.counts one.segment; marks = updated_marks t.height one.segment t.marks }) c.loop-i.invariant.counted
          ∙ sym (ap (λ (l : List ℕ). record start { counts = l; marks = marks_by_changes start.height (take (i + 1) cs) start.marks }) (counts_more cs i none start.counts lt)
          ∙ ap (λ (m : Marks). record start { counts = counts_after (adds one.change) (counts_by (take i cs) start.counts) one.segment; marks = m }) (marks_more start.height cs i none start.marks lt));
      tally = c.count_change.ensures.tally;
      balanced = c.count_change.ensures.balanced;
      paid = omega (arith, c.count_change.ensures.paid, c.loop-i.invariant.paid);
    }
