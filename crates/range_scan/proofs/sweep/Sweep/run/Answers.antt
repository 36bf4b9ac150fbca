use Rattle.std.proofs.Common.{◌≡◌, ◌+◌, ◌-◌, ◌<◌, ℕ, List, length, sum, sym, ap, ◌∙◌, arith}
use Rattle.std.proofs.lemmas.List.Sums.{sum_by-take-le}
use Rattle.density_rule.specs.Windows.{count_in}
use Rattle.window_tally.proofs.ViewLaws.{records_fit}
use Rattle.range_scan.specs.SweepRuns.{due}
use Rattle.range_scan.specs.SweepView.{SweepView}
use Rattle.range_scan.proofs.Owing.{due_none, due_more, due_most}
use Rattle.range_scan.proofs.sweep.Sweep.run.Goals as goal
use Rattle.range_scan.proofs.sweep.Sweep.run.Goals.{After-kept_count-due, After-due_of_first-due}

next_is : (c : After-due_of_first-due) → c.next_number-next.result ≡ c.args.self.now.reader.next
next_is c = c.next_number-next.ensures.next ∙ ap (λ (x : SweepView). x.reader.next) c.self.view_is

pub loop-count-init : goal.loop-count-init
loop-count-init c =
    let here = (goal.at.loop-count-init c).After-due_of_first-due in
    let s = c.args.self.now in
    record {
      some = omega arith;
      few = c.allowed_run-most.ensures.run.some;
      due_is = c.due_of_first-due.ensures ∙ (λ i. due s (sym (next_is here) i) (sym (next_is here) i + 1));
      before = omega (arith, due_none s c.next_number-next.result, c.requires.wanting, ap (λ (x : SweepView). x.limit) c.self.view_is, ap (λ (x : SweepView). x.given) c.self.view_is);
    }

counts_is : (c : After-kept_count-due) → c.self.inside.tally.now.counts ≡ c.args.self.now.tally.counts
counts_is c = ap (λ (x : SweepView). x.tally.counts) c.self.view_is

-- the next one is a segment of the store
inside : (c : After-kept_count-due) → c.next_number-next.result + c.loop-count.count < length c.args.self.now.tally.counts
inside c =
    let end = ap (λ (x : SweepView). x.reader.end) c.self.view_is in
    omega (arith, c.loop-count-test.true, c.allowed_run-most.ensures.run.within, c.next_number-next.ensures.next, ap (λ (x : SweepView). x.reader.next) c.self.view_is, end, c.self.invariant.2.within, c.kept_count-due.ensures.tally.size, ap length (counts_is c))

-- the records of one more
more : (c : After-kept_count-due) → due c.args.self.now c.next_number-next.result (c.next_number-next.result + (c.loop-count.count + 1)) ≡ c.loop-count.due + c.kept_count-due.result
more c =
    let s = c.args.self.now in
    let next = c.next_number-next.result in
    let at = next + c.loop-count.count in
    let kept : c.kept_count-due.result ≡ count_in s.tally.counts 0 at = c.kept_count-due.ensures.count ∙ ap (λ (counts : List ℕ). count_in counts 0 at) (counts_is c) in
    let here : due s next (next + (c.loop-count.count + 1)) ≡ due s next (at + 1) = ap (due s next) {x = next + (c.loop-count.count + 1)} {y = at + 1} (omega arith) in
    omega (arith, here, due_more s next at (omega (arith, c.loop-count.invariant.some)) (inside c), c.loop-count.invariant.due_is, kept)

pub overflow_add-due : goal.overflow_add-due
overflow_add-due c =
    let here = (goal.at.overflow_add-due c).After-kept_count-due in
    let s = c.args.self.now in
    omega (arith, more here, due_most s c.next_number-next.result (c.next_number-next.result + (c.loop-count.count + 1)), sum_by-take-le (λ x. x) s.tally.counts (c.next_number-next.result + (c.loop-count.count + 1)), records_fit c.self.inside.tally.now c.kept_count-due.ensures.tally, ap sum (counts_is here))

pub loop-count-preserved : goal.loop-count-preserved
loop-count-preserved c =
    let here = (goal.at.loop-count-preserved c).After-kept_count-due in
    let s = c.args.self.now in
    let next = c.next_number-next.result in
    record {
      some = omega arith;
      few = omega (arith, c.loop-count-test.true);
      due_is = sym (more here);
      before = omega (arith, ap (due s next) {x = next + (c.loop-count.count + 1) - 1} {y = next + c.loop-count.count} (omega arith), c.loop-count.invariant.due_is, c.if-due-wanted.true);
    }
