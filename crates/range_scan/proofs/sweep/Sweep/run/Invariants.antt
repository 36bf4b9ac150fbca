use Rattle.std.proofs.Common.{◌≡◌, ◌+◌, ◌-◌, ◌<◌, ◌≤◌}
use Rattle.range_scan.specs.SweepRuns.{due}
use Rattle.range_scan.proofs.sweep.Sweep.run.Given as goal

abbrev pub invariant-loop-count : goal.invariant-loop-count
invariant-loop-count l = record {
  some : 1 ≤ l.count;
  few : l.count ≤ l.most;
  due_is : l.due ≡ due l.fn.self l.next (l.next + l.count);
  before : due l.fn.self l.next (l.next + l.count - 1) < l.wanted;
}

abbrev pub decreases-loop-count : goal.decreases-loop-count
decreases-loop-count l = l.most - l.count
