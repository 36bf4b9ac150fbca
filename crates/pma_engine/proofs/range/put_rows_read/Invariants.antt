use Rattle.std.proofs.Common.{◌≡◌, ◌<◌, ◌-◌, ◌++◌, List, []}
use Rattle.key_slot.specs.Record.{Record}
use Rattle.range_scan.specs.SweepView.{IsAtHand, IsSweep, validated}
use Rattle.pma_engine.specs.Ranging.{TakesAlong, row_text}
use Rattle.pma_engine.proofs.range.put_rows_read.Given as goal

abbrev pub invariant-loop-sweep : goal.invariant-loop-sweep
invariant-loop-sweep l = record {
  rows : List Record;
  text : l.buffer ≡ l.fn.buffer ++ row_text rows;
  takes : TakesAlong rows l.fn.sweep l.sweep;
  is_sweep : IsSweep l.sweep;
  begun : l.fn.buffer ≡ [] → IsAtHand l.fn.sweep → l.fn.sweep.given < l.sweep.given;
}

abbrev pub decreases-loop-sweep : goal.decreases-loop-sweep
decreases-loop-sweep l = l.sweep.reader.next - validated l.sweep
