use Rattle.std.proofs.Common.{◌++◌, [], List, ℕ, sym, ap, ◌∙◌, append_assoc, arith}
use Rattle.pma_engine.specs.Ranging.{TakesAlong, row_text}
use Rattle.pma_engine.proofs.Buffers.{row_text-append}
use Rattle.pma_engine.proofs.Ranging.{along_takes, along_turns, along_on}
use Rattle.pma_engine.proofs.range.put_rows_read.Goals as goal

pub loop-sweep-preserved : goal.loop-sweep-preserved
loop-sweep-preserved c =
    let here = c.loop-sweep.invariant in
    let turned : TakesAlong [] c.loop-sweep.sweep c.advance_with_room.new.sweep = along_turns c.advance_with_room.ensures.turned in
    let more = c.put_rows_at_hand-in-loop-sweep.ensures.rows in
    let start = c.args.buffer.now in
    record {
      rows = here.rows ++ more.0;
      text =
          more.1
          ∙ ap (λ (l : List ℕ). l ++ row_text more.0) here.text
          ∙ append_assoc start (row_text here.rows) (row_text more.0)
          ∙ ap (λ (l : List ℕ). start ++ l) (sym (row_text-append here.rows more.0));
      takes = along_on here.rows more.0 here.takes (along_on [] more.0 turned (along_takes more.2));
      is_sweep = c.put_rows_at_hand-in-loop-sweep.ensures.is_sweep;
      begun = λ empty hand. omega (arith, here.begun empty hand, turned.count, more.2.count);
    }
