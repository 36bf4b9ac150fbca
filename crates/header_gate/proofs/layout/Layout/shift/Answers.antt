use Rattle.std.proofs.Common.{ap, sym, arith}
use Rattle.header_gate.specs.Places.{journal_shift}
use Rattle.header_gate.proofs.Shifts.{shift_second, shift_single, shift_other}
use Rattle.header_gate.proofs.layout.Layout.shift.Goals as goal
use Rattle.header_gate.proofs.layout.Layout.shift.Goals.{else-self-eq-PAIRED-via-then-self-eq-PAIRED+else-turn-eq1, else-self-eq-PAIRED-via-else-self-eq-PAIRED}

pub returns-then-turn-eq1-clause-shift : goal.returns-then-turn-eq1-clause-shift
returns-then-turn-eq1-clause-shift c =
    let l = c.args.self.now in
    let second = shift_second l c.if-self-eq-PAIRED.true in
    omega (arith, c.table_size.ensures, second, ap (journal_shift l) c.if-turn-eq1.true)

pub returns-else-self-eq-PAIRED-clause-shift : goal.returns-else-self-eq-PAIRED-clause-shift
returns-else-self-eq-PAIRED-clause-shift c = sym (elim c.else-self-eq-PAIRED.branch [
  | else-self-eq-PAIRED-via-then-self-eq-PAIRED+else-turn-eq1 w ↦ shift_other c.args.self.now c.args.turn w.if-turn-eq1.false
  | else-self-eq-PAIRED-via-else-self-eq-PAIRED w ↦ shift_single c.args.self.now c.args.turn w.if-self-eq-PAIRED.false
])
