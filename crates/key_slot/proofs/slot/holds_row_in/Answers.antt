-- Bytes that don't begin with 1 are the empty slot or no slot.
use Rattle.std.proofs.Common.{ℕ, sym, ap, ◌∙◌, arith, replicate}
use mathlib.Core.Bool.{true≢false}
use Rattle.key_slot.proofs.SlotBytes.{nothing_reads, other_reads}
use Rattle.key_slot.proofs.slot.holds_row_in.Goals as goal

pub returns-then-is_zeros-clause-read : goal.returns-then-is_zeros-clause-read
returns-then-is_zeros-clause-read g c = sym (nothing_reads g.row.FORMAT c.args.slot.now (c.is_zeros.ensures.0 c.if-is_zeros.true ∙ ap (λ (n : ℕ). replicate n 0) c.requires.size))

pub returns-else-is_zeros-clause-bad : goal.returns-else-is_zeros-clause-bad
returns-else-is_zeros-clause-bad g c = sym (other_reads g.row.FORMAT c.args.slot.now (λ e. omega (arith, c.if-slot-eq-RECORD.false)) (λ is. true≢false (sym (c.is_zeros.ensures.1 (is ∙ sym (ap (λ (n : ℕ). replicate n 0) c.requires.size))) ∙ c.if-is_zeros.false)))
