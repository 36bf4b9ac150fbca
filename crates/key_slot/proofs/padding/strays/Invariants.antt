-- Nothing is gathered of the vectors so far where they are padded.
use Rattle.std.proofs.Common.{◌+◌, ◌*◌, ◌↔◌}
use Rattle.key_slot.specs.Padded.{AreZeros}
use Rattle.key_slot.specs.Masks.{AreNone}
use Rattle.key_slot.proofs.padding.strays.Given as goal

abbrev pub invariant-loop-i : goal.invariant-loop-i
invariant-loop-i l = AreNone l.all ↔ AreZeros l.slot (l.at + l.len) (l.at + 16 * l.i)
