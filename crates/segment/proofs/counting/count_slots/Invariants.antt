-- The slots so far hold the rows so far.
use Rattle.std.proofs.Common.{◌-◌, ◌<◌, ◌≤◌, [], get_or, Some}
use Rattle.key_slot.specs.Slot.{IsSlot, fields_of}
use Rattle.segment.specs.HeldSlots.{held_rows}
use Rattle.segment.proofs.SlotReading.{HoldsSlots}
use Rattle.segment.proofs.counting.count_slots.Given as goal

abbrev pub invariant-loop-i : goal.invariant-loop-i
invariant-loop-i g l = record { holds : HoldsSlots g.F.SlotFormat.number l.page l.i (held_rows g.F.SlotFormat.number l.count l.slots); most : l.count ≤ l.i; last : 0 < l.count → IsSlot g.F.SlotFormat.number (Some (fields_of g.F.SlotFormat.number (get_or l.slots (l.count - 1) []))) (get_or l.slots (l.count - 1) []) }
