-- The slots so far hold rows.
use Rattle.std.proofs.Common.{◌≡◌, ℕ, ◌-◌, ◌<◌, ◌≤◌, [], get_or, slice_get, Some}
use Rattle.key_slot.specs.Fronts.{IsKeyNumber}
use Rattle.key_slot.specs.Record.{IsAscending}
use Rattle.key_slot.specs.Slot.{IsSlot, fields_of, slot_of}
use Rattle.segment.specs.HeldSlots.{held_rows}
use Rattle.segment.proofs.counting.count_rows.Given as goal

abbrev pub invariant-loop-count : goal.invariant-loop-count
invariant-loop-count g l = record {
  most : l.count ≤ 64;
  ascending : IsAscending (held_rows g.F.SlotFormat.number l.count l.slots);
  each : (k : ℕ) → k < l.count → slot_of g.F.SlotFormat.number (get_or l.slots k []) ≡ Some (slice_get (held_rows g.F.SlotFormat.number l.count l.slots) k);
  last : 0 < l.count → IsSlot g.F.SlotFormat.number (Some (fields_of g.F.SlotFormat.number (get_or l.slots (l.count - 1) []))) (get_or l.slots (l.count - 1) []);
  number : 0 < l.count → IsKeyNumber l.last (get_or l.slots (l.count - 1) []);
}

abbrev pub decreases-loop-count : goal.decreases-loop-count
decreases-loop-count g l = 64 - l.count
