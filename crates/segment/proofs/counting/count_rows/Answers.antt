-- One row more, and nothing behind the last.
use Rattle.std.proofs.Common.{◌≡◌, ◌∙◌, ◌+◌, Some, ℕ, ◌-◌, ◌<◌, List, [], length, take, drop, get_or, subst, arith}
use Rattle.std.proofs.lemmas.List.{take_all, length-drop}
use Rattle.key_slot.specs.Format.{slot_size}
use Rattle.key_slot.specs.Fronts.{IsKeyNumber}
use Rattle.key_slot.specs.Record.{Bytes}
use Rattle.key_slot.specs.Slot.{IsSlot, fields_of}
use Rattle.key_slot.specs.Padded.{AreZeros}
use Rattle.segment.proofs.SlotReading.{row_more, rows_then_nothing}
use Rattle.segment.proofs.counting.count_rows.Goals as goal

pub returns-then-are_empty : goal.returns-then-are_empty
returns-then-are_empty g c =
    let slots = c.args.slots.now in
    let behind = drop c.loop-count.count slots in
    let all : take (length slots - c.loop-count.count) (drop c.loop-count.count slots) ≡ drop c.loop-count.count slots = take_all (length slots - c.loop-count.count) behind (omega (arith, length-drop c.loop-count.count slots)) in
    rows_then_nothing g.F.SlotFormat.number slots c.loop-count.count c.requires.count c.loop-count.invariant.most c.loop-count.invariant.ascending c.loop-count.invariant.each (λ k lt. c.requires.size k lt ∙ g.met.F.SlotFormat.size)
    (subst (λ (l : List Bytes). (k : ℕ) → k < length l → AreZeros (get_or l k []) 0 (slot_size g.F.SlotFormat.number)) all (subst (λ (n : ℕ). (k : ℕ) → k < length (take (length slots - c.loop-count.count) behind) → AreZeros (get_or (take (length slots - c.loop-count.count) behind) k []) 0 n) g.met.F.SlotFormat.size (c.are_empty.ensures.0 c.if-are_empty.true)))

pub loop-count-preserved : goal.loop-count-preserved
loop-count-preserved g c =
    let f = g.F.SlotFormat.number in
    let slots = c.args.slots.now in
    let count = c.loop-count.count in
    record {
      most = omega (arith, c.loop-count-test.true);
      ascending = c.in-Some.ensures.ascending;
      each = row_more f slots count c.loop-count.invariant.each c.in-Some.ensures.ok;
      last = λ some. subst (λ (k : ℕ). IsSlot g.F.SlotFormat.number (Some (fields_of g.F.SlotFormat.number (get_or c.args.slots.now k []))) (get_or c.args.slots.now k [])) {x = c.loop-count.count} {y = c.loop-count.count + 1 - 1} (omega arith) c.in-Some.ensures.last;
      number = λ some. subst (λ (k : ℕ). IsKeyNumber c.in-Some.number (get_or c.args.slots.now k [])) {x = c.loop-count.count} {y = c.loop-count.count + 1 - 1} (omega arith) c.in-Some.ensures.number;
    }
