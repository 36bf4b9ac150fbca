-- A row above the last one, by the number of its key or by the whole key.
use Rattle.std.proofs.Common.{◌-◌, ◌≡◌, true, refl, sym, ap, ◌∙◌, arith, [], get_or, subst, Some}
use Rattle.std.specs.Ordering.{is_lt}
use Rattle.key_slot.specs.Fronts.{IsKeyNumber}
use Rattle.key_slot.specs.Record.{Bytes, key_cmp}
use Rattle.key_slot.specs.Ordered.{all_below}
use Rattle.key_slot.specs.Slot.{IsSlot, fields_of, slot_of}
use Rattle.key_slot.proofs.SlotLaws.{slot_by_reading, record_held}
use Rattle.key_slot.proofs.KeyOrder.{numbers_below}
use Rattle.segment.specs.HeldSlots.{held_rows}
use Rattle.segment.proofs.SlotReading.{below_by_last, none_below, next_here, ascending_here, kept_slot, compared, slot_as_read, read_as_slot, small_slot, key_room_16}
use Rattle.segment.proofs.counting.next_row.Given.{Over}
use Rattle.segment.proofs.counting.next_row.Goals as goal
use Rattle.segment.proofs.counting.next_row.Goals.{else-i-gt0-via-then-i-gt0+then-number-last+else-not-is_below, else-i-gt0-via-then-i-gt0+else-number-last, else-i-gt0-via-else-i-gt0}

pub is_below-requires : goal.is_below-requires
is_below-requires g c =
    let f = g.F.SlotFormat.number in
    let slots = c.args.slots.now in
    let i = c.args.i in
    let small = small_slot f g.row.SIZE g.met.F.SlotFormat.is_format g.met.F.SlotFormat.size in
    let before : c.index-slots-i-then-number-last.result ≡ get_or c.args.slots.now (c.args.i - 1) [] = kept_slot f slots (i - 1) c.index-slots-i-then-number-last.result c.index-slots-i-then-number-last.is (omega (arith, c.requires.within)) in (
      omega (arith, small.1),
      (
        slot_as_read f slots (i - 1) c.index-slots-i-then-number-last.result before (c.requires.last c.if-i-gt0.true),
        slot_by_reading f (Some (fields_of f c.index-slots-i.result)) c.index-slots-i.result (record_held f c.index-slots-i.result c.in-Ok-true.field-0 c.in-Ok-true.ensures.read c.in-Ok-true.field-0-test),
      ),
    )

-- the slot that was read
here_is : (g : Over) (c : goal.Joined-else-i-gt0 g) → c.index-slots-i.result ≡ get_or c.args.slots.now c.args.i []
here_is g c = kept_slot g.F.SlotFormat.number c.args.slots.now c.args.i c.index-slots-i.result c.index-slots-i.is c.requires.within

reads : (g : Over) (c : goal.Joined-else-i-gt0 g) → slot_of g.F.SlotFormat.number (get_or c.args.slots.now c.args.i []) ≡ Some (Some (fields_of g.F.SlotFormat.number (get_or c.args.slots.now c.args.i [])))
reads g c = read_as_slot g.F.SlotFormat.number c.args.slots.now c.args.i c.index-slots-i.result (here_is g c) (record_held g.F.SlotFormat.number c.index-slots-i.result c.in-Ok-true.field-0 c.in-Ok-true.ensures.read c.in-Ok-true.field-0-test)

is_slot : (g : Over) (c : goal.Joined-else-i-gt0 g) → IsSlot g.F.SlotFormat.number (Some (fields_of g.F.SlotFormat.number (get_or c.args.slots.now c.args.i []))) (get_or c.args.slots.now c.args.i [])
is_slot g c =
    let slot = get_or c.args.slots.now c.args.i [] in
    slot_by_reading g.F.SlotFormat.number (Some (fields_of g.F.SlotFormat.number slot)) slot (reads g c)

-- the number is that of the slot's key
numbered : (g : Over) (c : goal.Joined-else-i-gt0 g) → IsKeyNumber c.key_number-number.result (get_or c.args.slots.now c.args.i [])
numbered g c = subst (λ (slot : Bytes). IsKeyNumber c.key_number-number.result slot) (here_is g c) c.key_number-number.ensures

-- all keys before it are below
below : (g : Over) (c : goal.Joined-else-i-gt0 g) → all_below key_cmp (fields_of g.F.SlotFormat.number (get_or c.args.slots.now c.args.i [])).0 (held_rows g.F.SlotFormat.number c.args.i c.args.slots.now) ≡ true
below g c =
    let f = g.F.SlotFormat.number in
    let slots = c.args.slots.now in
    let i = c.args.i in
    elim c.else-i-gt0.branch [
      | else-i-gt0-via-then-i-gt0+then-number-last+else-not-is_below w ↦
          sym (below_by_last f slots i i c.requires.within refl c.requires.ascending w.if-i-gt0.true)
          ∙ compared f slots i w.index-slots-i-then-number-last.result c.index-slots-i.result
          (kept_slot f slots (i - 1) w.index-slots-i-then-number-last.result w.index-slots-i-then-number-last.is (omega (arith, c.requires.within))) (here_is g c)
          ∙ sym w.is_below.ensures ∙ w.if-not-is_below.false
      | else-i-gt0-via-then-i-gt0+else-number-last w ↦
          sym (below_by_last f slots i i c.requires.within refl c.requires.ascending w.if-i-gt0.true)
          ∙ ap is_lt (numbers_below f (get_or slots (i - 1) []) (get_or slots i []) (c.requires.last w.if-i-gt0.true) (is_slot g c) (key_room_16 f g.met.F.SlotFormat.is_format) c.args.last c.key_number-number.result (c.requires.number w.if-i-gt0.true) (numbered g c) w.if-number-last.false)
      | else-i-gt0-via-else-i-gt0 w ↦ none_below f slots i i c.requires.within refl c.requires.ascending (omega (arith, w.if-i-gt0.false))
    ]

pub returns-clause-ok : goal.returns-clause-ok
returns-clause-ok g c = next_here g.F.SlotFormat.number c.args.slots.now c.args.i c.args.i c.requires.within refl c.requires.ascending (below g c) (reads g c)

pub returns-clause-ascending : goal.returns-clause-ascending
returns-clause-ascending g c = ascending_here g.F.SlotFormat.number c.args.slots.now c.args.i c.args.i c.requires.within refl c.requires.ascending (below g c)

pub returns-clause-last : goal.returns-clause-last
returns-clause-last g c = is_slot g c

pub returns-clause-number : goal.returns-clause-number
returns-clause-number g c = numbered g c
