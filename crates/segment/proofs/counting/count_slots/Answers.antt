-- Each slot adds its record, or is the first bad one.
use Rattle.std.proofs.Common.{◌≡◌, ◌∙◌, true, List, ap, sym, subst, arith, length}
use Rattle.key_slot.specs.Record.{Record}
use Rattle.key_slot.specs.Slot.{slot_of}
use Rattle.key_slot.specs.Segment.{IsSegment}
use Rattle.key_slot.proofs.SegmentLaws.{segment_rows}
use Rattle.segment.specs.HeldSlots.{held_rows}
use Rattle.segment.specs.SlotReading.{is_bad_next, HoldsNext}
use Rattle.segment.proofs.SlotReading.{chunks_are, chunks_count, no_slots, one_more_slot, first_bad_next, chunk_of, all_read, held_len}
use Rattle.segment.proofs.counting.count_slots.Given.{Over}
use Rattle.segment.proofs.counting.count_slots.Goals as goal

pub loop-i-init : goal.loop-i-init
loop-i-init g c = record { holds = no_slots g.F.SlotFormat.number c.args.page.now; most = omega arith; last = λ some. absurd (omega arith) }

pub returns-in-Err-clause-bad : goal.returns-in-Err-clause-bad
returns-in-Err-clause-bad g c =
    let rows = held_rows g.F.SlotFormat.number c.loop-i.count c.as_chunks.result.0.now in
    first_bad_next g.F.SlotFormat.number c.args.page.now c.loop-i.i rows c.loop-i-test.true c.loop-i.invariant.holds
    (subst (λ slot. is_bad_next rows c.loop-i.i (slot_of g.F.SlotFormat.number slot) ≡ true) (chunk_of g.F.SlotFormat.number c.args.page.now c.as_chunks.result.0.now c.loop-i.i c.requires (chunks_are g.F.SlotFormat.number g.row.SIZE c.args.page.now c.as_chunks.result.0.now g.met.F.SlotFormat.size c.as_chunks.ensures.front) c.loop-i-test.true) c.in-Err.ensures.bad)

pub loop-i-preserved : goal.loop-i-preserved
loop-i-preserved g c =
    let rows = held_rows g.F.SlotFormat.number c.loop-i.count c.as_chunks.result.0.now in
    let new = held_rows g.F.SlotFormat.number c.in-Ok.more c.as_chunks.result.0.now in
    record {
      holds = one_more_slot g.F.SlotFormat.number c.args.page.now c.loop-i.i rows new c.loop-i.invariant.holds c.in-Ok.ensures.ascending (subst (λ slot. HoldsNext rows c.loop-i.i (slot_of g.F.SlotFormat.number slot) new) (chunk_of g.F.SlotFormat.number c.args.page.now c.as_chunks.result.0.now c.loop-i.i c.requires (chunks_are g.F.SlotFormat.number g.row.SIZE c.args.page.now c.as_chunks.result.0.now g.met.F.SlotFormat.size c.as_chunks.ensures.front) c.loop-i-test.true) c.in-Ok.ensures.ok);
      most = c.in-Ok.ensures.most;
      last = c.in-Ok.ensures.last;
    }

pub overflow_cast-result-2 : goal.overflow_cast-result-2
overflow_cast-result-2 g c = omega (arith, c.loop-i.invariant.most, c.loop-i.auto.i-end)

-- all slots are read
is_segment : (g : Over) (c : goal.After-loop-i g) → IsSegment g.F.SlotFormat.number (held_rows g.F.SlotFormat.number c.loop-i.count c.as_chunks.result.0.now) c.args.page.now
is_segment g c = all_read g.F.SlotFormat.number (held_rows g.F.SlotFormat.number c.loop-i.count c.as_chunks.result.0.now) c.args.page.now c.loop-i.i c.loop-i.invariant.holds c.requires (omega (arith, c.loop-i-test.false, c.loop-i.auto.i-end))

pub returns-clause-sound : goal.returns-clause-sound
returns-clause-sound g c =
    let rows = held_rows g.F.SlotFormat.number c.loop-i.count c.as_chunks.result.0.now in
    subst (λ (es : List Record). IsSegment g.F.SlotFormat.number es c.args.page.now) (sym (segment_rows g.F.SlotFormat.number rows c.args.page.now (is_segment g c))) (is_segment g c)

pub returns-clause-count : goal.returns-clause-count
returns-clause-count g c =
    let slots = c.as_chunks.result.0.now in
    let rows = held_rows g.F.SlotFormat.number c.loop-i.count c.as_chunks.result.0.now in
    ap length (segment_rows g.F.SlotFormat.number rows c.args.page.now (is_segment g c)) ∙ held_len g.F.SlotFormat.number slots c.loop-i.count (omega (arith, chunks_count g.F.SlotFormat.number g.row.SIZE c.args.page.now (length c.as_chunks.result.0.now) g.met.F.SlotFormat.is_format g.met.F.SlotFormat.size c.requires c.as_chunks.ensures.front_len, c.loop-i.invariant.most, c.loop-i.auto.i-end))
