-- The slots hold the rows, so the page is their segment.
use Rattle.std.proofs.Common.{◌≡◌, ◌∙◌, List, ap, sym, subst, arith, length}
use Rattle.key_slot.specs.Record.{Record}
use Rattle.key_slot.specs.Segment.{IsSegment}
use Rattle.key_slot.proofs.SegmentLaws.{segment_rows}
use Rattle.segment.specs.HeldSlots.{held_rows}
use Rattle.segment.proofs.SlotReading.{small_slot, chunk_size, chunks_are, chunks_count, held_len, rows_read}
use Rattle.segment.proofs.counting.count_page.Given.{Over}
use Rattle.segment.proofs.counting.count_page.Goals as goal

is_segment : (g : Over) (c : goal.In-Some g) → IsSegment g.F.SlotFormat.number (held_rows g.F.SlotFormat.number c.in-Some.count c.as_chunks.result.0.now) c.args.page.now
is_segment g c = rows_read g.F.SlotFormat.number c.args.page.now c.as_chunks.result.0.now c.in-Some.count c.requires (chunks_are g.F.SlotFormat.number g.row.SIZE c.args.page.now c.as_chunks.result.0.now g.met.F.SlotFormat.size c.as_chunks.ensures.front) c.in-Some.ensures

pub returns-in-Some-clause-sound : goal.returns-in-Some-clause-sound
returns-in-Some-clause-sound g c =
    let rows = held_rows g.F.SlotFormat.number c.in-Some.count c.as_chunks.result.0.now in
    subst (λ (es : List Record). IsSegment g.F.SlotFormat.number es c.args.page.now) (sym (segment_rows g.F.SlotFormat.number rows c.args.page.now (is_segment g c))) (is_segment g c)

pub returns-in-Some-clause-count : goal.returns-in-Some-clause-count
returns-in-Some-clause-count g c =
    let slots = c.as_chunks.result.0.now in
    let rows = held_rows g.F.SlotFormat.number c.in-Some.count c.as_chunks.result.0.now in
    ap length (segment_rows g.F.SlotFormat.number rows c.args.page.now (is_segment g c)) ∙ held_len g.F.SlotFormat.number slots c.in-Some.count (omega (arith, chunks_count g.F.SlotFormat.number g.row.SIZE c.args.page.now (length c.as_chunks.result.0.now) g.met.F.SlotFormat.is_format g.met.F.SlotFormat.size c.requires c.as_chunks.ensures.front_len, c.in-Some.ensures.most))

pub count_rows-requires : goal.count_rows-requires
count_rows-requires g c =
    let f = g.F.SlotFormat.number in
    let page = c.args.page.now in
    let chunks = c.as_chunks.result.0.now in
    let either = g.met.F.SlotFormat.is_format in
    let small = small_slot f g.row.SIZE either g.met.F.SlotFormat.size in
    let count : length c.as_chunks.result.0.now ≡ 64 = chunks_count f g.row.SIZE page (length chunks) either g.met.F.SlotFormat.size c.requires c.as_chunks.ensures.front_len in (
      omega (arith, small.1),
      (count, λ k lt. chunk_size f g.row.SIZE page chunks either g.met.F.SlotFormat.size c.requires c.as_chunks.ensures.front count k lt),
    )
