-- The slot at the place holds its record.
use Rattle.std.proofs.Common.{◌∙◌, sym, ap, Some}
use Rattle.key_slot.specs.Format.{narrow, wide}
use Rattle.segment.proofs.Cases.{format_narrow, format_wide, other_length}
use Rattle.segment.proofs.Viewed.{slot_holds, row_is}
use Rattle.segment.proofs.segment_view.SegmentView.slot.Goals as goal

pub narrow_fields-requires : goal.narrow_fields-requires
narrow_fields-requires c = slot_holds c.self.inside.bytes.now c.self.inside.len c.self.invariant c.args.self.now c.self.view_is narrow c.if-bytes-eq-SEGMENT_SIZE.true (format_narrow c.self.inside.bytes.now c.if-bytes-eq-SEGMENT_SIZE.true) c.as_chunks.result.0.now c.as_chunks.ensures.front c.args.i c.requires

pub returns-then-bytes-eq-SEGMENT_SIZE-clause-row : goal.returns-then-bytes-eq-SEGMENT_SIZE-clause-row
returns-then-bytes-eq-SEGMENT_SIZE-clause-row c = row_is c.self.inside.bytes.now c.self.inside.len c.self.invariant c.args.self.now c.self.view_is narrow c.if-bytes-eq-SEGMENT_SIZE.true (format_narrow c.self.inside.bytes.now c.if-bytes-eq-SEGMENT_SIZE.true) c.as_chunks.result.0.now c.as_chunks.ensures.front c.args.i c.requires ∙ ap (λ r. Some r) (sym c.narrow_fields.ensures.row)

pub wide_fields-requires : goal.wide_fields-requires
wide_fields-requires c = slot_holds c.self.inside.bytes.now c.self.inside.len c.self.invariant c.args.self.now c.self.view_is wide (other_length c.self.inside.bytes.now c.self.invariant.format c.if-bytes-eq-SEGMENT_SIZE.false) (format_wide c.self.inside.bytes.now (other_length c.self.inside.bytes.now c.self.invariant.format c.if-bytes-eq-SEGMENT_SIZE.false)) c.as_chunks-else-bytes-eq-SEGMENT_SIZE.result.0.now c.as_chunks-else-bytes-eq-SEGMENT_SIZE.ensures.front c.args.i c.requires

pub returns-else-bytes-eq-SEGMENT_SIZE-clause-row : goal.returns-else-bytes-eq-SEGMENT_SIZE-clause-row
returns-else-bytes-eq-SEGMENT_SIZE-clause-row c = row_is c.self.inside.bytes.now c.self.inside.len c.self.invariant c.args.self.now c.self.view_is wide (other_length c.self.inside.bytes.now c.self.invariant.format c.if-bytes-eq-SEGMENT_SIZE.false) (format_wide c.self.inside.bytes.now (other_length c.self.inside.bytes.now c.self.invariant.format c.if-bytes-eq-SEGMENT_SIZE.false)) c.as_chunks-else-bytes-eq-SEGMENT_SIZE.result.0.now c.as_chunks-else-bytes-eq-SEGMENT_SIZE.ensures.front c.args.i c.requires ∙ ap (λ r. Some r) (sym c.wide_fields.ensures.row)
