use Rattle.std.proofs.Common.{ℕ, ◌+◌, ◌*◌, T, sym, subst, ap, ◌∙◌}
use Rattle.std.specs.List.{splice, list_all}
use Rattle.raw_slots.specs.Slots.{slots_in}
use Rattle.key_slot.specs.Record.{is_record}
use Rattle.key_slot.specs.Segment.{IsSegment}
use Rattle.header_gate.specs.Paged.{pages_of_all}
use Rattle.redo_journal.specs.Frames.{Batch}
use Rattle.redo_journal.proofs.Images.{written_front}
use Rattle.segment_frames.proofs.ReadLaws.{format_is}
use Rattle.pma_store.proofs.Rewriting.{one_run, image_front}
use Rattle.pma_store.proofs.commit.load_frame.Goals as goal
use Rattle.key_slot.specs.declared.sizes.TheConstants.{SEGMENT_SLOTS}

pub encode_into-requires-clause-format : goal.encode_into-requires-clause-format
encode_into-requires-clause-format c = (format_is c.args.format c.bytes_mut.result.now c.requires.format c.bytes_mut.ensures.len).0

pub encode_into-requires-clause-fits : goal.encode_into-requires-clause-fits
encode_into-requires-clause-fits c =
    subst (λ (f : ℕ). T (list_all (is_record f) c.args.rows.now)) (sym (format_is c.args.format c.bytes_mut.result.now c.requires.format c.bytes_mut.ensures.len).1) c.requires.fits

pub returns-clause-numbers : goal.returns-clause-numbers
returns-clause-numbers c = ap (λ (b : Batch). b.numbers) c.start_batch.ensures.after ∙ ap (pages_of_all c.args.format) (one_run c.args.segment)

pub returns-clause-image : goal.returns-clause-image
returns-clause-image c =
    let format = c.args.format in
    let written = c.encode_into.new.bytes in
    let own = SEGMENT_SLOTS * format in
    let slots = splice c.start_batch.new.frames.slots 0 (0 + own) (slots_in own written) in
    let long = c.encode_into.auto.bytes ∙ c.bytes_mut.ensures.len in
    record {
      bytes = written;
      is = subst (λ (f : ℕ). IsSegment f c.args.rows.now written) (format_is format c.bytes_mut.result.now c.requires.format c.bytes_mut.ensures.len).1 c.encode_into.ensures;
      same = λ o lt. image_front format slots o ∙ written_front c.start_batch.new.frames.slots own written long o lt;
    }
