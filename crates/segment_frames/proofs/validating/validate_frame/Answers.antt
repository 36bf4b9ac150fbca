use Rattle.std.proofs.Common.{rules, ◌≡◌, ℕ, length, ap, subst, ◌∙◌}
use Rattle.key_slot.specs.Format.{format_of}
use Rattle.key_slot.specs.Segment.{IsSegment, segment_of}
use Rattle.segment_frames.proofs.Grouped.{segment_room}
use Rattle.segment_frames.proofs.ReadLaws.{decoded, reads_as, format_is}
use Rattle.segment_frames.proofs.validating.validate_frame.Goals as goal

pub bytes-page-requires : goal.bytes-page-requires
bytes-page-requires c = segment_room c.args.format c.args.f c.args.frames.now.journal c.args.frames.now.slots c.requires.frames.frames c.requires.within

pub validate_kept-requires : goal.validate_kept-requires
validate_kept-requires c = (format_is c.args.format c.bytes-page.result.now c.requires.format c.bytes-page.ensures.len).0

pub returns-in-Ok-clause-held : goal.returns-in-Ok-clause-held
returns-in-Ok-clause-held c =
    let page = c.bytes-page.result.now in
    let at : format_of page ≡ c.args.format = (format_is c.args.format page c.requires.format c.bytes-page.ensures.len).1 in
    decoded c.args.format c.args.frames.now.slots c.args.f (segment_of c.args.format page) page c.requires.format.least
    (segment_room c.args.format c.args.f c.args.frames.now.journal c.args.frames.now.slots c.requires.frames.frames c.requires.within)
    (subst (λ (k : ℕ). IsSegment k (segment_of k page) page) at c.in-Ok.ensures.sound) c.bytes-page.ensures.value c.bytes-page.ensures.slots

pub returns-in-Ok-clause-count : goal.returns-in-Ok-clause-count
returns-in-Ok-clause-count c =
    let page = c.bytes-page.result.now in
    let at : format_of page ≡ c.args.format = (format_is c.args.format page c.requires.format c.bytes-page.ensures.len).1 in
    ap length (reads_as c.args.format c.args.frames.now.slots c.args.f (segment_of c.args.format page) page (subst (λ (k : ℕ). IsSegment k (segment_of k page) page) at c.in-Ok.ensures.sound) c.bytes-page.ensures.value)
    ∙ subst (λ (k : ℕ). length (segment_of k page) ≡ c.args.kept) at c.in-Ok.ensures.count

pub returns-in-Err-clause-held : goal.returns-in-Err-clause-held
returns-in-Err-clause-held c = tt

pub returns-in-Err-clause-count : goal.returns-in-Err-clause-count
returns-in-Err-clause-count c = tt

pub returns-in-Err-clause-fault : goal.returns-in-Err-clause-fault
returns-in-Err-clause-fault c = search rules
