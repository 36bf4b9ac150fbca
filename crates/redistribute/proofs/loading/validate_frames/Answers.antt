use Rattle.std.proofs.Common.{rules, arith, suc, length, ap, ◌∙◌}
use Rattle.header_gate.proofs.PagedSegments.{length-pages_of_all}
use Rattle.key_slot.proofs.SegmentLaws.{times_up}
use Rattle.segment_frames.specs.Lists.{segments_in}
use Rattle.segment_frames.proofs.FrameLaws.{rows_in_at}
use Rattle.segment_frames.proofs.ReadLaws.{all_held}
use Rattle.redistribute.proofs.BatchLaws.{numbers_above}
use Rattle.redistribute.proofs.loading.validate_frames.Goals as goal

pub overflow_sub-segment : goal.overflow_sub-segment
overflow_sub-segment g c =
    let above = numbers_above c.args.runs c.args.first (length (g.P.Plan.plan c.args.plan.now).counts) c.requires.within c.loop-f.f (omega (arith, c.loop-f-test.true, c.count-f-end.ensures.count)) in
    omega (arith, above.0, c.segment-segment.ensures.segment)

pub records_in-requires : goal.records_in-requires
records_in-requires g c =
    let above = numbers_above c.args.runs c.args.first (length (g.P.Plan.plan c.args.plan.now).counts) c.requires.within c.loop-f.f (omega (arith, c.loop-f-test.true, c.count-f-end.ensures.count)) in
    omega (arith, above.0, above.1, c.segment-segment.ensures.segment)

pub returns-clause-held : goal.returns-clause-held
returns-clause-held g c = all_held c.args.format c.args.frames.now c.requires.format c.requires.frames c.requires.pages (λ f lt. c.loop-f.invariant.held f (omega (arith, lt, ap length c.requires.numbers, c.count-f-end.ensures.count)))

pub returns-clause-counts : goal.returns-clause-counts
returns-clause-counts g c f lt =
    let b = c.args.frames.now in
    ap length (rows_in_at c.args.format (length (segments_in c.args.format b.numbers)) b.slots f lt) ∙ c.loop-f.invariant.counts f (omega (arith, lt, ap length c.requires.numbers, c.count-f-end.ensures.count))

pub loop-f-init : goal.loop-f-init
loop-f-init g c = search rules

pub validate_frame-requires-clause-within : goal.validate_frame-requires-clause-within
validate_frame-requires-clause-within g c =
    let b = c.args.frames.now in
    let format = c.args.format in
    let n = length (segments_in format b.numbers) in
    omega (
      arith,
      c.requires.frames.few,
      ap length c.requires.pages,
      length-pages_of_all format (segments_in format b.numbers),
      times_up format (suc c.loop-f.f) n (omega (arith, c.loop-f-test.true, ap length c.requires.numbers, c.count-f-end.ensures.count)),
    )
