use Rattle.std.proofs.Common.{◌+◌, ◌^◌, List, T, sym, subst, arith}
use Rattle.std.proofs.Math.Pow.{pow_mono}
use Rattle.std.specs.List.{list_all}
use Rattle.header_gate.specs.Places.{height_limit}
use Rattle.header_gate.proofs.PagedSegments.{pages_fit}
use Rattle.key_slot.specs.Record.{Record, is_record}
use Rattle.key_slot.proofs.SegmentLaws.{times_up}
use Rattle.pma_store.proofs.BatchScanLaws.{own_fits, loads_more}
use Rattle.pma_store.proofs.batch_scan.BatchScan.load_edits.Goals as goal

pub load_segment-requires-clause-small : goal.load_segment-requires-clause-small
load_segment-requires-clause-small c =
    let l = c.args.search.now.place.now.layout in
    omega (
      arith,
      times_up l.format (c.args.segment + 1) (2 ^ height_limit l) (omega (arith, c.requires.may.within)),
      pages_fit l.hmax l.format (height_limit l) c.requires.may.layout.format (omega arith),
      pow_mono {i = l.hmax} {j = 16} c.requires.may.layout.hmax,
    )

pub load_segment-requires-clause-fits : goal.load_segment-requires-clause-fits
load_segment-requires-clause-fits c =
    subst (λ (own : List Record). T (list_all (is_record c.args.search.now.place.now.layout.format) own)) (sym (c.edit_items.ensures.rows c.if-not-edit_items.false))
    (own_fits c.args.search.now.place.now.layout.format c.args.segment c.args.search.now.segments.now c.args.search.now.intent.now c.args.rows.now c.requires.may.room c.requires.may.fits)

pub returns-clause-loaded : goal.returns-clause-loaded
returns-clause-loaded c =
    loads_more c.args.search.now.place.now.layout.format c.args.segment c.edit_items.new.rows c.args.frames.now c.load_segment.new.frames c.args.self.now c.requires.may.loaded (omega arith) (omega (arith, c.if-f-ge-MOST.false))
    (c.lacks_fence.ensures.has c.if-lacks_fence.false) c.load_segment.ensures.fitted c.load_segment.ensures.held (record { numbers_are = c.load_segment.ensures.numbers; lists_are = c.load_segment.ensures.lists })
