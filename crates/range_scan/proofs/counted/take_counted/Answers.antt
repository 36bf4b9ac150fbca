use Rattle.std.proofs.Common.{◌-◌, length, sym, ap, ◌∙◌}
use Rattle.density_rule.specs.Windows.{count_in}
use Rattle.key_slot.proofs.SegmentLaws.{segment_rows}
use Rattle.range_scan.specs.Running.{taken_page}
use Rattle.range_scan.proofs.counted.take_counted.Goals as goal

pub returns-in-Err-clause-damaged : goal.returns-in-Err-clause-damaged
returns-in-Err-clause-damaged g c told fine count =
    let page = taken_page c.args.reader.now c.args.page.now.along (g.S.Station.view c.args.station.now).held in
    let rows = segment_rows c.args.reader.now.layout.format c.next_of_run.new.page.rows page (c.in_ok-next_of_run.ensures.segment c.if-not-branch.false told) in
    absurd (c.in-Err.ensures.other
    (c.len.ensures.len ∙ ap length c.rows.ensures ∙ ap length (sym rows) ∙ count ∙ (λ i. count_in c.args.tally.now.counts 0 (sym c.next_number.ensures.next i - sym c.along.ensures i)) ∙ sym c.kept_count-kept.ensures.count))
