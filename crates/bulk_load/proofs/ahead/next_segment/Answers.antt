use Rattle.std.proofs.Common.{ℕ, length, sym, ap, ◌∙◌}
use Rattle.std.proofs.lemmas.Result.{err_from_is_err_and}
use Rattle.density_rule.specs.Windows.{count_in}
use Rattle.key_slot.proofs.SegmentLaws.{segment_rows}
use Rattle.range_scan.specs.RegionReading.{next_page}
use Rattle.bulk_load.proofs.ahead.next_segment.Goals as goal

pub returns-in_err-validate_count-clause-damaged : goal.returns-in_err-validate_count-clause-damaged
returns-in_err-validate_count-clause-damaged g c =
    let p = err_from_is_err_and c.from_residual-in_err-validate_count.result c.from_residual-in_err-validate_count.ensures.1 in
    rw (p.1, p.2) (λ told fine count. let page = next_page c.args.reader.now (g.S.Station.view c.args.station.now).held in let rows = segment_rows c.args.reader.now.layout.format c.read_next.new.page.rows page (c.in_ok-more.ensures.segment c.if-not-more.false told) in absurd (c.in_err-validate_count.ensures.other
    (c.len.ensures.len ∙ ap length c.rows.ensures ∙ ap length (sym rows) ∙ count ∙ ap (λ (i : ℕ). count_in c.args.tally.now.counts 0 i) (sym c.requires.number) ∙ sym c.kept_count.ensures.count)))
