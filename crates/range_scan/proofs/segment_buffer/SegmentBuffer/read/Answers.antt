-- The records are those of the segment, and their number is the kept one or another.
use Rattle.std.proofs.Common.{◌≡◌, ℕ, length, ap, sym, ◌∙◌}
use Rattle.key_slot.proofs.SegmentLaws.{segment_rows}
use Rattle.segment.specs.declared.fault.Damage.TheVariants.{OtherCount}
use Rattle.segment.specs.declared.fault.StoreFault.TheVariants.{Damaged}
use Rattle.range_scan.specs.RegionReading.{page_in}
use Rattle.range_scan.proofs.Held.{damage_none, damage_other, found_other}
use Rattle.range_scan.proofs.segment_buffer.SegmentBuffer.read.Goals as goal

pub returns-in-Ok-clause-rows : goal.returns-in-Ok-clause-rows
returns-in-Ok-clause-rows g c told =
    sym (segment_rows c.args.layout.now.format c.load.new.self.rows (page_in c.args.layout.now c.args.region (g.S.Station.view c.args.station.now).held c.args.segment) (c.in_ok-load.ensures.segment told))

pub returns-in-Ok-clause-sound : goal.returns-in-Ok-clause-sound
returns-in-Ok-clause-sound g c told =
    damage_none c.args.layout.now.format c.args.kept c.load.new.self.rows (page_in c.args.layout.now c.args.region (g.S.Station.view c.args.station.now).held c.args.segment) (c.in_ok-load.ensures.segment told)
    (ap length (sym c.rows.ensures) ∙ sym c.len.ensures.len ∙ c.in-Ok.ensures.same)

pub returns-in-Err-clause-damaged : goal.returns-in-Err-clause-damaged
returns-in-Err-clause-damaged g c =
    let count : c.len.result ≡ length c.load.new.self.rows = c.len.ensures.len ∙ ap length c.rows.ensures in
    found_other c.args.layout.now c.args.region c.args.segment c.args.kept (g.S.Station.view c.args.station.now) (g.S.Station.view c.load.new.station) c.in-Err.fault (length c.load.new.self.rows)
    (c.in-Err.ensures.damaged ∙ ap (λ (n : ℕ). Damaged c.args.segment (OtherCount n c.args.kept)) count)
    (λ same. c.in-Err.ensures.other (count ∙ same))
    (λ told. damage_other c.args.layout.now.format c.args.kept c.load.new.self.rows (page_in c.args.layout.now c.args.region (g.S.Station.view c.args.station.now).held c.args.segment) (c.in_ok-load.ensures.segment told)
    (λ same. c.in-Err.ensures.other (count ∙ same)))
