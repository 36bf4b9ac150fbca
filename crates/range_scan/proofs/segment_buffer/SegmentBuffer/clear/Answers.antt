-- Zeros are a segment without records.
use Rattle.std.proofs.Common.{length, ap, ◌+◌, ◌∙◌, sym, refl, drop, arith}
use Rattle.range_scan.specs.PageView.{PageView}
use Rattle.range_scan.proofs.Held.{cleared_validated, cleared_rows}
use Rattle.range_scan.proofs.Runs.{length-pages_of}
use Rattle.range_scan.proofs.segment_buffer.SegmentBuffer.clear.Goals as goal

pub invariant_of-self : goal.invariant_of-self
invariant_of-self c =
    let i = c.self.inside in
    (omega (arith, c.self.invariant.0, c.clear_bytes.auto.bytes), cleared_validated i.bytes c.clear_bytes.new.bytes i.start i.size (length i.bytes) c.clear_bytes.ensures refl (omega (arith, c.self.invariant.0)) c.self.invariant.1.format)

pub returns-clause-rows : goal.returns-clause-rows
returns-clause-rows c =
    let i = c.self.inside in
    cleared_rows i.bytes c.clear_bytes.new.bytes i.start i.size (length i.bytes) c.clear_bytes.ensures refl (omega (arith, c.self.invariant.0)) c.self.invariant.1.format

pub returns-clause-others : goal.returns-clause-others
returns-clause-others c =
    let i = c.self.inside in
    length-pages_of i.size i.more _ ∙ sym (length-pages_of i.size i.more (drop (i.start + i.size) i.bytes)) ∙ ap (λ (v : PageView). length v.along) c.self.view_is
