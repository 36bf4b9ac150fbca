use Rattle.std.proofs.Common.{length, sym, ap, ◌∙◌}
use Rattle.range_scan.specs.PageView.{PageView}
use Rattle.range_scan.proofs.Runs.{length-pages_of}
use Rattle.range_scan.proofs.segment_buffer.SegmentBuffer.along.Goals as goal

pub returns : goal.returns
returns c = sym (length-pages_of c.self.inside.size c.self.inside.more _) ∙ ap (λ (v : PageView). length v.along) c.self.view_is
