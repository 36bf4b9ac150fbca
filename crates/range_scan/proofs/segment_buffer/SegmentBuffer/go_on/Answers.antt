use Rattle.std.proofs.Common.{◌<◌, [], length, drop, ◌+◌, sym, ap, subst, ◌∙◌, arith}
use Rattle.segment.specs.Viewed.{IsValidated}
use Rattle.range_scan.specs.PageView.{PageView, page_of}
use Rattle.range_scan.specs.Running.{first_of}
use Rattle.range_scan.proofs.Runs.{length-pages_of, size_less, pages_first, stepped}
use Rattle.range_scan.proofs.segment_buffer.SegmentBuffer.go_on.Goals as goal

pub invariant_of-self : goal.invariant_of-self
invariant_of-self c =
    let i = c.self.inside in
    let along = ap (λ (v : PageView). v.along) c.self.view_is in
    let some : 0 < i.more = omega (arith, c.requires.some, ap length along, length-pages_of i.size i.more (drop (i.start + i.size) i.bytes)) in
    let first = ap (λ a. first_of a []) (sym along) ∙ pages_first i.size i.more (drop (i.start + i.size) i.bytes) [] some in
    (omega (arith, c.self.invariant.0, size_less i.size i.more some), subst (IsValidated c.args.len) first c.requires.validated)

pub returns-clause-gone : goal.returns-clause-gone
returns-clause-gone c =
    let i = c.self.inside in
    let along = ap (λ (v : PageView). v.along) c.self.view_is in
    let some : 0 < i.more = omega (arith, c.requires.some, ap length along, length-pages_of i.size i.more (drop (i.start + i.size) i.bytes)) in
    stepped i.size i.more i.start i.bytes some ∙ ap (λ (v : PageView). page_of (first_of v.along []) (drop 1 v.along)) c.self.view_is
