-- Zeros are a segment without records.
use Rattle.std.proofs.Common.{◌<◌, ◌≤◌, ◌+◌, ◌-◌, ◌≡◌, take, drop, length, ap, ◌∙◌, sym, refl, arith}
use Rattle.std.proofs.lemmas.List.{length-drop, length-take-le}
use Rattle.key_slot.specs.Format.{HasFormat}
use Rattle.range_scan.specs.PageView.{PageView}
use Rattle.range_scan.proofs.Held.{cleared_validated, cleared_rows, same_format}
use Rattle.range_scan.proofs.Runs.{length-pages_of, size_less}
use Rattle.range_scan.proofs.segment_buffer.SegmentBuffer.pass_over.Goals as goal
use Rattle.range_scan.proofs.segment_buffer.SegmentBuffer.pass_over.Goals.{After-clear_bytes}

some : (c : After-clear_bytes) → 0 < c.self.inside.more
some c =
    let i = c.self.inside in
    omega (arith, c.requires.some, ap (λ (v : PageView). length v.along) c.self.view_is, length-pages_of i.size i.more (drop (i.start + i.size) i.bytes))

within : (c : After-clear_bytes) → c.self.inside.start + c.self.inside.size + c.self.inside.size ≤ length c.self.inside.bytes
within c = omega (arith, c.self.invariant.0, size_less c.self.inside.size c.self.inside.more (some c))

format : (c : After-clear_bytes) → HasFormat (take c.self.inside.size (drop (c.self.inside.start + c.self.inside.size) c.self.inside.bytes))
format c =
    let i = c.self.inside in
    let here : length (take i.size (drop i.start i.bytes)) ≡ i.size = length-take-le i.size (drop i.start i.bytes) (omega (arith, within c, length-drop i.start i.bytes)) in
    let there : length (take i.size (drop (i.start + i.size) i.bytes)) ≡ i.size = length-take-le i.size (drop (i.start + i.size) i.bytes) (omega (arith, within c, length-drop (i.start + i.size) i.bytes)) in
    same_format (take i.size (drop (i.start + i.size) i.bytes)) (take i.size (drop i.start i.bytes)) (there ∙ sym here) c.self.invariant.1.format

pub invariant_of-self : goal.invariant_of-self
invariant_of-self c =
    let here = (goal.at.invariant_of-self c).After-clear_bytes in
    let i = c.self.inside in
    (omega (arith, c.self.invariant.0, c.clear_bytes.auto.bytes, size_less i.size i.more (some here)), cleared_validated i.bytes c.clear_bytes.new.bytes (i.start + i.size) i.size (length i.bytes) c.clear_bytes.ensures refl (within here) (format here))

pub returns-clause-none : goal.returns-clause-none
returns-clause-none c =
    let here = (goal.at.returns-clause-none c).After-clear_bytes in
    let i = c.self.inside in
    cleared_rows i.bytes c.clear_bytes.new.bytes (i.start + i.size) i.size (length i.bytes) c.clear_bytes.ensures refl (within here) (format here)

pub returns-clause-others : goal.returns-clause-others
returns-clause-others c =
    let here = (goal.at.returns-clause-others c).After-clear_bytes in
    let i = c.self.inside in
    omega (arith, some here, length-pages_of i.size (i.more - 1) (drop (i.start + i.size + i.size) c.clear_bytes.new.bytes), ap (λ (v : PageView). length v.along) c.self.view_is, length-pages_of i.size i.more (drop (i.start + i.size) i.bytes))
