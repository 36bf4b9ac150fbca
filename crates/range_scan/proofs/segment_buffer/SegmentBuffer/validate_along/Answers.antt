use Rattle.std.proofs.Common.{◌≡◌, ◌<◌, ◌≤◌, ◌+◌, ◌-◌, ◌/◌, ℕ, [], length, take, drop, sym, ap, subst, ◌∙◌, Result, Ok, Err, arith}
use Rattle.std.specs.Prelude.{IfOk}
use Rattle.std.proofs.lemmas.List.{length-drop, length-take-le}
use Rattle.std.proofs.lemmas.Result.{IfErr-weaker, IfOk-weaker}
use Rattle.key_slot.specs.Format.{HasFormat, format_of, narrow, segment_length}
use Rattle.key_slot.specs.Record.{Bytes}
use Rattle.key_slot.specs.Segment.{IsSegment, first_bad_slot, segment_of}
use Rattle.segment.specs.declared.fault.BadSegment.{BadSegment}
use Rattle.segment.specs.Viewed.{IsValidated}
use Rattle.range_scan.specs.PageView.{PageView}
use Rattle.range_scan.specs.Running.{first_of}
use Rattle.range_scan.proofs.Held.{same_format}
use Rattle.range_scan.proofs.Runs.{length-pages_of, pages_first, size_less}
use Rattle.range_scan.proofs.segment_buffer.SegmentBuffer.validate_along.Goals as goal
use Rattle.range_scan.proofs.segment_buffer.SegmentBuffer.validate_along.Goals.{After-count_rows}

-- what counting finds is that it is validated
validated : (r : Result ℕ BadSegment) (bytes first : Bytes) → HasFormat bytes → bytes ≡ first → IfOk r (λ n. IsSegment (format_of bytes) (segment_of (format_of bytes) bytes) bytes) → IfOk r (λ n. length (segment_of (format_of bytes) bytes) ≡ n) → IfOk r (λ n. IsValidated n first)
validated (Ok n) bytes first format same sound count = subst (IsValidated n) same (record { format = format; sound = sound; count = count })
validated (Err e) bytes first format same sound count = tt

some : (c : After-count_rows) → 0 < c.self.inside.more
some c =
    let i = c.self.inside in
    omega (arith, c.requires.some, ap (λ (v : PageView). length v.along) c.self.view_is, length-pages_of i.size i.more (drop (i.start + i.size) i.bytes))

abbrev next : After-count_rows → Bytes
next c = take (c.self.inside.start + c.self.inside.size + c.self.inside.size - (c.self.inside.start + c.self.inside.size)) (drop (c.self.inside.start + c.self.inside.size) c.self.inside.bytes)

next_is : (c : After-count_rows) → next c ≡ take c.self.inside.size (drop (c.self.inside.start + c.self.inside.size) c.self.inside.bytes)
next_is c =
    let i = c.self.inside in
    ap (λ (n : ℕ). take n (drop (i.start + i.size) i.bytes)) {x = i.start + i.size + i.size - (i.start + i.size)} {y = i.size} (omega arith)

one_size : (c : After-count_rows) → length (next c) ≡ length (take c.self.inside.size (drop c.self.inside.start c.self.inside.bytes))
one_size c =
    let i = c.self.inside in
    let within : i.start + i.size + i.size ≤ length i.bytes = omega (arith, c.self.invariant.0, size_less i.size i.more (some c)) in
    ap length (next_is c) ∙ length-take-le i.size (drop (i.start + i.size) i.bytes) (omega (arith, within, length-drop (i.start + i.size) i.bytes))
    ∙ sym (length-take-le i.size (drop i.start i.bytes) (omega (arith, within, length-drop i.start i.bytes)))

first : (c : After-count_rows) → next c ≡ first_of c.args.self.now.along []
first c =
    let i = c.self.inside in
    next_is c ∙ sym (pages_first i.size i.more (drop (i.start + i.size) i.bytes) [] (some c)) ∙ ap (λ (v : PageView). first_of v.along []) c.self.view_is

pub returns-clause-validated : goal.returns-clause-validated
returns-clause-validated c =
    let here = (goal.at.returns-clause-validated c).After-count_rows in
    validated c.count_rows.result (next here) (first_of c.args.self.now.along []) (same_format (next here) (take c.self.inside.size (drop c.self.inside.start c.self.inside.bytes)) (one_size here) c.self.invariant.1.format) (first here)
    c.count_rows.ensures.sound c.count_rows.ensures.count

pub returns-clause-bad : goal.returns-clause-bad
returns-clause-bad c =
    let here = (goal.at.returns-clause-bad c).After-count_rows in
    let i = c.self.inside in
    let format : format_of (next here) ≡ c.args.self.now.format = ap (λ (n : ℕ). n / segment_length narrow) (one_size here) ∙ ap (λ (v : PageView). v.format) c.self.view_is in
    IfErr-weaker c.count_rows.result _ _ (λ error found. sym (λ t. first_bad_slot (format t) (first here t)) ∙ found) c.count_rows.ensures.bad

pub returns-clause-count : goal.returns-clause-count
returns-clause-count c =
    let here = (goal.at.returns-clause-count c).After-count_rows in
    let format : format_of (next here) ≡ c.args.self.now.format = ap (λ (n : ℕ). n / segment_length narrow) (one_size here) ∙ ap (λ (v : PageView). v.format) c.self.view_is in
    IfOk-weaker c.count_rows.result _ _ (λ count found. sym (λ t. length (segment_of (format t) (first here t))) ∙ found) c.count_rows.ensures.count
