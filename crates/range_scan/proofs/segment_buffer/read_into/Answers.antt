use Rattle.std.proofs.Common.{refl, ◌≤◌, ℕ, length, take, sym, ap, ◌∙◌, subst, arith, ◌+◌, ◌-◌}
use Rattle.range_scan.proofs.BadSlots.{slot_within}
use Rattle.station.specs.Bytes.{Filled}
use Rattle.header_gate.specs.Places.{segment_size}
use Rattle.key_slot.specs.Format.{format_of}
use Rattle.key_slot.specs.Segment.{first_bad_slot}
use Rattle.header_gate.proofs.PagedSegments.{segment_within}
use Rattle.range_scan.proofs.Pages.{format_is}
use Rattle.range_scan.proofs.Runs.{first_filled, size_less}
use Rattle.std.proofs.lemmas.List.{length-take-le}
use Rattle.range_scan.proofs.segment_buffer.read_into.Goals as goal

pub returns-in-Err-clause-bad : goal.returns-in-Err-clause-bad
returns-in-Err-clause-bad g c = (
  refl,
  slot_within _ _ _ c.in-Err.ensures.bad,
  λ told.
      let layout = c.args.layout.now in
      let size : segment_size layout ≤ length c.read_at.new.buf = omega (arith, c.read_at.auto.buf, c.requires.size, size_less (segment_size layout) c.args.count (omega (arith, c.requires.run.some))) in
      let page = ap (λ (n : ℕ). take n c.read_at.new.buf) c.segment_bytes.ensures in
      let format = format_is layout.format (take (segment_size layout) c.read_at.new.buf) (length-take-le (segment_size layout) c.read_at.new.buf size) in
      sym (λ i. first_bad_slot (format i) (first_filled layout c.args.region c.args.segment _ c.read_at.new.buf (subst (λ (k : ℕ). Filled k (g.S.Station.view c.args.station.now).held c.read_at.new.buf) c.segment_at.ensures (c.in-Ok.ensures.filled told)) size i)) ∙ ap (λ b. first_bad_slot (format_of b) b) (sym page) ∙ c.in-Err.ensures.bad,
)

pub read_at-requires : goal.read_at-requires
read_at-requires g c =
    let layout = c.args.layout.now in
    let last = c.args.segment + (c.args.count - 1) in
    omega (
      arith,
      c.segment_at.ensures,
      c.requires.size,
      c.requires.reach,
      size_less (segment_size layout) c.args.count (omega (arith, c.requires.run.some)),
      segment_within layout c.args.region last c.requires.layout.format c.requires.region (omega (arith, c.requires.run.some, c.requires.run.within)),
    )
