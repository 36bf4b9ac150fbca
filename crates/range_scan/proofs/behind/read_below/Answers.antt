use Rattle.std.proofs.Common.{◌≡◌, ◌≢◌, ℕ, ◌+◌, ◌-◌, ◌*◌, List, sym, ap, subst, ◌∙◌, arith}
use Rattle.std.proofs.lemmas.Result.{err_from_is_err_and}
use Rattle.std.proofs.Math.Pow.{pow_mono}
use Rattle.density_rule.specs.Windows.{count_in}
use Rattle.header_gate.specs.declared.layout.Layout.{Layout}
use Rattle.header_gate.specs.Places.{height_limit, segment_place, segment_size}
use Rattle.segment.specs.declared.fault.Damage.TheVariants.{NotSegment, OtherCount, OutOfOrder}
use Rattle.segment.specs.declared.fault.StoreFault.{StoreFault}
use Rattle.segment.specs.declared.fault.StoreFault.TheVariants.{Failed, Damaged}
use Rattle.station.specs.View.{after_read}
use Rattle.station.specs.declared.travel.Travel.{Travel}
use Rattle.range_scan.specs.Pages.{IsOwnFault}
use Rattle.range_scan.specs.SegmentFaults.{IsDamageAt}
use Rattle.range_scan.specs.Walk.{after_walk}
use Rattle.range_scan.proofs.Standing.{only_failed, segment_read_is}
use Rattle.range_scan.proofs.Walks.{walk_some}
use Rattle.range_scan.proofs.behind.read_below.Goals as goal

pub read-requires-clause-segment : goal.read-requires-clause-segment
read-requires-clause-segment g c = omega (arith, c.requires.segment, pow_mono {i = c.args.region.now.tally.now.height} {j = height_limit c.args.region.now.layout.now} c.requires.height)

-- a read of one segment is a walk over it
one_read : (layout : Layout) (region i : ℕ) (t : Travel) → after_read (segment_place layout region i) (segment_size layout) t ≡ after_walk layout region i (i + 1) t
one_read layout region i t =
    let one : i + 1 - i ≡ 1 = omega arith in
    let single : segment_size layout * 1 ≡ segment_size layout = omega arith in
    let size : segment_size layout * (i + 1 - i) ≡ segment_size layout = ap (λ (n : ℕ). segment_size layout * n) one ∙ single in
    ap (λ (n : ℕ). after_read (segment_place layout region i) n t) (sym size) ∙ sym (walk_some layout region i (i + 1) t (omega arith))

-- damage of a segment by itself is damage by the count that is kept for it
own_damage : (i kept : ℕ) (counts : List ℕ) (fault : StoreFault) → kept ≡ count_in counts 0 i → IsOwnFault i kept fault → IsDamageAt i counts fault
own_damage i kept counts Failed same own = tt
own_damage i kept counts (Damaged segment (NotSegment slot)) same own = own
own_damage i kept counts (Damaged segment (OtherCount found other)) same own = (own.0, own.1 ∙ same, subst (λ (n : ℕ). found ≢ n) (sym own.1) own.2)
own_damage i kept counts (Damaged segment OutOfOrder) same own = absurd own

pub returns-in_err-read-clause-reads : goal.returns-in_err-read-clause-reads
returns-in_err-read-clause-reads g c =
    let p = err_from_is_err_and c.from_residual.result c.from_residual.ensures.1 in
    let a = c.args in
    let found = c.in_err-read.ensures.damaged in
    record {
      steps = c.read.ensures.steps;
      travel = c.read.ensures.reads ∙ one_read a.region.now.layout.now a.region.now.number a.segment (g.S.Station.view a.station.now).travel;
      calls = c.read.ensures.calls;
      damaged = rw (p.1, p.2) (only_failed a.region.now.layout.now a.region.now.number a.region.now.tally.now.height a.region.now.tally.now.counts a.segment c.kept_count-kept.result _ (g.S.Station.view a.station.now) (g.S.Station.view c.read.new.station)
          (λ told. (c.requires.stands told).stands) c.requires.readable c.requires.segment c.kept_count-kept.ensures.count found);
      causes = rw (p.1, p.2) (own_damage a.segment c.kept_count-kept.result a.region.now.tally.now.counts _ c.kept_count-kept.ensures.count found.own);
      failed = rw (p.1, p.2) found.failed;
    }

pub returns-clause-reads : goal.returns-clause-reads
returns-clause-reads g c = record {
  steps = c.read.ensures.steps;
  travel = c.read.ensures.reads ∙ one_read c.args.region.now.layout.now c.args.region.now.number c.args.segment (g.S.Station.view c.args.station.now).travel;
  calls = c.read.ensures.calls;
  damaged = tt;
  causes = tt;
  failed = tt;
}

pub returns-clause-rows : goal.returns-clause-rows
returns-clause-rows g c told =
    let a = c.args in
    c.in_ok-read.ensures.rows told
    ∙ segment_read_is a.region.now.layout.now a.region.now.number a.region.now.tally.now.height a.region.now.tally.now.counts (g.S.Station.view a.station.now).held (c.requires.stands told).stands (c.requires.readable told) a.segment c.requires.segment
