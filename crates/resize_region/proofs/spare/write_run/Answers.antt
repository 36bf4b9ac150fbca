use Rattle.std.proofs.Common.{arith, ◌≡◌, ◌*◌, inl, refl, ℕ, length, subst, ◌∙◌}
use Rattle.std.proofs.lemmas.Result.{on_ok_weaker}
use Rattle.station.specs.Bytes.{Blurred, Written}
use Rattle.station.specs.Steps.{Steps}
use Rattle.station.proofs.Composition.{within}
use Rattle.header_gate.specs.Places.{segment_size, segment_place}
use Rattle.resize_region.proofs.SpareLaws.{written_frame, run_within}
use Rattle.resize_region.proofs.spare.write_run.Goals as goal

pub returns-clause-steps : goal.returns-clause-steps
returns-clause-steps g c =
    let a = g.S.Station.view c.args.station.now in
    let b = g.S.Station.view c.write_at.new.self in
    let n : length c.bytes.result.now ≡ segment_size c.args.layout * c.args.count = c.bytes.ensures.len ∙ omega arith in
    let steps = subst (λ (k : ℕ). Steps (Blurred (segment_place c.args.layout c.args.region c.args.first) k) a b) n (subst (λ (p : ℕ). Steps (Blurred p (length c.bytes.result.now)) a b) c.segment_at-pos.ensures c.write_at.ensures.steps) in
    within (segment_place c.args.layout c.args.region c.args.first) (segment_size c.args.layout * c.args.count)
    (λ image left. omega (arith, c.requires.size image left, run_within c.args.layout c.args.region c.args.first c.args.count c.requires.layout.format c.requires.region c.requires.some c.requires.inside)) steps

pub returns-clause-written : goal.returns-clause-written
returns-clause-written g c = on_ok_weaker c.write_at.result (λ written told i lt.
    let a = g.S.Station.view c.args.station.now in
    let b = g.S.Station.view c.write_at.new.self in
    written_frame c.args.layout c.args.region c.args.first c.args.count i c.args.frames.now.slots c.bytes.result.now a.held b.held c.requires.layout.format c.requires.region c.requires.inside (omega (arith, c.requires.frames.frames, c.requires.room)) lt
    c.bytes.ensures.slots c.bytes.ensures.len (subst (λ (p : ℕ). Written p c.bytes.result.now a.held b.held) c.segment_at-pos.ensures (written told)) (c.requires.size a.held (inl (told, refl)))) c.write_at.ensures.written

pub write_at-requires : goal.write_at-requires
write_at-requires g c =
    omega (
      arith,
      c.segment_at-pos.ensures,
      c.bytes.ensures.len,
      c.requires.reach,
      run_within c.args.layout c.args.region c.args.first c.args.count c.requires.layout.format c.requires.region c.requires.some c.requires.inside,
    )
