use Rattle.std.proofs.Common.{◌≡◌, ℕ, ◌*◌, ◌≤◌, length, take, arith, ap, subst}
use Rattle.std.proofs.lemmas.Result.{on_ok_weaker}
use Rattle.station.specs.Bytes.{Written}
use Rattle.station.specs.declared.travel.Travel.{Travel}
use Rattle.station.proofs.Composition.{within_in}
use Rattle.index_file.specs.Area.{count_place}
use Rattle.index_file.proofs.AreaLaws.{counts_within, counts_more, front_counts, front_size}
use Rattle.index_file.proofs.writing.write_count_piece.Goals as goal
use Rattle.index_file.proofs.writing.write_count_piece.Goals.{After-fill_counts}

size : (g : _) (c : After-fill_counts g) → length (take (4 * c.args.count) c.fill_counts.new.piece) ≡ 4 * c.args.count
size g c = front_size (4 * c.args.count) c.fill_counts.new.piece c.fill_counts.auto.piece (omega (arith, c.requires.room))

pub write_at-requires : goal.write_at-requires
write_at-requires g c = omega (arith, c.count_at.ensures, size g (goal.at.write_at-requires g c).After-fill_counts, counts_within c.args.layout.now c.args.tally.now.height c.args.first c.args.count c.requires.file.indexed c.requires.low c.requires.segments, c.requires.file.reach)

pub returns-clause-steps : goal.returns-clause-steps
returns-clause-steps g c =
    let n = size g (goal.at.returns-clause-steps g c).After-fill_counts in
    within_in (λ k. count_place c.args.layout.now 0 ≤ k) (λ k r. omega (arith, r.0, c.count_at.ensures))
    (λ image left. omega (arith, c.requires.size image left, c.count_at.ensures, n, counts_within c.args.layout.now c.args.tally.now.height c.args.first c.args.count c.requires.file.indexed c.requires.low c.requires.segments)) c.write_at.ensures.steps

pub returns-clause-written : goal.returns-clause-written
returns-clause-written g c =
    let n = size g (goal.at.returns-clause-written g c).After-fill_counts in
    let a = g.S.Station.view c.args.station.now in
    let b = g.S.Station.view c.write_at.new.self in
    on_ok_weaker c.write_at.result (λ written told are.
    counts_more c.args.layout.now c.args.tally.now.counts c.args.first c.args.count (take (4 * c.args.count) c.fill_counts.new.piece) (g.S.Station.view c.args.station.now).held (g.S.Station.view c.write_at.new.self).held
    (subst (λ (p : ℕ). Written p (take (4 * c.args.count) c.fill_counts.new.piece) (g.S.Station.view c.args.station.now).held (g.S.Station.view c.write_at.new.self).held) c.count_at.ensures (written told)) n
    (front_counts c.args.tally.now.counts c.args.first c.args.count c.fill_counts.new.piece c.fill_counts.ensures) are)
    c.write_at.ensures.written

pub returns-clause-cost : goal.returns-clause-cost
returns-clause-cost g c =
    let n = size g (goal.at.returns-clause-cost g c).After-fill_counts in
    omega (arith, ap (λ (t : Travel). t.written) c.write_at.ensures.travel, n)
