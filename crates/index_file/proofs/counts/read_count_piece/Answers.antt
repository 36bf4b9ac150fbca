use Rattle.std.proofs.Common.{◌≡◌, ℕ, ◌+◌, refl, sym, ap, subst, ◌∙◌, arith}
use Rattle.station.specs.Bytes.{byte}
use Rattle.index_file.specs.Area.{count_place}
use Rattle.index_file.specs.IndexCounts.{CountFailsAt}
use Rattle.index_file.specs.declared.fault.AreaFault.TheVariants.{Wrong}
use Rattle.index_file.proofs.AreaLaws.{counts_within}
use Rattle.index_file.proofs.CountingLaws.{counted_read, count_fails_read, IsCountFront}
use Rattle.index_file.proofs.counts.read_count_piece.Goals as goal

wrong_one : (p q : ℕ) → Wrong p ≡ Wrong q → p ≡ q
wrong_one p q e = cc

pub read_front-requires-clause-reach : goal.read_front-requires-clause-reach
read_front-requires-clause-reach g c = omega (arith, c.count_at.ensures, counts_within c.args.layout.now c.args.tally.now.height c.args.first c.args.count c.requires.file.indexed c.requires.uncounted.low c.requires.segments, c.requires.file.reach)

pub returns-in-None-clause-counted : goal.returns-in-None-clause-counted
returns-in-None-clause-counted g c told are =
    let front : IsCountFront c.args.layout.now c.args.first c.args.count (g.S.Station.view c.args.station.now).held c.read_front.new.piece = λ k lt. c.in-Ok.ensures.filled told k lt ∙ ap (λ (p : ℕ). byte (g.S.Station.view c.args.station.now).held (p + k)) c.count_at.ensures in
    counted_read c.args.layout.now c.args.tally.now.height c.args.first c.args.count c.args.tally.now.counts c.take_counts.new.tally.counts (g.S.Station.view c.args.station.now).held c.read_front.new.piece front (c.in-None.ensures.taken refl) c.take_counts.ensures.before are

pub returns-in-Some-clause-named : goal.returns-in-Some-clause-named
returns-in-Some-clause-named g c place e =
    (c.in-Some.i, c.in-Some.ensures.bad.from, c.in-Some.ensures.bad.below, sym (wrong_one (count_place c.args.layout.now c.in-Some.i) place (sym c.wrong_count.ensures ∙ e)))

pub returns-in-Some-clause-refused : goal.returns-in-Some-clause-refused
returns-in-Some-clause-refused g c told are place e =
    let front : IsCountFront c.args.layout.now c.args.first c.args.count (g.S.Station.view c.args.station.now).held c.read_front.new.piece = λ k lt. c.in-Ok.ensures.filled told k lt ∙ ap (λ (p : ℕ). byte (g.S.Station.view c.args.station.now).held (p + k)) c.count_at.ensures in
    let fails = count_fails_read c.args.layout.now c.args.tally.now.height c.args.first c.args.count c.args.tally.now.counts (g.S.Station.view c.args.station.now).held c.read_front.new.piece c.in-Some.i front c.in-Some.ensures.bad are in
    let same : count_place c.args.layout.now c.in-Some.i ≡ place = wrong_one (count_place c.args.layout.now c.in-Some.i) place (sym c.wrong_count.ensures ∙ e) in
    subst (λ (p : ℕ). CountFailsAt c.args.layout.now c.args.tally.now.height (c.args.first + c.args.count) (g.S.Station.view c.args.station.now).held p) same fails
