use Rattle.std.proofs.Common.{◌≡◌, ◌++◌, ℕ, List, length, false, sym, ap, ◌∙◌, arith}
use Rattle.station.specs.View.{Told}
use Rattle.station.proofs.Composition.{told_on}
use Rattle.range_scan.specs.Sweeping.{IsSweeping, scan_of}
use Rattle.pma_engine.specs.Ranging.{row_text}
use Rattle.pma_engine.proofs.Ranging.{rows_next, at_end, no_rows, untrue}
use Rattle.pma_engine.proofs.range.fill_buffer.Goals as goal
use Rattle.pma_engine.proofs.range.fill_buffer.Goals.{In_ok-_more}

-- the sweep goes on where it reached the next record
onward : (g : _) (c : In_ok-_more g) → Told (g.S.Station.view c.args.station.now) → IsSweeping c.reach_next.new.self (g.S.Station.view c.reach_next.new.station).held
onward g c told = c.in_ok-_more.ensures.sweeps.sweeping (told_on c.reach_next.ensures.sweeps.steps.frame told)

pub returns-clause-rows : goal.returns-clause-rows
returns-clause-rows g c =
    let more = c.put_rows_read.ensures.rows in (
      more.0,
      more.1 ∙ ap (λ (l : List ℕ). l ++ row_text more.0) c.clear.ensures,
      rows_next c.args.sweep.now c.reach_next.new.self c.put_rows_read.new.sweep (g.S.Station.view c.args.station.now) (g.S.Station.view c.reach_next.new.station) more.0
          c.reach_next.ensures.given c.reach_next.ensures.sweeps.same c.reach_next.ensures.sweeps.steps.held (onward g (goal.at.returns-clause-rows g c).In_ok-_more) more.2,
    )

pub returns-clause-sweeping : goal.returns-clause-sweeping
returns-clause-sweeping g c told =
    c.put_rows_read.ensures.rows.2.sweeping (g.S.Station.view c.reach_next.new.station).held (onward g (goal.at.returns-clause-sweeping g c).In_ok-_more told)

-- where no line came of it, no record was at hand
pub returns-clause-end : goal.returns-clause-end
returns-clause-end g c none told =
    let rows = c.put_rows_read.ensures.rows in
    let count : length rows.0 ≡ 0 = no_rows rows.0 (sym (rows.1 ∙ ap (λ (l : List ℕ). l ++ row_text rows.0) c.clear.ensures) ∙ none) in
    let more : c.in_ok-_more._more ≡ false = untrue c.in_ok-_more._more (λ is. omega (arith, c.put_rows_read.ensures.some c.clear.ensures (c.in_ok-_more.ensures.at_hand.0 is), rows.2.count, count)) in
    omega (arith, at_end (scan_of c.args.sweep.now (g.S.Station.view c.args.station.now).held) c.args.sweep.now.given c.in_ok-_more._more (c.in_ok-_more.ensures.more told) more, c.reach_next.ensures.given, rows.2.count)
