use Rattle.std.proofs.Common.{◌≡◌, ◌⊎◌, inl, inr, ◌≤◌, length, arith, Err, ap, sym, subst, ◌∙◌}
use Rattle.std.proofs.lemmas.Result.{err_from_is_err_and}
use Rattle.std.proofs.lemmas.List.{nil_from_length}
use Rattle.station.specs.View.{Told}
use Rattle.range_scan.specs.SweepView.{IsOver}
use Rattle.range_scan.specs.Sweeping.{IsSweeping, scan_of}
use Rattle.pma_engine.specs.Ranging.{SaysNext}
use Rattle.pma_engine.proofs.Ranging.{some_rows, buffer_said, buffer_cut, buffer_unread, buffer_left, end_known}
use Rattle.pma_engine.proofs.range.say_buffer.Goals as goal

pub returns-then-is_last-clause-last : goal.returns-then-is_last-clause-last
returns-then-is_last-clause-last g c _ =
    let rows = c.in_ok-fill_buffer.ensures.rows in
    let fill = c.fill_buffer.ensures in
    let s = c.args.sweep.now in
    let t = c.fill_buffer.new.sweep in
    let a = g.S.Station.view c.args.station.now in
    let law = g.met.S.Station.lawful c.args.station.now in
    let end : (length c.fill_buffer.new.buffer ≡ 0) ⊎ IsOver t → Told a → length (scan_of s a.held) ≤ t.given = λ last. elim last [
      | inl none ↦ c.in_ok-fill_buffer.ensures.end (nil_from_length c.fill_buffer.new.buffer none)
      | inr over ↦ end_known s t law fill.steps c.requires.within fill.same fill.is_sweep fill.walks fill.few fill.calls over c.in_ok-fill_buffer.ensures.sweeping
    ] in
    buffer_left s t law fill.steps c.requires.within fill.same fill.is_sweep fill.walks fill.few fill.calls c.fill_buffer.new.buffer rows.0 rows.1 rows.2 (end (c.is_last.ensures.last c.if-is_last.true))

pub returns-clause-more : goal.returns-clause-more
returns-clause-more g c _ =
    let rows = c.in_ok-fill_buffer.ensures.rows in
    let fill = c.fill_buffer.ensures in
    buffer_said c.args.sweep.now c.fill_buffer.new.sweep (g.met.S.Station.lawful c.args.station.now) fill.steps c.requires.within fill.same fill.is_sweep fill.walks fill.few fill.calls
    c.as_bytes.result.now c.say_all.ensures.says c.say_all.ensures.calls rows.0 (c.as_bytes.ensures ∙ rows.1) rows.2 _ c.in_ok-say_all.ensures.all

pub returns-clause-onward : goal.returns-clause-onward
returns-clause-onward g c _ =
    let rows = c.in_ok-fill_buffer.ensures.rows in
    omega (arith, rows.2.count, some_rows rows.0 (omega (arith, c.is_last.ensures.some c.if-is_last.false, ap length rows.1)))

pub returns-clause-sweeping : goal.returns-clause-sweeping
returns-clause-sweeping g c told = subst (IsSweeping c.fill_buffer.new.sweep) (sym c.say_all.ensures.says.held) (c.in_ok-fill_buffer.ensures.sweeping told)

pub returns-in_err-say_all-clause-stops : goal.returns-in_err-say_all-clause-stops
returns-in_err-say_all-clause-stops g c =
    let p = err_from_is_err_and c.from_residual-in_err-say_all.result c.from_residual-in_err-say_all.ensures.1 in
    let rows = c.in_ok-fill_buffer.ensures.rows in
    let fill = c.fill_buffer.ensures in
    rw (p.1, p.2) (buffer_cut c.args.sweep.now c.fill_buffer.new.sweep (g.met.S.Station.lawful c.args.station.now) fill.steps c.requires.within fill.same fill.is_sweep fill.walks fill.few fill.calls
    c.as_bytes.result.now c.say_all.ensures.says c.say_all.ensures.calls rows.0 (c.as_bytes.ensures ∙ rows.1) rows.2 c.in_err-say_all.ensures.cause)

pub returns-in_err-fill_buffer-clause-stops : goal.returns-in_err-fill_buffer-clause-stops
returns-in_err-fill_buffer-clause-stops g c =
    let p = err_from_is_err_and c.from_residual.result c.from_residual.ensures.1 in
    let fill = c.fill_buffer.ensures in
    rw (p.1, p.2) (buffer_unread c.args.sweep.now c.fill_buffer.new.sweep (g.met.S.Station.lawful c.args.station.now) fill.steps c.requires.within fill.same fill.is_sweep fill.walks fill.few fill.calls
    c.in_err-fill_buffer.field-0.0 c.in_err-fill_buffer.ensures.none (λ is. c.in_err-fill_buffer.ensures.failed (ap Err is)) c.in_err-fill_buffer.ensures.damaged)
