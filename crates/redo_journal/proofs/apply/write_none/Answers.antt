use Rattle.std.proofs.Common.{subst, ℕ, ap, ◌≡◌, ◌+◌, ◌∙◌, arith}
use Rattle.std.proofs.lemmas.Result.{on_ok_weaker}
use Rattle.station.specs.Bytes.{byte, Blurred}
use Rattle.station.specs.Steps.{Steps}
use Rattle.header_gate.specs.Places.{table_place, journal_shift}
use Rattle.header_gate.proofs.Shifts.{shift_most}
use Rattle.redo_journal.proofs.Batches.{table_write}
use Rattle.redo_journal.proofs.apply.write_none.Goals as goal

pub write_synced-requires : goal.write_synced-requires
write_synced-requires g c = omega (arith, c.table_at.ensures.place, c.requires.reach, shift_most c.args.layout c.args.turn)

pub returns-clause-steps : goal.returns-clause-steps
returns-clause-steps g c =
    table_write c.args.layout c.args.turn 4 c.requires.size (omega arith)
    (subst (λ (n : ℕ). Steps (Blurred n 4) (g.S.Station.view c.args.station.now) (g.S.Station.view c.write_synced.new.station)) c.table_at.ensures.place c.write_synced.ensures.steps)

pub returns-clause-journaled : goal.returns-clause-journaled
returns-clause-journaled g c = on_ok_weaker c.write_synced.result (λ written told. record {
  table_is = λ k lt.
      let e : table_place + journal_shift c.args.layout c.args.turn + k ≡ c.table_at.result + k = omega (arith, c.table_at.ensures.place) in
      ap (byte (g.S.Station.view c.write_synced.new.station).held) e ∙ (written told).inside k lt;
  images_are = λ k lt. absurd (omega (arith, lt));
}) c.write_synced.ensures.written
