use Rattle.std.proofs.Common.{inl, refl, sym, ap, subst, ◌∙◌, arith}
use Rattle.command_text.specs.declared.load.LoadLine.{LoadLine}
use Rattle.bulk_load.specs.LoadLines.{after_line}
use Rattle.bulk_load.specs.Loads.{most_records}
use Rattle.bulk_load.specs.TextReading.{TakesOn}
use Rattle.bulk_load.proofs.Calls.{none_spares}
use Rattle.bulk_load.proofs.CauseLaws.{no_disk}
use Rattle.bulk_load.proofs.LineLaws.{end_goes, ended_taken}
use Rattle.bulk_load.proofs.reading.take_line.Goals as goal

pub returns-else-not-goes_on : goal.returns-else-not-goes_on
returns-else-not-goes_on g c =
    subst (λ (line : LoadLine). TakesOn c.args.place.now c.args.number line c.take_row.result c.args.taken.now c.take_row.new.taken c.args.frames.now c.take_row.new.frames (g.S.Station.view c.args.station.now) (g.S.Station.view c.take_row.new.station)) (sym c.in-Row.is)
    (c.take_row.ensures c.args.number)

pub returns-else-not-ends : goal.returns-else-not-ends
returns-else-not-ends g c =
    let l = c.args.place.now.layout in
    let t = c.args.taken.now in
    let goes = sym c.ends.ensures ∙ c.if-not-ends.false in
    record {
      takes = λ rows is. record {
        now = rows;
        after = ap (after_line (most_records l) c.args.number rows t.ended) c.in-End.is ∙ end_goes (most_records l) c.args.number rows l t c.args.frames.now is c.in-End.count goes;
        taken = ended_taken l t c.args.frames.now rows is;
        packed = λ told packed. packed;
      };
      taking = record { rows = c.requires.taking.rows; taken = ended_taken l t c.args.frames.now c.requires.taking.rows c.requires.taking.taken; place = record { behind = c.requires.taking.place.behind; within = c.requires.taking.place.within }; few = c.requires.taking.few };
      faulty = tt;
      onward = omega arith;
      journal = refl;
      turn = refl;
      steps = none_spares c.args.place.now (g.S.Station.view c.args.station.now) c.requires.can.live;
      cost = omega arith;
      calls = (0, omega arith, omega arith);
      most_cost = omega arith;
      most_calls = inl (omega arith);
      failed = λ e. absurd (no_disk tt e);
    }
