use Rattle.bulk_load.specs.declared.packing.Taken.{Taken}
use Rattle.std.proofs.Common.{arith, ℕ, subst}
use Rattle.std.proofs.lemmas.Result.{err_from_is_err_and}
use Rattle.station.proofs.Composition.{told_on, told_back}
use Rattle.resize_region.proofs.OldRowLaws.{rose_on}
use Rattle.bulk_load.specs.declared.fault.Loaded.{Loaded}
use Rattle.bulk_load.specs.Loads.{most_records, IsLeastHeight}
use Rattle.bulk_load.proofs.CauseLaws.{read_shown}
use Rattle.bulk_load.proofs.Calls.{spares_on, fill_on}
use Rattle.bulk_load.proofs.CopyLaws.{disk_as, disk_is}
use Rattle.bulk_load.proofs.FileFaults.{file_writing}
use Rattle.bulk_load.proofs.LoadLaws.{read_fault, read_no_damage}
use Rattle.bulk_load.proofs.loading.write_text.Goals as goal

-- The text wasn't read.

pub returns-in_err-taken-clause-fault : goal.returns-in_err-taken-clause-fault
returns-in_err-taken-clause-fault g c =
    let p = err_from_is_err_and c.from_residual.result c.from_residual.ensures.1 in
    rw (p.1, p.2) (read_fault c.args.place.now.layout.format (most_records c.args.place.now.layout) c.args.reader.now (g.I.Source.view c.args.source.now) (g.I.Source.view c.read_text.new.source) c.in_err-taken.field-0.0 c.in_err-taken.ensures.faulty)

pub returns-in_err-taken-clause-damaged : goal.returns-in_err-taken-clause-damaged
returns-in_err-taken-clause-damaged g c =
    let p = err_from_is_err_and c.from_residual.result c.from_residual.ensures.1 in
    rw (p.1, p.2) (λ told. read_no_damage c.args.place.now.layout.format (most_records c.args.place.now.layout) c.args.reader.now (g.I.Source.view c.args.source.now) (g.I.Source.view c.read_text.new.source) c.in_err-taken.field-0.0 c.in_err-taken.ensures.faulty)

pub returns-in_err-taken-clause-shown : goal.returns-in_err-taken-clause-shown
returns-in_err-taken-clause-shown g c =
    let p = err_from_is_err_and c.from_residual.result c.from_residual.ensures.1 in
    rw (p.1, p.2) (read_shown c.args.place.now.layout.format (most_records c.args.place.now.layout) c.args.reader.now (g.I.Source.view c.args.source.now) (g.I.Source.view c.read_text.new.source) c.read_text.new.frames c.in_err-taken.field-0.0 c.in_err-taken.ensures.faulty)

pub returns-in_err-taken-clause-most_cost : goal.returns-in_err-taken-clause-most_cost
returns-in_err-taken-clause-most_cost g c = omega (arith, c.read_text.ensures.most_cost)

pub returns-in_err-taken-clause-most_calls : goal.returns-in_err-taken-clause-most_calls
returns-in_err-taken-clause-most_calls g c = omega (arith, c.read_text.ensures.most_calls)

-- It was read.

pub spread_taken-requires-clause-can : goal.spread_taken-requires-clause-can
spread_taken-requires-clause-can g c = fill_on c.args.place.now c.args.frames.now c.read_text.new.frames c.requires.can c.read_text.ensures.journal c.read_text.ensures.steps

pub spread_taken-requires-clause-taken : goal.spread_taken-requires-clause-taken
spread_taken-requires-clause-taken g c = let r = c.in_ok-taken.ensures.read in (r.0, r.1.taken)

pub spread_taken-requires-clause-behind : goal.spread_taken-requires-clause-behind
spread_taken-requires-clause-behind g c = let r = c.in_ok-taken.ensures.read in omega (arith, r.1.behind, r.1.taken.count)

pub spread_taken-requires-clause-few : goal.spread_taken-requires-clause-few
spread_taken-requires-clause-few g c = let r = c.in_ok-taken.ensures.read in omega (arith, r.1.few, r.1.taken.count)

-- A fault of the spreading.

pub returns-in_err-height-clause-steps : goal.returns-in_err-height-clause-steps
returns-in_err-height-clause-steps g c = spares_on c.args.place.now c.read_text.ensures.steps c.spread_taken.ensures.steps

pub returns-in_err-height-clause-fault : goal.returns-in_err-height-clause-fault
returns-in_err-height-clause-fault g c =
    let p = err_from_is_err_and c.from_residual-in_err-height.result c.from_residual-in_err-height.ensures.1 in
    rw (p.1, p.2) (file_writing c.args.place.now.layout.format (most_records c.args.place.now.layout) c.args.reader.now (g.I.Source.view c.args.source.now) (g.I.Source.view c.read_text.new.source) c.in_err-height.field-0.0 c.in_err-height.ensures.fault)

pub returns-in_err-height-clause-damaged : goal.returns-in_err-height-clause-damaged
returns-in_err-height-clause-damaged g c =
    let p = err_from_is_err_and c.from_residual-in_err-height.result c.from_residual-in_err-height.ensures.1 in
    rw (p.1, p.2) (λ told. let r = c.in_ok-taken.ensures.read in let told_b = told_on c.read_text.ensures.steps.frame told in c.in_err-height.ensures.damaged told_b r.0 r.1.taken (r.1.packed told_b))

pub returns-in_err-height-clause-most_cost : goal.returns-in_err-height-clause-most_cost
returns-in_err-height-clause-most_cost g c = c.spread_taken.ensures.most_cost (g.S.Station.view c.args.station.now).travel.written c.in_ok-taken.ensures.cost

pub returns-in_err-height-clause-most_calls : goal.returns-in_err-height-clause-most_calls
returns-in_err-height-clause-most_calls g c = c.spread_taken.ensures.most_calls (g.S.Station.view c.args.station.now).calls c.in_ok-taken.ensures.calls

-- All is written.

pub returns-clause-steps : goal.returns-clause-steps
returns-clause-steps g c = spares_on c.args.place.now c.read_text.ensures.steps c.spread_taken.ensures.steps

pub returns-clause-written : goal.returns-clause-written
returns-clause-written g c =
    let r = c.in_ok-taken.ensures.read in (
      r.0,
      record {
        text = r.1.text;
        are_rows = r.1.taken.rows_are;
        count = r.1.taken.count;
        least = subst (λ (n : ℕ). IsLeastHeight n c.in_ok-height.height) r.1.taken.count c.in_ok-height.ensures.least;
        limit = c.in_ok-height.ensures.limit;
        written = λ told_z. let told_b = told_back c.spread_taken.ensures.steps.frame told_z in c.in_ok-height.ensures.written told_b r.0 r.1.taken (r.1.packed told_b);
      },
    )

pub returns-clause-cost : goal.returns-clause-cost
returns-clause-cost g c = c.in_ok-height.ensures.cost (g.S.Station.view c.args.station.now).travel.written c.in_ok-taken.ensures.cost

pub returns-clause-calls : goal.returns-clause-calls
returns-clause-calls g c = c.in_ok-height.ensures.calls (g.S.Station.view c.args.station.now).calls c.in_ok-taken.ensures.calls

pub returns-clause-most_cost : goal.returns-clause-most_cost
returns-clause-most_cost g c = c.spread_taken.ensures.most_cost (g.S.Station.view c.args.station.now).travel.written c.in_ok-taken.ensures.cost

pub returns-clause-most_calls : goal.returns-clause-most_calls
returns-clause-most_calls g c = c.spread_taken.ensures.most_calls (g.S.Station.view c.args.station.now).calls c.in_ok-taken.ensures.calls

pub returns-in_err-taken-clause-reading : goal.returns-in_err-taken-clause-reading
returns-in_err-taken-clause-reading g c =
    let p = err_from_is_err_and c.from_residual.result c.from_residual.ensures.1 in
    let reading = c.in_err-taken.ensures.reading in
    let fault = c.in_err-taken.field-0.0 in
    rw (p.1, p.2) (record { whole = tt; takes = reading.takes; failed = λ is. reading.failed (disk_as {T = Taken} fault (disk_is {T = Loaded} fault is)); went = reading.went })

pub returns-in_err-height-clause-reading : goal.returns-in_err-height-clause-reading
returns-in_err-height-clause-reading g c =
    let p = err_from_is_err_and c.from_residual-in_err-height.result c.from_residual-in_err-height.ensures.1 in
    let reading = c.in_ok-taken.ensures.reading in
    rw (p.1, p.2) (record {
      whole = tt;
      takes = reading.takes;
      failed = λ is. rose_on (g.S.Station.view c.args.station.now) (g.S.Station.view c.read_text.new.station) (g.S.Station.view c.spread_taken.new.station).disk_faults c.read_text.ensures.steps.frame.disk_faults (c.in_err-height.ensures.failed (disk_as {T = ℕ} c.in_err-height.field-0.0 (disk_is {T = Loaded} c.in_err-height.field-0.0 is)));
      went = reading.went;
    })

pub returns-clause-reading : goal.returns-clause-reading
returns-clause-reading g c =
    let reading = c.in_ok-taken.ensures.reading in
    record { whole = reading.whole; takes = reading.takes; failed = λ is. absurd cc; went = reading.went }
