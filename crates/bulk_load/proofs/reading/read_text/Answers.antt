use Rattle.std.proofs.Common.{arith, ◌≡◌, inr, refl, ℕ, ◌+◌, ◌/◌, ◌<◌, ◌≤◌, false, List, [], ◌∷◌, ◌++◌, length, Option, None, Ok, Err, sym, ap, subst, ◌∙◌}
use Rattle.std.specs.Prelude.{IsSome, IfSome}
use Rattle.std.proofs.lemmas.List.{length-append}
use Rattle.std.proofs.lemmas.Result.{err_from_is_err_and}
use Rattle.station.proofs.Composition.{told_on, told_back}
use Rattle.line_source.proofs.Progress.{given-none}
use Rattle.command_text.specs.declared.load.LoadLine.{LoadLine}
use Rattle.header_gate.specs.Places.{segment_size}
use Rattle.bulk_load.specs.LoadLines.{loading, reads}
use Rattle.bulk_load.specs.Loads.{most_records}
use Rattle.resize_region.specs.Shares.{places}
use Rattle.bulk_load.specs.TextReading.{GivesEntry, IsNextEntry, FitsLine}
use Rattle.bulk_load.proofs.Calls.{none_spares, spares_on, fill_on}
use Rattle.bulk_load.proofs.CopyLaws.{disk_as, disk_is, never_disk}
use Rattle.resize_region.proofs.OldRowLaws.{rose_on}
use Rattle.bulk_load.specs.declared.fault.LoadFault.{LoadFault}
use Rattle.bulk_load.specs.declared.packing.Taken.{Taken}
use Rattle.bulk_load.proofs.PackLaws.{room_some, cost_on, runs_on}
use Rattle.bulk_load.proofs.MostLaws.{all_calls, all_cost, tried_calls, tried_cost}
use Rattle.bulk_load.proofs.TakenLaws.{none_taken}
use Rattle.bulk_load.proofs.ReadLaws.{reading_fault, line_fault, loaded_more, takes_given, takes_last}
use Rattle.bulk_load.proofs.reading.read_text.Goals as goal
use Rattle.bulk_load.proofs.reading.read_text.Goals.{After-take_line, After-start_shares}

-- the places are those of the journal
started : (g : _) (c : After-start_shares g) → places c.args.place.now.layout.format c.start_shares.new.frames ≡ c.batch_room.result
started g c = ap (λ (j : ℕ). j / c.args.place.now.layout.format) (c.start_shares.ensures.journal ∙ c.requires.can.journal) ∙ sym c.batch_room.ensures.room

-- the line that is taken
turn : (g : _) (c : After-take_line g) → GivesEntry c.args.place.now.layout.format c.args.reader.now (g.I.Source.view c.args.source.now) c.loop-line.invariant.given c.in-Some.line c.next_entry.new.reader (g.I.Source.view c.next_entry.new.source)
turn g c =
    subst (λ (o : Option LoadLine). IsNextEntry c.args.place.now.layout.format (Ok o) c.args.reader.now (g.I.Source.view c.args.source.now) c.loop-line.invariant.given c.next_entry.new.reader (g.I.Source.view c.next_entry.new.source)) c.in-Some.is
    (c.in_ok-line.ensures.next c.args.reader.now (g.I.Source.view c.args.source.now) c.loop-line.invariant.given c.loop-line.invariant.reading)

-- each line given lowers what may come
falls : (g : _) (c : After-take_line g) → c.next_entry.new.reader.room + length c.next_entry.new.reader.held < c.loop-line.reader.room + length c.loop-line.reader.held
falls g c = c.in_ok-line.ensures.falls (subst IsSome (sym c.in-Some.is) refl)

pub loop-line-init : goal.loop-line-init
loop-line-init g c = record {
  given = [];
  rows = [];
  reading = given-none c.args.reader.now (g.I.Source.view c.args.source.now) c.requires.unread.fresh;
  loaded = λ _. refl;
  are_taken = none_taken c.args.place.now.layout (record { records = 0; written = 0; last = None; ended = false }) c.start_shares.new.frames refl refl refl c.start_shares.ensures.shares (λ f lt. c.start_shares.ensures.empty f (omega (arith, lt, started g (goal.at.loop-line-init g c).After-start_shares)));
  has_place = record { behind = omega arith; within = omega (arith, room_some c.args.place.now.layout c.requires.can.layout) };
  few = omega arith;
  packed = λ told i lt. absurd (omega (arith, lt));
  small = omega (arith, c.room-most.ensures, c.room-most.type_inv);
  counted = refl;
  bound = omega (arith, ap (λ (l : List ℕ). length l) c.requires.unread.begun);
  steps = none_spares c.args.place.now (g.S.Station.view c.args.station.now) c.requires.can.live;
  can = record { layout = c.requires.can.layout; region = c.requires.can.region; reach = c.requires.can.reach; journal = c.start_shares.ensures.journal ∙ c.requires.can.journal; live = c.requires.can.live };
  journal = c.start_shares.ensures.journal;
  turn = c.start_shares.ensures.turn;
  cost = omega arith;
  calls = (0, omega arith, omega arith);
}

pub start_shares-requires-clause-all : goal.start_shares-requires-clause-all
start_shares-requires-clause-all g c = c.batch_room.ensures.room ∙ sym (ap (λ (j : ℕ). j / c.args.place.now.layout.format) c.requires.can.journal)

pub take_line-requires-clause-taking : goal.take_line-requires-clause-taking
take_line-requires-clause-taking g c = record { rows = c.loop-line.invariant.rows; taken = c.loop-line.invariant.are_taken; place = c.loop-line.invariant.has_place; few = c.loop-line.invariant.few }

pub take_line-requires-clause-fits : goal.take_line-requires-clause-fits
take_line-requires-clause-fits g c = subst (λ (o : Option LoadLine). IfSome o (FitsLine c.args.place.now.layout.format)) c.in-Some.is c.in_ok-line.ensures.fits

pub returns-in_err-line-clause-faulty : goal.returns-in_err-line-clause-faulty
returns-in_err-line-clause-faulty g c =
    let p = err_from_is_err_and c.from_residual.result c.from_residual.ensures.1 in
    let here = c.loop-line.invariant in
    rw (p.1, p.2) (reading_fault c.args.place.now.layout.format (most_records c.args.place.now.layout) c.args.reader.now (g.I.Source.view c.args.source.now) here.given here.rows c.loop-line.taken.ended here.loaded c.next_entry.new.reader (g.I.Source.view c.next_entry.new.source) c.in_err-line.field-0.0
    (c.in_err-line.ensures.next c.args.reader.now (g.I.Source.view c.args.source.now) here.given here.reading))

pub returns-in_err-take_line-clause-faulty : goal.returns-in_err-take_line-clause-faulty
returns-in_err-take_line-clause-faulty g c =
    let p = err_from_is_err_and c.from_residual-in_err-take_line.result c.from_residual-in_err-take_line.ensures.1 in
    let here = c.loop-line.invariant in
    rw (p.1, p.2) (line_fault c.args.place.now.layout.format (most_records c.args.place.now.layout) c.args.reader.now (g.I.Source.view c.args.source.now) here.given here.rows c.loop-line.taken.ended here.loaded (c.loop-line.lines + 1) c.in-Some.line c.next_entry.new.reader (g.I.Source.view c.next_entry.new.source)
    (turn g (goal.at.returns-in_err-take_line-clause-faulty g c).After-take_line) (omega (arith, here.counted)) (g.I.Source.view c.next_entry.new.source) c.in_err-take_line.field-0.0 (c.in_err-take_line.ensures.faulty here.rows here.are_taken))

pub returns-in_err-take_line-clause-steps : goal.returns-in_err-take_line-clause-steps
returns-in_err-take_line-clause-steps g c = spares_on c.args.place.now c.loop-line.invariant.steps c.take_line.ensures.steps

pub loop-line-preserved : goal.loop-line-preserved
loop-line-preserved g c =
    let here = c.loop-line.invariant in
    let gives = turn g (goal.at.loop-line-preserved g c).After-take_line in
    let takes = c.in_ok-take_line.ensures.takes here.rows here.are_taken in
    record {
      given = here.given ++ gives.raw ∷ [];
      rows = takes.now;
      reading = gives.more;
      loaded = λ told.
          loaded_more c.args.place.now.layout.format (most_records c.args.place.now.layout) c.args.reader.now (g.I.Source.view c.args.source.now) here.given here.rows c.loop-line.taken.ended here.loaded (c.loop-line.lines + 1) c.in-Some.line c.next_entry.new.reader (g.I.Source.view c.next_entry.new.source) gives (omega (arith, here.counted)) told ∙ takes.after;
      are_taken = takes.taken;
      has_place = c.in_ok-take_line.ensures.taking.place;
      few = c.in_ok-take_line.ensures.taking.few;
      packed = λ told. takes.packed (told_on here.steps.frame told) (here.packed told);
      small = here.small;
      counted = omega (arith, here.counted, length-append here.given (gives.raw ∷ []));
      bound = omega (arith, here.bound, falls g (goal.at.loop-line-preserved g c).After-take_line);
      steps = spares_on c.args.place.now here.steps c.take_line.ensures.steps;
      can = fill_on c.args.place.now c.loop-line.frames c.take_line.new.frames here.can c.take_line.ensures.journal c.take_line.ensures.steps;
      journal = c.take_line.ensures.journal ∙ here.journal;
      turn = c.take_line.ensures.turn ∙ here.turn;
      cost = cost_on (segment_size c.args.place.now.layout) c.loop-line.taken.written c.take_line.new.taken.written (g.S.Station.view c.args.station.now).travel.written (g.S.Station.view c.loop-line.station).travel.written (g.S.Station.view c.take_line.new.station).travel.written
          c.in_ok-take_line.ensures.onward here.cost c.in_ok-take_line.ensures.cost;
      calls = runs_on _ 0 c.loop-line.taken.written c.take_line.new.taken.written _ _ _ (omega arith) c.in_ok-take_line.ensures.onward here.calls c.in_ok-take_line.ensures.calls;
    }

-- The end of the text.

pub returns-then-taken-clause-read : goal.returns-then-taken-clause-read
returns-then-taken-clause-read g c =
    let here = c.loop-line.invariant in
    let next : IsNextEntry c.args.place.now.layout.format (Ok None) c.args.reader.now (g.I.Source.view c.args.source.now) here.given c.next_entry.new.reader (g.I.Source.view c.next_entry.new.source) =
    subst (λ (o : Option LoadLine). IsNextEntry c.args.place.now.layout.format (Ok o) c.args.reader.now (g.I.Source.view c.args.source.now) here.given c.next_entry.new.reader (g.I.Source.view c.next_entry.new.source)) c.in_default.is
    (c.in_ok-line.ensures.next c.args.reader.now (g.I.Source.view c.args.source.now) here.given here.reading) in (
      here.rows,
      record {
        text = λ told. ap (loading c.args.place.now.layout.format (most_records c.args.place.now.layout)) (next told).0 ∙ here.loaded told ∙ ap (reads here.rows) c.if-taken.true;
        taken = here.are_taken;
        few = omega (arith, here.few, here.are_taken.count);
        behind = omega (arith, here.has_place.behind, here.are_taken.count);
        packed = λ told_z. here.packed (told_back here.steps.frame told_z);
      },
    )

pub returns-else-taken-clause-faulty : goal.returns-else-taken-clause-faulty
returns-else-taken-clause-faulty g c told =
    let here = c.loop-line.invariant in
    let next : IsNextEntry c.args.place.now.layout.format (Ok None) c.args.reader.now (g.I.Source.view c.args.source.now) here.given c.next_entry.new.reader (g.I.Source.view c.next_entry.new.source) =
    subst (λ (o : Option LoadLine). IsNextEntry c.args.place.now.layout.format (Ok o) c.args.reader.now (g.I.Source.view c.args.source.now) here.given c.next_entry.new.reader (g.I.Source.view c.next_entry.new.source)) c.in_default.is
    (c.in_ok-line.ensures.next c.args.reader.now (g.I.Source.view c.args.source.now) here.given here.reading) in
    let end = next told in
    let less : c.loop-line.lines + 1 ≤ c.args.reader.now.room = omega (arith, here.bound, here.reading.taken told, (end.1 c.requires.unread.going).1) in
    let number : c.saturating_add.result ≡ c.loop-line.lines + 1 = omega (arith, c.saturating_add.ensures, less, here.small) in
    inr (
      here.rows,
      ap (loading c.args.place.now.layout.format (most_records c.args.place.now.layout)) end.0 ∙ here.loaded told ∙ ap (reads here.rows) c.if-taken.false,
      number ∙ omega (arith, here.counted, ap (λ (l : List (List ℕ)). length l) end.0),
    )

pub returns-then-taken-clause-calls : goal.returns-then-taken-clause-calls
returns-then-taken-clause-calls g c = c.loop-line.invariant.calls

-- What was taken.

-- Whatever was answered.

pub returns-in_err-line-clause-most_cost : goal.returns-in_err-line-clause-most_cost
returns-in_err-line-clause-most_cost g c =
    let here = c.loop-line.invariant in
    all_cost c.args.place.now.layout c.requires.can.layout c.loop-line.taken here.has_place here.few (g.S.Station.view c.args.station.now).travel.written (g.S.Station.view c.loop-line.station).travel.written here.cost

pub returns-in_err-line-clause-most_calls : goal.returns-in_err-line-clause-most_calls
returns-in_err-line-clause-most_calls g c =
    let here = c.loop-line.invariant in
    all_calls c.args.place.now.layout c.requires.can.layout c.loop-line.taken here.has_place here.few (g.S.Station.view c.args.station.now).calls (g.S.Station.view c.loop-line.station).calls here.calls

pub returns-then-taken-clause-most_cost : goal.returns-then-taken-clause-most_cost
returns-then-taken-clause-most_cost g c =
    let here = c.loop-line.invariant in
    all_cost c.args.place.now.layout c.requires.can.layout c.loop-line.taken here.has_place here.few (g.S.Station.view c.args.station.now).travel.written (g.S.Station.view c.loop-line.station).travel.written here.cost

pub returns-then-taken-clause-most_calls : goal.returns-then-taken-clause-most_calls
returns-then-taken-clause-most_calls g c =
    let here = c.loop-line.invariant in
    all_calls c.args.place.now.layout c.requires.can.layout c.loop-line.taken here.has_place here.few (g.S.Station.view c.args.station.now).calls (g.S.Station.view c.loop-line.station).calls here.calls

pub returns-else-taken-clause-most_cost : goal.returns-else-taken-clause-most_cost
returns-else-taken-clause-most_cost g c =
    let here = c.loop-line.invariant in
    all_cost c.args.place.now.layout c.requires.can.layout c.loop-line.taken here.has_place here.few (g.S.Station.view c.args.station.now).travel.written (g.S.Station.view c.loop-line.station).travel.written here.cost

pub returns-else-taken-clause-most_calls : goal.returns-else-taken-clause-most_calls
returns-else-taken-clause-most_calls g c =
    let here = c.loop-line.invariant in
    all_calls c.args.place.now.layout c.requires.can.layout c.loop-line.taken here.has_place here.few (g.S.Station.view c.args.station.now).calls (g.S.Station.view c.loop-line.station).calls here.calls

pub returns-in_err-take_line-clause-most_cost : goal.returns-in_err-take_line-clause-most_cost
returns-in_err-take_line-clause-most_cost g c =
    let here = c.loop-line.invariant in
    tried_cost c.args.place.now.layout c.requires.can.layout c.loop-line.taken here.has_place here.few (g.S.Station.view c.args.station.now).travel.written (g.S.Station.view c.loop-line.station).travel.written (g.S.Station.view c.take_line.new.station).travel.written here.cost c.take_line.ensures.most_cost

pub returns-in_err-take_line-clause-most_calls : goal.returns-in_err-take_line-clause-most_calls
returns-in_err-take_line-clause-most_calls g c =
    let here = c.loop-line.invariant in
    tried_calls c.args.place.now.layout c.requires.can.layout c.loop-line.taken here.has_place here.few (g.S.Station.view c.args.station.now).calls (g.S.Station.view c.loop-line.station).calls (g.S.Station.view c.take_line.new.station).calls here.calls c.take_line.ensures.most_calls

pub returns-in_err-line-clause-reading : goal.returns-in_err-line-clause-reading
returns-in_err-line-clause-reading g c =
    let p = err_from_is_err_and c.from_residual.result c.from_residual.ensures.1 in
    let here = c.loop-line.invariant in
    rw (p.1, p.2) (record {
      whole = tt;
      takes = takes_last c.args.reader.now (g.I.Source.view c.args.source.now) here.given c.loop-line.reader (g.I.Source.view c.loop-line.source) c.next_entry.new.reader (g.I.Source.view c.next_entry.new.source) here.reading c.next_entry.ensures.takes;
      failed = λ is. absurd (subst (λ (f : LoadFault). IsNextEntry c.args.place.now.layout.format (Err f) c.args.reader.now (g.I.Source.view c.args.source.now) here.given c.next_entry.new.reader (g.I.Source.view c.next_entry.new.source)) (disk_is {T = Taken} c.in_err-line.field-0.0 is) (c.in_err-line.ensures.next c.args.reader.now (g.I.Source.view c.args.source.now) here.given here.reading));
      went = record { tells = c.next_entry.ensures.went.tells ∙ here.reading.went.tells; faults = omega (arith, here.reading.went.faults, c.next_entry.ensures.went.faults) };
    })

pub returns-in_err-take_line-clause-reading : goal.returns-in_err-take_line-clause-reading
returns-in_err-take_line-clause-reading g c =
    let p = err_from_is_err_and c.from_residual-in_err-take_line.result c.from_residual-in_err-take_line.ensures.1 in
    let here = c.loop-line.invariant in
    let next = turn g (goal.at.returns-in_err-take_line-clause-reading g c).After-take_line in
    rw (p.1, p.2) (record {
      whole = tt;
      takes = takes_given c.args.reader.now (g.I.Source.view c.args.source.now) (here.given ++ next.raw ∷ []) c.next_entry.new.reader (g.I.Source.view c.next_entry.new.source) next.more;
      failed = λ is. rose_on (g.S.Station.view c.args.station.now) (g.S.Station.view c.loop-line.station) (g.S.Station.view c.take_line.new.station).disk_faults here.steps.frame.disk_faults (c.in_err-take_line.ensures.failed (disk_as {T = Unit {0}} c.in_err-take_line.field-0.0 (disk_is {T = Taken} c.in_err-take_line.field-0.0 is)));
      went = next.more.went;
    })

pub returns-then-taken-clause-reading : goal.returns-then-taken-clause-reading
returns-then-taken-clause-reading g c =
    let here = c.loop-line.invariant in
    let next : IsNextEntry c.args.place.now.layout.format (Ok None) c.args.reader.now (g.I.Source.view c.args.source.now) here.given c.next_entry.new.reader (g.I.Source.view c.next_entry.new.source) =
    subst (λ (o : Option LoadLine). IsNextEntry c.args.place.now.layout.format (Ok o) c.args.reader.now (g.I.Source.view c.args.source.now) here.given c.next_entry.new.reader (g.I.Source.view c.next_entry.new.source)) c.in_default.is
    (c.in_ok-line.ensures.next c.args.reader.now (g.I.Source.view c.args.source.now) here.given here.reading) in
    record {
      whole = λ told. (next told).1 c.requires.unread.going;
      takes = takes_last c.args.reader.now (g.I.Source.view c.args.source.now) here.given c.loop-line.reader (g.I.Source.view c.loop-line.source) c.next_entry.new.reader (g.I.Source.view c.next_entry.new.source) here.reading c.next_entry.ensures.takes;
      failed = λ is. absurd (never_disk c.loop-line.taken is);
      went = record { tells = c.next_entry.ensures.went.tells ∙ here.reading.went.tells; faults = omega (arith, here.reading.went.faults, c.next_entry.ensures.went.faults) };
    }

pub returns-else-taken-clause-reading : goal.returns-else-taken-clause-reading
returns-else-taken-clause-reading g c =
    let here = c.loop-line.invariant in
    record {
      whole = tt;
      takes = takes_last c.args.reader.now (g.I.Source.view c.args.source.now) here.given c.loop-line.reader (g.I.Source.view c.loop-line.source) c.next_entry.new.reader (g.I.Source.view c.next_entry.new.source) here.reading c.next_entry.ensures.takes;
      failed = λ is. absurd cc;
      went = record { tells = c.next_entry.ensures.went.tells ∙ here.reading.went.tells; faults = omega (arith, here.reading.went.faults, c.next_entry.ensures.went.faults) };
    }
