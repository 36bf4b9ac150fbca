use Rattle.std.proofs.Common.{◌≡◌, ℕ, ◌+◌, ◌*◌, Some, sym, ◌∙◌, ap, subst, arith, rules}
use mathlib.Core.Bool.{true≢false}
use Rattle.std.specs.Prelude.{is_ok}
use Rattle.station.specs.View.{Told}
use Rattle.raw_slots.specs.Slots.{bytes_of}
use Rattle.header_gate.specs.Header.{number}
use Rattle.header_gate.specs.declared.reason.Reason.TheVariants.{Journal}
use Rattle.header_gate.specs.Places.{pages_at}
use Rattle.header_gate.proofs.Shifts.{shift_most}
use Rattle.redo_journal.specs.Frames.{Batch, HasTable, IsTable, IsTableFault}
use Rattle.header_gate.specs.Recovered.{numbers_at, table_reason}
use Rattle.redo_journal.specs.Replaying.{HasRead, journal_fault, table_start}
use Rattle.redo_journal.proofs.FrameBytes.{table_numbers_are}
use Rattle.redo_journal.proofs.Validating.{table_accepted, table_batch, table_refused, table_read, reason_read, count_read, count_kept, fault_some, some_named}
use Rattle.redo_journal.proofs.replays.read_numbers.Goals as goal
use Rattle.redo_journal.proofs.replays.read_numbers.Goals.{After-take_table}

pub read_into-requires-clause-reach : goal.read_into-requires-clause-reach
read_into-requires-clause-reach g c = omega (arith, c.table_at.ensures.place, c.requires.reach, c.requires.few, shift_most c.args.layout c.args.turn)

-- where the table starts
abbrev at : (g : _) → After-take_table g → ℕ
at g c = table_start c.args.layout c.args.turn

-- the frames have room for the journal's pages
room : (g : _) (c : After-take_table g) → c.read_into.new.frames.journal ≡ c.args.layout.journal
room g c = ap (λ (b : Batch). b.journal) c.read_into.ensures.frames ∙ c.requires.journal

-- the numbers stand in the frames as in the file
rest : (g : _) (c : After-take_table g) → Told (g.S.Station.view c.args.station.now) → HasRead c.read_into.new.frames.slots 4 (4 * c.args.count) (g.S.Station.view c.args.station.now).held (at g c + 4)
rest g c told = subst (λ (p : ℕ). HasRead c.read_into.new.frames.slots 4 (4 * c.args.count) (g.S.Station.view c.args.station.now).held (p + 4)) c.table_at.ensures.place (c.in-Ok.ensures.read told)

-- the file's count is at least one
fault : (g : _) (c : After-take_table g) → Told (g.S.Station.view c.args.station.now)
    → journal_fault c.args.layout c.args.turn c.args.height (g.S.Station.view c.args.station.now).held ≡ table_reason (at g c) c.args.layout.journal (pages_at c.args.layout c.args.height) (number (g.S.Station.view c.args.station.now).held (at g c)) (numbers_at (at g c) (g.S.Station.view c.args.station.now).held)
fault g c told =
    fault_some c.args.layout c.args.turn c.args.height (g.S.Station.view c.args.station.now).held
    (some_named c.args.layout (number (g.S.Station.view c.args.station.now).held (at g c)) (omega (arith, c.requires.count, c.requires.some, count_read c.args.frames.now.slots (g.S.Station.view c.args.station.now).held (at g c) (c.requires.stands told))))

pub returns-in-Ok-take_table-clause-read : goal.returns-in-Ok-take_table-clause-read
returns-in-Ok-take_table-clause-read g c =
    let here = (goal.at.returns-in-Ok-take_table-clause-read g c).After-take_table in
    let a = g.S.Station.view c.args.station.now in
    let frames = c.read_into.new.frames in
    let start = table_start c.args.layout c.args.turn in
    let bound = pages_at c.args.layout c.args.height in
    let table : IsTable (bytes_of frames.slots) 0 c.args.layout.journal bound =
    subst (λ (most : ℕ). IsTable (bytes_of frames.slots) 0 most bound) (room g here) (subst (λ (b : ℕ). IsTable (bytes_of frames.slots) 0 frames.journal b) c.pages_at.ensures.pages c.in-Ok-take_table.ensures.ok) in
    let taken : HasTable (bytes_of frames.slots) 0 c.take_table.new.self.numbers = c.in-Ok-take_table.ensures.taken in
    let counted : number (bytes_of frames.slots) 0 ≡ c.args.count = count_kept c.args.frames.now.slots frames.slots c.read_into.ensures.kept ∙ sym c.requires.count in
    record {
      batch = table_batch (bytes_of frames.slots) start c.args.layout.journal bound c.take_table.new.self.numbers table c.in-Ok-take_table.ensures.taken;
      table = λ told.
          table_read c.args.frames.now.slots frames.slots a.held start c.args.count c.requires.count (c.requires.stands told) c.read_into.ensures.kept (rest g here told)
          ∙ table_numbers_are (bytes_of frames.slots) c.take_table.new.self.numbers 0 c.in-Ok-take_table.ensures.taken;
      some = λ isnt. omega (arith, taken.count, counted, c.requires.some);
      sound = λ told.
          fault g here told
          ∙ reason_read c.args.frames.now.slots frames.slots a.held start c.args.count c.requires.count (c.requires.stands told) c.read_into.ensures.kept (rest g here told) c.args.layout.journal bound
          ∙ table_accepted (bytes_of frames.slots) start c.args.layout.journal bound table;
      refused = tt;
      journal = ap (λ (b : Batch). b.journal) c.take_table.ensures.rest ∙ ap (λ (b : Batch). b.journal) c.read_into.ensures.frames;
      turn_kept = ap (λ (b : Batch). b.turn) c.take_table.ensures.rest ∙ ap (λ (b : Batch). b.turn) c.read_into.ensures.frames;
      steps = c.read_into.ensures.steps;
      written = c.read_into.ensures.written;
      cause = λ is. absurd (true≢false (ap is_ok is));
    }

pub returns-in-Err-clause-read : goal.returns-in-Err-clause-read
returns-in-Err-clause-read g c =
    let here = (goal.at.returns-in-Err-clause-read g c).After-take_table in
    let a = g.S.Station.view c.args.station.now in
    let frames = c.read_into.new.frames in
    let start = table_start c.args.layout c.args.turn in
    let bound = pages_at c.args.layout c.args.height in
    let wrong : IsTableFault (bytes_of frames.slots) 0 c.args.layout.journal bound c.in-Err.place =
    subst (λ (most : ℕ). IsTableFault (bytes_of frames.slots) 0 most bound c.in-Err.place) (room g here) (subst (λ (b : ℕ). IsTableFault (bytes_of frames.slots) 0 frames.journal b c.in-Err.place) c.pages_at.ensures.pages c.in-Err.ensures.wrong) in
    record {
      batch = tt;
      some = tt;
      table = tt;
      sound = tt;
      refused = λ told r e.
          let same : Journal (start + c.in-Err.place) ≡ r = ap (λ (p : ℕ). Journal (p + c.in-Err.place)) (sym c.table_at-in-Err.ensures.place) ∙ cc in
          fault g here told
          ∙ reason_read c.args.frames.now.slots frames.slots a.held start c.args.count c.requires.count (c.requires.stands told) c.read_into.ensures.kept (rest g here told) c.args.layout.journal bound
          ∙ table_refused (bytes_of frames.slots) start c.args.layout.journal bound c.in-Err.place wrong
          ∙ ap Some same;
      journal = ap (λ (b : Batch). b.journal) c.take_table.ensures.rest ∙ ap (λ (b : Batch). b.journal) c.read_into.ensures.frames;
      turn_kept = ap (λ (b : Batch). b.turn) c.take_table.ensures.rest ∙ ap (λ (b : Batch). b.turn) c.read_into.ensures.frames;
      steps = c.read_into.ensures.steps;
      written = c.read_into.ensures.written;
      cause = search rules;
    }
