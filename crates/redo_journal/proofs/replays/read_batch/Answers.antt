use Rattle.std.proofs.Common.{◌≡◌, ◌+◌, ◌∙◌, List, ℕ, length, ap, arith}
use Rattle.station.specs.View.{Fixed}
use Rattle.header_gate.specs.declared.layout.Layout.{Layout}
use Rattle.header_gate.specs.Header.{number}
use Rattle.header_gate.specs.Recovered.{numbers_at}
use Rattle.header_gate.proofs.Shifts.{shift_most}
use Rattle.header_gate.proofs.Recoveries.{length-numbers_from}
use Rattle.redo_journal.specs.Replaying.{table_start}
use Rattle.redo_journal.proofs.replays.read_batch.Goals as goal

none_there : (l : Layout) (turn : ℕ) (file : List ℕ) → number file (table_start l turn) ≡ 0 → length (numbers_at (table_start l turn) file) ≡ 0
none_there l turn file none = length-numbers_from (number file (table_start l turn)) (table_start l turn + 4) file ∙ none

pub read_into-requires-clause-reach : goal.read_into-requires-clause-reach
read_into-requires-clause-reach g c =
    omega (arith, c.image_in.ensures, c.count.ensures, c.requires.reach, c.in_ok-read_table.ensures.read.batch.most_is, shift_most c.args.layout c.args.turn, ap (λ (f : Fixed). f.reach) c.read_table.ensures.read.steps.frame.fixed)

-- a table that names no page has no images
pub returns-clause-none_reads : goal.returns-clause-none_reads
returns-clause-none_reads g c told none =
    omega (arith, c.read_table.ensures.none_reads told none, c.read_into.ensures.reads, c.count.ensures, none_there c.args.layout c.args.turn (g.S.Station.view c.args.station.now).held none, ap (λ (l : List ℕ). length l) (c.in_ok-read_table.ensures.read.table told))

pub returns-in_default-clause-none_reads : goal.returns-in_default-clause-none_reads
returns-in_default-clause-none_reads g c told none =
    omega (arith, c.read_table.ensures.none_reads told none, c.read_into.ensures.reads, c.count.ensures, none_there c.args.layout c.args.turn (g.S.Station.view c.args.station.now).held none, ap (λ (l : List ℕ). length l) (c.in_ok-read_table.ensures.read.table told))
