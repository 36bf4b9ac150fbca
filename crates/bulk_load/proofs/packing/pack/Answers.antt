use Rattle.std.proofs.Common.{arith, inl, inr, refl, ◌+◌, ◌-◌, ◌*◌, ◌/◌, ◌^◌, ◌≤◌, List, [], ◌∷◌, ◌++◌, Some, ap}
use Rattle.std.proofs.lemmas.Result.{on_ok_weaker}
use Rattle.header_gate.specs.Places.{height_limit, segment_size}
use Rattle.key_slot.specs.Record.{Record}
use Rattle.key_slot.specs.Row.{record_of}
use Rattle.key_slot.proofs.SegmentLaws.{times_up}
use Rattle.redo_journal.specs.Frames.{Batch}
use Rattle.resize_region.specs.Shares.{places}
use Rattle.bulk_load.specs.Packing.{IsTaken}
use Rattle.bulk_load.proofs.PackLaws.{room_fits}
use Rattle.bulk_load.proofs.TakenLaws.{next_count, put_taken, put_packed}
use Rattle.bulk_load.proofs.packing.pack.Goals as goal
use Rattle.bulk_load.proofs.packing.pack.Goals.{After-put_row}

pub put_row-requires-clause-count : goal.put_row-requires-clause-count
put_row-requires-clause-count g c = next_count c.args.place.now.layout c.args.taken.now c.args.frames.now c.requires.taken.0 (room_fits c.args.place.now.layout c.args.frames.now c.requires.can.layout c.requires.can.journal) c.requires.taken.1 c.requires.place

-- with the record
put : (g : _) (c : After-put_row g) (rows : List Record) → IsTaken c.args.place.now.layout c.args.taken.now c.args.frames.now rows
    → IsTaken c.args.place.now.layout (record c.args.taken.now { records = c.args.taken.now.records + 1; last = Some c.args.row.now.key }) c.put_row.new.frames (rows ++ record_of c.args.row.now ∷ [])
put g c rows is =
    put_taken c.args.place.now.layout c.args.taken.now c.args.frames.now c.put_row.new.frames rows (record_of c.args.row.now) ((c.args.taken.now.records - 64 * c.args.taken.now.written) / 64) (room_fits c.args.place.now.layout c.args.frames.now c.requires.can.layout c.requires.can.journal) is c.requires.place refl c.requires.fits c.requires.above
    c.put_row.ensures.shares (ap (λ (b : Batch). places c.args.place.now.layout.format b) c.put_row.ensures.rest) c.put_row.ensures.share c.put_row.ensures.others (record c.args.taken.now { records = c.args.taken.now.records + 1; last = Some c.args.row.now.key }) refl refl refl

pub returns-then-slot-all-clause-taken : goal.returns-then-slot-all-clause-taken
returns-then-slot-all-clause-taken g c rows is = put g (goal.at.returns-then-slot-all-clause-taken g c).After-put_row rows is

pub returns-then-slot-all-clause-packed : goal.returns-then-slot-all-clause-packed
returns-then-slot-all-clause-packed g c told rows is packed =
    put_packed c.args.place.now rows (record_of c.args.row.now) c.args.taken.now.written (g.S.Station.view c.args.station.now).held (omega (arith, is.count, c.requires.place.behind)) packed

pub flush-requires-clause-taken : goal.flush-requires-clause-taken
flush-requires-clause-taken g c = (c.requires.taken.0 ++ record_of c.args.row.now ∷ [], put g (goal.at.flush-requires-clause-taken g c).After-put_row c.requires.taken.0 c.requires.taken.1)

pub returns-clause-taken : goal.returns-clause-taken
returns-clause-taken g c = on_ok_weaker c.flush.result (λ flushed rows is. flushed (rows ++ record_of c.args.row.now ∷ []) (put g (goal.at.returns-clause-taken g c).After-put_row rows is)) c.flush.ensures.writes.taken

pub returns-clause-packed : goal.returns-clause-packed
returns-clause-packed g c = on_ok_weaker c.flush.result (λ flushed told rows is packed.
    flushed told (rows ++ record_of c.args.row.now ∷ []) (put g (goal.at.returns-clause-packed g c).After-put_row rows is)
    (put_packed c.args.place.now rows (record_of c.args.row.now) c.args.taken.now.written (g.S.Station.view c.args.station.now).held (omega (arith, is.count, c.requires.place.behind)) packed)) c.flush.ensures.writes.packed

pub returns-then-slot-all-clause-calls : goal.returns-then-slot-all-clause-calls
returns-then-slot-all-clause-calls g c = (0, omega arith, omega arith)

pub returns-clause-calls : goal.returns-clause-calls
returns-clause-calls g c = on_ok_weaker c.flush.result (λ written. (1, omega (arith, written, c.room_of-all.ensures.room), c.flush.ensures.calls)) c.flush.ensures.written

-- Whatever was answered.

pub returns-then-slot-all-clause-tried : goal.returns-then-slot-all-clause-tried
returns-then-slot-all-clause-tried g c = inl (omega arith)

pub returns-clause-tried : goal.returns-clause-tried
returns-clause-tried g c = inr (c.flush.ensures.calls, omega (arith, c.if-slot-all.false, c.room_of-all.ensures.room, c.requires.place.behind))

pub returns-clause-most_cost : goal.returns-clause-most_cost
returns-clause-most_cost g c =
    let l = c.args.place.now.layout in
    let inside : c.room_of-all.result ≤ 2 ^ height_limit l - c.args.taken.now.written = omega (arith, c.if-slot-all.false, c.requires.place.behind, c.requires.place.within, c.room_of-all.ensures.room, c.requires.room) in
    omega (arith, c.flush.ensures.cost, times_up (segment_size l) c.room_of-all.result (2 ^ height_limit l - c.args.taken.now.written) inside)
