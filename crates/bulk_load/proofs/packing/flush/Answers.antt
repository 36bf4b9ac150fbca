use Rattle.std.proofs.Common.{arith, refl, ◌+◌, ap}
use Rattle.redo_journal.specs.Frames.{Batch}
use Rattle.resize_region.specs.Shares.{places}
use Rattle.resize_region.proofs.OldRowLaws.{never_failed}
use Rattle.bulk_load.proofs.PackLaws.{room_fits}
use Rattle.bulk_load.proofs.TakenLaws.{flush_packed, flush_taken}
use Rattle.bulk_load.proofs.packing.flush.Goals as goal

pub returns-clause-writes : goal.returns-clause-writes
returns-clause-writes g c =
    let l = c.args.place.now.layout in
    let t = c.args.taken.now in
    let room = room_fits l c.args.frames.now c.requires.can.layout c.requires.can.journal in
    record {
      taken = λ rows is.
          flush_taken l t (record t { written = t.written + c.args.count }) c.args.frames.now c.clear_shares.new.frames rows c.args.count is c.requires.all refl c.clear_shares.ensures.shares
          (ap (λ (b : Batch). places l.format b) c.clear_shares.ensures.rest) c.clear_shares.ensures.empty c.clear_shares.ensures.others;
      packed = λ told rows is packed.
          flush_packed c.args.place.now rows t.written c.args.count c.args.frames.now (g.S.Station.view c.args.station.now).held (g.S.Station.view c.write_shares.new.station).held is.rows_are
          (λ i lt. is.held i (omega (arith, lt, c.requires.few, room))) (λ i lt fits. c.in_ok-write_shares.ensures.written told i lt fits) (c.write_shares.ensures.others told) packed;
      same = refl;
      journal = ap (λ (b : Batch). b.journal) c.clear_shares.ensures.rest;
      turn = ap (λ (b : Batch). b.turn) c.clear_shares.ensures.rest;
      steps = c.write_shares.ensures.steps;
      no_reads = c.write_shares.ensures.writes.no_reads;
      fault = tt;
      failed = λ is. absurd (never_failed {T = Unit {0}} tt is);
    }

pub returns-clause-calls : goal.returns-clause-calls
returns-clause-calls g c = c.write_shares.ensures.writes.calls

pub returns-clause-cost : goal.returns-clause-cost
returns-clause-cost g c = c.write_shares.ensures.writes.cost

pub returns-in_err-write_shares-clause-calls : goal.returns-in_err-write_shares-clause-calls
returns-in_err-write_shares-clause-calls g c = c.write_shares.ensures.writes.calls

pub returns-in_err-write_shares-clause-cost : goal.returns-in_err-write_shares-clause-cost
returns-in_err-write_shares-clause-cost g c = c.write_shares.ensures.writes.cost
