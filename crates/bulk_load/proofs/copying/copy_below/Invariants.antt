use Rattle.std.proofs.Common.{◌≡◌, ◌+◌, ◌-◌, true, List, [], ◌∷◌, ◌++◌, length}
use Rattle.std.specs.Prelude.{IfSome}
use Rattle.station.specs.View.{Told}
use Rattle.key_slot.specs.Record.{Record}
use Rattle.map_model.specs.Image.{array_of}
use Rattle.map_model.specs.FileReasons.{begins_above}
use Rattle.bulk_load.specs.Ahead.{left_in, under, over, hand, read_by}
use Rattle.bulk_load.specs.Amid.{Goes, IsAmid}
use Rattle.bulk_load.specs.Loads.{most_records}
use Rattle.bulk_load.specs.Packing.{IsTaken, HasPacked}
use Rattle.bulk_load.proofs.copying.copy_below.Given as goal

abbrev pub invariant-loop-row : goal.invariant-loop-row
invariant-loop-row g l = record {
  copied : List Record;
  amid : IsAmid l.place l.run l.frames (g.S.Station.view l.station);
  taken : (rows : List Record) → IsTaken l.place.layout l.fn.run.taken l.fn.frames rows → IsTaken l.place.layout l.run.taken l.frames (rows ++ copied);
  packed : Told (g.S.Station.view l.fn.station) → (rows : List Record) → IsTaken l.place.layout l.fn.run.taken l.fn.frames rows → HasPacked l.place rows l.fn.run.taken.written (g.S.Station.view l.fn.station).held
      → HasPacked l.place (rows ++ copied) l.run.taken.written (g.S.Station.view l.station).held;
  split : Told (g.S.Station.view l.fn.station) → under l.key (left_in (array_of (g.S.Station.view l.fn.station).held) l.fn.run.ahead) ≡ copied ++ under l.key (left_in (array_of (g.S.Station.view l.fn.station).held) l.run.ahead);
  rest : Told (g.S.Station.view l.fn.station) → over l.key (left_in (array_of (g.S.Station.view l.fn.station).held) l.fn.run.ahead) ≡ over l.key (left_in (array_of (g.S.Station.view l.fn.station).held) l.run.ahead);
  upto : IfSome l.key (λ k. begins_above l.run.taken.last ((k, []) ∷ []) ≡ true);
  same : l.run ≡ record l.fn.run { ahead = l.run.ahead; taken = l.run.taken };
  ended : l.run.taken.ended ≡ l.fn.run.taken.ended;
  tally : l.run.ahead.tally.now ≡ l.fn.run.ahead.tally.now;
  count : l.run.taken.records ≡ l.fn.run.taken.records + length copied;
  walked : l.run.taken.records + hand l.run.ahead + read_by l.fn.run.ahead ≡ l.fn.run.taken.records + hand l.fn.run.ahead + read_by l.run.ahead;
  goes : Goes l.place l.fn.run.taken.written l.run.taken.written l.fn.run.ahead.reader.next l.run.ahead.reader.next l.fn.frames l.frames (g.S.Station.view l.fn.station) (g.S.Station.view l.station);
}

-- each record that is copied is one of those that may be
abbrev pub decreases-loop-row : goal.decreases-loop-row
decreases-loop-row g l = most_records l.place.layout - l.run.taken.records
