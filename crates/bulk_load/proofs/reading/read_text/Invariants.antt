use Rattle.std.proofs.Common.{◌≡◌, ◌+◌, ◌*◌, ◌^◌, ◌<◌, ◌≤◌, ℕ, List, length}
use Rattle.station.specs.View.{Told}
use Rattle.station.specs.Steps.{Steps}
use Rattle.header_gate.specs.Places.{segment_size}
use Rattle.key_slot.specs.Record.{Record}
use Rattle.line_source.specs.SourceView.{SourceTold}
use Rattle.line_source.specs.Progress.{HasGiven}
use Rattle.map_model.specs.Regions.{Spares}
use Rattle.bulk_load.specs.LoadLines.{loading, reads}
use Rattle.bulk_load.specs.Loads.{most_records}
use Rattle.bulk_load.specs.Packing.{CanFill, IsTaken, HasPlace, HasPacked, WritesRuns, room_in}
use Rattle.bulk_load.proofs.reading.read_text.Given as goal

abbrev pub invariant-loop-line : goal.invariant-loop-line
invariant-loop-line g l = record {
  given : List (List ℕ);
  rows : List Record;
  reading : HasGiven l.fn.reader (g.I.Source.view l.fn.source) given l.reader (g.I.Source.view l.source);
  loaded : SourceTold (g.I.Source.view l.fn.source) → loading l.place.layout.format (most_records l.place.layout) given ≡ reads rows l.taken.ended;
  are_taken : IsTaken l.place.layout l.taken l.frames rows;
  has_place : HasPlace l.place.layout l.taken;
  few : l.taken.records ≤ most_records l.place.layout;
  packed : Told (g.S.Station.view l.fn.station) → HasPacked l.place rows l.taken.written (g.S.Station.view l.station).held;
  small : l.fn.reader.room < 2 ^ 64;
  counted : l.lines ≡ length given;
  bound : l.lines + (l.reader.room + length l.reader.held) ≤ l.fn.reader.room;
  steps : Steps (Spares l.place.layout l.place.region) (g.S.Station.view l.fn.station) (g.S.Station.view l.station);
  can : CanFill l.place l.frames (g.S.Station.view l.station);
  journal : l.frames.journal ≡ l.fn.frames.journal;
  turn : l.frames.turn ≡ l.fn.frames.turn;
  cost : (g.S.Station.view l.station).travel.written ≤ (g.S.Station.view l.fn.station).travel.written + segment_size l.place.layout * l.taken.written;
  calls : WritesRuns (room_in l.place.layout) 0 l.taken.written (g.S.Station.view l.fn.station).calls (g.S.Station.view l.station).calls;
}

abbrev pub decreases-loop-line : goal.decreases-loop-line
decreases-loop-line g l = l.reader.room + length l.reader.held
