use Rattle.std.proofs.Common.{◌≡◌, ◌+◌, ◌^◌, ◌<◌, ◌≤◌, ℕ, List, length}
use Rattle.station.specs.View.{Told}
use Rattle.line_source.specs.Progress.{HasGiven}
use Rattle.line_source.specs.SourceView.{SourceTold}
use Rattle.bulk_load.specs.Amid.{Goes, IsBetween}
use Rattle.bulk_load.specs.MergeUpdates.{HasReadAlone, HasReadLines}
use Rattle.bulk_load.proofs.merging.merge_lines.Given as goal

abbrev pub invariant-loop-line : goal.invariant-loop-line
invariant-loop-line g l = record {
  given : List (List ℕ);
  reading : HasGiven l.fn.reader (g.I.Source.view l.fn.source) given l.reader (g.I.Source.view l.source);
  read : Told (g.S.Station.view l.fn.station) → HasReadLines l.place (g.I.Source.view l.fn.source) given (g.S.Station.view l.fn.station) l.run l.frames (g.S.Station.view l.station);
  alone : SourceTold (g.I.Source.view l.fn.source) → HasReadAlone l.place.layout.format given l.run;
  between : IsBetween l.place l.run l.frames (g.S.Station.view l.station);
  small : l.fn.reader.room < 2 ^ 64;
  counted : l.lines ≡ length given;
  bound : l.lines + (l.reader.room + length l.reader.held) ≤ l.fn.reader.room;
  tally : l.run.ahead.tally.now ≡ l.fn.run.ahead.tally.now;
  goes : Goes l.place l.fn.run.taken.written l.run.taken.written l.fn.run.ahead.reader.next l.run.ahead.reader.next l.fn.frames l.frames (g.S.Station.view l.fn.station) (g.S.Station.view l.station);
}

abbrev pub decreases-loop-line : goal.decreases-loop-line
decreases-loop-line g l = l.reader.room + length l.reader.held
