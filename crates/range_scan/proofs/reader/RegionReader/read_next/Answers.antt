use Rattle.std.proofs.Common.{◌+◌, ◌-◌, List, length, Option, Some, sym, ap, ◌∙◌}
use Rattle.key_slot.specs.Record.{Bytes, Record}
use Rattle.segment.specs.Rows.{key_at}
use Rattle.range_scan.specs.RegionReaderView.{ReaderView}
use Rattle.range_scan.proofs.Pages.{last_some}
use Rattle.range_scan.proofs.reader.RegionReader.read_next.Goals as goal

-- the reader with the next number and this last key
abbrev stepped : ReaderView → Option Bytes → ReaderView
stepped r last = record r { next = r.next + 1; last = last }

pub returns-in-Some-clause-after : goal.returns-in-Some-clause-after
returns-in-Some-clause-after g c =
    ap (λ (r : ReaderView). stepped r (Some c.in-Some.last)) c.self.view_is
    ∙ ap (stepped c.args.self.now) (sym (last_some c.args.self.now.last c.read_above.new.self.rows c.in-Some.last (ap (λ (rows : List Record). key_at rows (length rows - 1)) (sym c.rows.ensures) ∙ sym c.in-Some.ensures.key)))
