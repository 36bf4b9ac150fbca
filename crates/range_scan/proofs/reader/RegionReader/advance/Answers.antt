use Rattle.std.proofs.Common.{◌-◌, List, length, Option, Some, sym, ap, ◌∙◌}
use Rattle.key_slot.specs.Record.{Bytes, Record}
use Rattle.segment.specs.Rows.{key_at}
use Rattle.range_scan.specs.RegionReaderView.{ReaderView}
use Rattle.range_scan.proofs.Pages.{last_some}
use Rattle.range_scan.proofs.reader.RegionReader.advance.Goals as goal

-- the reader with this last key
abbrev lasting : ReaderView → Option Bytes → ReaderView
lasting r last = record r { last = last }

pub returns-in-Some-clause-after : goal.returns-in-Some-clause-after
returns-in-Some-clause-after c _ =
    ap (λ (r : ReaderView). lasting r (Some c.in-Some.last)) c.self.view_is
    ∙ ap (lasting c.args.self.now) (sym (last_some c.args.self.now.last c.advance.new.self.rows c.in-Some.last (ap (λ (rows : List Record). key_at rows (length rows - 1)) (sym c.rows.ensures) ∙ sym c.in-Some.ensures.key)))
