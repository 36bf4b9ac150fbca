use Rattle.std.proofs.Common.{refl, sym, ap, subst, ◌∙◌}
use Rattle.command_text.specs.Load.{load_line}
use Rattle.line_source.specs.declared.reader.LineStep.TheVariants.{Line, LongLine, End, ReadFailed, Spent}
use Rattle.line_source.proofs.Progress.{given-more, given-all, rose_on}
use Rattle.bulk_load.proofs.ReadLaws.{raw_line, raw_long}
use Rattle.bulk_load.specs.TextReading.{FitsLine}
use Rattle.bulk_load.proofs.FitLaws.{line_fits}
use Rattle.bulk_load.proofs.reading.next_entry.Goals as goal

pub returns-in-Line-clause-next : goal.returns-in-Line-clause-next
returns-in-Line-clause-next g c r0 s0 given here =
    let one = given-more r0 s0 given c.args.reader.now (g.I.Source.view c.args.source.now) here Line c.next_line.new.self (g.I.Source.view c.next_line.new.source) c.in-Line.ensures.gives c.next_line.ensures.takes c.next_line.ensures.ended
    refl c.in-Line.ensures.done c.next_line.ensures.room c.next_line.ensures.went in
    record {
      raw = one.raw;
      line_is = λ told. c.parse_load.ensures ∙ ap (load_line c.args.format) c.line.ensures ∙ sym (raw_line c.args.format one.raw c.next_line.new.self.line (one.line told).0 (one.line told).1);
      more = one.more;
    }

pub returns-in-LongLine-clause-next : goal.returns-in-LongLine-clause-next
returns-in-LongLine-clause-next g c r0 s0 given here =
    let one = given-more r0 s0 given c.args.reader.now (g.I.Source.view c.args.source.now) here LongLine c.next_line.new.self (g.I.Source.view c.next_line.new.source) c.in-LongLine.ensures.gives c.next_line.ensures.takes c.next_line.ensures.ended
    refl c.in-LongLine.ensures.done c.next_line.ensures.room c.next_line.ensures.went in
    record { raw = one.raw; line_is = λ told. sym (raw_long c.args.format one.raw (one.line told)); more = one.more }

pub returns-in-End-clause-next : goal.returns-in-End-clause-next
returns-in-End-clause-next g c r0 s0 given here =
    given-all r0 s0 given c.args.reader.now (g.I.Source.view c.args.source.now) here End c.next_line.new.self (g.I.Source.view c.next_line.new.source) c.in-End.ensures.gives c.next_line.ensures.takes c.next_line.ensures.ended
    refl c.in-End.ensures.means

pub returns-in-ReadFailed-clause-next : goal.returns-in-ReadFailed-clause-next
returns-in-ReadFailed-clause-next g c r0 s0 given here = (
  given-all r0 s0 given c.args.reader.now (g.I.Source.view c.args.source.now) here ReadFailed c.next_line.new.self (g.I.Source.view c.next_line.new.source) c.in-ReadFailed.ensures.gives c.next_line.ensures.takes c.next_line.ensures.ended
      refl c.in-ReadFailed.ensures.means,
  rose_on s0 (g.I.Source.view c.args.source.now) (g.I.Source.view c.next_line.new.source) here.went c.in-ReadFailed.ensures.means.2,
)

pub returns-in-Spent-clause-next : goal.returns-in-Spent-clause-next
returns-in-Spent-clause-next g c r0 s0 given here =
    given-all r0 s0 given c.args.reader.now (g.I.Source.view c.args.source.now) here Spent c.next_line.new.self (g.I.Source.view c.next_line.new.source) c.in-Spent.ensures.gives c.next_line.ensures.takes c.next_line.ensures.ended
    refl c.in-Spent.ensures.means

pub returns-in-Line-clause-fits : goal.returns-in-Line-clause-fits
returns-in-Line-clause-fits g c = subst (FitsLine c.args.format) (sym c.parse_load.ensures) (line_fits c.args.format c.line.result.now)
