use Rattle.std.proofs.Common.{subst, sym}
use Rattle.command_text.specs.declared.command.Command.{Command}
use Rattle.pma_engine.specs.Carrying.{with_cursors, AnswersLine}
use Rattle.pma_engine.proofs.answer.answer.Goals as goal

pub returns-in-Range : goal.returns-in-Range
returns-in-Range g c =
    let k = c.args.cursors.now in
    subst (λ (q : Command). AnswersLine {T = Unit {0}} q c.answer_range.result (with_cursors c.args.store.now k) (with_cursors c.answer_range.new.store k) (g.S.Station.view c.args.station.now) (g.S.Station.view c.answer_range.new.station)) (sym c.in-Range.is)
    (c.answer_range.ensures k)

pub returns-in_default : goal.returns-in_default
returns-in_default g c = c.answer_line.ensures c.args.cursors.now
