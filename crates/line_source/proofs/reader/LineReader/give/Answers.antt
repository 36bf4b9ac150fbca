-- What is held begins behind the line then.
use Rattle.std.proofs.Common.{drop, ap, ◌∙◌, rules, arith}
use Rattle.std.proofs.lemmas.Grind.{common_steps}
use Rattle.line_source.proofs.Parts.{slice_range-from}
use Rattle.line_source.proofs.reader.LineReader.give.Goals as goal

pub returns-then-long-clause-held : goal.returns-then-long-clause-held
returns-then-long-clause-held c = slice_range-from c.self.inside.buffer c.self.inside.start c.self.inside.end c.args.behind ∙ ap (λ v. drop c.args.behind v.held) c.self.view_is

pub returns-clause-held : goal.returns-clause-held
returns-clause-held c = slice_range-from c.self.inside.buffer c.self.inside.start c.self.inside.end c.args.behind ∙ ap (λ v. drop c.args.behind v.held) c.self.view_is

pub returns-clause-line : goal.returns-clause-line
returns-clause-line c = grind (arith, common_steps)

pub returns-then-long-clause-line : goal.returns-then-long-clause-line
returns-then-long-clause-line c = search rules
