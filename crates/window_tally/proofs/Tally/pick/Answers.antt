use Rattle.std.proofs.Common.{subst, sym, ◌∙◌, refl}
use Rattle.window_tally.specs.Choice.{IsPossible}
use Rattle.window_tally.proofs.ChoiceLaws.{possible, at_limit, cause_marked}
use Rattle.window_tally.proofs.Tally.pick.Goals as goal

pub returns-clause-possible : goal.returns-clause-possible
returns-clause-possible c = λ balanced. subst (IsPossible c.args.self.now) (sym c.choice.ensures.answer) (possible c.args.self.now c.choice.ensures.tally c.args.segment c.args.change c.requires.in_store c.requires.some balanced _ refl)

pub returns-clause-limit : goal.returns-clause-limit
returns-clause-limit c = λ balanced add full. c.choice.ensures.answer ∙ at_limit c.args.self.now c.choice.ensures.tally c.args.segment c.args.change c.requires.in_store c.requires.some balanced add full

pub returns-clause-cause : goal.returns-clause-cause
returns-clause-cause c = λ window n picked. cause_marked c.args.self.now c.choice.ensures.tally c.args.segment c.args.change c.requires.in_store c.requires.some window n (sym c.choice.ensures.answer ∙ picked)
