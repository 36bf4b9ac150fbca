use Rattle.std.proofs.Common.{arith}
use Rattle.std.proofs.lemmas.Bool.Decides.{nat_tests}
use Rattle.header_gate.proofs.Shifts.{shift_single}
use Rattle.header_gate.proofs.Recoveries.{laid_odd}
use Rattle.header_gate.proofs.Journals.{named_single}
use Rattle.header_gate.proofs.laws.single_journals.Goals as goal

pub returns-clause-shift : goal.returns-clause-shift
returns-clause-shift c = shift_single

pub returns-clause-laid : goal.returns-clause-laid
returns-clause-laid c l file isnt = (λ laid. grind (arith, nat_tests, isnt, laid), laid_odd l file)

pub returns-clause-named : goal.returns-clause-named
returns-clause-named c l file isnt = (λ named. grind (arith, nat_tests, isnt, named), named_single l file isnt)
