use Rattle.std.proofs.Common.{rules}
use Rattle.header_gate.specs.Places.{area_size, journal_shift}
use Rattle.header_gate.proofs.header.validate_page.Goals as goal

pub returns-in_err-validate_copy-clause-refused : goal.returns-in_err-validate_copy-clause-refused
unfolding area_size journal_shift
returns-in_err-validate_copy-clause-refused c = search rules

pub returns-clause-sound : goal.returns-clause-sound
unfolding area_size journal_shift
returns-clause-sound c = search rules

pub returns-clause-fits : goal.returns-clause-fits
unfolding area_size journal_shift
returns-clause-fits c = search rules

pub returns-clause-header : goal.returns-clause-header
returns-clause-header c = search rules
