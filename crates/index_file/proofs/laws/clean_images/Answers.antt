use Rattle.index_file.proofs.CleanLaws.{clean_shut, clean_closing, clean_untouched, shut_refused}
use Rattle.index_file.proofs.laws.clean_images.Goals as goal

pub returns-clause-shut : goal.returns-clause-shut
returns-clause-shut c = clean_shut

pub returns-clause-closing : goal.returns-clause-closing
returns-clause-closing c = clean_closing

pub returns-clause-untouched : goal.returns-clause-untouched
returns-clause-untouched c = clean_untouched

pub returns-clause-refused : goal.returns-clause-refused
returns-clause-refused c = shut_refused
