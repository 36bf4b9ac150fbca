use Rattle.map_model.proofs.Unnamed.{unnamed_represents, page_kept}
use Rattle.map_model.proofs.laws.unnamed_bytes_mean_nothing.Goals as goal

pub returns-clause-represents : goal.returns-clause-represents
returns-clause-represents c = unnamed_represents

pub returns-clause-header : goal.returns-clause-header
returns-clause-header c = page_kept
