-- A count that is within the bounds is no fault.
use Rattle.std.proofs.Common.{ap, is_ok}
use mathlib.Core.Bool.{true≢false}
use Rattle.recovery.proofs.region.validate_density.Goals as goal

pub returns-then-in_bounds-clause-no_disk : goal.returns-then-in_bounds-clause-no_disk
returns-then-in_bounds-clause-no_disk c is = absurd (true≢false (ap is_ok is))
