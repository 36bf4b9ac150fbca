-- The row of the table.
use Rattle.std.proofs.Common.{refl, arith}
use Rattle.key_slot.specs.declared.masks.TheConstants.{BEFORE_LAST, TABLE}
use Rattle.key_slot.proofs.Gathered.{row_is}
use Rattle.key_slot.proofs.padding.mask.Goals as goal

pub returns : goal.returns
returns c = row_is BEFORE_LAST TABLE 145 c.args.reach tt refl (omega (arith, c.requires))
