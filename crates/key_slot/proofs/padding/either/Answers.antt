-- A lane of both is empty where it is in each.
use Rattle.std.proofs.Common.{sym, ◌∙◌}
use Rattle.key_slot.proofs.Gathered.{or_none}
use Rattle.key_slot.proofs.padding.either.Goals as goal

pub returns : goal.returns
returns c = or_none c.args.a c.args.b (c.fits-a.0 ∙ sym c.fits-b.0)
