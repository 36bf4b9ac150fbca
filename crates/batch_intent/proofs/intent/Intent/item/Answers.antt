use Rattle.std.proofs.Common.{List, length, get_or, ap, ◌∙◌, arith}
use Rattle.map_model.specs.Store.{Update}
use Rattle.batch_intent.specs.Spelling.{items_in}
use Rattle.batch_intent.proofs.Kept.{kept_place, kept_sizes, kept_item}
use Rattle.batch_intent.proofs.intent.Intent.item.Goals as goal

pub read_item-requires-clause-there : goal.read_item-requires-clause-there
read_item-requires-clause-there c =
    let size = ap length c.self.view_is in
    kept_place (items_in c.self.inside.bytes) c.self.inside.bytes c.self.inside.end c.self.invariant c.args.i (omega (arith, size, c.requires))

pub read_item-requires-clause-sizes : goal.read_item-requires-clause-sizes
read_item-requires-clause-sizes c =
    let size = ap length c.self.view_is in
    kept_sizes (items_in c.self.inside.bytes) c.self.inside.bytes c.self.inside.end c.self.invariant c.args.i (omega (arith, size, c.requires))

pub returns : goal.returns
returns c d =
    let size = ap length c.self.view_is in
    c.read_item.ensures
    ∙ kept_item (items_in c.self.inside.bytes) c.self.inside.bytes c.self.inside.end c.self.invariant c.args.i d (omega (arith, size, c.requires))
    ∙ ap (λ (us : List Update). get_or us c.args.i d) c.self.view_is
