use Rattle.std.proofs.Common.{◌≡◌, length, ap, ◌∙◌, arith}
use Rattle.std.proofs.lemmas.List.{with_items_is}
use Rattle.station.proofs.memory.Memory.new.Goals as goal

pub returns-clause-size : goal.returns-clause-size
returns-clause-size c =
    let whole : length c.put.new.storage ≡ c.args.size = omega (arith, c.put.ensures.size, c.deref_mut.ensures.len, c.in_ok-storage.ensures.len, c.requires) in
    ap length (with_items_is c.in_ok-storage.storage c.put.new.storage (omega (arith, whole, c.in_ok-storage.ensures.len))) ∙ whole
