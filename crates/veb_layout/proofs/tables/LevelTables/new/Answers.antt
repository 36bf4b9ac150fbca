use Rattle.std.proofs.Common.{arith}
use Rattle.veb_layout.proofs.tables.LevelTables.new.Goals as goal

pub invariant_of-result : goal.invariant_of-result
invariant_of-result c = record {
  low = c.requires;
  size = c.loop-d.invariant.size;
  above = λ d some within. c.loop-d.invariant.above d some (omega arith);
}
