use Rattle.std.proofs.Common.{◌*◌, arith}
use Rattle.index_file.proofs.AreaLaws.{place_small}
use Rattle.index_file.proofs.area.wrong_node.Goals as goal

pub overflow_cast-result : goal.overflow_cast-result
overflow_cast-result c = omega (arith, c.node_at.ensures, place_small c.args.layout.now (64 * c.args.x) c.requires.layout (omega (arith, c.requires.node)))
