use Rattle.std.proofs.Common.{arith}
use Rattle.header_gate.specs.Places.{area_size}
use Rattle.header_gate.proofs.Shifts.{shift_single}
use Rattle.pma_engine.proofs.generate.empty_file.Goals as goal

pub new-requires : goal.new-requires
unfolding area_size
new-requires c = omega (arith, c.length.ensures, shift_single (record { hmax = 11; journal = 2048; version = 1; format = 1 }) 1 (λ is. omega (arith, is)))
