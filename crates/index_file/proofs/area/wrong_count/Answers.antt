use Rattle.std.proofs.Common.{◌*◌, ◌+◌, ◌^◌, arith}
use Rattle.std.proofs.Math.Pow.{pow_mono}
use Rattle.index_file.proofs.AreaLaws.{place_small}
use Rattle.index_file.proofs.area.wrong_count.Goals as goal

pub overflow_cast-result : goal.overflow_cast-result
overflow_cast-result c =
    let l = c.args.layout.now in
    omega (arith, c.count_at.ensures, place_small l (64 * 2 ^ l.hmax + 4 * c.args.i) c.requires.layout (omega (arith, c.requires.segment, pow_mono {i = l.hmax} {j = 16} c.requires.layout.hmax)))
