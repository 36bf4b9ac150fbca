use Rattle.std.proofs.Common.{◌^◌, ℕ, ap, arith}
use Rattle.std.proofs.Math.Pow.{pow_mono}
use Rattle.array_tests.proofs.readers.reader_of.Goals as goal

-- the height is at most the layout's limit
pub new-requires-clause-end : goal.new-requires-clause-end
new-requires-clause-end g c = omega (arith, pow_mono c.in-Ok.ensures.fits.2, c.segments_at-end.ensures)
