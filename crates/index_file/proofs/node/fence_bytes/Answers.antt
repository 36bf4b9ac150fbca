use Rattle.std.proofs.Common.{◌+◌, arith}
use Rattle.station.specs.Bytes.{byte}
use Rattle.station.proofs.Ranges.{length-slice_range}
use Rattle.index_file.proofs.NodeLaws.{range_is}
use Rattle.index_file.proofs.node.fence_bytes.Goals as goal

pub slice_bounds-result-end : goal.slice_bounds-result-end
slice_bounds-result-end c =
    omega (arith, c.requires.most, c.requires.room)

pub returns-clause-bytes : goal.returns-clause-bytes
returns-clause-bytes c =
    range_is c.args.bytes.now (c.args.at + 8) (byte c.args.bytes.now c.args.at) (omega (arith, c.requires.most, c.requires.room))

pub returns-clause-some : goal.returns-clause-some
returns-clause-some c =
    omega (arith, c.requires.some, length-slice_range c.args.bytes.now (c.args.at + 8) (c.args.at + 8 + byte c.args.bytes.now c.args.at) (omega arith) (omega (arith, c.requires.most, c.requires.room)))

pub returns-clause-most : goal.returns-clause-most
returns-clause-most c =
    omega (arith, c.requires.most, length-slice_range c.args.bytes.now (c.args.at + 8) (c.args.at + 8 + byte c.args.bytes.now c.args.at) (omega arith) (omega (arith, c.requires.most, c.requires.room)))
