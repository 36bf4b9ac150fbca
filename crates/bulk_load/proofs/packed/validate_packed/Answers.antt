use Rattle.std.proofs.Common.{arith, ◌+◌}
use Rattle.resize_region.proofs.ShareFrames.{places_room}
use Rattle.key_slot.proofs.SegmentLaws.{times_up}
use Rattle.bulk_load.proofs.packed.validate_packed.Goals as goal

pub validate_frame-requires-clause-within : goal.validate_frame-requires-clause-within
validate_frame-requires-clause-within c =
    omega (arith, places_room c.args.format c.args.frames.now c.args.count c.requires.within, times_up c.args.format (c.loop-i.i + 1) c.args.count (omega (arith, c.loop-i-test.true)))
