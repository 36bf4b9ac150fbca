-- Segments in parts, one part after another.
use Rattle.std.proofs.Common.{ℕ, ◌+◌, ◌-◌, ◌<◌, ◌≤◌, arith}
use Rattle.std.proofs.Math.Nat.{le-div_iff_mul-le}
use Rattle.segment_frames.specs.SegmentParts.{InParts, GoesInParts}

-- none is made
pub parts_none : (room count done : ℕ) → InParts room count done 0
parts_none room count done = record { whole = λ lt. omega arith; few = omega arith }

-- one part more, which is a whole one or the last of all
pub parts_more : (room count done next made : ℕ) → 1 ≤ room → InParts room count done made → done < count → (next < count → done + room ≤ next) → InParts room count next (made + 1)
parts_more room count done next made some is lt goes =
    let whole = is.whole lt in
    record {
      whole = λ more. omega (arith, whole, goes more);
      few = (le-div_iff_mul-le {k = room} {x = made + 1} {y = count + (room - 1)} some).1 (omega (arith, whole, lt, some));
    }

-- no call
pub parts_still : (room count done calls : ℕ) → GoesInParts room count done done calls calls
parts_still room count done calls made is = (made, is, omega arith)

-- calls after calls
pub parts_on : (room count from mid to a b c : ℕ) → GoesInParts room count from mid a b → GoesInParts room count mid to b c → GoesInParts room count from to a c
parts_on room count from mid to a b c ab bc made is =
    let first = ab made is in
    let second = bc first.0 first.1 in
    (second.0, second.1, omega (arith, first.2, second.2))
