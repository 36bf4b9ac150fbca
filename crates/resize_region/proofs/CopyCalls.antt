-- The calls of a copying: old segments are read in parts, and new ones are written in parts.
use Rattle.std.proofs.Common.{◌≡◌, ℕ, ◌+◌, ◌-◌, ◌/◌, ◌<◌, ◌≤◌, subst, arith}
use Rattle.segment_frames.specs.SegmentParts.{parts, InParts, GoesInParts}
use Rattle.resize_region.specs.Source.{copy_calls}
use Rattle.segment_frames.proofs.PartLaws.{parts_none, parts_more}

-- the calls between two counts of calls: that many reads, and that many writes
pub record CopyCalls (half counts upto first segments done before now : ℕ) : Type 0 where
  pub read : ℕ
  pub written : ℕ
  pub reads : InParts half counts upto read
  pub writes : InParts first segments done written
  pub calls : now ≤ before + (read + written)

pub copy_none : (half counts upto first segments done before : ℕ) → CopyCalls half counts upto first segments done before before
copy_none half counts upto first segments done before = record { read = 0; written = 0; reads = parts_none half counts upto; writes = parts_none first segments done; calls = omega arith }

-- some segments more were read
pub copy_read : (half counts from to first segments done before a b : ℕ) → CopyCalls half counts from first segments done before a → GoesInParts half counts from to a b → CopyCalls half counts to first segments done before b
copy_read half counts from to first segments done before a b is goes =
    let more = goes is.read is.reads in
    record { read = more.0; written = is.written; reads = more.1; writes = is.writes; calls = omega (arith, is.calls, more.2) }

-- a part more was written
pub copy_written : (half counts upto first segments done next before a b : ℕ) → 1 ≤ first → CopyCalls half counts upto first segments done before a → done < segments → (next < segments → done + first ≤ next) → b ≤ a + 1
    → CopyCalls half counts upto first segments next before b
copy_written half counts upto first segments done next before a b some is lt goes one =
    record { read = is.read; written = is.written + 1; reads = is.reads; writes = parts_more first segments done next is.written some is.writes lt goes; calls = omega (arith, is.calls, one) }

pub copy_few : (half counts upto first segments done before now : ℕ) → CopyCalls half counts upto first segments done before now → now ≤ before + (parts half counts + parts first segments)
copy_few half counts upto first segments done before now is = omega (arith, is.calls, is.reads.few, is.writes.few)

-- the frames that old segments are read into, and those for new ones
pub halves : (most all counts segments : ℕ) → all ≡ most → parts (most - (all - all / 2)) counts + parts (all - all / 2) segments ≡ copy_calls most counts segments
halves most all counts segments same = λ i. parts (half i) counts + parts (same i - same i / 2) segments
  where
    half : most - (all - all / 2) ≡ most / 2
    half = omega (arith, same)

-- the same number of segments written
pub copy_same : (half counts upto first segments done next before now : ℕ) → done ≡ next → CopyCalls half counts upto first segments done before now → CopyCalls half counts upto first segments next before now
copy_same half counts upto first segments done next before now same is = subst (λ (n : ℕ). CopyCalls half counts upto first segments n before now) same is
