use Rattle.std.proofs.Common.{◌≡◌, ℕ, ◌+◌, ◌<◌, length, get_or}
use Rattle.segment_frames.specs.HeldRecords.{grouped, HoldsRows}
use Rattle.segment_frames.specs.Lists.{rows_at}
use Rattle.resize_region.proofs.source.validate_run.Given as goal

abbrev pub invariant-loop-i : goal.invariant-loop-i
invariant-loop-i l = record {
  held : (i : ℕ) → i < l.i → HoldsRows l.format (rows_at l.format l.frames.slots (l.piece.f + i)) (l.piece.f + i) (grouped l.format l.frames.slots);
  counts : (i : ℕ) → i < l.i → length (rows_at l.format l.frames.slots (l.piece.f + i)) ≡ get_or l.counts (l.piece.segment + i) 0;
}
