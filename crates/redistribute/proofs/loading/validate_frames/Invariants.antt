use Rattle.std.proofs.Common.{◌≡◌, ◌<◌, ℕ, length, get_or}
use Rattle.segment_frames.specs.HeldRecords.{grouped, HoldsRows}
use Rattle.segment_frames.specs.Lists.{rows_at, segments_in}
use Rattle.redistribute.specs.WindowBatches.{kept_in}
use Rattle.redistribute.proofs.loading.validate_frames.Given as goal

abbrev pub invariant-loop-f : goal.invariant-loop-f
invariant-loop-f g l = record {
  held : (k : ℕ) → k < l.f → HoldsRows l.format (rows_at l.format l.fn.frames.slots k) k (grouped l.format l.fn.frames.slots);
  counts : (k : ℕ) → k < l.f → length (rows_at l.format l.fn.frames.slots k) ≡ kept_in l.first (g.P.Plan.plan l.fn.plan).counts (get_or (segments_in l.format l.fn.frames.numbers) k 0);
}
