use Rattle.std.proofs.Common.{◌≡◌, ℕ, ◌+◌, ◌<◌, length}
use Rattle.segment_frames.specs.HeldRecords.{grouped, HoldsRows}
use Rattle.segment_frames.specs.Lists.{rows_at}
use Rattle.bulk_load.specs.Spreading.{packed_count}
use Rattle.bulk_load.proofs.packed.validate_packed.Given as goal

abbrev pub invariant-loop-i : goal.invariant-loop-i
invariant-loop-i l = record {
  held : (i : ℕ) → i < l.i → HoldsRows l.format (rows_at l.format l.frames.slots i) i (grouped l.format l.frames.slots);
  counts : (i : ℕ) → i < l.i → length (rows_at l.format l.frames.slots i) ≡ packed_count l.records (l.first + i);
}
