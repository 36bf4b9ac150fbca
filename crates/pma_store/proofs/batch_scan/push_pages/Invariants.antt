use Rattle.std.proofs.Common.{◌≡◌, ◌+◌, ◌*◌, ◌<◌, ℕ, ◌++◌, length, get_or}
use Rattle.std.specs.List.{range_with_len}
use Rattle.redo_journal.specs.Frames.{IsFrames}
use Rattle.pma_store.proofs.batch_scan.push_pages.Given as goal

abbrev pub invariant-loop-i : goal.invariant-loop-i
invariant-loop-i l = record {
  frames : l.frames ≡ record l.fn.frames { numbers = l.fn.frames.numbers ++ range_with_len (l.format * l.segment) l.i };
  kept : IsFrames l.frames;
  journal : l.frames.journal ≡ l.fn.frames.journal;
  size : length l.frames.numbers ≡ length l.fn.frames.numbers + l.i;
  below : (j : ℕ) → j < length l.frames.numbers → get_or l.frames.numbers j 0 < l.format * l.segment + l.i;
}
