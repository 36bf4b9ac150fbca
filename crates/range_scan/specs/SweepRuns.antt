-- How many segments a sweep reads at once.
use Rattle.std.specs.Prelude.{◌⊎◌, ℕ, ◌+◌, ◌-◌, ◌/◌, ◌<◌, ◌≤◌, ◌==◌, ◌&&◌, is_some, max, take, sum, if◌then◌else◌}
use Rattle.range_scan.specs.Running.{IsRun}
use Rattle.range_scan.specs.SweepView.{SweepView, validated}

-- the segments to which a sweep may have read: two besides one for each four records that it answered, and one more at least
abbrev pub allowed : SweepView → ℕ → ℕ
allowed s from = max (from + 1) (s.first + s.given / 4 + 2)

-- the first of the segments from one on of which all records are the scan's, by the lower bound
abbrev pub full_from : SweepView → ℕ → ℕ
full_from s from = if (is_some s.low) && (from == s.first) then from + 1 else from

-- the records that the segments from one to below another have for the scan, by the counts that are kept
abbrev pub due : SweepView → ℕ → ℕ → ℕ
due s from to = sum (take to s.tally.counts) - sum (take (full_from s from) s.tally.counts)

-- `count` segments are read at once, from `from` on: all that are allowed, as far as the records that are still wanted need
-- them
pub record IsSweepRun (s : SweepView) (from count : ℕ) : Type 0 where
  pub run : IsRun s.reader.layout from s.reader.end count
  pub few : from + count ≤ allowed s from
  -- those before the last don't have all that is wanted
  pub wanted : due s from (from + count - 1) < s.limit - s.given
  -- there are no more that may be read, or these have all that is wanted
  pub whole : (¬ IsRun s.reader.layout from s.reader.end (count + 1)) ⊎ ((allowed s from ≤ from + count) ⊎ (s.limit - s.given ≤ due s from (from + count)))

-- The sweep read once or more; what it read last was such a run, and none of it was validated before all of the others.
pub record ReadsRun (s t : SweepView) : Type 0 where
  pub from : ℕ
  pub onward : s.reader.next ≤ from
  pub met : from < validated t
  pub run : IsSweepRun s from (t.reader.next - from)
