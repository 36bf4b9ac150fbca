-- What is true of the fields of a tally, and what callers see of them.
use Rattle.std.specs.Prelude.{ℕ, ◌+◌, ◌^◌, ◌≤◌, List, length, vec_capacity, Option}
use Rattle.window_tally.specs.TallyPlaces.{leaves_of, marks_in, HasCounts}
use Rattle.window_tally.specs.TallyView.{TallyView, IsTally}
use Rattle.window_tally.specs.declared.Tally.TheInside.{Inside}

abbrev pub view_by : ℕ → ℕ → List ℕ → List (Option ℕ) → TallyView
view_by hmax height counts marks = record { hmax = hmax; height = height; counts = leaves_of height counts; marks = marks_in height marks }

pub record KeepsBy (hmax height : ℕ) (counts : List ℕ) (marks : List (Option ℕ)) : Type 0 where
  pub counts_size : 2 ^ (height + 1) ≤ length counts
  pub marks_size : 2 ^ (height + 1) ≤ length marks
  pub sums : HasCounts height counts (leaves_of height counts)
  pub sound : IsTally (view_by hmax height counts marks)

abbrev pub view_of : Inside → TallyView
view_of a = view_by a.hmax a.height a.counts.items a.marks.items

-- and there is memory for the greatest height
pub record IsKept (a : Inside) : Type 0 where
  pub by : KeepsBy a.hmax a.height a.counts.items a.marks.items
  pub counts_room : 2 ^ (a.hmax + 1) ≤ vec_capacity a.counts
  pub marks_room : 2 ^ (a.hmax + 1) ≤ vec_capacity a.marks
