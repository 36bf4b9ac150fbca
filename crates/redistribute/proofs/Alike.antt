-- What holds of each image that a station at rest may leave.
use Rattle.std.proofs.Common.{ℕ, ◌+◌, ◌^◌, ◌<◌, ◌≤◌, List, length, get_or, sym, ap, subst, ◌∙◌}
use Rattle.map_model.specs.Array.{counts_of}
use Rattle.redo_journal.specs.declared.place.Place.{Place}
use Rattle.redo_journal.specs.Frames.{Batch}
use Rattle.spread_plan.specs.States.{PlanView}
use Rattle.segment_frames.specs.Lists.{segments_in, held_lists}
use Rattle.segment_frames.proofs.Alike.{Alike}
use Rattle.redistribute.specs.Moving.{KeepsAll, in_store}
use Rattle.redistribute.specs.SpreadWindows.{HasWindow, TakesPlan, run_of}
use Rattle.redistribute.specs.WindowBatches.{TakesBatch, Redone}

pub window_alike : (place : Place) (first : ℕ) (counts : List ℕ) (old new : List ℕ) → Alike place old new → HasWindow place first counts old → HasWindow place first counts new
window_alike place first counts old new alike is = record {
  settled = alike.settled;
  within = subst (λ (h : ℕ). first + length counts ≤ 2 ^ h) (sym alike.height) is.within;
  counts_are = ap (λ lists. counts_of (run_of first (length counts) lists)) alike.array ∙ is.counts_are;
}

pub plan_alike : (place : Place) (first : ℕ) (plan : PlanView) (old new : List ℕ) → Alike place old new → TakesPlan place first plan old → TakesPlan place first plan new
plan_alike place first plan old new alike is = record {
  window = window_alike place first plan.counts old new alike is.window;
  keeps = subst (KeepsAll (in_store first plan.moves)) (sym alike.array) is.keeps;
}

pub batch_alike : (place : Place) (b : Batch) (old new : List ℕ) → Alike place old new → TakesBatch place b old → TakesBatch place b new
batch_alike place b old new alike is = record {
  settled = alike.settled;
  below = λ k lt. subst (λ (h : ℕ). get_or (segments_in place.layout.format b.numbers) k 0 < 2 ^ h) (sym alike.height) (is.below k lt);
  after = is.after;
  redone = subst (λ lists. Redone (segments_in place.layout.format b.numbers) (held_lists place.layout.format b) lists is.after) (sym alike.array) is.redone;
}
