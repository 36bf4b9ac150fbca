-- A batch as one commit: what it writes, and what it leaves in memory.
use Rattle.std.specs.Prelude.{◌≡◌, ◌⊎◌, ℕ, ◌+◌, ◌-◌, ◌*◌, ◌<◌, ◌≤◌, ◌^◌, true, false, All, List, length, get_or, Some, None, Result, Ok, Err, OnOk, OnErr, is_ok, sum}
use Rattle.station.specs.View.{View, Told, Rose}
use Rattle.station.specs.Steps.{Steps}
use Rattle.cost_ledger.specs.Potential.{potential_of}
use Rattle.density_rule.specs.Bounds.{upper_of}
use Rattle.density_rule.specs.Windows.{IsBalanced}
use Rattle.header_gate.specs.Recovered.{recovered, replayed_over}
use Rattle.key_slot.specs.Record.{IsAscending}
use Rattle.map_model.specs.Array.{Array, rows, segment_at}
use Rattle.map_model.specs.Store.{Update}
use Rattle.one_commit.specs.declared.changes.ItemChange.{ItemChange}
use Rattle.one_commit.specs.Editing.{counts_by, marks_by_changes}
use Rattle.one_commit.specs.Fitting.{changes_in, fit_one_commit}
use Rattle.redo_journal.specs.Commit.{Commits, frame_byte}
use Rattle.redo_journal.specs.Frames.{Batch}
use Rattle.redo_journal.specs.Neighbours.{run_count}
use Rattle.redo_journal.specs.declared.place.Place.{Place}
use Rattle.redo_journal.specs.Rest.{RestsAt}
use Rattle.segment.specs.Rows.{key_at}
use Rattle.segment.specs.declared.fault.StoreFault.{StoreFault}
use Rattle.segment_frames.specs.Lists.{held_lists, segments_in}
use Rattle.station.specs.declared.station.Failed.{Failed}
use Rattle.veb_index.specs.IndexView.{IndexView, fence_of}
use Rattle.window_tally.specs.TallyView.{TallyView, IsTally}
use Rattle.pma_store.specs.declared.batch.Attempt.{Attempt}
use Rattle.pma_store.specs.declared.batch.Attempt.TheVariants.{Full, Validated, Done}
use Rattle.pma_store.specs.declared.validation.Validated.{Validated as ValidatedItems}
use Rattle.pma_store.specs.declared.batch_scan.BatchScan.{BatchScan}
use Rattle.pma_store.specs.StoreAnswers.{state_in}
use Rattle.pma_store.specs.Batching.{AppliesBatch, done_by}
use Rattle.pma_store.specs.UpdateCalls.{runs_calls}
use Rattle.pma_store.specs.ItemEffects.{CountsFound, counted_first, ValidatesItems, counts_of, edits_of, flags, kinds_in, kinds_of, there_in}
use Rattle.pma_store.specs.Looked.{BelongThere, HasFound}
use Rattle.pma_store.specs.Once.{AreOneCommit}
use Rattle.pma_store.specs.Rewrites.{spared_bytes}
use Rattle.pma_store.specs.StoreView.{StoreView, limit_of}

-- number i of the segments of a batch
abbrev pub number_of : ℕ → Batch → ℕ → ℕ
number_of format b i = get_or (segments_in format b.numbers) i 0

-- the fences of the first n segments of a batch are their first keys, and the others stay
pub record RenewsFences (format : ℕ) (b : Batch) (n : ℕ) (old new : IndexView) : Type 0 where
  pub hmax : new.hmax ≡ old.hmax
  pub height : new.height ≡ old.height
  pub set : (j : ℕ) → j < n → 0 < number_of format b j → fence_of new (number_of format b j) ≡ key_at (segment_at (held_lists format b) j) 0
  pub others : (i : ℕ) → ((j : ℕ) → j < n → number_of format b j ≡ i → ⊥) → fence_of new i ≡ fence_of old i

-- The items of a batch fit one commit, with that many changes: the frames hold each edited segment, and no more segments than
-- items edit one.
pub record FitsCommit (numbers : List ℕ) (items : List Update) (look : BatchScan) (validated : ValidatedItems) (tally : TallyView) (changes : List ItemChange) : Type 0 where
  pub whole : look.whole ≡ true
  pub few : look.count ≤ edits_of validated
  pub listed : length changes ≤ length items
  pub in_store : All (λ item. item.segment < 2 ^ tally.height) changes
  pub changes_are : (array : Array) → 0 < length array → IsAscending (rows array) → BelongThere array numbers items →
      HasFound array numbers items look.found (2 ^ tally.height) → changes ≡ changes_in array items
  pub fit : fit_one_commit tally.height tally.counts changes ≡ true
  pub kinds : kinds_in changes ≡ kinds_of items (flags (λ i. is_ok (get_or look.found i (Err 0))) (length items))
  pub counts_are : counts_of validated ≡ counted_first items (λ i. is_ok (get_or look.found i (Err 0))) (length items)

-- Why they don't: not each segment that they edit is in frames, more are there than items edit one, or the changes don't fit.
abbrev pub IsUnfit : List ℕ → List Update → BatchScan → ValidatedItems → TallyView → Type 0
IsUnfit numbers items look validated tally =
    (look.whole ≡ false)
    ⊎ ((edits_of validated < look.count)
    ⊎ ((array : Array) → 0 < length array → IsAscending (rows array) → BelongThere array numbers items →
    HasFound array numbers items look.found (2 ^ tally.height) →
    fit_one_commit tally.height tally.counts (changes_in array items) ≡ false))

-- A commit of the pages of that many segments. Where there are none, nothing changes.
pub record CommitsPages (place : Place) (count : ℕ) (b : Batch) (old new : List ℕ) : Type 0 where
  pub commits : Commits place.layout place.region b.numbers (frame_byte b.slots) old new
  pub none : count ≡ 0 → new ≡ old

-- The pages in frames were committed, or nothing was done where there are none. The frames note then what the gate says.
pub record CommitsFrames (place : Place) (count : ℕ) (result : Result (Unit {0}) Failed) (b : Batch) (turn : ℕ) (a d : View) : Type 0 where
  pub steps : Steps (CommitsPages place count b) a d
  pub laid : OnOk result (Told a → recovered place.layout d.held ≡ replayed_over place.layout place.region b.numbers (frame_byte b.slots) (recovered place.layout a.held))
  pub rests : OnOk result (RestsAt place.layout turn d)
  pub none : count ≡ 0 → d.travel.written ≡ a.travel.written
  pub cost : d.travel.written ≤ a.travel.written + (8196 * place.layout.format * count + 6 - spared_bytes place.layout)
  pub unread : d.travel.read ≡ a.travel.read
  -- where there are any, eight calls, with two journals five, and one for each run of neighbouring pages
  pub calls : d.calls ≤ a.calls + runs_calls place.layout (run_count b.numbers)
  pub cause : OnErr result (Rose a.disk_faults d.disk_faults)

-- Besides, the fences of the edited segments were set, and the changes counted, but not where it failed.
pub record CommitsEdits (place : Place) (look : BatchScan) (changes : List ItemChange) (result : Result (Unit {0}) Failed) (b : Batch)
    (turn : ℕ) (index next_index : IndexView) (tally next_tally : TallyView) (a d : View) : Type 0 where
  pub frames : CommitsFrames place look.count result b turn a d
  pub fences : OnOk result (RenewsFences place.layout.format b look.count index next_index)
  pub counted : OnOk result (next_tally ≡ record tally { counts = counts_by changes tally.counts; marks = marks_by_changes tally.height changes tally.marks })
  pub is_tally : IsTally next_tally
  pub balanced : IsBalanced next_tally.height next_tally.counts
  pub sizes : (next_tally.hmax ≡ tally.hmax) × (next_tally.height ≡ tally.height)
  pub index_sizes : (next_index.hmax ≡ index.hmax) × (next_index.height ≡ index.height)
  pub paid : OnOk result (potential_of next_tally ≤ potential_of tally + 512 * length changes)
  pub unchanged : OnErr result ((next_index ≡ index) × (next_tally ≡ tally))

-- What it came to that a batch was tried as one commit: it was validated alone, and its items meet a full store or aren't one
-- commit; or it was made, with two images charged for each item that edits a segment.
abbrev pub TriesOnce : List Update → Result Attempt StoreFault → StoreView → StoreView → View → View → Type 0
TriesOnce items (Ok Full) s t a b = ValidatesItems items (Ok None) s t a b
TriesOnce items (Ok (Validated validated)) s t a b = ValidatesItems items (Ok (Some validated)) s t a b × (Told a → ¬ AreOneCommit s.place.layout (state_in s a.held) items) ×
    CountsFound items (there_in validated.found) (sum s.tally.counts) (upper_of (limit_of s)) (counts_of validated)
TriesOnce items (Ok (Done validated)) s t a b = AppliesBatch items (Ok (done_by (counts_of validated) (2 * edits_of validated))) s t a b
TriesOnce items (Err fault) s t a b = AppliesBatch items (Err fault) s t a b
