-- How many calls of the device a batch makes at most.
use Rattle.std.specs.Prelude.{◌≡◌, ◌⊎◌, ℕ, ◌+◌, ◌^◌, ◌<◌, ◌≤◌, List, [], ◌∷◌, length, take, get_or}
use Rattle.station.specs.View.{View, Told}
use Rattle.header_gate.specs.declared.layout.Layout.{Layout}
use Rattle.header_gate.specs.Places.{height_limit}
use Rattle.header_gate.specs.Recovered.{Ascends}
use Rattle.map_model.specs.Array.{segment_for}
use Rattle.map_model.specs.ArrayState.{ArrayState, next_state}
use Rattle.map_model.specs.Image.{array_of}
use Rattle.map_model.specs.Store.{Update, key_of}
use Rattle.window_tally.specs.TallyView.{TallyView}
use Rattle.pma_store.specs.StoreAnswers.{state_in}
use Rattle.pma_store.specs.UpdateCalls.{asked_calls, runs_calls}
use Rattle.pma_store.specs.Damaging.{IsNextTally, change_in, picked}
use Rattle.pma_store.specs.Once.{AreOneCommit, edited_segments}
use Rattle.pma_store.specs.StoreView.{StoreView}

-- Segments to which keys of the items belong, in a store of this height: each once, in ascending order, and no more of them than
-- items.
pub record AreOwnSegments (items : List Update) (height : ℕ) (a : View) (segments : List ℕ) : Type 0 where
  pub ascends : Ascends segments
  pub few : length segments ≤ length items
  pub below : (i : ℕ) → i < length segments → get_or segments i 0 < 2 ^ height
  pub own : Told a → (i : ℕ) (d : Update) → i < length segments →
      (j : ℕ) × (j < length items) × (get_or segments i 0 ≡ segment_for (array_of a.held) (key_of (get_or items j d)))

-- Keys of the items were looked for, by one call for each of some segments to which they belong.
pub record LooksOnce (items : List Update) (height : ℕ) (a b : View) : Type 0 where
  pub looked : List ℕ
  pub are_own : AreOwnSegments items height a looked
  pub most : b.calls ≤ a.calls + length looked

-- That many calls are those of an item in an array and with a tally, by what is asked for in one segment, to which its key belongs;
-- the first one reads that segment. What the tally is next is told as well.
pub record IsForItem (l : Layout) (a : View) (x : ArrayState) (t : TallyView) (u : Update) (next : TallyView) (calls : ℕ) : Type 0 where
  pub at : ℕ
  pub within : at < 2 ^ t.height
  pub own : Told a → at ≡ segment_for x.array (key_of u)
  pub nexts : IsNextTally u t next
  pub is : calls ≡ 1 + asked_calls l t.height (picked (change_in u) at t)

-- that many are those of items that are made in order, each behind those before it
abbrev pub IsForItems : Layout → View → ArrayState → TallyView → List Update → TallyView → ℕ → Type 0
IsForItems l a x t [] last calls = (last ≡ t) × (calls ≡ 0)
IsForItems l a x t (u ∷ us) last calls = (one : ℕ) × (next : TallyView) × (more : ℕ) × IsForItem l a x t u next one × IsForItems l a (next_state (height_limit l) x u) next us last more × (calls ≡ one + more)

-- that many are those of some first items of a batch
pub record AreForItems (items : List Update) (s : StoreView) (a : View) (calls : ℕ) : Type 0 where
  pub begun : ℕ
  pub some : begun ≤ length items
  pub last : TallyView
  pub are_for : IsForItems s.place.layout a (state_in s a.held) s.tally (take begun items) last calls

-- That many calls are those of one commit, which writes at most that many runs of neighbouring segments: eight, at version 4 five, and
-- one for each run.
pub record IsForCommit (l : Layout) (most calls : ℕ) : Type 0 where
  pub runs : ℕ
  pub few : runs ≤ most
  pub is : calls ≡ runs_calls l runs

-- That many are those of the intent, and of the items under it: four write it, and two close its gate.
pub record IsForIntent (items : List Update) (s : StoreView) (a : View) (calls : ℕ) : Type 0 where
  pub of_items : ℕ
  pub are_for : AreForItems items s a of_items
  pub is : calls ≡ 6 + of_items

-- That many calls are those of a batch: one for each segment to which its keys belong, and behind these one commit of such
-- segments, or the intent with the items.
pub record IsForBatch (items : List Update) (s : StoreView) (a : View) (calls : ℕ) : Type 0 where
  pub looked : List ℕ
  pub are_own : AreOwnSegments items s.tally.height a looked
  pub behind : ℕ
  pub is_for : IsForCommit s.place.layout (length looked) behind ⊎ IsForIntent items s a behind
  pub is : calls ≡ length looked + behind
  -- if bytes are told and the items are one commit in the state of the file, the commit, with no more runs than segments that
  -- they edit
  pub at_once : Told a → AreOneCommit s.place.layout (state_in s a.held) items → IsForCommit s.place.layout (length (edited_segments (array_of a.held) items)) behind

-- what the intent and the items under it come to
pub record CallsIntent (items : List Update) (s : StoreView) (a b : View) : Type 0 where
  pub calls : ℕ
  pub is_for : IsForIntent items s a calls
  pub most : b.calls ≤ a.calls + calls

-- A batch makes at most that many calls.
pub record CallsBatch (items : List Update) (s : StoreView) (a b : View) : Type 0 where
  pub calls : ℕ
  pub is_for : IsForBatch items s a calls
  pub most : b.calls ≤ a.calls + calls
