-- When a batch is one commit: by the state in which it is made.
use Rattle.std.specs.Prelude.{◌≡◌, ◌⊎◌, ℕ, ◌<◌, ◌≤◌, ◌==◌, ◌||◌, if◌then◌else◌, Bool, true, false, List, [], ◌∷◌, length, take, get_or}
use Rattle.header_gate.specs.declared.layout.Layout.{Layout}
use Rattle.key_slot.specs.declared.sizes.TheConstants.{SEGMENT_SLOTS}
use Rattle.map_model.specs.Array.{Array, counts_of, segment_at, segment_for}
use Rattle.map_model.specs.ArrayState.{ArrayState}
use Rattle.map_model.specs.ArrayUpdates.{has_key}
use Rattle.map_model.specs.Store.{Update, key_of}
use Rattle.one_commit.specs.Editing.{edited_by, items_for}
use Rattle.one_commit.specs.Fitting.{changes_in, fit_one_commit}
use Rattle.redo_journal.specs.Frames.{Batch}
use Rattle.segment_frames.specs.Lists.{most_segments, segments_in}
use Rattle.pma_store.specs.Own.{edits_by}

-- whether a number stands in a list
abbrev pub stands_in : ℕ → List ℕ → Bool
stands_in n [] = false
stands_in n (m ∷ ms) = (n == m) || stands_in n ms

-- the list with the number, unless it stands there
abbrev pub with_number : ℕ → List ℕ → List ℕ
with_number n ns = if stands_in n ns then ns else n ∷ ns

-- The segments that items edit, each once, as their keys are found in an array: a put edits the one to which its key belongs,
-- and a removal does where its key is there.
abbrev pub edited_segments : Array → List Update → List ℕ
edited_segments segments [] = []
edited_segments segments (u ∷ us) = if edits_by u (has_key segments (key_of u)) then with_number (segment_for segments (key_of u)) (edited_segments segments us) else edited_segments segments us

-- Items are one commit in this state of a file. Each of them, behind those before it, leaves all windows over its segment
-- within their bounds, so that none asks for a rebalance or a resize, and each key still belongs where it did before the first
-- one; and the journal has room for all segments that they edit.
pub record AreOneCommit (l : Layout) (s : ArrayState) (items : List Update) : Type 0 where
  pub fit : fit_one_commit s.height (counts_of s.array) (changes_in s.array items) ≡ true
  pub room : length (edited_segments s.array items) ≤ most_segments l

-- one of the items edits segment i
pub record IsEdited (segments : Array) (items : List Update) (i : ℕ) : Type 0 where
  pub j : ℕ
  pub within : j < length items
  pub own : (d : Update) → segment_for segments (key_of (get_or items j d)) ≡ i
  pub edits : (d : Update) → edits_by (get_or items j d) (has_key segments (key_of (get_or items j d))) ≡ true

-- some first ones of them leave more records in a segment than it has slots
pub record Overfills (segments : Array) (items : List Update) : Type 0 where
  pub at : ℕ
  pub inside : at < length segments
  pub first : ℕ
  pub over : SEGMENT_SLOTS < length (edited_by (items_for segments at (take first items)) (segment_at segments at))

-- they leave none in a segment from 1 on
pub record Empties (segments : Array) (items : List Update) : Type 0 where
  pub at : ℕ
  pub some : 0 < at
  pub inside : at < length segments
  pub none : length (edited_by (items_for segments at items) (segment_at segments at)) ≡ 0

-- why frames don't hold all segments that items edit
abbrev pub IsShort : Layout → Array → List Update → Type 0
IsShort l segments items = (most_segments l < length (edited_segments segments items)) ⊎ (Overfills segments items ⊎ Empties segments items)

-- Frames hold segments that items edit, and no others, and where these aren't all of them, it is told why.
pub record AreUsed (l : Layout) (segments : Array) (items : List Update) (b : Batch) (whole : Bool) : Type 0 where
  pub edited : (i : ℕ) → i < length (segments_in l.format b.numbers) → IsEdited segments items (get_or (segments_in l.format b.numbers) i 0)
  pub short : whole ≡ false → IsShort l segments items
