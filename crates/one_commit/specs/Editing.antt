-- What items make of an array, if they fit one commit: an edit of each segment to which a key of theirs belongs.
use Rattle.std.specs.Prelude.{◌≡◌, ℕ, ◌+◌, ◌<◌, ◌==◌, ◌&&◌, if◌then◌else◌, Bool, true, false, List, [], ◌∷◌, length, take, get_or}
use Rattle.header_gate.specs.Paged.{segment_image}
use Rattle.key_slot.specs.Record.{Record}
use Rattle.density_rule.specs.CountUpdates.{counts_after}
use Rattle.density_rule.specs.Marks.{Marks, updated_marks}
use Rattle.map_model.specs.Store.{Update, bind, unbind, key_of}
use Rattle.map_model.specs.Array.{Array, counts_of, segment_at, segment_for}
use Rattle.map_model.specs.ArrayUpdates.{has_key, edited}
use Rattle.map_model.specs.ArrayState.{ArrayState, next_states}
use Rattle.map_model.specs.Holding.{IsBalancedArray}
use Rattle.map_model.specs.ItemWords.{AreAdmitted, charge_after_items}
use Rattle.map_model.specs.Batches.{IsSegmentImage, IsNone}
use Rattle.window_tally.specs.Choice.{adds}
use Rattle.one_commit.specs.declared.changes.ItemChange.{ItemChange}
use Rattle.one_commit.specs.Fitting.{changes_in}

-- after updates in their order
abbrev pub edited_by : List Update → List Record → List Record
edited_by [] rows = rows
edited_by (u ∷ us) rows = edited_by us (edited u rows)

-- whether an item edits segment i: its key belongs there, and it isn't the removal of an absent one
abbrev pub edits : Array → ℕ → Bool → Update → Bool
edits segments i b (bind key value) = segment_for segments key == i
edits segments i b (unbind key) = b && (segment_for segments key == i)

-- those of the items that edit it
abbrev pub items_for : Array → ℕ → List Update → List Update
items_for segments i [] = []
items_for segments i (u ∷ us) = if edits segments i (has_key segments (key_of u)) u then u ∷ items_for segments i us else items_for segments i us

-- the counts and the marks after changes in their order
abbrev pub counts_by : List ItemChange → List ℕ → List ℕ
counts_by [] counts = counts
counts_by (item ∷ rest) counts = counts_by rest (counts_after (adds item.change) counts item.segment)

abbrev pub marks_by_changes : ℕ → List ItemChange → Marks → Marks
marks_by_changes height [] marks = marks
marks_by_changes height (item ∷ rest) marks = marks_by_changes height rest (updated_marks height item.segment marks)

-- how many images of segments an item may write, by whether its key is there: two if it edits a segment
abbrev pub charge_one : Bool → Update → ℕ
charge_one b (bind key value) = 2
charge_one true (unbind key) = 2
charge_one false (unbind key) = 0

abbrev pub charge_by : Array → List Update → ℕ
charge_by segments [] = 0
charge_by segments (u ∷ us) = charge_one (has_key segments (key_of u)) u + charge_by segments us

-- The state after items that fit one commit: each segment was edited by its items in their order, as they stood before any
-- was made; the height stays, and counts and marks are the changes' in their order. No item met a full store, and after
-- each of them every window was within its bounds.
pub record AreEdits (hmax : ℕ) (s : ArrayState) (items : List Update) (next : ArrayState) : Type 0 where
  -- height and number of segments stay
  pub height_is : next.height ≡ s.height
  pub size : length next.array ≡ length s.array
  -- each segment is edited by its own items in their order
  pub segments_are : (i : ℕ) → i < length s.array → segment_at next.array i ≡ edited_by (items_for s.array i items) (segment_at s.array i)
  -- counts and marks are the changes' in their order
  pub counts_are : counts_of next.array ≡ counts_by (changes_in s.array items) (counts_of s.array)
  pub marks_are : next.marks ≡ marks_by_changes s.height (changes_in s.array items) s.marks
  -- two images are charged for each item that edits a segment
  pub charge_is : charge_after_items hmax s items ≡ charge_by s.array items
  -- no item meets a full store
  pub admitted : AreAdmitted hmax s.map items
  -- every window is within its bounds behind each of the items
  pub balanced : (j : ℕ) → IsBalancedArray s.height (next_states hmax s (take j items)).array

-- a batch's images are those of the edited segments, each of the pages of a segment of format f, and it names each
-- segment that an item edits
pub record LaysEdits (f : ℕ) (segments : Array) (items : List Update) (numbers : List ℕ) (image : ℕ → ℕ → ℕ) : Type 0 where
  -- each number is that of a segment
  pub inside : (j : ℕ) → j < length numbers → get_or numbers j 0 < length segments
  -- its image is that of the segment, edited by its items
  pub named : (j : ℕ) → j < length numbers → let i = get_or numbers j 0 in
      IsSegmentImage f (edited_by (items_for segments i items) (segment_at segments i)) (segment_image f image j)
  -- no item edits a segment that is not named
  pub unnamed : (i : ℕ) → i < length segments → IsNone numbers i → items_for segments i items ≡ []
