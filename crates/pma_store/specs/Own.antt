-- The items of one segment, where a list tells the segment of each, and what is found of them.
use Rattle.std.specs.Prelude.{◌≡◌, ℕ, ◌+◌, ◌<◌, ◌==◌, ◌||◌, if◌then◌else◌, Bool, true, List, [], ◌∷◌, length, take, get_or, Some, Result, Err, IfOk, is_ok, is_some}
use Rattle.key_slot.specs.Record.{Bytes, Record}
use Rattle.key_slot.specs.declared.sizes.TheConstants.{SEGMENT_SLOTS}
use Rattle.map_model.specs.Store.{Update}
use Rattle.one_commit.specs.Editing.{edited_by}
use Rattle.one_commit.specs.Fitting.{is_put}
use Rattle.segment.specs.Rows.{key_at, value_of}

-- the items that the list gives to segment n
abbrev pub own_items : ℕ → List ℕ → List Update → List Update
own_items n [] items = []
own_items n (i ∷ is) [] = []
own_items n (i ∷ is) (u ∷ us) = if i == n then u ∷ own_items n is us else own_items n is us

-- a page is full amid them: the first ones of them would make more records than a segment has slots
pub record FillsAmid (n : ℕ) (segments : List ℕ) (items : List Update) (rows : List Record) : Type 0 where
  pub item : ℕ
  pub within : item < length items
  pub over : SEGMENT_SLOTS < length (edited_by (own_items n (take (item + 1) segments) (take (item + 1) items)) rows)

-- the place of a key in rows, if it is there
pub record FindsIn (key : Bytes) (rows : List Record) (found : Result ℕ ℕ) : Type 0 where
  pub place : IfOk found (λ place. key_at rows place ≡ Some key)
  pub present : is_ok found ≡ is_some (value_of key rows)

-- whether an item edits its segment, by whether its key is there
abbrev pub edits_by : Update → Bool → Bool
edits_by u present = is_put u || present

-- one of the items of segment n edits it, as they were found
pub record HasEdit (n : ℕ) (segments : List ℕ) (items : List Update) (found : List (Result ℕ ℕ)) : Type 0 where
  pub item : ℕ
  pub within : item < length items
  pub own : get_or segments item 0 ≡ n
  pub edits : (d : Update) → edits_by (get_or items item d) (is_ok (get_or found item (Err 0))) ≡ true
