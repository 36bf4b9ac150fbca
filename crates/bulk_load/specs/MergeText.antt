-- Merge texts: updates in ascending order of their keys, a line each, and a last line with their number. And what a map is
-- after them.
use Rattle.std.specs.Prelude.{◌≡◌, ℕ, ◌-◌, ◌^◌, ◌<◌, ◌≤◌, true, List, [], ◌∷◌, ◌++◌, length, map, take, All, Option, Some, None, ◌+◌}
use Rattle.std.specs.List.{filter_map}
use Rattle.std.specs.Ordering.{is_lt}
use Rattle.std.specs.FinMap.{entries, insert, remove, contains_key, len}
use Rattle.std.specs.FinMap.Entries.{where_key}
use Rattle.key_slot.specs.Record.{Bytes, Record, key_cmp, IsAscending}
use Rattle.map_model.specs.ItemWords.{ItemCounts, effect_count, no_items}
use Rattle.map_model.specs.Store.{Map, Update, bind, unbind, key_of, effect_by}
use Rattle.command_text.specs.Merge.{merge_line_raw}
use Rattle.command_text.specs.declared.merge.MergeLine.{MergeLine}
use Rattle.command_text.specs.declared.merge.MergeLine.TheVariants.{Nothing, Bind, Remove, End, Bad}

-- The text.

-- the update of a line, if it has one
abbrev pub edit_of_line : MergeLine → Option Update
edit_of_line (Bind row) = Some (bind row.key row.value)
edit_of_line (Remove key) = Some (unbind key)
edit_of_line _ = None

-- the updates of lines of a format, in order
abbrev pub edits_in : ℕ → List (List ℕ) → List Update
edits_in format lines = filter_map (λ raw. edit_of_line (merge_line_raw format raw)) lines

-- a line that is skipped or has an update
abbrev pub IsEdit : MergeLine → Type 0
IsEdit Nothing = Unit {0}
IsEdit (Bind row) = Unit {0}
IsEdit (Remove key) = Unit {0}
IsEdit (End n) = ⊥
IsEdit Bad = ⊥

-- the key of an update, as a record without a value
abbrev pub mark_of : Update → Record
mark_of u = (key_of u, [])

-- the keys of updates ascend strictly: each is below all those after it
abbrev pub AreAscending : List Update → Type 0
AreAscending edits = IsAscending (map mark_of edits)

-- The lines are a merge text of a format with these updates: lines with updates, their keys strictly ascending, then a line
-- with their number, which is below 2^32. Lines that are skipped may stand between, before and behind.
pub record IsMergeText (format : ℕ) (lines : List (List ℕ)) (edits : List Update) : Type 0 where
  pub front : List (List ℕ)
  pub last : List ℕ
  pub behind : List (List ℕ)
  pub lines_are : lines ≡ front ++ last ∷ behind
  pub front_is : All (λ raw. IsEdit (merge_line_raw format raw)) front
  pub end_is : merge_line_raw format last ≡ End (length edits)
  pub behind_is : All (λ raw. merge_line_raw format raw ≡ Nothing) behind
  pub edits_are : edits_in format front ≡ edits
  pub ascending : AreAscending edits
  pub few : length edits < 2 ^ 32

-- some merge text begins with these lines
pub record BeginsMerge (format : ℕ) (lines : List (List ℕ)) : Type 0 where
  pub behind : List (List ℕ)
  pub edits : List Update
  pub text : IsMergeText format (lines ++ behind) edits

-- line n, counted from 1, is the first that no merge text can have there
pub record IsFirstUnmerged (format : ℕ) (lines : List (List ℕ)) (n : ℕ) : Type 0 where
  pub some : 1 ≤ n
  pub there : n ≤ length lines
  pub before : BeginsMerge format (take (n - 1) lines)
  pub wrong : BeginsMerge format (take n lines) → ⊥

-- the lines end before the line with the number of updates
pub record IsMergeUnfinished (format : ℕ) (lines : List (List ℕ)) : Type 0 where
  pub begins : BeginsMerge format lines
  pub no_text : (edits : List Update) → IsMergeText format lines edits → ⊥

-- What a map is after the updates.

abbrev pub map_after_edit : Map → Update → Map
map_after_edit m (bind key value) = insert m key value
map_after_edit m (unbind key) = remove m key

-- they are made one after the other, and no limit stops one
abbrev pub map_after_edits : Map → List Update → Map
map_after_edits m [] = m
map_after_edits m (u ∷ edits) = map_after_edits (map_after_edit m u) edits

-- how many of them bind a key that the map doesn't have, bind one that it has, remove one that it has, and one that it
-- doesn't have: since no two have one key, the map before them all decides
abbrev pub count_from : Map → List Update → ItemCounts → ItemCounts
count_from m [] counts = counts
count_from m (u ∷ edits) counts = count_from m edits (effect_count (effect_by (contains_key m (key_of u)) true u) counts)

abbrev pub count_edits : Map → List Update → ItemCounts
count_edits m edits = count_from m edits no_items

-- The same by records: ascending ones and ascending updates are merged, and an update goes before a record of its key.

-- the records below a key, and those above it
abbrev pub below : Bytes → List Record → List Record
below key rows = where_key key_cmp (λ other. is_lt (key_cmp other key)) rows

abbrev pub above : Bytes → List Record → List Record
above key rows = where_key key_cmp (λ other. is_lt (key_cmp key other)) rows

-- the record that an update binds, if it binds one
abbrev pub bound_by : Update → List Record
bound_by (bind key value) = (key, value) ∷ []
bound_by (unbind key) = []

-- what results up to the key of the last update, and the records above that key
abbrev pub front_rows : List Update → List Record → List Record
front_rows [] rows = []
front_rows (u ∷ edits) rows = below (key_of u) rows ++ bound_by u ++ front_rows edits (above (key_of u) rows)

abbrev pub rest_rows : List Update → List Record → List Record
rest_rows [] rows = rows
rest_rows (u ∷ edits) rows = rest_rows edits (above (key_of u) rows)

abbrev pub merged_rows : List Update → List Record → List Record
merged_rows edits rows = front_rows edits rows ++ rest_rows edits rows

-- some merge text begins with the first n lines, up to the key of whose last update more records result than that many: so after
-- each text that begins with them the map has more
pub record IsMergedFull (format most : ℕ) (m : Map) (lines : List (List ℕ)) : Type 0 where
  pub n : ℕ
  pub there : n ≤ length lines
  pub begins : BeginsMerge format (take n lines)
  pub many : most < length (front_rows (edits_in format (take n lines)) (entries m))
  pub full : (behind : List (List ℕ)) (edits : List Update) → IsMergeText format (take n lines ++ behind) edits → most < len (map_after_edits m edits)

-- how many updates bind a key
abbrev pub binds_in : List Update → ℕ
binds_in [] = 0
binds_in (u ∷ edits) = length (bound_by u) + binds_in edits

-- the update that binds a record
abbrev pub bind_of : Record → Update
bind_of r = bind r.0 r.1
