-- What a cursor steps to, on either way.
use Rattle.std.specs.Prelude.{◌≡◌, Bool, true, false, T, List, Option, Some}
use Rattle.std.specs.declared.cmp.Ordering.{Ordering}
use Rattle.std.specs.Ordering.{is_lt, is_gt}
use Rattle.std.specs.FinMap.{contains_key, entries, get, is_sorted}
use Rattle.key_slot.specs.Record.{Bytes, Record, key_cmp}
use Rattle.map_model.specs.Cursors.{Cursor, Way, onward, back, record_ahead}
use Rattle.map_model.specs.Scan.{compares, is_within}
use Rattle.map_model.specs.Store.{Map}
use Rattle.command_text.specs.declared.command.Command.{Command}
use Rattle.command_text.specs.declared.command.Command.TheVariants as command

-- the command that has the cursor of a name step
abbrev pub step_command : Way → Bytes → Command
step_command onward name = command.Next name
step_command back name = command.Prev name

-- what a cursor gives of a map by a step
abbrev pub step_of : Way → Map → Cursor → Option Record
step_of way m at = record_ahead way at (entries m)

-- whether a key lies beyond another on a way: above it going on, below it going back; if there is none each does
abbrev pub is_beyond : Way → Option Bytes → Bytes → Bool
is_beyond onward past key = compares is_gt past key
is_beyond back past key = compares is_lt past key

-- how keys compare on a way: the lesser is the one that is come by first
abbrev pub order_of : Way → Bytes → Bytes → Ordering
order_of onward x y = key_cmp x y
order_of back x y = key_cmp y x

-- the keys of records fall strictly
abbrev pub IsDescending : List Record → Type 0
IsDescending records = T (is_sorted (order_of back) records)

-- Of the records of a map whose keys lie within bounds and beyond a key, this one is the nearest: going on it has the least key,
-- and going back the greatest.
pub record IsNearest (way : Way) (low high past : Option Bytes) (m : Map) (r : Record) : Type 0 where
  pub there : get m r.0 ≡ Some r.1
  pub within : is_within low high r.0 ≡ true
  pub beyond : is_beyond way past r.0 ≡ true
  pub nearest : (key : Bytes) → contains_key m key ≡ true → is_within low high key ≡ true → is_beyond way past key ≡ true → is_lt (order_of way key r.0) ≡ false

-- no key of a map that lies within bounds lies beyond a key
abbrev pub NoneBeyond : Way → Option Bytes → Option Bytes → Option Bytes → Map → Type 0
NoneBeyond way low high past m = (key : Bytes) → contains_key m key ≡ true → is_within low high key ≡ true → is_beyond way past key ≡ false
