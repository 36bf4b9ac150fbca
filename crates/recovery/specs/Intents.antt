-- The intent of a file that is opened: what is answered of it, what may be wrong with it, and what is read for it.
use Rattle.std.specs.Prelude.{◌≡◌, ℕ, suc, ◌+◌, ◌-◌, ◌*◌, ◌^◌, ◌<◌, ◌≤◌, nat_lt, ◌||◌, not, if◌then◌else◌, Bool, false, List, [], ◌∷◌, T, length, take, get_or, Option, Some, None, is_some}
use Rattle.std.specs.FinMap.{contains_key, len}
use Rattle.std.specs.List.{list_all}
use Rattle.density_rule.specs.Bounds.{upper_of}
use Rattle.header_gate.specs.declared.layout.TheConstants.{INTENT_VERSION}
use Rattle.header_gate.specs.declared.reason.Reason.{Reason}
use Rattle.header_gate.specs.Header.{layout_in}
use Rattle.header_gate.specs.Places.{height_limit, segment_size}
use Rattle.header_gate.specs.Reasons.{or_else}
use Rattle.key_slot.specs.Record.{Bytes, Record}
use Rattle.map_model.specs.Store.{Map, Update, bind, unbind, key_of}
use Rattle.map_model.specs.Image.{height_of, map_of}
use Rattle.segment.specs.Rows.{value_of}
use Rattle.batch_intent.specs.declared.places.TheConstants.{INTENT_SIZE}
use Rattle.batch_intent.specs.ItemView.{is_put}
use Rattle.batch_intent.specs.Spelling.{fits_item, intent_bytes}
use Rattle.batch_intent.specs.Gate.{form_reason, has_intent}
use Rattle.batch_intent.specs.Means.{has_waiting, waiting, fullness_reason}

-- the intent that is to be applied, if there is one
abbrev pub intent_of : List ℕ → Option (List Update)
intent_of image = if has_waiting image then Some (waiting image) else None

-- the first thing that is wrong with it: its form, or an item that meets a full store
abbrev pub intent_reason : List ℕ → Option Reason
intent_reason image = or_else (form_reason (layout_in image) image) (fullness_reason image)

-- an intent has items, and they fit a slot format
pub record IsIntentFor (format : ℕ) (intent : Option (List Update)) : Type 0 where
  pub some : (items : List Update) → intent ≡ Some items → 1 ≤ length items
  pub fit : (items : List Update) → intent ≡ Some items → T (list_all (fits_item format) items)

-- how many of the items are puts
abbrev pub puts_in : List Update → ℕ
puts_in [] = 0
puts_in (u ∷ us) = if is_put u then suc (puts_in us) else puts_in us

-- whether a put may meet a full store, by the numbers of records and of puts: only then keys are looked for
abbrev pub may_meet : ℕ → ℕ → List Update → Bool
may_meet limit records items = nat_lt (upper_of limit) (records + puts_in items)

-- the bytes of the live region
abbrev pub region_reads : List ℕ → ℕ
region_reads image = segment_size (layout_in image) * 2 ^ height_of image

-- a look for the keys of the items is one more reading of the live region
abbrev pub look_reads : List ℕ → ℕ
look_reads image = if may_meet (height_limit (layout_in image)) (len (map_of image)) (waiting image) then region_reads image else 0

-- What is read of the intent: nothing if the version has none, the gate's byte, and if this is odd the intent; then the
-- look.
abbrev pub intent_reads : List ℕ → ℕ
intent_reads image = if nat_lt (layout_in image).version INTENT_VERSION then 0 else (if has_waiting image then 1 + INTENT_SIZE + look_reads image else 1)

-- the calls of a look, one for each segment
abbrev pub look_calls : List ℕ → ℕ
look_calls image = if may_meet (height_limit (layout_in image)) (len (map_of image)) (waiting image) then 2 ^ height_of image else 0

-- at most the calls that read it: one for the gate, and if this is odd one for the items and those of a look
abbrev pub intent_calls : List ℕ → ℕ
intent_calls image = if has_intent (layout_in image) image then 2 + look_calls image else 1

-- Whether an item meets a full store.

-- which of the items find their keys
pub record AreThere (items : List Update) (there : List Bool) (finds : Bytes → Bool) : Type 0 where
  pub each : (i : ℕ) (d : Update) → i < length items → get_or there i false ≡ finds (key_of (get_or items i d))

-- with the keys in these records
pub record AlsoIn (items : List Update) (rows : List Record) (old new : List Bool) : Type 0 where
  pub size : length new ≡ length old
  pub each : (i : ℕ) (d : Update) → i < length items → get_or new i false ≡ (get_or old i false || is_some (value_of (key_of (get_or items i d)) rows))

-- by whether its key is there and by the number of records
abbrev pub meets_by : Update → Bool → ℕ → ℕ → Bool
meets_by (bind key value) present records most = not (present || nat_lt records most)
meets_by (unbind key) present records most = false

-- the records behind it, if it doesn't
abbrev pub records_by : Update → Bool → ℕ → ℕ
records_by (bind key value) present n = if present then n else n + 1
records_by (unbind key) present n = if present then n - 1 else n

-- the place of an item in the intent, by its number
abbrev pub place_among : List Update → Option ℕ → Option ℕ
place_among items None = None
place_among items (Some i) = Some (length (intent_bytes (take i items)))

-- what is to be known for that: how many records there are and may be, and which of the items find their keys
pub record IsCounted (limit : ℕ) (m : Map) (items : List Update) (there : List Bool) (records most : ℕ) : Type 0 where
  pub most_is : most ≡ upper_of limit
  pub records_are : records ≡ len m
  pub found : AreThere items there (contains_key m)
