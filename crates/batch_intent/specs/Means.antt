-- What a file means: the map that it represents, with the items that wait in its intent made.
use Rattle.std.specs.Prelude.{◌≡◌, ℕ, ◌+◌, if◌then◌else◌, Bool, true, false, List, [], take, Option, Some, None}
use Rattle.std.specs.List.{list_any}
use Rattle.station.specs.Bytes.{byte, InRange}
use Rattle.batch_intent.specs.declared.places.TheConstants.{INTENT, INTENT_SIZE}
use Rattle.header_gate.specs.declared.layout.Layout.{Layout}
use Rattle.header_gate.specs.declared.layout.TheConstants.{IDENTITY}
use Rattle.header_gate.specs.declared.reason.Reason.{Reason}
use Rattle.header_gate.specs.declared.reason.Reason.TheVariants.{Intent}
use Rattle.header_gate.specs.Header.{intent_gate, layout_in}
use Rattle.header_gate.specs.Places.{height_limit}
use Rattle.header_gate.specs.Reasons.{or_else}
use Rattle.map_model.specs.Store.{Map, State, Update}
use Rattle.map_model.specs.Items.{state_after_items, effects_of, is_full, first_full}
use Rattle.map_model.specs.After.{map_after_items}
use Rattle.map_model.specs.Image.{Represents, RepresentsMap, slot_format, map_of}
use Rattle.map_model.specs.ArrayState.{ArrayState, opened_state, next_states}
use Rattle.map_model.specs.FileReasons.{reason_of}
use Rattle.batch_intent.specs.Spelling.{Spells, items_in, place_from}
use Rattle.batch_intent.specs.Gate.{IsIntentPlace, has_intent, intent_area, form_reason}

-- whether items wait in the intent, to be applied
abbrev pub has_waiting : List ℕ → Bool
has_waiting image = has_intent (layout_in image) image

-- the items that wait
unfoldable pub waiting : List ℕ → List Update
waiting image = if has_waiting image then items_in (intent_area image) else []

-- The image has this layout, and means this map: it represents a map at a height, its intent has items, one or more that fit the
-- slot format if they wait to be applied and none else, none of them meets a full store, and this is the map after them. A session
-- on the image begins with the state after them: this map, and the height to which they lead.
pub record Means (l : Layout) (image : List ℕ) (m : Map) : Type 0 where
  pub layout_is : layout_in image ≡ l
  pub height : ℕ
  pub base : Map
  pub items : List Update
  pub represents : Represents image base height
  pub idle : has_intent l image ≡ false → items ≡ []
  pub form : has_intent l image ≡ true → Spells l.format items (intent_area image)
  pub admitted : list_any is_full (effects_of (height_limit l) base items) ≡ false
  pub begins : State
  pub begins_is : state_after_items (height_limit l) (record { map = base; height = height }) items ≡ begins
  pub map_is : begins.map ≡ m

-- the map that an image means, if it means one
abbrev pub meant_map : List ℕ → Map
meant_map image = map_after_items (height_limit (layout_in image)) (map_of image) (waiting image)

-- what opening makes of a file: its array is repaired, no window is rested, and then the items that wait are made
abbrev pub opened_items_state : List ℕ → ArrayState
opened_items_state image = next_states (height_limit (layout_in image)) (opened_state image) (waiting image)

-- the reason of the first item that meets a full store, by its number
abbrev pub full_reason : List ℕ → Option ℕ → Option Reason
full_reason area None = None
full_reason area (Some i) = Some (Intent (INTENT + place_from area i 1))

-- an item that waits, and meets a full store
abbrev pub fullness_reason : List ℕ → Option Reason
fullness_reason image = full_reason (intent_area image) (first_full (height_limit (layout_in image)) (map_of image) (waiting image))

-- the first thing that is wrong with a file that is to be opened: what says that it represents no map, then the form of its
-- intent, and then an item that meets a full store
unfoldable pub opening_reason : List ℕ → Option Reason
opening_reason image = or_else (reason_of image) (or_else (form_reason (layout_in image) image) (fullness_reason image))

-- two images have one intent: the same layout, with its slot format, an intent of the same bytes, and gates that are both odd
-- or both even
pub record KeepsIntent (old new : List ℕ) : Type 0 where
  pub layout_is : layout_in new ≡ layout_in old
  pub gate_is : intent_gate new ≡ intent_gate old
  pub same : (i : ℕ) → InRange INTENT INTENT_SIZE i → byte new i ≡ byte old i

-- a place at which nothing stands that says which items wait, but for the slot format: none of identity, intent
-- and its gate. All that an update of one key may touch is such.
pub record IsApart (i : ℕ) : Type 0 where
  pub identity : InRange IDENTITY 20 i → ⊥
  pub intent : IsIntentPlace i → ⊥

-- so many of the items were made: the image represents the map after them, and all of them still wait
pub record InBatch (layout : Layout) (base : Map) (items : List Update) (made : ℕ) (image : List ℕ) : Type 0 where
  pub some : has_waiting image ≡ true
  pub layout_is : layout_in image ≡ layout
  pub spells : Spells (slot_format image) items (intent_area image)
  pub represents : RepresentsMap image (map_after_items (height_limit layout) base (take made items))

-- the map after all items
abbrev pub map_after_all : Layout → Map → List Update → Map
map_after_all layout base items = map_after_items (height_limit layout) base items
