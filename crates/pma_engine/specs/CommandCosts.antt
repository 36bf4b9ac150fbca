-- How far commands take a station, in a file with a layout.
use Rattle.std.specs.Prelude.{◌≡◌, ℕ, ◌+◌, ◌-◌, ◌*◌, ◌/◌, ◌^◌, ◌<◌, ◌≤◌, max, List, [], ◌∷◌, length, Option, Some, None, if◌then◌else◌}
use Rattle.std.specs.FinMap.{entries, get}
use Rattle.station.specs.View.{View, Told, after_read}
use Rattle.station.specs.declared.travel.Travel.{Travel}
use Rattle.header_gate.specs.Places.{height_limit, segment_place, segment_size}
use Rattle.header_gate.specs.declared.layout.Layout.{Layout}
use Rattle.map_model.specs.ArrayState.{ArrayState}
use Rattle.map_model.specs.Cursors.{Cursor, Cursors}
use Rattle.map_model.specs.Image.{map_of}
use Rattle.map_model.specs.Items.{accepts}
use Rattle.map_model.specs.Scan.{scanned}
use Rattle.map_model.specs.Store.{Map}
use Rattle.range_scan.specs.Walk.{after_walk, after_walk_back}
use Rattle.command_text.specs.ArraySession.{array_step}
use Rattle.command_text.specs.Session.{Session, session_after}
use Rattle.command_text.specs.Updates.{updates_made}
use Rattle.command_text.specs.declared.command.Command.{Command}
use Rattle.command_text.specs.declared.command.Command.TheVariants.{Nothing, Put, Remove, Batch, Get, Range, Check, Probe, Cost, Open, Next, Prev, Close, OversizedKey, OversizedValue, RepeatedKey, Bad}
use Rattle.pma_store.specs.Changing.{most_written}
use Rattle.pma_store.specs.Costing.{most_of, updates_cost}
use Rattle.pma_store.specs.StoreView.{StoreView}

-- how many batches a command makes: one, if it is a batch that is accepted
abbrev pub batches_made : Layout → Map → Command → ℕ
batches_made l m (Batch items) = if accepts l.version (height_limit l) m items then 1 else 0
batches_made l m _ = 0

-- the bytes of intents, with those of their gates
abbrev pub intents_cost : ℕ → ℕ
intents_cost batches = 514 * batches

-- at most that many bytes are written by a command: by the updates that it makes, each in the state before it, of which one that
-- changes nothing writes none, and for the intent of a batch
abbrev pub command_cost : Layout → ArrayState → Command → ℕ
command_cost l s c = intents_cost (batches_made l s.map c) + updates_cost l s (updates_made l s.map c)

-- by the commands of a session
abbrev pub session_cost : Layout → ArrayState → List Command → ℕ
session_cost l s [] = 0
session_cost l s (c ∷ cs) = command_cost l s c + session_cost l (array_step l s c) cs

-- how many batches they make
abbrev pub session_batches : Layout → ArrayState → List Command → ℕ
session_batches l s [] = 0
session_batches l s (c ∷ cs) = batches_made l s.map c + session_batches l (array_step l s c) cs

-- the bytes of that many images of segments, with those of the journal
abbrev pub images_cost : Layout → ℕ → ℕ
images_cost l charge = 4101 * l.format * charge

-- at most that many bytes are written by a session that begins with an empty ledger: by the charges of its updates, and for the
-- intents of its batches
abbrev pub charged_cost : Layout → Session → List Command → ℕ
charged_cost l x cs = images_cost l (session_after l x cs).ledger.charge + intents_cost (session_batches l x.store cs)

-- the bytes of an intent that a command may write besides what it costs, if it meets a fault: a batch's alone
abbrev pub intent_of_one : Command → ℕ
intent_of_one (Batch items) = intents_cost 1
intent_of_one _ = 0

-- the greatest of these, of several commands
abbrev pub most_intent : List Command → ℕ
most_intent [] = 0
most_intent (c ∷ cs) = max (intent_of_one c) (most_intent cs)

-- a command that met a fault writes at most that many bytes besides what it costs: an intent, if it is a batch, and what one
-- update may write at each height that a store in the file may have
abbrev pub most_of_one : Layout → Command → ℕ
most_of_one l c = intent_of_one c + most_written l (height_limit l)

-- and any one of several commands
abbrev pub most_of_any : Layout → List Command → ℕ
most_of_any l cs = most_intent cs + most_written l (height_limit l)

-- the travel after one read of a segment of the store
pub record ReadsSegment (s : StoreView) (a b : Travel) : Type 0 where
  pub segment : ℕ
  pub within : segment < 2 ^ s.tally.height
  pub travel : b ≡ after_read (segment_place s.place.layout s.place.region segment) (segment_size s.place.layout) a

-- the travel after a walk over segments of the store, from one number to below another
pub record Walks (s : StoreView) (from to : ℕ) (a b : Travel) : Type 0 where
  pub onward : from ≤ to
  pub within : to ≤ 2 ^ s.tally.height
  pub travel : b ≡ after_walk s.place.layout s.place.region from to a

-- How far a step of a cursor takes the station: it reads a segment of the store, or two that stand side by side; a step back reads
-- the later one first. Without a cursor it reads none.
abbrev pub LooksAhead : Option Cursor → StoreView → Travel → Travel → Type 0
LooksAhead None s a b = b ≡ a
LooksAhead (Some at) s a b = (from : ℕ) × ((to : ℕ) × Walks s from to a b × (from < to) × (to ≤ from + 2))

abbrev pub LooksBehind : Option Cursor → StoreView → Travel → Travel → Type 0
LooksBehind None s a b = b ≡ a
LooksBehind (Some at) s a b = (last : ℕ) × ((count : ℕ) × (last < 2 ^ s.tally.height) × (0 < count) × (count ≤ 2) × (count ≤ last + 1) × (b ≡ after_walk_back s.place.layout s.place.region last count a))

-- How far a command takes the station, with these cursors open: an update writes at most that many bytes, a batch those of its items
-- and of their intent, a get reads one segment, a range and a check walk over segments, a step of a cursor over two at most, and
-- every other command neither reads nor writes.
abbrev pub Travels : Command → StoreView → Cursors → Travel → Travel → Type 0
Travels (Put key value) s k a b = b.written ≤ a.written + most_written s.place.layout s.tally.height
Travels (Remove key) s k a b = b.written ≤ a.written + most_written s.place.layout s.tally.height
Travels (Batch items) s k a b = b.written ≤ a.written + (most_of s.place.layout (length items) + 514)
Travels (Get key) s k a b = ReadsSegment s a b
Travels (Range low high limit) s k a b = (from : ℕ) × ((to : ℕ) × Walks s from to a b)
Travels Check s k a b = (to : ℕ) × Walks s 0 to a b
Travels Nothing s k a b = b ≡ a
Travels (Probe key block) s k a b = b ≡ a
Travels Cost s k a b = b ≡ a
Travels (Open name low high) s k a b = b ≡ a
Travels (Next name) s k a b = LooksAhead (get k name) s a b
Travels (Prev name) s k a b = LooksBehind (get k name) s a b
Travels (Close name) s k a b = b ≡ a
Travels OversizedKey s k a b = b ≡ a
Travels OversizedValue s k a b = b ≡ a
Travels RepeatedKey s k a b = b ≡ a
Travels (Bad why) s k a b = b ≡ a

-- How far it looks at most, if it is carried out from a view on: a range over two segments besides one for each four of its
-- records, a check over all.
abbrev pub LooksFar : Command → StoreView → View → Travel → Type 0
LooksFar (Range low high limit) s a b = Told a → (from : ℕ) × ((to : ℕ) × Walks s from to a.travel b × (to - from ≤ length (scanned low high limit (entries (map_of a.held))) / 4 + 2))
LooksFar Check s a b = Walks s 0 (2 ^ s.tally.height) a.travel b
LooksFar _ s a b = Unit {0}
