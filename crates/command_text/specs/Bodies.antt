-- The lines that answer commands, without their line feeds. An ordered map, its height and the open cursors determine all of
-- them, in a file with a layout, but what a probe tells of the array, and `cost` of the session, which `exact_bodies` adds. These
-- two are the definition of what is answered: the code's `Reply` lines have these bytes by the law `answers_go_by_the_map`.
use Rattle.std.specs.Prelude.{◌≡◌, ℕ, nat_le, nat_lt, if◌then◌else◌, List, [], ◌∷◌, ◌++◌, map, length, Option, codes, decimal}
use Rattle.std.specs.FinMap.{contains_key, entries, get, len}
use Rattle.std.specs.List.{filter, flat_map}
use Rattle.std.specs.Option.{option_map_or}
use Rattle.std.specs.Str.{bytes_eq}
use Rattle.key_slot.specs.Format.{key_room, value_room}
use Rattle.key_slot.specs.Record.{Record}
use Rattle.density_rule.specs.Bounds.{upper_of}
use Rattle.header_gate.specs.declared.layout.Layout.{Layout}
use Rattle.header_gate.specs.declared.layout.TheConstants.{INTENT_VERSION}
use Rattle.header_gate.specs.Places.{height_limit}
use Rattle.map_model.specs.Cursors.{Cursors, most_cursors, onward, back, step_in}
use Rattle.map_model.specs.Items.{accepts, effects_of}
use Rattle.map_model.specs.Scan.{scanned}
use Rattle.map_model.specs.Store.{State, bind, unbind, Effect, Replaces, Adds, FindsFull, Takes, FindsNone, effect_of}
use Rattle.command_text.specs.Printed.{printed, value_word}
use Rattle.command_text.specs.declared.command.Command.{Command}
use Rattle.command_text.specs.declared.command.Command.TheVariants as command
use Rattle.command_text.specs.declared.command.Why.TheVariants as why

-- the outcome of one update, in a store that holds that many records at most
abbrev pub effect_body : ℕ → Effect → List ℕ
effect_body most Replaces = codes "replaced"
effect_body most Adds = codes "stored"
effect_body most FindsFull = codes "full " ++ decimal most
effect_body most Takes = codes "removed"
effect_body most FindsNone = codes "absent"

-- how many items of a batch have each outcome
abbrev pub batch_body : List Effect → List ℕ
batch_body effects =
    let told = λ (word : List ℕ). codes " " ++ word ++ codes "=" ++ decimal (length (filter (λ e. bytes_eq (effect_body 0 e) word) effects)) in
    codes "batch" ++ flat_map told (codes "stored" ∷ codes "replaced" ∷ codes "removed" ∷ codes "absent" ∷ [])

-- a record
abbrev pub row_body : Record → List ℕ
row_body r = codes "record " ++ printed r.0 ++ value_word r.1

-- what a cursor gives, if it is open
abbrev pub next_body : Option (Option Record) → List ℕ
next_body given = option_map_or (λ row. option_map_or row_body row (codes "end")) given (codes "no cursor")

-- the lines that answer a command: none for a probe and `cost`
abbrev pub bodies : Layout → State → Cursors → Command → List (List ℕ)
bodies l s k (command.Put key value) = effect_body (upper_of (height_limit l)) (effect_of (height_limit l) s.map (bind key value)) ∷ []
bodies l s k (command.Remove key) = effect_body (upper_of (height_limit l)) (effect_of (height_limit l) s.map (unbind key)) ∷ []
bodies l s k (command.Batch items) =
    (if accepts l.version (height_limit l) s.map items then batch_body (effects_of (height_limit l) s.map items)
    else (if nat_le INTENT_VERSION l.version then effect_body (upper_of (height_limit l)) FindsFull else codes "no batch")) ∷ []
bodies l s k (command.Get key) = option_map_or (λ value. codes "found" ++ value_word value) (get s.map key) (codes "absent") ∷ []
bodies l s k (command.Range low high limit) = let rows = scanned low high limit (entries s.map) in map row_body rows ++ (codes "end " ++ decimal (length rows)) ∷ []
bodies l s k command.Check = (codes "check ok records=" ++ decimal (len s.map) ++ codes " height=" ++ decimal s.height) ∷ []
bodies l s k (command.Open name low high) = (if contains_key k name then codes "cursor open" else (if nat_lt (len k) most_cursors then codes "opened" else codes "no room " ++ decimal most_cursors)) ∷ []
bodies l s k (command.Next name) = next_body (step_in onward s.map k name) ∷ []
bodies l s k (command.Prev name) = next_body (step_in back s.map k name) ∷ []
bodies l s k (command.Close name) = (if contains_key k name then codes "closed" else codes "no cursor") ∷ []
bodies l s k command.OversizedKey = (codes "oversized key " ++ decimal (key_room l.format)) ∷ []
bodies l s k command.OversizedValue = (codes "oversized value " ++ decimal (value_room l.format)) ∷ []
bodies l s k command.RepeatedKey = codes "repeated key" ∷ []
bodies l s k (command.Bad why.Line) = codes "bad line" ∷ []
bodies l s k (command.Bad why.Command) = codes "bad command" ∷ []
bodies l s k (command.Bad why.Words) = codes "bad words" ∷ []
bodies l s k (command.Bad why.Number) = codes "bad number" ∷ []
bodies l s k _ = []

-- these are the lines that answer a command, and to a probe or `cost` any line of its form
abbrev pub AreBodies : Layout → State → Cursors → Command → List (List ℕ) → Type 0
AreBodies l s k (command.Probe key block) lines = (segment nodes blocks bound : ℕ)
    × (lines ≡ (codes "probe segment=" ++ decimal segment ++ codes " nodes=" ++ decimal nodes ++ codes " blocks=" ++ decimal blocks ++ codes " bound=" ++ decimal bound) ∷ [])
AreBodies l s k command.Cost lines = (updates charge bound : ℕ)
    × (lines ≡ (codes "cost updates=" ++ decimal updates ++ codes " charge=" ++ decimal charge ++ codes " bound=" ++ decimal bound) ∷ [])
AreBodies l s k c lines = lines ≡ bodies l s k c
