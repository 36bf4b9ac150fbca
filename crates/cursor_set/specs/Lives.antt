-- What a cursor gives in a session, from its opening to its end.
use Rattle.std.specs.Prelude.{ℕ, ◌≡◌, if◌then◌else◌, true, List, [], ◌∷◌, ◌++◌, length, map, Option, Some, None, IfSome}
use Rattle.std.specs.List.{flat_map}
use Rattle.std.specs.Ordering.{eq_by_cmp}
use Rattle.std.specs.FinMap.{contains_key}
use Rattle.std.specs.FinMap.Entries.{where_key}
use Rattle.key_slot.specs.Record.{Bytes, Record, key_cmp}
use Rattle.key_slot.specs.Row.{record_of}
use Rattle.header_gate.specs.declared.layout.Layout.{Layout}
use Rattle.map_model.specs.Store.{Map}
use Rattle.command_text.specs.Session.{Session, session_answers, session_step, session_after}
use Rattle.command_text.specs.declared.command.Command.{Command}
use Rattle.command_text.specs.declared.command.Command.TheVariants as command
use Rattle.command_text.specs.declared.reply.Reply.{Reply}
use Rattle.command_text.specs.declared.reply.Reply.TheVariants as reply
use Rattle.map_model.specs.Cursors.{Way, onward, back}
use Rattle.cursor_set.specs.Ways.{step_command, IsNearest}

-- a property of each state, from one to that after the commands
abbrev pub InEach : (Session → Type 0) → Layout → Session → List Command → Type 0
InEach P l s [] = P s
InEach P l s (c ∷ cs) = P s × InEach P l (session_step l s c) cs

-- a record that a cursor gave, with the way in which it stepped and the map of that moment
pub record Gift : Type 0 where
  pub way : Way
  pub map : Map
  pub row : Record

abbrev pub records_of : List Gift → List Record
records_of gifts = map (λ g. g.row) gifts

-- the way in which a command has the cursor of a name step, if it does
abbrev pub way_by : Bytes → Command → Option Way
way_by name (command.Next other) = if eq_by_cmp key_cmp other name then Some onward else None
way_by name (command.Prev other) = if eq_by_cmp key_cmp other name then Some back else None
way_by name _ = None

-- the record of a line of a reply, if it is one
abbrev pub gift_line : Way → Map → Reply → List Gift
gift_line way m (reply.Row row) = record { way = way; map = m; row = record_of row } ∷ []
gift_line way m _ = []

-- those of lines, if a cursor stepped
abbrev pub gifts_if : Option Way → Map → List Reply → List Gift
gifts_if None m lines = []
gifts_if (Some way) m lines = flat_map (gift_line way m) lines

-- the records of the reply to a command, if it has the cursor of a name step
abbrev pub gifts_by : Bytes → Layout → Session → Command → List Gift
gifts_by name l s c = gifts_if (way_by name c) s.store.map (session_answers l s c)

-- those of the replies to commands
abbrev pub gifts : Bytes → Layout → Session → List Command → List Gift
gifts name l s [] = []
gifts name l s (c ∷ cs) = gifts_by name l s c ++ gifts name l (session_step l s c) cs

-- each gift has a property
abbrev pub Each : (Gift → Type 0) → List Gift → Type 0
Each P [] = Unit {0}
Each P (g ∷ gs) = P g × Each P gs

-- each is the nearest to the key of the one before it, and the first to a key that is given, if there is one
abbrev pub AreNearest : Option Bytes → Option Bytes → Option Bytes → List Gift → Type 0
AreNearest low high past [] = Unit {0}
AreNearest low high past (g ∷ gs) = IsNearest g.way low high past g.map g.row × AreNearest low high (Some g.row.0) gs

-- the key of the last one, or one that is given if there is none
abbrev pub last_given : Option Bytes → List Gift → Option Bytes
last_given past [] = past
last_given past (g ∷ gs) = last_given (Some g.row.0) gs

-- how often a key is among records
abbrev pub times : Bytes → List Record → ℕ
times key records = length (where_key key_cmp (λ other. eq_by_cmp key_cmp other key) records)

abbrev pub IsOpen : Bytes → Session → Type 0
IsOpen name s = contains_key s.cursors name ≡ true

abbrev pub HasKey : Bytes → Session → Type 0
HasKey key s = contains_key s.store.map key ≡ true

-- the state once a cursor is opened
abbrev pub opened : Bytes → Option Bytes → Option Bytes → Layout → Session → Session
opened name low high l s = session_step l s (command.Open name low high)

-- A cursor is opened in a state, and is open in each state from then on.
pub record StaysOpen (name : Bytes) (low high : Option Bytes) (l : Layout) (s : Session) (cs : List Command) : Type 0 where
  pub opens : session_answers l s (command.Open name low high) ≡ reply.Opened ∷ []
  pub stays : InEach (IsOpen name) l (opened name low high l s) cs

-- each command that has it step has it step in this way
abbrev pub StepsOnly : Way → Bytes → List Command → Type 0
StepsOnly way name [] = Unit {0}
StepsOnly way name (c ∷ cs) = IfSome (way_by name c) (λ w. w ≡ way) × StepsOnly way name cs

-- the state behind these commands
abbrev pub at_end : Bytes → Option Bytes → Option Bytes → Layout → Session → List Command → Session
at_end name low high l s cs = session_after l (opened name low high l s) cs

-- if it says its end, when it is to step once more
abbrev pub Ends : Way → Bytes → Option Bytes → Option Bytes → Layout → Session → List Command → Type 0
Ends way name low high l s cs = session_answers l (at_end name low high l s cs) (step_command way name) ≡ reply.CursorEnd ∷ []

-- what it gave by them
abbrev pub given : Bytes → Option Bytes → Option Bytes → Layout → Session → List Command → List Gift
given name low high l s cs = gifts name l (opened name low high l s) cs
