-- A session: the store, the open cursors and the ledger of its updates, through commands, in a file with a layout.
use Rattle.std.specs.Prelude.{ℕ, ◌+◌, ◌≤◌, List, [], ◌∷◌, ◌++◌, length, sum}
use Rattle.std.specs.List.{flat_map}
use Rattle.std.specs.FinMap.{empty}
use Rattle.key_slot.specs.Record.{Bytes}
use Rattle.header_gate.specs.declared.layout.Layout.{Layout}
use Rattle.map_model.specs.Array.{counts_of}
use Rattle.map_model.specs.ArrayState.{ArrayState, plain}
use Rattle.map_model.specs.Cursors.{Cursors, onward, back, step_in}
use Rattle.cost_ledger.specs.Ledger.{LedgerView, empty_ledger, noted, ledger_bound, cost_of}
use Rattle.cost_ledger.specs.Potential.{potential}
use Rattle.command_text.specs.Answers.{answers, probe_in}
use Rattle.command_text.specs.ArraySession.{array_step}
use Rattle.command_text.specs.Bodies.{bodies}
use Rattle.command_text.specs.CursorLines.{open_line, next_line, close_line, cursors_after}
use Rattle.command_text.specs.Reply.{probe_body, cost_body}
use Rattle.command_text.specs.Updates.{updates_made, charge_made}
use Rattle.command_text.specs.declared.command.Command.{Command}
use Rattle.command_text.specs.declared.command.Command.TheVariants as command
use Rattle.command_text.specs.declared.reply.Reply.{Reply}
use Rattle.command_text.specs.declared.reply.Reply.TheVariants as reply

pub record Session : Type 0 where
  pub store : ArrayState
  pub cursors : Cursors
  pub ledger : LedgerView

-- a session that begins with this store
abbrev pub session_from : ArrayState → Session
session_from s = record { store = s; cursors = empty; ledger = empty_ledger s.height }

-- the ledger after a command, with the updates that it makes and their charges
abbrev pub ledger_step : Layout → ArrayState → Command → LedgerView → LedgerView
ledger_step l s c ledger = noted (length (updates_made l s.map c)) (charge_made l s c) ledger

abbrev pub session_step : Layout → Session → Command → Session
session_step l x c = record { store = array_step l x.store c; cursors = cursors_after x.store.map x.cursors c; ledger = ledger_step l x.store c x.ledger }

-- the lines that answer a command in a session: `bodies`, and to a probe and `cost` those with the numbers of array and ledger
abbrev pub exact_bodies : Layout → Session → Command → List Bytes
exact_bodies l x (command.Probe key block) =
    let p = probe_in x.store key block in probe_body p.segment p.nodes p.blocks p.bound ∷ []
exact_bodies l x command.Cost = let told = cost_of x.ledger in cost_body told.updates told.charge told.bound ∷ []
exact_bodies l x c = bodies l (plain x.store) x.cursors c

-- the bytes of the reply to a command: each line with its line feed
abbrev pub session_reply : Layout → Session → Command → Bytes
session_reply l x c = flat_map (λ line. line ++ 10 ∷ []) (exact_bodies l x c)

-- The code's lines of the reply to a command. What is answered is defined by `bodies` and `exact_bodies`, whose bytes these lines
-- have by the law `answers_go_by_the_map`.
abbrev pub session_answers : Layout → Session → Command → List Reply
session_answers l x command.Cost = reply.Cost (cost_of x.ledger) ∷ []
session_answers l x (command.Open name low high) = open_line x.cursors name ∷ []
session_answers l x (command.Next name) = next_line (step_in onward x.store.map x.cursors name) ∷ []
session_answers l x (command.Prev name) = next_line (step_in back x.store.map x.cursors name) ∷ []
session_answers l x (command.Close name) = close_line x.cursors name ∷ []
session_answers l x c = answers l x.store c

-- the session after commands
abbrev pub session_after : Layout → Session → List Command → Session
session_after l x [] = x
session_after l x (c ∷ cs) = session_after l (session_step l x c) cs

-- what is set aside in a state for dear updates
abbrev pub potential_in : ArrayState → ℕ
potential_in s = potential s.height (sum (counts_of s.array)) s.marks

-- the charges so far, and what is set aside, stay within the bound that `cost` tells
abbrev pub IsPaid : Session → Type 0
IsPaid x = x.ledger.charge + potential_in x.store ≤ ledger_bound x.ledger
