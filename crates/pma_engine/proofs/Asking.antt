-- Commands that ask for records.
use Rattle.std.proofs.Common.{◌≡◌, ◌≤◌, List, [], ◌∷◌, ◌++◌, map, length, refl, arith}
use Rattle.std.specs.FinMap.{entries}
use Rattle.key_slot.specs.Record.{Record}
use Rattle.header_gate.specs.declared.layout.Layout.{Layout}
use Rattle.command_text.specs.declared.command.Command.{Command}
use Rattle.command_text.specs.declared.command.Command.TheVariants as command
use Rattle.command_text.specs.Answers.{answers, row_line}
use Rattle.command_text.specs.declared.reply.Reply.{Reply}
use Rattle.command_text.specs.declared.reply.Reply.TheVariants.{End}
use Rattle.map_model.specs.Scan.{scanned}
use Rattle.command_text.specs.Session.{Session, session_answers}
use Rattle.command_text.specs.Updates.{updates_asked}
use Rattle.workload.specs.Generator.{AsksForRecords}

-- the reply to one goes neither by the ledger nor by the cursors
pub asks_answers : (l : Layout) (x : Session) (c : Command) → AsksForRecords c → session_answers l x c ≡ answers l x.store c
asks_answers l x command.Nothing asks = absurd asks
asks_answers l x (command.Put key value) asks = refl
asks_answers l x (command.Remove key) asks = refl
asks_answers l x (command.Batch items) asks = absurd asks
asks_answers l x (command.Get key) asks = refl
asks_answers l x (command.Range low high limit) asks = refl
asks_answers l x command.Check asks = absurd asks
asks_answers l x command.Cost asks = absurd asks
asks_answers l x (command.Probe key block) asks = absurd asks
asks_answers l x (command.Open name low high) asks = absurd asks
asks_answers l x (command.Next name) asks = absurd asks
asks_answers l x (command.Prev name) asks = absurd asks
asks_answers l x (command.Close name) asks = absurd asks
asks_answers l x command.OversizedKey asks = absurd asks
asks_answers l x command.OversizedValue asks = absurd asks
asks_answers l x command.RepeatedKey asks = absurd asks
asks_answers l x (command.Bad why) asks = absurd asks

-- and it asks for an update at most
pub asked_one : (c : Command) → AsksForRecords c → length (updates_asked c) ≤ 1
asked_one command.Nothing asks = absurd asks
asked_one (command.Put key value) asks = omega arith
asked_one (command.Remove key) asks = omega arith
asked_one (command.Batch items) asks = absurd asks
asked_one (command.Get key) asks = omega arith
asked_one (command.Range low high limit) asks = omega arith
asked_one command.Check asks = absurd asks
asked_one command.Cost asks = absurd asks
asked_one (command.Probe key block) asks = absurd asks
asked_one (command.Open name low high) asks = absurd asks
asked_one (command.Next name) asks = absurd asks
asked_one (command.Prev name) asks = absurd asks
asked_one (command.Close name) asks = absurd asks
asked_one command.OversizedKey asks = absurd asks
asked_one command.OversizedValue asks = absurd asks
asked_one command.RepeatedKey asks = absurd asks
asked_one (command.Bad why) asks = absurd asks

-- it has a line of reply
lines_end : (rows : List Record) (r : Reply) → [] ≡ map row_line rows ++ r ∷ [] → ⊥
lines_end [] r is = cc
lines_end (x ∷ rows) r is = cc

pub asks_answered : (l : Layout) (x : Session) (c : Command) → AsksForRecords c → [] ≡ session_answers l x c → ⊥
asks_answered l x command.Nothing asks is = asks
asks_answered l x (command.Put key value) asks is = cc
asks_answered l x (command.Remove key) asks is = cc
asks_answered l x (command.Batch items) asks is = asks
asks_answered l x (command.Get key) asks is = cc
asks_answered l x (command.Range low high limit) asks is = let rows = scanned low high limit (entries x.store.map) in lines_end rows (End (length rows)) is
asks_answered l x command.Check asks is = asks
asks_answered l x command.Cost asks is = asks
asks_answered l x (command.Probe key block) asks is = asks
asks_answered l x (command.Open name low high) asks is = asks
asks_answered l x (command.Next name) asks is = asks
asks_answered l x (command.Prev name) asks is = asks
asks_answered l x (command.Close name) asks is = asks
asks_answered l x command.OversizedKey asks is = asks
asks_answered l x command.OversizedValue asks is = asks
asks_answered l x command.RepeatedKey asks is = asks
asks_answered l x (command.Bad why) asks is = asks
