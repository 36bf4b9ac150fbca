-- How many calls of the device the lines of a script make.
use Rattle.std.specs.Prelude.{◌≡◌, ℕ, ◌+◌, ◌≤◌, List, [], ◌∷◌, ◌++◌, length}
use Rattle.station.specs.View.{View}
use Rattle.header_gate.specs.declared.layout.Layout.{Layout}
use Rattle.command_text.specs.Session.{Session, session_reply, session_step}
use Rattle.command_text.specs.declared.command.Command.{Command}
use Rattle.pma_store.specs.StoreView.{Stands}
use Rattle.pma_engine.specs.CommandCalls.{IsForCommand}
use Rattle.pma_engine.specs.Carrying.{SessionView, layout_on, session_in}

-- That many calls are those of a command's line in a state of a session: those of the command, in a store that stands for bytes with
-- that state, and one for each byte of its reply.
pub record IsForLine (v : View) (l : Layout) (x : Session) (c : Command) (calls : ℕ) : Type 0 where
  pub on : SessionView
  pub image : List ℕ
  pub stands : Stands on.store image
  pub place : layout_on on.store ≡ l
  pub state : session_in on image ≡ x
  pub own : ℕ
  pub is_for : IsForCommand c on.store on.cursors (record v { held = image }) own
  pub is : calls ≡ own + length (session_reply l x c)

-- that many are those of lines, each behind those before it
abbrev pub AreForLines : View → Layout → Session → List Command → ℕ → Type 0
AreForLines v l x [] calls = calls ≡ 0
AreForLines v l x (c ∷ cs) calls = (one : ℕ) × (more : ℕ) × IsForLine v l x c one × AreForLines v l (session_step l x c) cs more × (calls ≡ one + more)

-- The lines of a script from a session on made at most that many calls, for some first lines of it.
pub record CallsOnScript (l : Layout) (x : Session) (cs : List Command) (a b : View) : Type 0 where
  pub begun : List Command
  pub behind : List Command
  pub are : cs ≡ begun ++ behind
  pub calls : ℕ
  pub are_for : AreForLines a l x begun calls
  pub most : b.calls ≤ a.calls + calls
