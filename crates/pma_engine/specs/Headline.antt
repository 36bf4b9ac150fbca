-- A session: the replies to a list of commands, and what a crash at a moment of it may leave. The layout is that of the file.
use Rattle.std.specs.Prelude.{◌≡◌, ◌⊎◌, ℕ, suc, ◌+◌, ◌-◌, ◌<◌, ◌≤◌, ◌==◌, if◌then◌else◌, List, [], ◌∷◌, ◌++◌, length, take}
use Rattle.std.specs.List.{flat_map}
use Rattle.key_slot.specs.Record.{Bytes}
use Rattle.header_gate.specs.declared.layout.Layout.{Layout}
use Rattle.map_model.specs.Cursors.{Cursors}
use Rattle.map_model.specs.Store.{State}
use Rattle.batch_intent.specs.Means.{Means}
use Rattle.command_text.specs.declared.command.Command.{Command}
use Rattle.command_text.specs.Answers.{step}
use Rattle.command_text.specs.Bodies.{AreBodies}
use Rattle.command_text.specs.ArraySession.{plain_state_after}
use Rattle.command_text.specs.CursorLines.{cursors_after}
use Rattle.command_text.specs.Session.{Session, session_reply, session_step, session_after}

-- the reply to each command, in the session before it
abbrev pub replies : Layout → Session → List Command → List Bytes
replies l x [] = []
replies l x (c ∷ cs) = session_reply l x c ∷ replies l (session_step l x c) cs

-- the bytes of the replies to commands
abbrev pub replies_after : Layout → Session → List Command → Bytes
replies_after l x cs = flat_map (λ r. r) (replies l x cs)

-- how many replies have begun, that is, have a byte among the first n, if the replies are laid out in order
abbrev pub replies_begun : List Bytes → ℕ → ℕ
replies_begun [] n = 0
replies_begun (r ∷ rs) n = let more = replies_begun rs (n - length r) in if n == 0 then 0 else suc more

-- these are the replies to the commands, each in the state before it and with the cursors open then; every line has a line feed
abbrev pub AreReplies : Layout → State → Cursors → List Command → List Bytes → Type 0
AreReplies l s k [] [] = Unit {0}
AreReplies l s k (c ∷ cs) (r ∷ rs) = ((lines : List Bytes) × AreBodies l s k c lines × (r ≡ flat_map (λ line. line ++ 10 ∷ []) lines)) × AreReplies l (step l s c) (cursors_after s.map k c) cs rs
AreReplies l s k [] (r ∷ rs) = ⊥
AreReplies l s k (c ∷ cs) [] = ⊥

-- The headline of commands, of a pair of an image and the bytes said, over map, height and cursors: what was said behind what was
-- said before is a front of such replies, and with n of them begun the image has this layout and means the map after n commands,
-- or after n + 1.
pub record Headline (l : Layout) (s : State) (k : Cursors) (cs : List Command) (said_before image said : List ℕ) : Type 0 where
  pub texts : List Bytes
  pub are : AreReplies l s k cs texts
  pub new : List ℕ
  pub rest : List ℕ
  pub said_is : said ≡ said_before ++ new
  pub front : new ++ rest ≡ flat_map (λ r. r) texts
  pub stands : Means l image (plain_state_after l s (take (replies_begun texts (length new)) cs)).map
      ⊎ Means l image (plain_state_after l s (take (replies_begun texts (length new) + 1) cs)).map

-- The same with the exact replies, which the array and the ledger determine too.
pub record ExactHeadline (l : Layout) (x : Session) (cs : List Command) (said_before image said : List ℕ) : Type 0 where
  pub new : List ℕ
  pub rest : List ℕ
  pub said_is : said ≡ said_before ++ new
  pub front : new ++ rest ≡ replies_after l x cs
  pub stands : Means l image (session_after l x (take (replies_begun (replies l x cs) (length new)) cs)).store.map
      ⊎ Means l image (session_after l x (take (replies_begun (replies l x cs) (length new) + 1) cs)).store.map

-- a front of a text was said behind what was said before, and one byte of it or more was not
abbrev pub IsPartSaid : (text said_before said : List ℕ) → Type 0
IsPartSaid text said_before said = (n : ℕ) × (n < length text) × (said ≡ said_before ++ take n text)

-- One command and its reply, and an image with this layout: the reply isn't begun, and it means the map before or after the
-- command; or a front of the reply is said, and it means the map after it.
abbrev pub AnswerPair : (l : Layout) (x : Session) (c : Command) (said_before image said : List ℕ) → Type 0
AnswerPair l x c said_before image said =
    ((said ≡ said_before) × (Means l image x.store.map ⊎ Means l image (session_step l x c).store.map))
    ⊎ (((n : ℕ) × (n ≤ length (session_reply l x c)) × (said ≡ said_before ++ take n (session_reply l x c))) × Means l image (session_step l x c).store.map)
