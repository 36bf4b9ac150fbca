-- A store over any number of boots, each of which a crash may end.
use Rattle.std.specs.Prelude.{◌≡◌, ◌⊎◌, ℕ, ◌+◌, List, [], ◌∷◌, ◌++◌, length, take}
use Rattle.std.specs.List.{flat_map}
use Rattle.std.specs.FinMap.{empty}
use Rattle.key_slot.specs.Record.{Bytes}
use Rattle.header_gate.specs.Header.{layout_in}
use Rattle.header_gate.specs.Places.{height_limit}
use Rattle.header_gate.specs.declared.layout.Layout.{Layout}
use Rattle.map_model.specs.Image.{slot_format}
use Rattle.map_model.specs.After.{map_after_items}
use Rattle.map_model.specs.Store.{Map}
use Rattle.batch_intent.specs.Means.{Means}
use Rattle.command_text.specs.Script.{commands_of}
use Rattle.command_text.specs.Updates.{updates_made}
use Rattle.command_text.specs.declared.command.Command.{Command}
use Rattle.pma_engine.specs.Headline.{AreReplies, replies_begun, Headline}

-- one boot: the script of its run, what had been said before it, and what was left when it ended: a file, and what was said by then
pub record Boot : Type 0 where
  pub script : List ℕ
  pub said_before : List ℕ
  pub image : List ℕ
  pub said : List ℕ

-- the commands of its script, in a run that began on this file
abbrev pub commands_on : List ℕ → Boot → List Command
commands_on start b = commands_of (slot_format start) b.script

-- it left what the clause `headline` of `run_words` promises of a run that began on this file
abbrev pub IsRun : List ℕ → Boot → Type 0
IsRun start b = (l : Layout) (m : Map) (means : Means l start m) →
    Headline l means.begins empty (commands_of l.format b.script) b.said_before b.image b.said

-- boots, one after another: the first on this file, each other on the file that the one before it left
abbrev pub AreBoots : List ℕ → List Boot → Type 0
AreBoots start [] = Unit {0}
AreBoots start (b ∷ bs) = IsRun start b × AreBoots b.image bs

-- the file that the last of them left
abbrev pub left_by : List ℕ → List Boot → List ℕ
left_by start [] = start
left_by start (b ∷ bs) = left_by b.image bs

-- the map after commands, in a file with this layout; the height decides nothing of it
abbrev pub map_after_commands : Layout → Map → List Command → Map
map_after_commands l m [] = m
map_after_commands l m (c ∷ cs) = map_after_commands l (map_after_items (height_limit l) m (updates_made l m c)) cs

-- A boot on a file that means this map carried out that many commands. What it said is a front of the replies to its commands, which
-- map, height and cursors determine, with no cursor open at its start. It carried out as many commands as replies have a byte in
-- what it said, or one more.
pub record CarriesOut (start : List ℕ) (m : Map) (b : Boot) (count : ℕ) : Type 0 where
  pub means : Means (layout_in start) start m
  pub texts : List Bytes
  pub are : AreReplies (layout_in start) means.begins empty (commands_on start b) texts
  pub new : List ℕ
  pub rest : List ℕ
  pub said_is : b.said ≡ b.said_before ++ new
  pub front : new ++ rest ≡ flat_map (λ r. r) texts
  pub count_is : (count ≡ replies_begun texts (length new)) ⊎ (count ≡ replies_begun texts (length new) + 1)

-- the map after the first commands of a boot, that many of them
abbrev pub after_boot : List ℕ → Map → Boot → ℕ → Map
after_boot start m b count = map_after_commands (layout_in start) m (take count (commands_on start b))

-- boots, each of which carried out that many commands, lead from one map to another
abbrev pub LeadTo : List ℕ → Map → List Boot → List ℕ → Map → Type 0
LeadTo start m [] [] last = last ≡ m
LeadTo start m (b ∷ bs) (n ∷ counts) last = CarriesOut start m b n × LeadTo b.image (after_boot start m b n) bs counts last
LeadTo start m _ _ last = ⊥

-- the commands that boots carried out, that many each, as one list
abbrev pub carried_out : List ℕ → List Boot → List ℕ → List Command
carried_out start (b ∷ bs) (n ∷ counts) = take n (commands_on start b) ++ carried_out b.image bs counts
carried_out start _ _ = []

-- What any number of boots leaves.
pub record BootsLead (start : List ℕ) (m : Map) (boots : List Boot) : Type 0 where
  -- For each boot there is a number of commands: as many as it had begun to answer, or one more. They lead from the first map to
  -- the last one.
  pub counts : List ℕ
  pub last : Map
  pub lead : LeadTo start m boots counts last
  -- The last map is that after all these commands as one list: those of each boot behind those of the one before it.
  pub as_one : last ≡ map_after_commands (layout_in start) m (carried_out start boots counts)
  -- The file that the last boot left has the layout of the first one, and means the last map.
  pub means : Means (layout_in start) (left_by start boots) last
