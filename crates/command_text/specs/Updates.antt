-- The updates that commands make.
use Rattle.std.specs.Prelude.{ℕ, if◌then◌else◌, List, [], ◌∷◌}
use Rattle.header_gate.specs.declared.layout.Layout.{Layout}
use Rattle.header_gate.specs.Places.{height_limit}
use Rattle.map_model.specs.Items.{accepts}
use Rattle.map_model.specs.ItemWords.{charge_after_items}
use Rattle.map_model.specs.ArrayState.{ArrayState}
use Rattle.map_model.specs.Store.{Map, Update, bind, unbind}
use Rattle.command_text.specs.declared.command.Command.{Command}
use Rattle.command_text.specs.declared.command.Command.TheVariants as command

-- the updates that a command requests
abbrev pub updates_asked : Command → List Update
updates_asked (command.Put key value) = bind key value ∷ []
updates_asked (command.Remove key) = unbind key ∷ []
updates_asked (command.Batch items) = items
updates_asked _ = []

-- the updates that it makes in a file with this layout that holds this map: a put or a remove always makes its own, and a
-- batch all of its items, or none
abbrev pub updates_made : Layout → Map → Command → List Update
updates_made l m (command.Put key value) = bind key value ∷ []
updates_made l m (command.Remove key) = unbind key ∷ []
updates_made l m (command.Batch items) = if accepts l.version (height_limit l) m items then items else []
updates_made l m _ = []

-- what they are charged together
abbrev pub charge_made : Layout → ArrayState → Command → ℕ
charge_made l s c = charge_after_items (height_limit l) s (updates_made l s.map c)
