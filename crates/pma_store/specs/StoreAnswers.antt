-- What the calls of a store answer, as functions of its state.
use Rattle.std.specs.Prelude.{ℕ, List, []}
use Rattle.key_slot.specs.Record.{Bytes}
use Rattle.map_model.specs.Store.{Map, bind, effect_of}
use Rattle.map_model.specs.ArrayState.{ArrayState, UpdateReport}
use Rattle.map_model.specs.Image.{map_of, height_of, array_of}
use Rattle.pma_store.specs.declared.answers.Put.{Put}
use Rattle.pma_store.specs.declared.answers.Report.{Report}
use Rattle.pma_store.specs.Changing.{effect_outcome, put_of}
use Rattle.pma_store.specs.StoreView.{StoreView}

-- the state of a file with its store: its map, the height that it names, its array, and the marks that the store keeps
abbrev pub state_in : StoreView → List ℕ → ArrayState
state_in s image = record { map = map_of image; height = height_of image; array = array_of image; marks = s.tally.marks }

-- what a put of the key answers, whatever its value, in a store with the greatest height hmax
abbrev pub put_answer : ℕ → Map → Bytes → Put
put_answer hmax m key = put_of hmax (effect_outcome (effect_of hmax m (bind key [])))

-- what a report says
abbrev pub reported : Report → UpdateReport
reported r = record { spread = r.rebalanced; cause = r.child_updates; resized = r.resized }
