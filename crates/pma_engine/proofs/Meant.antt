-- The state from which a run begins on a file that means a map.
use Rattle.std.proofs.Common.{◌≡◌, ℕ, List, sym, ap, subst, ◌∙◌}
use Rattle.header_gate.specs.declared.layout.Layout.{Layout}
use Rattle.header_gate.specs.Header.{layout_in}
use Rattle.header_gate.specs.Places.{height_limit}
use Rattle.map_model.specs.ArrayState.{IsSoundState, opened_state, plain}
use Rattle.map_model.specs.Store.{Map, State}
use Rattle.map_model.proofs.Resuming.{map_of_items, plain_items}
use Rattle.map_model.proofs.SessionLaws.{opened_sound, states_sound}
use Rattle.map_model.specs.Items.{state_after_items}
use Rattle.map_model.proofs.Recovering.{determined}
use Rattle.batch_intent.specs.Means.{Means, meant_map, opened_items_state, waiting}
use Rattle.batch_intent.proofs.Meanings.{in_own, items_are, meant_one}
use Rattle.pma_engine.specs.Outcome.{state_of}

-- it has the map that the file means
pub opened_map : (image : List ℕ) → (opened_items_state image).map ≡ meant_map image
opened_map image =
    let hmax = height_limit (layout_in image) in
    ap (λ (t : State). t.map) (plain_items hmax (opened_state image) (waiting image)) ∙ map_of_items hmax (plain (opened_state image)) (waiting image)

pub meant_is : (image : List ℕ) (m : Map) → Means (layout_in image) image m → m ≡ (opened_items_state image).map
meant_is image m means = (meant_one image m means).0 ∙ sym (opened_map image)

pub opened_is : (image : List ℕ) (m : Map) → Means (layout_in image) image m → opened_items_state image ≡ state_of m image
opened_is image m means = λ i. record (opened_items_state image) { map = sym (meant_is image m means) i }

-- and is sound
pub begins_sound : (image : List ℕ) (m : Map) → Means (layout_in image) image m → IsSoundState (height_limit (layout_in image)) (state_of m image)
begins_sound image m means =
    let hmax = height_limit (layout_in image) in
    subst (IsSoundState hmax) (opened_is image m means) (states_sound hmax (opened_state image) (waiting image) (opened_sound image means.base means.height means.represents))

-- without its array it is what the items of the intent lead to
begins_own : (image : List ℕ) (m : Map) (means : Means (layout_in image) image m) → plain (state_of m image) ≡ means.begins
begins_own image m means =
    let hmax = height_limit (layout_in image) in
    let own = determined image means.base means.height means.represents in
    ap plain (sym (opened_is image m means))
    ∙ plain_items hmax (opened_state image) (waiting image)
    ∙ (λ i. state_after_items hmax (record { map = sym own.0 i; height = sym own.1 i }) (sym (items_are image m means) i))
    ∙ means.begins_is

pub begins_plain : {l : Layout} (image : List ℕ) (m : Map) (means : Means l image m) → plain (state_of m image) ≡ means.begins
begins_plain image m means = begins_own image m (in_own image m means)
