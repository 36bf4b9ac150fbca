-- Items that fit one commit reach a file by one batch of the journal.
use Rattle.std.proofs.Common.{◌≡◌, ℕ, ◌<◌, true, List, [], ◌∷◌, length, get_or, sym, ap, subst, ◌∙◌, arith}
use Rattle.header_gate.specs.Header.{layout_in}
use Rattle.header_gate.specs.Paged.{segment_image}
use Rattle.header_gate.specs.Places.{height_limit}
use Rattle.header_gate.specs.Recovered.{IsJournalSound}
use Rattle.key_slot.specs.Record.{Record}
use Rattle.map_model.specs.Store.{Update}
use Rattle.map_model.specs.Array.{Array, counts_of, segment_at}
use Rattle.map_model.specs.ArrayState.{ArrayState, HasState, next_state, next_states}
use Rattle.map_model.specs.Batches.{LaysBatch, LaysArray, IsSegmentImage}
use Rattle.map_model.specs.Holding.{HoldsMap, IsBalancedArray}
use Rattle.map_model.specs.Image.{Represents, array_in, slot_format}
use Rattle.map_model.specs.Items.{are_distinct}
use Rattle.map_model.proofs.ArrayImages.{updated_array, updated_represents}
use Rattle.map_model.proofs.SessionLaws.{holds_of}
use Rattle.map_model.proofs.UpdateLaws.{holds_after, balanced_after}
use Rattle.one_commit.specs.Fitting.{changes_in, fit_one_commit}
use Rattle.one_commit.specs.Editing.{edited_by, AreEdits, LaysEdits}
use Rattle.one_commit.proofs.Edits.{are_edits}

-- the array after items holds the map after them
all_hold : (hmax : ℕ) (s : ArrayState) (items : List Update) → HoldsMap hmax s.map s.height s.array → IsBalancedArray s.height s.array → HoldsMap hmax (next_states hmax s items).map (next_states hmax s items).height (next_states hmax s items).array
all_hold hmax s [] holds balanced = holds
all_hold hmax s (u ∷ us) holds balanced = all_hold hmax (next_state hmax s u) us (holds_after hmax s.map s.height s.array holds balanced u) (balanced_after hmax s.map s.height s.array holds balanced u)

module _ (s : ArrayState) (items : List Update) (old new numbers : List ℕ) (image : ℕ → ℕ → ℕ) (has : HasState old s) (balanced : IsBalancedArray s.height s.array) where
  holds : HoldsMap (height_limit (layout_in old)) s.map s.height s.array
  holds = subst (HoldsMap (height_limit (layout_in old)) s.map s.height) has.array_is (holds_of old s.map s.height has.represents)

  pub states_reached : (next_states (height_limit (layout_in old)) s items).height ≡ s.height → LaysBatch numbers image old new → LaysArray numbers image s.height old (next_states (height_limit (layout_in old)) s items).array
      → IsJournalSound (layout_in old) s.height new → HasState new (next_states (height_limit (layout_in old)) s items)
  states_reached stays lays all journal =
      let hmax = height_limit (layout_in old) in
      let next = next_states hmax s items in
      let after : HoldsMap hmax next.map s.height next.array = subst (λ (h : ℕ). HoldsMap hmax next.map h next.array) stays (all_hold hmax s items holds balanced) in
      record {
        represents = subst (Represents new next.map) (sym stays) (updated_represents old new numbers image s.map next.map s.height next.array has.represents lays all after journal);
        array_is = ap (array_in new) stays ∙ updated_array old new numbers image s.map next.map s.height next.array has.represents lays all after;
      }

  pub state_reached : are_distinct items ≡ true → fit_one_commit s.height (counts_of s.array) (changes_in s.array items) ≡ true
      → LaysBatch numbers image old new → LaysEdits (slot_format old) s.array items numbers image → IsJournalSound (layout_in old) s.height new → HasState new (next_states (height_limit (layout_in old)) s items)
  state_reached distinct fits lays edits journal =
      let hmax = height_limit (layout_in old) in
      let next = next_states hmax s items in
      let are : AreEdits hmax s items next = are_edits hmax s items holds balanced distinct fits in
      states_reached are.height_is lays (record {
        named = λ k lt. subst (λ (own : List Record). IsSegmentImage (slot_format old) own (segment_image (slot_format old) image k)) (sym (are.segments_are (get_or numbers k 0) (edits.inside k lt))) (edits.named k lt);
        unnamed = λ i lt none.
            let inside : i < length s.array = omega (arith, lt, holds.size) in
            are.segments_are i inside ∙ ap (λ (l : List Update). edited_by l (segment_at s.array i)) (edits.unnamed i inside none) ∙ sym (ap (λ (a : Array). segment_at a i) has.array_is);
      }) journal
