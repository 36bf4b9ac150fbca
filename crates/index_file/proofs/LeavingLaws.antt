-- The leaving of an index.
use Rattle.std.proofs.Common.{◌≡◌, ℕ, ◌-◌, ◌^◌, ◌≤◌, List, [], ◌∷◌, T, length, sym, ap, subst, ◌∙◌, arith, inl, inr}
use Rattle.std.specs.Option.{unwrap_or}
use Rattle.std.specs.List.{list_all}
use Rattle.std.proofs.lemmas.Bool.{cases_lt}
use Rattle.std.proofs.lemmas.Bool.Decides.{nat_tests}
use Rattle.std.proofs.lemmas.List.{get_or_past}
use Rattle.key_slot.specs.Format.{wide, key_room}
use Rattle.key_slot.specs.Record.{Record, is_record}
use Rattle.key_slot.specs.Segment.{segment_of}
use Rattle.segment.specs.Rows.{key_at}
use Rattle.map_model.proofs.Reasonings.{length-array_in, segment_at-array_in, own_segments}
use Rattle.station.specs.Bytes.{Touched}
use Rattle.header_gate.specs.InPlace.{IsBare}
use Rattle.header_gate.specs.declared.layout.Layout.{Layout}
use Rattle.header_gate.specs.Places.{file_length}
use Rattle.density_rule.specs.Windows.{IsBalanced}
use Rattle.map_model.specs.Array.{counts_of}
use Rattle.map_model.specs.Image.{Represents, array_in, array_of, height_of, map_of, slot_format, live_segment}
use Rattle.veb_index.specs.IndexView.{IndexView}
use Rattle.window_tally.specs.TallyView.{TallyView}
use Rattle.index_file.specs.Area.{HasNodes}
use Rattle.index_file.specs.Clean.{IsLeft, IsAreaPlace, fence_of_segment}
use Rattle.index_file.specs.Leaving.{IsReady}
use Rattle.index_file.specs.Writing.{AreNodesOf, AreCountsOf}
use Rattle.index_file.proofs.AreaLaws.{has_nodes}
use Rattle.index_file.proofs.CleanLaws.{left_written}

-- a ready store's file is as long as its layout says
pub ready_size : (l : Layout) (region : ℕ) (tally : TallyView) (index : IndexView) (image : List ℕ) → IsReady l region tally index image → length image ≡ file_length l
ready_size l region tally index image ready = ready.stands.stands.settled.represents.header.size ∙ ap file_length ready.stands.stands.settled.layout_is

-- the first key of a segment is one of the file's slot format
first_room : (f : ℕ) (rows : List Record) → T (list_all (is_record f) rows) → length (unwrap_or (key_at rows 0) []) ≤ key_room f
first_room f [] fits = omega arith
first_room f (r ∷ rows) fits = grind (arith, nat_tests, fits)

fence_room : (image : List ℕ) → Represents image (map_of image) (height_of image) → (i : ℕ) → length (fence_of_segment (array_of image) i) ≤ key_room (slot_format image)
fence_room image is i = elim (cases_lt i (2 ^ height_of image)) [
  | inl below ↦ subst (λ (s : List Record). length (unwrap_or (key_at s 0) []) ≤ key_room (slot_format image)) (sym (segment_at-array_in image (height_of image) i below)) (first_room (slot_format image) (segment_of (slot_format image) (live_segment image i)) (own_segments image (map_of image) (height_of image) is i below).fits.records)
  | inr past ↦ subst (λ (s : List Record). length (unwrap_or (key_at s 0) []) ≤ key_room (slot_format image)) (sym (get_or_past (array_of image) i [] (omega (arith, past, length-array_in image (height_of image))))) (omega arith)
]

-- its file, once the index is written
pub area_left : (l : Layout) (region h : ℕ) (tally : TallyView) (index : IndexView) (old new : List ℕ) → IsReady l region tally index old → h ≡ tally.height → index.height ≡ tally.height
    → Touched (IsAreaPlace l) old new → AreNodesOf wide l h index.fences (2 ^ h - 1) new → AreCountsOf l tally.counts (2 ^ tally.height) new → IsLeft new
area_left l region h tally index old new ready h_is index_h touched nodes counts =
    let settled = ready.stands.stands.settled in
    let t = tally.height in
    let tall : height_of old ≡ tally.height = ready.stands.stands.height_is in
    let R : ℕ → Type 0 = λ n. Represents old (map_of old) n in
    let counts_is : counts_of (array_in old tally.height) ≡ tally.counts = ready.stands.stands.counts_are in
    let C : List ℕ → Type 0 = λ ns. IsBalanced tally.height ns in
    let N : ℕ → Type 0 = λ n. AreNodesOf wide l n index.fences (2 ^ n - 1) new in
    let F : ℕ → Type 0 = λ n. HasNodes l n (fence_of_segment (array_of old)) new in
    let A : ℕ → Type 0 = λ n. HasNodes l tally.height (fence_of_segment (array_in old n)) new in
    let D : List ℕ → Type 0 = λ ns. AreCountsOf l ns (2 ^ tally.height) new in
    left_written l old new (map_of old) tally.height (subst R tall settled.represents) (subst (λ (x : Layout). IsBare x old) (sym settled.layout_is) ready.bare) ready.intent_even settled.layout_is (subst C (sym counts_is) ready.stands.balanced) touched (record {
      nodes = subst A tall (subst F index_h (has_nodes l index (array_of old) new ready.index_is (λ i. subst (λ (x : Layout). length (fence_of_segment (array_of old) i) ≤ key_room x.format) settled.layout_is (fence_room old settled.represents i)) (subst N (h_is ∙ sym index_h) nodes)));
      counts_are = subst D (sym counts_is) counts;
    })
