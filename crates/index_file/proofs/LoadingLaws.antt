-- The index of a file as it is taken over.
use Rattle.std.proofs.Common.{◌≡◌, ℕ, zero, suc, ◌-◌, ◌^◌, ◌<◌, ◌≤◌, cond, List, Some, None, refl, sym, ◌∙◌, arith, inl, inr}
use Rattle.std.specs.Prelude.{Option, ◌&&◌, nat_le, not}
use Rattle.std.specs.Ordering.{is_lt}
use Rattle.std.proofs.lemmas.Bool.{cases_lt}
use Rattle.header_gate.specs.declared.layout.Layout.{Layout}
use Rattle.header_gate.specs.declared.reason.Reason.{Reason}
use Rattle.header_gate.specs.declared.reason.Reason.TheVariants.{Index}
use Rattle.header_gate.specs.Reasons.{or_else}
use Rattle.key_slot.specs.Record.{Bytes, key_cmp}
use Rattle.map_model.specs.FileReasons.{first_reason}
use Rattle.map_model.proofs.ArrayReasons.{both_none, next_one, first_one, none_of_each}
use Rattle.veb_index.specs.Nodes.{fence_place, fence_by}
use Rattle.veb_index.specs.IndexView.{fence_at}
use Rattle.veb_index.proofs.Middles.{fence_place-within}
use Rattle.index_file.specs.Area.{node_place}
use Rattle.index_file.specs.Node.{is_node}
use Rattle.index_file.specs.Seats.{link_of}
use Rattle.index_file.specs.IndexReasons.{node_reason, fence_read, order_reason, fences_reason, windows_reason, area_reason}
use Rattle.index_file.specs.IndexReading.{FailsAt}
use Rattle.index_file.specs.Writing.{AreNodesOf}
use Rattle.index_file.proofs.ValidatingLaws.{order_few, if_true}
use Rattle.index_file.proofs.ReadingLaws.{fails_reason}

-- reasons that agree
pub first_same : (f g : ℕ → Option Reason) (n : ℕ) → ((i : ℕ) → i < n → f i ≡ g i) → first_reason f n ≡ first_reason g n
unfolding first_reason
first_same f g zero same = refl
first_same f g (suc n) same = λ t. or_else (first_same f g n (λ i lt. same i (omega (arith, lt))) t) (same n (omega arith) t)

-- the same fences have the same order
pub orders_same : (l : Layout) (h : ℕ) (f g : ℕ → Bytes) → ((i : ℕ) → 1 ≤ i → i < 2 ^ h → f i ≡ g i) → first_reason (order_reason l h f) (2 ^ h) ≡ first_reason (order_reason l h g) (2 ^ h)
orders_same l h f g same = first_same (order_reason l h f) (order_reason l h g) (2 ^ h) (λ i lt. elim (cases_lt 1 i) [
  | inl some ↦
      let before = same (i - 1) (omega (arith, some)) (omega (arith, lt)) in
      let here = same i (omega (arith, some)) lt in
      λ t. cond (nat_le 2 i && not (is_lt (key_cmp (before t) (here t)))) (Some (Index (node_place l (fence_place h i)))) None
  | inr few ↦ order_few l h f i few ∙ sym (order_few l h g i few)
])

-- the fences that were taken are those that the file has
pub fences_are : (l : Layout) (h : ℕ) (fences : List Bytes) (file : List ℕ) → AreNodesOf l.format l h fences (2 ^ h - 1) file → (i : ℕ) → 1 ≤ i → i < 2 ^ h → fence_by h (fence_at fences) i ≡ fence_read l h file i
fences_are l h fences file are i some lt = sym (are (fence_place h i) (fence_place-within h i some lt)).fence_is

pub nodes_fine : (l : Layout) (h : ℕ) (fences : List Bytes) (file : List ℕ) → AreNodesOf l.format l h fences (2 ^ h - 1) file → first_reason (node_reason l h file) (2 ^ h - 1) ≡ None
nodes_fine l h fences file are = none_of_each (node_reason l h file) (2 ^ h - 1) (λ x lt. if_true (is_node l.format (link_of h 0 x) (link_of h 1 x) file (node_place l x)) (Index (node_place l x)) (are x lt).form)

-- what is wrong with the nodes
pub fences_none : (l : Layout) (h : ℕ) (fences : List Bytes) (file : List ℕ) → AreNodesOf l.format l h fences (2 ^ h - 1) file → first_reason (order_reason l h (fence_by h (fence_at fences))) (2 ^ h) ≡ None → fences_reason l h file ≡ None
fences_none l h fences file are none = both_none _ _ (nodes_fine l h fences file are) (sym (orders_same l h (fence_by h (fence_at fences)) (fence_read l h file) (fences_are l h fences file are)) ∙ none)

pub fences_some : (l : Layout) (h : ℕ) (fences : List Bytes) (file : List ℕ) (place : ℕ) → AreNodesOf l.format l h fences (2 ^ h - 1) file → first_reason (order_reason l h (fence_by h (fence_at fences))) (2 ^ h) ≡ Some (Index place) → fences_reason l h file ≡ Some (Index place)
fences_some l h fences file place are some = next_one _ _ (Index place) (nodes_fine l h fences file are) (sym (orders_same l h (fence_by h (fence_at fences)) (fence_read l h file) (fences_are l h fences file are)) ∙ some)

pub fences_fail : (l : Layout) (h : ℕ) (file : List ℕ) (place : ℕ) → FailsAt l h (2 ^ h - 1) file place → fences_reason l h file ≡ Some (Index place)
fences_fail l h file place is = first_one _ _ (Index place) (fails_reason l h (2 ^ h - 1) file place is)

-- the whole
pub area_fences : (l : Layout) (h : ℕ) (file : List ℕ) (r : Reason) → fences_reason l h file ≡ Some r → area_reason l h file ≡ Some r
unfolding area_reason
area_fences l h file r is = first_one _ _ r is

pub area_windows : (l : Layout) (h : ℕ) (file : List ℕ) (r : Reason) → fences_reason l h file ≡ None → windows_reason l h file ≡ Some r → area_reason l h file ≡ Some r
unfolding area_reason
area_windows l h file r none is = next_one _ _ r none is
