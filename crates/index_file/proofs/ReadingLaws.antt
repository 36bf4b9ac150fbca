-- The nodes of the index in a file while they are read.
use Rattle.std.proofs.Common.{◌≡◌, ℕ, suc, ◌+◌, ◌-◌, ◌*◌, ◌<◌, ◌≤◌, Bool, true, false, cond, List, Some, None, refl, sym, ap, subst, ◌∙◌, arith, inl, inr}
use Rattle.std.specs.Prelude.{Option}
use Rattle.std.proofs.lemmas.Bool.{cases_lt}
use Rattle.station.specs.Bytes.{byte}
use Rattle.key_slot.specs.Format.{wide}
use Rattle.key_slot.specs.Record.{Bytes}
use Rattle.header_gate.specs.declared.layout.Layout.{Layout}
use Rattle.header_gate.specs.declared.reason.Reason.{Reason}
use Rattle.header_gate.specs.declared.reason.Reason.TheVariants.{Index}
use Rattle.map_model.specs.FileReasons.{first_reason}
use Rattle.map_model.proofs.ArrayReasons.{none_of_each, next_one, first_stays}
use Rattle.veb_index.specs.IndexView.{fence_at}
use Rattle.index_file.specs.Seats.{link_of}
use Rattle.index_file.specs.Node.{is_node, IsNode}
use Rattle.index_file.specs.Area.{node_place}
use Rattle.index_file.specs.IndexReasons.{node_reason}
use Rattle.index_file.specs.IndexReading.{is_node_of, IsFirstWrong, FailsAt}
use Rattle.index_file.specs.Writing.{IsNodeOf, AreNodesOf}
use Rattle.index_file.proofs.NodeLaws.{node_same, node_test_same}

-- a piece holds the bytes of the file from the node of a position on
abbrev pub IsFront : Layout → ℕ → ℕ → List ℕ → List ℕ → Type 0
IsFront l first count file piece = (k : ℕ) → k < 64 * count → byte piece k ≡ byte file (node_place l first + k)

-- a node of the file is that of the piece
pub front_byte : (l : Layout) (first count : ℕ) (file piece : List ℕ) → IsFront l first count file piece → (x : ℕ) → first ≤ x → x < first + count → (o : ℕ) → o < 64 → byte file (node_place l x + o) ≡ byte piece (64 * (x - first) + o)
front_byte l first count file piece front x from below o small =
    ap (byte file) {x = node_place l x + o} {y = node_place l first + (64 * (x - first) + o)} (omega (arith, from)) ∙ sym (front (64 * (x - first) + o) (omega (arith, from, below, small)))

pub nodes_read : (l : Layout) (low : l.format ≤ wide) (h : ℕ) (f g : List Bytes) (first count : ℕ) (file piece : List ℕ) → IsFront l first count file piece → ((k : ℕ) → k < count → IsNodeOf l.format h g (first + k) piece (64 * k)) → ((x : ℕ) → x < first → fence_at g x ≡ fence_at f x)
    → AreNodesOf l.format l h f first file → AreNodesOf l.format l h g (first + count) file
nodes_read l room h f g first count file piece front taken before are x lt = elim (cases_lt x first) [
  | inl low ↦ subst (λ (k : Bytes). IsNode l.format (link_of h 0 x) (link_of h 1 x) k file (node_place l x)) (sym (before x low)) (are x low)
  | inr past ↦
      let e : first + (x - first) ≡ x = omega (arith, past) in
      let below : x - first < count = omega (arith, past, lt) in
      node_same l.format _ _ _ file piece (node_place l x) (64 * (x - first)) room (front_byte l first count file piece front x past lt)
      (subst (λ (y : ℕ). IsNodeOf l.format h g y piece (64 * (x - first))) e (taken (x - first) below))
]

pub fails_read : (l : Layout) (h : ℕ) (f : List Bytes) (first count : ℕ) (file piece : List ℕ) (x : ℕ) → IsFront l first count file piece → IsFirstWrong l.format h first count piece x → AreNodesOf l.format l h f first file → FailsAt l h (first + count) file (node_place l x)
fails_read l h f first count file piece x front is are = record {
  position = x;
  below = is.below;
  place_is = refl;
  wrong = node_test_same l.format (link_of h 0 x) (link_of h 1 x) file piece (node_place l x) (64 * (x - first)) (front_byte l first count file piece front x is.from is.below) ∙ is.wrong;
  before = λ y lt. elim (cases_lt y first) [
    | inl low ↦ (are y low).form
    | inr past ↦
        let e : first + (y - first) ≡ y = omega (arith, past) in
        node_test_same l.format (link_of h 0 y) (link_of h 1 y) file piece (node_place l y) (64 * (y - first)) (front_byte l first count file piece front y past (omega (arith, lt, is.below)))
        ∙ subst (λ (z : ℕ). is_node_of l.format h z piece (64 * (y - first)) ≡ true) e (is.before (y - first) (omega (arith, past, lt)))
  ];
}

pub fails_more : (l : Layout) (h n m : ℕ) (file : List ℕ) (place : ℕ) → n ≤ m → FailsAt l h n file place → FailsAt l h m file place
fails_more l h n m file place le is = record { position = is.position; below = omega (arith, is.below, le); place_is = is.place_is; wrong = is.wrong; before = is.before }

-- so it is the first reason
some_if : (b : Bool) (r : Reason) → b ≡ false → cond b None (Some r) ≡ Some r
some_if b r is = ap (λ (c : Bool). cond c None (Some r)) is

none_if : (b : Bool) (r : Reason) → b ≡ true → cond b None (Some r) ≡ None
none_if b r is = ap (λ (c : Bool). cond c None (Some r)) is

-- none before, and one here
one_here : (reason : ℕ → Option Reason) (n : ℕ) (r : Reason) → first_reason reason n ≡ None → reason n ≡ Some r → first_reason reason (suc n) ≡ Some r
unfolding first_reason
one_here reason n r none here = next_one (first_reason reason n) (reason n) r none here

pub fails_reason : (l : Layout) (h n : ℕ) (file : List ℕ) (place : ℕ) → FailsAt l h n file place → first_reason (node_reason l h file) n ≡ Some (Index place)
fails_reason l h n file place is =
    let none = none_of_each (node_reason l h file) is.position (λ x lt. none_if (is_node_of l.format h x file (node_place l x)) (Index (node_place l x)) (is.before x lt)) in
    let here : node_reason l h file is.position ≡ Some (Index place) = some_if (is_node_of l.format h is.position file (node_place l is.position)) (Index (node_place l is.position)) is.wrong ∙ ap (λ (p : ℕ). Some (Index p)) (sym is.place_is) in
    first_stays (node_reason l h file) n (suc is.position) (Index place) (omega (arith, is.below)) (one_here (node_reason l h file) is.position (Index place) none here)

-- Nodes taken from a piece.

pub taken_more : (m h : ℕ) (f g : List Bytes) (first k left right : ℕ) (fence : Bytes) (piece : List ℕ) → IsNode m left right fence piece (64 * k) → left ≡ link_of h 0 (first + k) → right ≡ link_of h 1 (first + k) → fence_at g (first + k) ≡ fence
    → ((x : ℕ) → (x ≡ first + k → ⊥) → fence_at g x ≡ fence_at f x) → ((j : ℕ) → j < k → IsNodeOf m h f (first + j) piece (64 * j)) → (j : ℕ) → j < k + 1 → IsNodeOf m h g (first + j) piece (64 * j)
taken_more m h f g first k left right fence piece is l r here others taken j lt = elim (cases_lt j k) [
  | inl before ↦ subst (λ (n : Bytes). IsNode m (link_of h 0 (first + j)) (link_of h 1 (first + j)) n piece (64 * j)) (sym (others (first + j) (λ e. omega (arith, e, before)))) (taken j before)
  | inr last ↦
      let e : j ≡ k = omega (arith, last, lt) in
      subst (λ (n : ℕ). IsNodeOf m h g (first + n) piece (64 * n)) (sym e)
      (subst (λ (a : ℕ). IsNode m a (link_of h 1 (first + k)) (fence_at g (first + k)) piece (64 * k)) l
      (subst (λ (b : ℕ). IsNode m left b (fence_at g (first + k)) piece (64 * k)) r
      (subst (λ (n : Bytes). IsNode m left right n piece (64 * k)) (sym here) is)))
]

pub first_wrong : (m h first count k left right : ℕ) (piece : List ℕ) → k < count → is_node m left right piece (64 * k) ≡ false → left ≡ link_of h 0 (first + k) → right ≡ link_of h 1 (first + k) → ((j : ℕ) → j < k → is_node_of m h (first + j) piece (64 * j) ≡ true) → IsFirstWrong m h first count piece (first + k)
first_wrong m h first count k left right piece lt wrong l r before = record {
  from = omega arith;
  below = omega (arith, lt);
  wrong =
      let e : first + k - first ≡ k = omega arith in
      ap (λ (n : ℕ). is_node_of m h (first + k) piece (64 * n)) e ∙ (λ i. is_node m (sym l i) (sym r i) piece (64 * k)) ∙ wrong;
  before = λ j below. before j (omega (arith, below));
}
