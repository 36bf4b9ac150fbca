-- The index in the file: its places, and what is written there piece by piece.
use Rattle.std.proofs.Common.{◌≡◌, ℕ, ◌+◌, ◌-◌, ◌*◌, ◌/◌, ◌^◌, ◌<◌, ◌≤◌, List, [], length, take, get_or, Some, refl, sym, ap, subst, ◌∙◌, arith, inl, inr}
use Rattle.std.specs.Option.{unwrap_or}
use Rattle.std.specs.Prelude.{Option}
use Rattle.std.proofs.lemmas.Bool.{cases_lt, lt-ltb, le-leb}
use Rattle.std.proofs.lemmas.Bool.Decides.{nat_tests}
use Rattle.std.proofs.lemmas.List.{get_or-take, length-take-le}
use Rattle.std.proofs.lemmas.Nat.{pow_pos, pow-add, mul-add-lt}
use Rattle.std.proofs.Math.Pow.{pow_mono}
use Rattle.station.specs.Bytes.{byte, InRange, Touched, Written}
use Rattle.key_slot.specs.Format.{wide, key_room}
use Rattle.key_slot.specs.Record.{Bytes}
use Rattle.header_gate.proofs.Shifts.{shift_size}
use Rattle.header_gate.specs.declared.layout.Layout.{Layout}
use Rattle.header_gate.specs.Header.{number}
use Rattle.header_gate.specs.Places.{IsLayout, area_place, area_size, file_length}
use Rattle.header_gate.proofs.NumberLaws.{number_same}
use Rattle.map_model.specs.Array.{Array}
use Rattle.veb_layout.specs.Layout.{position_of}
use Rattle.veb_layout.specs.Links.{link_to}
use Rattle.veb_layout.proofs.Places.{position_of-within}
use Rattle.veb_index.specs.Nodes.{middle, fence_place}
use Rattle.veb_index.specs.IndexView.{IndexView, fence_at, fence_of}
use Rattle.veb_index.specs.Arrays.{first_key, IsIndexOf}
use Rattle.veb_index.proofs.Middles.{fence_place-middle}
use Rattle.index_file.specs.Seats.{link_of}
use Rattle.index_file.specs.Node.{IsNode}
use Rattle.index_file.specs.Area.{node_place, count_place, HasNodes}
use Rattle.index_file.specs.Clean.{fence_of_segment}
use Rattle.index_file.specs.Writing.{IsNodeOf, AreNodesOf, AreCountsOf}
use Rattle.index_file.proofs.NodeLaws.{node_same, node_of_format}
use Rattle.index_file.proofs.SeatLaws.{link_of-position}

-- Places.

pub area_room : (l : Layout) → 3 ≤ l.version → 68 * 2 ^ l.hmax ≤ area_size l
unfolding area_size
area_room l is = let e : area_size l ≡ (68 * 2 ^ l.hmax + 4095) / 4096 * 4096 = grind (arith, nat_tests, is) in omega (arith, e)

pub nodes_within : (l : Layout) (h first count : ℕ) → 3 ≤ l.version → h ≤ l.hmax → first + count ≤ 2 ^ h - 1 → node_place l first + 64 * count ≤ file_length l
nodes_within l h first count is low fits = let more : 2 ^ h ≤ 2 ^ l.hmax = pow_mono low in omega (arith, area_room l is, more, fits)

pub counts_within : (l : Layout) (h first count : ℕ) → 3 ≤ l.version → h ≤ l.hmax → first + count ≤ 2 ^ h → count_place l first + 4 * count ≤ file_length l
counts_within l h first count is low fits = let more : 2 ^ h ≤ 2 ^ l.hmax = pow_mono low in omega (arith, area_room l is, more, fits)

-- each place of the index is a number of 32 bits
pub place_small : (l : Layout) (n : ℕ) → IsLayout l → n < 2 ^ 31 → area_place l + n < 2 ^ 32
place_small l n is small =
    let pages : 2 ^ l.hmax ≤ 2 ^ 16 = pow_mono is.hmax in
    let most : l.journal ≤ 65536 = omega (arith, is.most, pages) in
    omega (arith, pages, most, small, shift_size l 1)

pub node_before_counts : (l : Layout) (h x : ℕ) → h ≤ l.hmax → x < 2 ^ h - 1 → node_place l x + 64 ≤ count_place l 0
node_before_counts l h x low lt = let more : 2 ^ h ≤ 2 ^ l.hmax = pow_mono low in omega (arith, more, lt)

pub counts_behind : (l : Layout) (k : ℕ) → count_place l 0 ≤ k → area_place l ≤ k
counts_behind l k le = omega (arith, le)

-- Pieces.

pub nodes_more : (l : Layout) (h : ℕ) (fences : List Bytes) (first count : ℕ) (bytes old new : List ℕ) → Written (node_place l first) bytes old new → length bytes ≡ 64 * count
    → ((k : ℕ) → k < count → IsNodeOf wide h fences (first + k) bytes (64 * k)) → AreNodesOf wide l h fences first old → AreNodesOf wide l h fences (first + count) new
nodes_more l h fences first count bytes old new written size filled are x lt = elim (cases_lt x first) [
  | inl before ↦ node_same wide _ _ _ new old (node_place l x) (node_place l x) (omega arith) (λ k small. written.rest (node_place l x + k) (λ r. omega (arith, r.0, before, small))) (are x before)
  | inr past ↦
      let k = x - first in
      let e : first + (x - first) ≡ x = omega (arith, past) in
      let below : x - first < count = omega (arith, past, lt) in
      node_same wide _ _ _ new bytes (node_place l x) (64 * (x - first)) (omega arith) (λ o small.
      ap (byte new) {x = node_place l x + o} {y = node_place l first + (64 * (x - first) + o)} (omega (arith, past)) ∙ written.inside (64 * (x - first) + o) (omega (arith, size, below, small)))
      (subst (λ (y : ℕ). IsNodeOf wide h fences y bytes (64 * (x - first))) e (filled (x - first) below))
]

pub counts_more : (l : Layout) (counts : List ℕ) (first count : ℕ) (bytes old new : List ℕ) → Written (count_place l first) bytes old new → length bytes ≡ 4 * count
    → ((k : ℕ) → k < count → number bytes (4 * k) ≡ get_or counts (first + k) 0) → AreCountsOf l counts first old → AreCountsOf l counts (first + count) new
counts_more l counts first count bytes old new written size filled are i lt = elim (cases_lt i first) [
  | inl before ↦ number_same new old (count_place l i) (count_place l i) (λ n x y small ex ey. let e : x ≡ y = omega (arith, ex, ey) in written.rest x (λ r. omega (arith, r.0, ex, before, small)) ∙ ap (byte old) e) ∙ are i before
  | inr past ↦
      let e : first + (i - first) ≡ i = omega (arith, past) in
      let below : i - first < count = omega (arith, past, lt) in
      number_same new bytes (count_place l i) (4 * (i - first)) (λ n x y small ex ey.
      ap (byte new) {x = x} {y = count_place l first + y} (omega (arith, past, ex, ey)) ∙ written.inside y (omega (arith, size, below, small, ey)))
      ∙ filled (i - first) below
      ∙ ap (λ (j : ℕ). get_or counts j 0) e
]

-- The whole.

-- a middle is a segment of the store, from 1 on
pub middle_within : (h d p : ℕ) → d < h → p < 2 ^ d → (1 ≤ middle h d p) × (middle h d p < 2 ^ h)
middle_within h d p depth number =
    let k = h - d - 1 in
    let levels : h - d - 1 + (d + 1) ≡ h = omega (arith, depth) in
    let power : 2 ^ (h - d - 1) * 2 ^ (d + 1) ≡ 2 ^ h = sym (pow-add 2 (h - d - 1) (d + 1)) ∙ ap (λ (n : ℕ). 2 ^ n) levels in
    let odd : 2 * p + 1 < 2 ^ (d + 1) = omega (arith, pow-add 2 d 1, number) in
    let below : (2 * p + 1) * 2 ^ (h - d - 1) + 0 < 2 ^ (h - d - 1) * 2 ^ (d + 1) = mul-add-lt (2 * p + 1) (2 ^ (h - d - 1)) 0 (2 ^ (d + 1)) odd (pow_pos (h - d - 1)) in
    let some : 2 ^ (h - d - 1) ≤ (2 * p + 1) * 2 ^ (h - d - 1) = omega arith in
    (omega (arith, some, pow_pos (h - d - 1)), omega (arith, below, power))

some_of : (o : Option Bytes) (x : Bytes) → Some x ≡ o → x ≡ unwrap_or o []
some_of o x e = ap (λ (o : Option Bytes). unwrap_or o []) e

-- the fence of a node is the first key of its middle
pub fence_is_first : (index : IndexView) (segments : Array) (d p : ℕ) → IsIndexOf index segments → d < index.height → p < 2 ^ d → fence_at index.fences (position_of index.height d p) ≡ fence_of_segment segments (middle index.height d p)
fence_is_first index segments d p is depth number =
    let h = index.height in
    let i = middle h d p in
    let within = middle_within h d p depth number in
    let inside : fence_of index i ≡ Some (fence_at index.fences (fence_place h i)) = rw (le-leb 1 i within.0, lt-ltb i (2 ^ h) within.1) refl in
    let here : Some (fence_at index.fences (position_of h d p)) ≡ first_key segments i = ap (λ (x : ℕ). Some (fence_at index.fences x)) (sym (fence_place-middle h d p depth)) ∙ sym inside ∙ is.fences i within.0 within.1 in
    some_of (first_key segments i) (fence_at index.fences (position_of h d p)) here

pub has_nodes : (l : Layout) (index : IndexView) (segments : Array) (file : List ℕ) → IsIndexOf index segments → ((i : ℕ) → length (fence_of_segment segments i) ≤ key_room l.format)
    → AreNodesOf wide l index.height index.fences (2 ^ index.height - 1) file → HasNodes l index.height (fence_of_segment segments) file
has_nodes l index segments file is fits are d p depth number =
    let h = index.height in
    let x = position_of h d p in
    let node = are (position_of h d p) (position_of-within h d p depth number) in
    let left : link_of h 0 (position_of h d p) ≡ link_to h (d + 1) (2 * p) = link_of-position h d p 0 depth number ∙ ap (link_to h (d + 1)) {x = 2 * p + 0} {y = 2 * p} (omega arith) in
    let right : link_of h 1 (position_of h d p) ≡ link_to h (d + 1) (2 * p + 1) = link_of-position h d p 1 depth number in
    let fence = fence_is_first index segments d p is depth number in
    node_of_format l.format _ _ _ file (node_place l (position_of h d p))
    (subst (λ (a : ℕ). IsNode wide a (link_to h (d + 1) (2 * p + 1)) (fence_of_segment segments (middle h d p)) file (node_place l (position_of h d p))) left
    (subst (λ (b : ℕ). IsNode wide (link_of h 0 (position_of h d p)) b (fence_of_segment segments (middle h d p)) file (node_place l (position_of h d p))) right
    (subst (λ (f : Bytes). IsNode wide (link_of h 0 (position_of h d p)) (link_of h 1 (position_of h d p)) f file (node_place l (position_of h d p))) fence node)))
    (fits (middle h d p))

-- nodes that stay while the counts are written
pub nodes_stay : (l : Layout) (h : ℕ) (fences : List Bytes) (old new : List ℕ) → h ≤ l.hmax → ((k : ℕ) → (count_place l 0 ≤ k → ⊥) → byte new k ≡ byte old k) → AreNodesOf wide l h fences (2 ^ h - 1) old → AreNodesOf wide l h fences (2 ^ h - 1) new
nodes_stay l h fences old new low same are x lt = node_same wide _ _ _ new old (node_place l x) (node_place l x) (omega arith) (λ k small. same (node_place l x + k) (λ there. omega (arith, there, small, node_before_counts l h x low lt))) (are x lt)

-- A piece in memory.

-- the front of a piece that is written
pub front_size : (n : ℕ) (piece : List ℕ) → length piece ≡ 4096 → n ≤ 4096 → length (take n piece) ≡ n
front_size n piece size le = length-take-le n piece (omega (arith, size, le))

pub front_nodes : (h : ℕ) (fences : List Bytes) (first count : ℕ) (piece : List ℕ) → ((k : ℕ) → k < count → IsNodeOf wide h fences (first + k) piece (64 * k)) → (k : ℕ) → k < count → IsNodeOf wide h fences (first + k) (take (64 * count) piece) (64 * k)
front_nodes h fences first count piece filled k lt = node_same wide _ _ _ (take (64 * count) piece) piece (64 * k) (64 * k) (omega arith) (λ o small. get_or-take (64 * count) piece (64 * k + o) 0 (omega (arith, lt, small))) (filled k lt)

pub front_counts : (counts : List ℕ) (first count : ℕ) (piece : List ℕ) → ((k : ℕ) → k < count → number piece (4 * k) ≡ get_or counts (first + k) 0) → (k : ℕ) → k < count → number (take (4 * count) piece) (4 * k) ≡ get_or counts (first + k) 0
front_counts counts first count piece filled k lt = number_same (take (4 * count) piece) piece (4 * k) (4 * k) (λ n x y small ex ey. let e : x ≡ y = omega (arith, ex, ey) in get_or-take (4 * count) piece x 0 (omega (arith, lt, small, ex)) ∙ ap (byte piece) e) ∙ filled k lt

pub filled_more : (h : ℕ) (fences : List Bytes) (first k left right : ℕ) (fence : Bytes) (node old new : List ℕ) → length node ≡ 64 → Written (64 * k) node old new → IsNode wide left right fence node 0
    → left ≡ link_of h 0 (first + k) → right ≡ link_of h 1 (first + k) → fence ≡ fence_at fences (first + k)
    → ((j : ℕ) → j < k → IsNodeOf wide h fences (first + j) old (64 * j)) → (j : ℕ) → j < k + 1 → IsNodeOf wide h fences (first + j) new (64 * j)
filled_more h fences first k left right fence node old new size written is l r f filled j lt = elim (cases_lt j k) [
  | inl before ↦ node_same wide _ _ _ new old (64 * j) (64 * j) (omega arith) (λ o small. written.rest (64 * j + o) (λ i. omega (arith, i.0, before, small))) (filled j before)
  | inr last ↦
      let e : j ≡ k = omega (arith, last, lt) in
      let own : IsNodeOf wide h fences (first + k) node 0 =
      subst (λ (a : ℕ). IsNode wide a (link_of h 1 (first + k)) (fence_at fences (first + k)) node 0) l
      (subst (λ (b : ℕ). IsNode wide left b (fence_at fences (first + k)) node 0) r
      (subst (λ (g : Bytes). IsNode wide left right g node 0) f is)) in
      let here : IsNodeOf wide h fences (first + k) new (64 * k) = node_same wide _ _ _ new node (64 * k) 0 (omega arith) (λ o small. written.inside o (omega (arith, size, small)) ∙ ap (byte node) {x = o} {y = 0 + o} (omega arith)) own in
      subst (λ (n : ℕ). IsNodeOf wide h fences (first + n) new (64 * n)) (sym e) here
]

pub counted_more : (counts : List ℕ) (first k v : ℕ) (old new : List ℕ) → number new (4 * k) ≡ v → v ≡ get_or counts (first + k) 0 → Touched (InRange (4 * k) 4) old new
    → ((j : ℕ) → j < k → number old (4 * j) ≡ get_or counts (first + j) 0) → (j : ℕ) → j < k + 1 → number new (4 * j) ≡ get_or counts (first + j) 0
counted_more counts first k v old new here v_is touched filled j lt = elim (cases_lt j k) [
  | inl before ↦ number_same new old (4 * j) (4 * j) (λ n x y small ex ey. let e : x ≡ y = omega (arith, ex, ey) in touched.rest x (λ i. omega (arith, i.0, ex, before, small)) ∙ ap (byte old) e) ∙ filled j before
  | inr last ↦
      let e : j ≡ k = omega (arith, last, lt) in
      ap (λ (n : ℕ). number new (4 * n)) e ∙ here ∙ v_is ∙ ap (λ (n : ℕ). get_or counts (first + n) 0) (sym e)
]
