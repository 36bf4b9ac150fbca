-- The index in the file while it is written.
use Rattle.std.specs.Prelude.{◌≡◌, ℕ, ◌<◌, List, get_or}
use Rattle.key_slot.specs.Record.{Bytes}
use Rattle.header_gate.specs.declared.layout.Layout.{Layout}
use Rattle.header_gate.specs.Header.{number}
use Rattle.veb_index.specs.IndexView.{fence_at}
use Rattle.index_file.specs.Seats.{link_of}
use Rattle.index_file.specs.Node.{IsNode}
use Rattle.index_file.specs.Area.{node_place, count_place}

-- the node at position x of an index of h levels, with a fence of slot format f, stands at the place
abbrev pub IsNodeOf : ℕ → ℕ → List Bytes → ℕ → List ℕ → ℕ → Type 0
IsNodeOf f h fences x file place = IsNode f (link_of h 0 x) (link_of h 1 x) (fence_at fences x) file place

-- the nodes at the first n positions are written
abbrev pub AreNodesOf : ℕ → Layout → ℕ → List Bytes → ℕ → List ℕ → Type 0
AreNodesOf f l h fences n file = (x : ℕ) → x < n → IsNodeOf f h fences x file (node_place l x)

-- the counts of the first n segments are written
abbrev pub AreCountsOf : Layout → List ℕ → ℕ → List ℕ → Type 0
AreCountsOf l counts n file = (i : ℕ) → i < n → number file (count_place l i) ≡ get_or counts i 0
