-- The index in the file: behind the regions stand a node for each segment of a region, and then a count for each. Of a
-- store of height h the first 2^h - 1 nodes and the first 2^h counts are used; what stands behind them is ignored.
use Rattle.std.specs.Prelude.{◌≡◌, ℕ, ◌+◌, ◌*◌, ◌^◌, ◌<◌, List, get_or}
use Rattle.header_gate.specs.declared.layout.Layout.{Layout}
use Rattle.header_gate.specs.Header.{number}
use Rattle.header_gate.specs.Places.{area_place}
use Rattle.key_slot.specs.Record.{Bytes}
use Rattle.veb_layout.specs.Layout.{position_of}
use Rattle.veb_layout.specs.Links.{link_to}
use Rattle.veb_index.specs.Nodes.{middle}
use Rattle.index_file.specs.declared.sizes.TheConstants.{NODE_SIZE, COUNT_SIZE}
use Rattle.index_file.specs.Node.{IsNode}

-- the node at position x of an index
abbrev pub node_place : Layout → ℕ → ℕ
node_place l x = area_place l + NODE_SIZE * x

-- the count of segment i
abbrev pub count_place : Layout → ℕ → ℕ
count_place l i = area_place l + NODE_SIZE * 2 ^ l.hmax + COUNT_SIZE * i

-- the file has the nodes of an index over 2^h segments with these fences
abbrev pub HasNodes : Layout → ℕ → (ℕ → Bytes) → List ℕ → Type 0
HasNodes l h fence file = (d p : ℕ) → d < h → p < 2 ^ d → IsNode l.format (link_to h (d + 1) (2 * p)) (link_to h (d + 1) (2 * p + 1)) (fence (middle h d p)) file (node_place l (position_of h d p))

-- the file has these counts of 2^h segments
abbrev pub HasCounts : Layout → ℕ → List ℕ → List ℕ → Type 0
HasCounts l h counts file = (i : ℕ) → i < 2 ^ h → number file (count_place l i) ≡ get_or counts i 0

-- the file has the nodes of an index over 2^h segments with these fences, and these counts
pub record HasArea (l : Layout) (h : ℕ) (fence : ℕ → Bytes) (counts : List ℕ) (file : List ℕ) : Type 0 where
  pub nodes : HasNodes l h fence file
  pub counts_are : HasCounts l h counts file
