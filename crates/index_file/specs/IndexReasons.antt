-- What is wrong with the index in a file: the first of its tests that fails. They go over the bytes of the index alone.
use Rattle.std.specs.Prelude.{ℕ, ◌+◌, ◌-◌, ◌*◌, ◌^◌, ◌&&◌, nat_le, not, if◌then◌else◌, List, map, Option, Some, None}
use Rattle.std.specs.List.{range_with_len}
use Rattle.std.specs.Ordering.{is_lt}
use Rattle.density_rule.specs.Bounds.{is_in_bounds}
use Rattle.density_rule.specs.Windows.{count_in}
use Rattle.header_gate.specs.declared.layout.Layout.{Layout}
use Rattle.header_gate.specs.declared.reason.Reason.{Reason}
use Rattle.header_gate.specs.declared.reason.Reason.TheVariants.{Index}
use Rattle.header_gate.specs.Header.{number}
use Rattle.header_gate.specs.Reasons.{or_else}
use Rattle.key_slot.specs.Record.{Bytes, key_cmp}
use Rattle.map_model.specs.FileReasons.{first_reason}
use Rattle.veb_index.specs.Nodes.{fence_place}
use Rattle.index_file.specs.Seats.{link_of}
use Rattle.index_file.specs.Node.{fence_in, is_node}
use Rattle.index_file.specs.Area.{node_place, count_place}

-- the node at position x hasn't the form of one, or other links
abbrev pub node_reason : Layout → ℕ → List ℕ → ℕ → Option Reason
node_reason l h file x = if is_node l.format (link_of h 0 x) (link_of h 1 x) file (node_place l x) then None else Some (Index (node_place l x))

-- the fence that the file has for segment i, from 1 on
abbrev pub fence_read : Layout → ℕ → List ℕ → ℕ → Bytes
fence_read l h file i = fence_in file (node_place l (fence_place h i))

-- the fence of segment i isn't above that of the segment before it
abbrev pub order_reason : Layout → ℕ → (ℕ → Bytes) → ℕ → Option Reason
order_reason l h fence i = if nat_le 2 i && not (is_lt (key_cmp (fence (i - 1)) (fence i))) then Some (Index (node_place l (fence_place h i))) else None

-- the counts that the file has
abbrev pub counts_read : Layout → ℕ → List ℕ → List ℕ
counts_read l h file = map (λ i. number file (count_place l i)) (range_with_len 0 (2 ^ h))

-- window (j, i) is outside its bounds
abbrev pub window_reason : Layout → ℕ → List ℕ → ℕ → ℕ → Option Reason
window_reason l h counts j i = if is_in_bounds h j (count_in counts j i) then None else Some (Index (count_place l (i * 2 ^ j)))

-- the first window of height j that is. Those of height 0 are the segments
abbrev pub row_reason : Layout → ℕ → List ℕ → ℕ → Option Reason
row_reason l h counts j = first_reason (window_reason l h counts j) (2 ^ (h - j))

-- the first node that is wrong, by form and links, or by the order of its fence
abbrev pub fences_reason : Layout → ℕ → List ℕ → Option Reason
fences_reason l h file = or_else (first_reason (node_reason l h file) (2 ^ h - 1)) (first_reason (order_reason l h (fence_read l h file)) (2 ^ h))

-- the first window that is outside its bounds, lowest height first
abbrev pub windows_reason : Layout → ℕ → List ℕ → Option Reason
windows_reason l h file = first_reason (row_reason l h (counts_read l h file)) (h + 1)

-- the first thing that is wrong with the index of a store of height h: form and links of the nodes by their places, then
-- the order of the fences, and then the windows, lowest height first
unfoldable pub area_reason : Layout → ℕ → List ℕ → Option Reason
area_reason l h file = or_else (fences_reason l h file) (windows_reason l h file)
