-- The index in the file while it is read.
use Rattle.std.specs.Prelude.{◌≡◌, ◌⊎◌, ℕ, ◌+◌, ◌-◌, ◌*◌, ◌^◌, ◌<◌, ◌≤◌, ◌==◌, if◌then◌else◌, List, Bool, Result, OnOk, IsErrOf, true, false}
use Rattle.station.specs.Bytes.{Same}
use Rattle.station.specs.View.{View, Rose, after_read}
use Rattle.station.specs.Steps.{Steps}
use Rattle.station.specs.declared.travel.Travel.{Travel}
use Rattle.index_file.specs.Seats.{link_of}
use Rattle.index_file.specs.Node.{is_node}
use Rattle.index_file.specs.Area.{node_place, count_place}
use Rattle.index_file.specs.declared.fault.AreaFault.{AreaFault}
use Rattle.index_file.specs.declared.fault.AreaFault.TheVariants.{Failed}
use Rattle.index_file.specs.declared.sizes.TheConstants.{NODE_SIZE, COUNT_SIZE}
use Rattle.header_gate.specs.declared.layout.Layout.{Layout}
use Rattle.header_gate.specs.declared.layout.TheConstants.{INDEXED}
use Rattle.header_gate.specs.Places.{IsLayout, file_length}
use Rattle.density_rule.specs.Marks.{no_marks}
use Rattle.veb_index.specs.IndexView.{IndexView}
use Rattle.window_tally.specs.TallyView.{TallyView, IsTally}
use Rattle.segment_frames.specs.SegmentParts.{parts}

-- whether the node of position x of an index of h levels stands at the place, whatever its fence
abbrev pub is_node_of : ℕ → ℕ → ℕ → List ℕ → ℕ → Bool
is_node_of f h x file place = is_node f (link_of h 0 x) (link_of h 1 x) file place

-- a file with an index of this layout, as far as whose end the station reaches
pub record HasIndex (l : Layout) (v : View) : Type 0 where
  pub layout : IsLayout l
  pub indexed : INDEXED ≤ l.version
  pub reach : file_length l ≤ v.fixed.reach

-- a tally whose counts are to be read, in a file of this layout
pub record IsUncounted (l : Layout) (t : TallyView) : Type 0 where
  pub is_tally : IsTally t
  pub low : t.height ≤ l.hmax
  pub unrested : t.marks ≡ no_marks t.height

-- it has other counts then, and is else as it was
pub record TakesCounts (t u : TallyView) : Type 0 where
  pub kept : u ≡ record t { counts = u.counts }
  pub is_tally : IsTally u

-- an index whose nodes are to be read: it has this height, in a file of this layout
pub record IsUnread (l : Layout) (h : ℕ) (index : IndexView) : Type 0 where
  pub height : h ≡ index.height
  pub low : h ≤ l.hmax

-- it has other fences then, and is else as it was
pub record TakesFences (t u : IndexView) : Type 0 where
  pub hmax : u.hmax ≡ t.hmax
  pub height : u.height ≡ t.height

-- Nodes and counts are read and written in pieces, each by one call: those of an index of h levels, and both.
abbrev pub node_calls : ℕ → ℕ
node_calls h = parts 64 (2 ^ h - 1)

abbrev pub count_calls : ℕ → ℕ
count_calls h = parts 1024 (2 ^ h)

abbrev pub area_calls : ℕ → ℕ
area_calls h = node_calls h + count_calls h

-- the travel after one read of that many bytes, or none if there are none
abbrev pub after_part : ℕ → ℕ → Travel → Travel
after_part place n t = if n == 0 then t else after_read place n t

-- the travel after the reads of the nodes of an index of h levels, and of its counts
abbrev pub after_nodes : Layout → ℕ → Travel → Travel
after_nodes l h t = after_part (node_place l 0) (NODE_SIZE * (2 ^ h - 1)) t

abbrev pub after_counts : Layout → ℕ → Travel → Travel
after_counts l h t = after_part (count_place l 0) (COUNT_SIZE * 2 ^ h) t

-- the travel after the reads of both
abbrev pub after_area : Layout → ℕ → Travel → Travel
after_area l h t = after_counts l h (after_nodes l h t)

-- of the `size` bytes from `place` on the first were read, some, all or none
pub record IsFrontRead (place size : ℕ) (before now : Travel) : Type 0 where
  pub bytes : ℕ
  pub most : bytes ≤ size
  pub now_is : now ≡ after_part place bytes before

-- a front of the nodes was read, or all of them and a front of the counts
abbrev pub IsAreaFront : Layout → ℕ → Travel → Travel → Type 0
IsAreaFront l h before now = IsFrontRead (node_place l 0) (NODE_SIZE * (2 ^ h - 1)) before now ⊎ IsFrontRead (count_place l 0) (COUNT_SIZE * 2 ^ h) (after_nodes l h before) now

-- Of `all` things the first were read, piece by piece, and number x of these is named: it lies in the piece that was read last,
-- or all were read.
pub record IsAmong (piece all read x : ℕ) : Type 0 where
  pub below : x < read
  pub most : read ≤ all
  pub last : (read ≤ x + piece) ⊎ (read ≡ all)

-- the place is that of a node that was read, of an index of h levels
pub record NamesNode (l : Layout) (h place : ℕ) (before now : Travel) : Type 0 where
  pub position : ℕ
  pub read : ℕ
  pub place_is : place ≡ node_place l position
  pub among : IsAmong 64 (2 ^ h - 1) read position
  pub travel : now ≡ after_part (node_place l 0) (NODE_SIZE * read) before

-- the place is that of a count that was read
pub record NamesCount (l : Layout) (h place : ℕ) (before now : Travel) : Type 0 where
  pub segment : ℕ
  pub read : ℕ
  pub place_is : place ≡ count_place l segment
  pub among : IsAmong 1024 (2 ^ h) read segment
  pub travel : now ≡ after_part (count_place l 0) (COUNT_SIZE * read) before

-- in the order of the tests: the place is that of a node, and no count was read, or that of a count, behind all nodes
abbrev pub NamesPlace : Layout → ℕ → ℕ → Travel → Travel → Type 0
NamesPlace l h place before now = NamesNode l h place before now ⊎ NamesCount l h place (after_nodes l h before) now

-- the counts of an index of h levels were read, or a front of them: the file is as it was
pub record ReadsCounts {T : Type 0} (l : Layout) (h : ℕ) (result : Result T AreaFault) (a b : View) : Type 0 where
  -- no byte changed
  pub steps : Steps Same a b
  -- after an Ok all of them
  pub travel : OnOk result (b.travel ≡ after_counts l h a.travel)
  -- none of them twice, and no other byte
  pub front : IsFrontRead (count_place l 0) (COUNT_SIZE * 2 ^ h) a.travel b.travel
  -- piece by piece
  pub calls : b.calls ≤ a.calls + count_calls h
  -- a fault of the disk
  pub failed : IsErrOf result Failed → Rose a.disk_faults b.disk_faults

-- the same of its nodes
pub record ReadsNodes {T : Type 0} (l : Layout) (h : ℕ) (result : Result T AreaFault) (a b : View) : Type 0 where
  -- no byte changed
  pub steps : Steps Same a b
  -- after an Ok all of them were read
  pub travel : OnOk result (b.travel ≡ after_nodes l h a.travel)
  -- piece by piece
  pub calls : b.calls ≤ a.calls + node_calls h
  -- a fault of the disk
  pub failed : IsErrOf result Failed → Rose a.disk_faults b.disk_faults

-- of that many nodes in a piece, from the one of position first on, that of position x is the first that isn't there
pub record IsFirstWrong (f h first count : ℕ) (piece : List ℕ) (x : ℕ) : Type 0 where
  pub from : first ≤ x
  pub below : x < first + count
  pub wrong : is_node_of f h x piece (NODE_SIZE * (x - first)) ≡ false
  pub before : (i : ℕ) → first + i < x → is_node_of f h (first + i) piece (NODE_SIZE * i) ≡ true

-- the place is that of the first of n nodes that isn't there
pub record FailsAt (l : Layout) (h n : ℕ) (file : List ℕ) (place : ℕ) : Type 0 where
  pub position : ℕ
  pub below : position < n
  pub place_is : place ≡ node_place l position
  pub wrong : is_node_of l.format h position file (node_place l position) ≡ false
  pub before : (x : ℕ) → x < position → is_node_of l.format h x file (node_place l x) ≡ true
