-- The index in the file at worked values: a store of 65 records in two segments, of at most four.
use Rattle.std.proofs.Common.{◌≡◌, ℕ, List, [], ◌∷◌, ◌++◌, replicate, true, false, Some, None, map, refl}
use Rattle.std.specs.List.{range_with_len}
use Rattle.header_gate.specs.Places.{journal_shift}
use Rattle.header_gate.specs.declared.layout.Layout.{Layout}
use Rattle.header_gate.specs.declared.reason.Reason.TheVariants.{Index}
use Rattle.map_model.specs.FileReasons.{first_reason}
use Rattle.veb_layout.specs.Layout.{position_of}
use Rattle.index_file.specs.declared.seats.Seat.{Seat}
use Rattle.index_file.specs.Seats.{seat_of, link_of}
use Rattle.index_file.specs.Node.{fence_in, has_form, is_node}
use Rattle.index_file.specs.Area.{node_place, count_place}
use Rattle.index_file.specs.IndexReasons.{row_reason}

abbrev layout : Layout
layout = record { hmax = 2; journal = 4; version = 3; format = 1 }

-- the index stands behind region 1
node_0 : node_place layout 0 ≡ 57344
unfolding journal_shift
node_0 = refl

count_0 : count_place layout 0 ≡ 57600
unfolding journal_shift
count_0 = refl

-- node 0 with the fence k033 between segments 0 and 1, and some bytes before and behind it
abbrev node : List ℕ
node = 7 ∷ 4 ∷ 0 ∷ 0 ∷ 0 ∷ 0 ∷ 0 ∷ 0 ∷ 0 ∷ 107 ∷ 48 ∷ 51 ∷ 51 ∷ (replicate 36 0 ++ (0 ∷ 0 ∷ 0 ∷ 128 ∷ 1 ∷ 0 ∷ 0 ∷ 128 ∷ (replicate 8 0 ++ (9 ∷ []))))

left_of_0 : link_of 1 0 0 ≡ 2147483648
unfolding seat_of position_of
left_of_0 = refl

right_of_0 : link_of 1 1 0 ≡ 2147483649
unfolding seat_of position_of
right_of_0 = refl

is_node_0 : is_node 1 2147483648 2147483649 node 1 ≡ true
unfolding is_node has_form
is_node_0 = refl

fence_of_0 : fence_in node 1 ≡ 107 ∷ 48 ∷ 51 ∷ 51 ∷ []
fence_of_0 = refl

-- sides swapped
other_links : is_node 1 2147483649 2147483648 node 1 ≡ false
unfolding is_node has_form
other_links = refl

-- a fence of 25 bytes, too long for a key of slot format 1, and not of format 2
abbrev long : List ℕ
long = 25 ∷ 0 ∷ 0 ∷ 0 ∷ 0 ∷ 0 ∷ 0 ∷ 0 ∷ (replicate 25 120 ++ (replicate 15 0 ++ (0 ∷ 0 ∷ 0 ∷ 128 ∷ 1 ∷ 0 ∷ 0 ∷ 128 ∷ replicate 8 0)))

long_in_format_1 : is_node 1 2147483648 2147483649 long 0 ≡ false
unfolding is_node has_form
long_in_format_1 = refl

long_in_format_2 : is_node 2 2147483648 2147483649 long 0 ≡ true
unfolding is_node has_form
long_in_format_2 = refl

-- the counts are within their bounds, and so is the root
segments : row_reason layout 1 (32 ∷ 33 ∷ []) 0 ≡ None
unfolding first_reason
segments = refl

root : row_reason layout 1 (32 ∷ 33 ∷ []) 1 ≡ None
unfolding first_reason
root = refl

-- the second segment has too few records, or the root too many
few : row_reason layout 1 (32 ∷ 3 ∷ []) 0 ≡ Some (Index 57604)
unfolding first_reason journal_shift
few = refl

many : row_reason layout 1 (63 ∷ 64 ∷ []) 1 ≡ Some (Index 57600)
unfolding first_reason journal_shift
many = refl

-- the nodes of three levels by their positions, and the links of the root and of a lowest node
seat : ℕ → ℕ → Seat
seat d p = record { depth = d; number = p }

seats_of_three_levels : map (seat_of 3) (range_with_len 0 7) ≡ seat 0 0 ∷ seat 1 0 ∷ seat 2 0 ∷ seat 2 1 ∷ seat 1 1 ∷ seat 2 2 ∷ seat 2 3 ∷ []
unfolding seat seat_of
seats_of_three_levels = refl

links_of_root : link_of 3 0 0 ∷ link_of 3 1 0 ∷ [] ≡ 1 ∷ 4 ∷ []
unfolding seat_of position_of
links_of_root = refl

links_of_node_5 : link_of 3 0 5 ∷ link_of 3 1 5 ∷ [] ≡ 2147483652 ∷ 2147483653 ∷ []
unfolding seat_of position_of
links_of_node_5 = refl
