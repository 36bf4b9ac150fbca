-- How many blocks of memory a list of places touches, and a bound on that for the paths of the van Emde Boas layout:
-- the number of block transfers in the ideal-cache model of Frigo, Leiserson, Prokop and Ramachandran (Cache-oblivious
-- algorithms, FOCS 1999), and the bound of Prokop (Cache-oblivious algorithms, MIT 1999) with its constant.
use Rattle.std.specs.Prelude.{ℕ, zero, suc, ◌+◌, ◌*◌, ◌/◌, nat_le, nat_eq, if◌then◌else◌, List, map}
use Rattle.std.specs.Int.{div_ceil}
use Rattle.std.specs.Set.{distinct_count}

-- the number of the block that a place lies in, where blocks have that many places and place 0 is place `align` of its own
abbrev pub block_of : ℕ → ℕ → ℕ → ℕ
block_of block align place = (align + place) / block

-- how many blocks the places touch
unfoldable pub blocks_touched : List ℕ → ℕ → ℕ → ℕ
blocks_touched places block align = distinct_count nat_eq (map (block_of block align) places)

-- how often a number can be halved before it is 1 or less, tried at most that many times
abbrev pub halvings : ℕ → ℕ → ℕ
halvings zero n = 0
halvings (suc tries) n = let more = halvings tries (n / 2) in if nat_le n 1 then 0 else suc more

-- the logarithm to base 2 of a number from 1 on, rounded down: the greatest e with 2^e at most n
unfoldable pub floor_log2 : ℕ → ℕ
floor_log2 n = halvings n n

-- the levels of the highest full tree that has its place in one block
abbrev pub levels_in : ℕ → ℕ
levels_in block = floor_log2 (block + 1)

-- the bound for a path of h nodes: four blocks for each group of that many levels, of which the last may be short
unfoldable pub block_bound : ℕ → ℕ → ℕ
block_bound h block = 4 * div_ceil h (levels_in block)
