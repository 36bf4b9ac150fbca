-- A node of an index, as the file has it: 64 bytes. The size of its fence, seven zeros, the fence, zeros up to its links,
-- the left link and the right one, and eight zeros. Its fence is a key of the file's slot format.
use Rattle.std.specs.Prelude.{◌≡◌, ℕ, zero, suc, ◌+◌, ◌-◌, ◌==◌, ◌&&◌, nat_le, Bool, true, List, map}
use Rattle.std.specs.List.{range_with_len}
use Rattle.station.specs.Bytes.{byte}
use Rattle.header_gate.specs.Header.{number}
use Rattle.key_slot.specs.Record.{Bytes}
use Rattle.key_slot.specs.Format.{key_room}
use Rattle.index_file.specs.declared.sizes.TheConstants.{FENCE_AT, LINKS_AT}

-- that many bytes of a file from a place on; past its end they are zero
abbrev pub bytes_at : List ℕ → ℕ → ℕ → List ℕ
bytes_at file place n = map (λ i. byte file (place + i)) (range_with_len 0 n)

-- whether n bytes from a place on are zero
abbrev pub is_zero : List ℕ → ℕ → ℕ → Bool
is_zero file place zero = true
is_zero file place (suc n) = is_zero file place n && (byte file (place + n) == 0)

-- the fence that a node at the place has
abbrev pub fence_in : List ℕ → ℕ → Bytes
fence_in file place = bytes_at file (place + FENCE_AT) (byte file place)

-- whether what stands at the place has the form of a node of a file of slot format f, whatever its links
unfoldable pub has_form : ℕ → List ℕ → ℕ → Bool
has_form f file place =
    let size = byte file place in
    (nat_le 1 size && nat_le size (key_room f))
    && (is_zero file (place + 1) (FENCE_AT - 1)
    && (is_zero file (place + (FENCE_AT + size)) (LINKS_AT - FENCE_AT - size) && is_zero file (place + (LINKS_AT + 8)) 8))

-- whether a node with these links stands there
unfoldable pub is_node : ℕ → ℕ → ℕ → List ℕ → ℕ → Bool
is_node f left right file place = has_form f file place && ((number file (place + LINKS_AT) == left) && (number file (place + (LINKS_AT + 4)) == right))

-- a node with this fence and these links stands at the place
pub record IsNode (f left right : ℕ) (fence : Bytes) (file : List ℕ) (place : ℕ) : Type 0 where
  pub form : is_node f left right file place ≡ true
  pub fence_is : fence_in file place ≡ fence
