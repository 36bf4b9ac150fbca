-- Clean images. A store may be opened by the index in its file if the clean gate is odd, and whatever a crash leaves
-- has then to be clean.
use Rattle.std.specs.Prelude.{◌≡◌, ◌⊎◌, ◌≤◌, ℕ, List, [], None}
use Rattle.std.specs.Option.{unwrap_or}
use Rattle.station.specs.Bytes.{Touched}
use Rattle.station.specs.View.{View, Told, Honest, NothingPending}
use Rattle.station.specs.Steps.{LeavesOnly}
use Rattle.header_gate.specs.InPlace.{IsBare}
use Rattle.header_gate.specs.declared.gate.Gate.TheVariants.{Clean}
use Rattle.header_gate.specs.declared.layout.Layout.{Layout}
use Rattle.header_gate.specs.declared.layout.TheConstants.{INDEXED, LATEST_VERSION}
use Rattle.header_gate.specs.Header.{intent_gate, clean_gate, layout_in, IsPlaceOf}
use Rattle.header_gate.specs.Places.{area_place}
use Rattle.header_gate.specs.Reasons.{header_reason}
use Rattle.key_slot.specs.Record.{Bytes}
use Rattle.map_model.specs.Array.{Array, counts_of}
use Rattle.map_model.specs.Holding.{IsBalancedArray}
use Rattle.map_model.specs.Image.{Represents, array_of, height_of, map_of}
use Rattle.veb_index.specs.Arrays.{first_key}
use Rattle.index_file.specs.Area.{HasArea}

-- the version that the identity names
abbrev pub version_of : List ℕ → ℕ
version_of image = (layout_in image).version

-- a version whose files have an index, among those that are read
abbrev pub IsIndexed : ℕ → Type 0
IsIndexed version = (INDEXED ≤ version) × (version ≤ LATEST_VERSION)

-- the first key of segment i, or nothing if it is empty
abbrev pub fence_of_segment : Array → ℕ → Bytes
fence_of_segment segments i = unwrap_or (first_key segments i) []

-- the image has an index, and may be opened by it: it is a valid file over which no page is to be laid, with its intent's gate
-- even and every window within its bounds, and the index is that of its array
pub record IsLeft (image : List ℕ) : Type 0 where
  pub represents : Represents image (map_of image) (height_of image)
  pub bare : IsBare (layout_in image) image
  pub intent_even : intent_gate image ≡ 0
  pub balanced : IsBalancedArray (height_of image) (array_of image)
  pub area : HasArea (layout_in image) (height_of image) (fence_of_segment (array_of image)) (counts_of (array_of image)) image

-- an image of an earlier version, without an index, is clean, and so is one whose clean gate is even; any other has to have
-- been left
abbrev pub IsClean : List ℕ → Type 0
IsClean image = IsIndexed (version_of image) → clean_gate image ≡ 1 → IsLeft image

-- the place of the clean gate
abbrev pub IsCleanPlace : ℕ → Type 0
IsCleanPlace i = IsPlaceOf Clean i

-- the places of the index
abbrev pub IsAreaPlace : Layout → ℕ → Type 0
IsAreaPlace l i = area_place l ≤ i

-- what the leaving of an index may make of an image: a clean one, with other bytes in the index and in the clean gate alone
pub record Leaves (l : Layout) (old new : List ℕ) : Type 0 where
  pub touched : Touched (λ i. IsCleanPlace i ⊎ IsAreaPlace l i) old new
  pub clean : IsClean new

-- the image has an index that may be taken for that of its array: nothing is wrong with its header, and its clean gate is odd
pub record IsOpenIndex (image : List ℕ) : Type 0 where
  pub sound : header_reason image ≡ None
  pub indexed : INDEXED ≤ version_of image
  pub odd : clean_gate image ≡ 1

-- the index of the image means nothing
abbrev pub IsShut : List ℕ → Type 0
IsShut image = IsIndexed (version_of image) → clean_gate image ≡ 0

-- A run that begins on a clean file leaves a clean one: what each word that opens a file promises.
pub record KeepsClean (a b : View) : Type 0 where
  -- clean bytes that are held stay clean, if the station tells them
  pub held : Told a → IsClean a.held → IsClean b.held
  -- whatever a crash leaves at any moment is clean, if the bytes at entry are and nothing is pending then
  pub moments : NothingPending a → (Honest a → IsClean a.held) → LeavesOnly (λ image said. IsClean image) a b
