-- A file whose journal lies in place: what is read of its regions is what its recovered image has there.
use Rattle.std.specs.Prelude.{◌≡◌, ℕ, ◌+◌, ◌*◌, ◌^◌, ◌<◌, List, [], length, get_or, true, false}
use Rattle.station.specs.Bytes.{byte}
use Rattle.header_gate.specs.declared.layout.Layout.{Layout}
use Rattle.header_gate.specs.declared.layout.TheConstants.{PAIRED}
use Rattle.header_gate.specs.Header.{live_copy}
use Rattle.header_gate.specs.Places.{page_size, image_place, region_place}
use Rattle.header_gate.specs.Recovered.{is_journal, recovered_byte, live_shift, live_table, is_laid, IsTableOf}

-- the table of the gate's journal is one, and the pages of the live region that it names hold its images
pub record IsInPlace (l : Layout) (file : List ℕ) : Type 0 where
  -- the live journal's table has at most as many numbers as the journal has pages; they ascend, and each is a page of a region
  pub table : IsTableOf l.journal (2 ^ l.hmax) (live_table l file)
  -- each page that it names, in the live region, has the bytes of its image
  pub pages : (j o : ℕ) → j < length (live_table l file) → o < page_size →
      byte file (region_place l (live_copy file) + page_size * get_or (live_table l file) j 0 + o) ≡ byte file (image_place l j + live_shift l file + o)

-- if a journal is to be laid it lies in place; so no byte outside gate and journals differs from the recovered image
abbrev pub IsDone : Layout → List ℕ → Type 0
IsDone l file = is_laid l file ≡ true → IsInPlace l file

-- outside gate and journals the file is its recovered image
abbrev pub IsRecovered : Layout → List ℕ → Type 0
IsRecovered l file = (p : ℕ) → is_journal l p ≡ false → recovered_byte l file p ≡ byte file p

-- no page is to be replayed over the live region, whatever is written there: the gate is even, or the live one of two journals
-- is empty
abbrev pub IsBare : Layout → List ℕ → Type 0
IsBare l file = is_laid l file ≡ true → (l.version ≡ PAIRED) × (live_table l file ≡ [])
