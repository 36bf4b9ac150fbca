-- What a commit of a batch and the replay of a journal may leave of a file.
use Rattle.std.specs.Prelude.{ℕ, ◌+◌, ◌-◌, ◌*◌, ◌<◌, ◌≤◌, ◌≡◌, ◌==◌, if◌then◌else◌, ◌⊎◌, List, [], ◌∷◌, length, true}
use Rattle.raw_slots.specs.Slots.{bytes_of}
use Rattle.station.specs.Bytes.{byte, InRange, Touched}
use Rattle.header_gate.specs.declared.layout.Layout.{Layout}
use Rattle.header_gate.specs.Header.{live_copy, IsGatePlace}
use Rattle.header_gate.specs.declared.layout.TheConstants.{PAIRED}
use Rattle.header_gate.specs.Places.{page_size, table_place, image_place, journal_shift, journal_end, region_place, area_place, file_length}
use Rattle.header_gate.specs.Recovered.{recovered, replayed_over, live_table, is_laid}
use Rattle.redo_journal.specs.declared.place.Place.{Place}

-- the image of a file stands at this place
pub record IsAt (place : Place) (image : List ℕ) : Type 0 where
  -- it has the length of the place's layout
  pub size : length image ≡ file_length place.layout
  -- its live copy is the place's region
  pub region_is : live_copy image ≡ place.region

-- a place of the journals: of their tables or of their images
abbrev pub IsJournalPlace : Layout → ℕ → Type 0
IsJournalPlace l p = (table_place ≤ p) × (p < journal_end l)

-- a place of journal 0 or 1
abbrev pub IsTurnPlace : Layout → ℕ → ℕ → Type 0
IsTurnPlace l turn p = (table_place + journal_shift l turn ≤ p) × (p < image_place l l.journal + journal_shift l turn)

-- the gate behind a commit: the other journal's number at version 4, and before 0 again
abbrev pub next_gate : Layout → ℕ → ℕ
next_gate l turn = if l.version == PAIRED then 1 - turn else 0

-- a place of one of these pages of the region that begins there
abbrev pub IsNamed : ℕ → List ℕ → ℕ → Type 0
IsNamed region [] p = ⊥
IsNamed region (n ∷ numbers) p = InRange (region + page_size * n) page_size p ⊎ IsNamed region numbers p

-- byte o of image i, where the images stand one after another
abbrev pub image_byte : List ℕ → ℕ → ℕ → ℕ
image_byte images i o = byte images (page_size * i + o)

-- byte o of frame i
abbrev pub frame_byte : List (List ℕ) → ℕ → ℕ → ℕ
frame_byte slots i o = image_byte (bytes_of slots) i o

-- A commit of a batch: it is in the recovered image wholly or not at all; a journal that is to be laid is that of the
-- batch, or has the table of one that was to be laid before; nothing changed but journals, gate and the batch's pages.
pub record Commits (l : Layout) (region : ℕ) (numbers : List ℕ) (image : ℕ → ℕ → ℕ) (old new : List ℕ) : Type 0 where
  -- the recovered image is that of before, or that with the whole batch replayed over the region
  pub whole : (recovered l new ≡ recovered l old) ⊎ (recovered l new ≡ replayed_over l region numbers image (recovered l old))
  -- a journal that is to be laid has the batch's table, or that of one that was to be laid before: behind an even gate of one
  -- journal an odd one has the batch's
  pub table : is_laid l new ≡ true → (live_table l new ≡ numbers) ⊎ ((is_laid l old ≡ true) × (live_table l new ≡ live_table l old))
  -- no byte differs but those of the journals, the gate and the batch's pages; the length stays
  pub touched : Touched (λ p. IsJournalPlace l p ⊎ (IsGatePlace p ⊎ IsNamed (region_place l region) numbers p)) old new

-- The live one of two journals becomes an empty one: the recovered image stays, and a journal that is to be laid is an empty
-- one of two, or has the table of one that was to be laid before; nothing changed but journals and gate.
pub record Clears (l : Layout) (old new : List ℕ) : Type 0 where
  pub same : recovered l new ≡ recovered l old
  pub table : is_laid l new ≡ true → ((l.version ≡ PAIRED) × (live_table l new ≡ [])) ⊎ ((is_laid l old ≡ true) × (live_table l new ≡ live_table l old))
  pub touched : Touched (λ p. IsJournalPlace l p ⊎ IsGatePlace p) old new

-- a place of the two regions
abbrev pub IsRegionPlace : Layout → ℕ → Type 0
IsRegionPlace l p = (journal_end l ≤ p) × (p < area_place l)

-- A replay of the journal: the recovered image stays, and so does each byte but the gate's and those of the pages
-- that the journal names, which lie in the regions. A journal that is still to be laid has the same table.
pub record Replays (l : Layout) (region : ℕ) (old new : List ℕ) : Type 0 where
  pub same : recovered l new ≡ recovered l old
  pub table : is_laid l new ≡ true → (is_laid l old ≡ true) × (live_table l new ≡ live_table l old)
  pub touched : Touched (λ p. IsGatePlace p ⊎ IsNamed (region_place l region) (live_table l old) p) old new
  pub inside : Touched (λ p. IsGatePlace p ⊎ IsRegionPlace l p) old new
