-- Which files are opened by their index, and what is read then.
use Rattle.std.specs.Prelude.{◌≡◌, ◌⊎◌, ◌+◌, ℕ, ◌<◌, ◌≤◌, ◌==◌, ◌≢◌, nat_le, ◌&&◌, ◌||◌, not, Bool, List, None}
use Rattle.station.specs.View.{View, Told, EachHeld, NothingPending, Rose, after_read}
use Rattle.station.specs.declared.travel.Travel.{Travel}
use Rattle.density_rule.specs.Marks.{no_marks}
use Rattle.header_gate.specs.declared.header.Header.{Header}
use Rattle.header_gate.specs.declared.layout.Layout.{Layout}
use Rattle.header_gate.specs.declared.layout.TheConstants.{INDEXED, PAIRED}
use Rattle.header_gate.specs.declared.reason.Reason.{Reason}
use Rattle.header_gate.specs.declared.reason.Reason.TheVariants.{Index}
use Rattle.header_gate.specs.Header.{gate, intent_gate, clean_gate, layout_in}
use Rattle.header_gate.specs.Places.{IsLayout, height_limit, file_length, page_size}
use Rattle.header_gate.specs.Reasons.{header_reason, IsSoundHeader, IsHeader}
use Rattle.map_model.specs.Image.{height_of}
use Rattle.index_file.specs.Clean.{version_of}
use Rattle.index_file.specs.IndexReading.{IsAreaFront, NamesPlace, after_area, area_calls}
use Rattle.recovery.specs.StoreParts.{Fits, AgreesWith}
use Rattle.recovery.specs.declared.fault.OpenFault.{OpenFault}
use Rattle.recovery.specs.declared.fault.OpenFault.TheVariants.{Memory, NotStore, Failed}
use Rattle.recovery.specs.declared.parts.Parts.{Parts}
use Rattle.redo_journal.specs.Rest.{RestsAt}

-- nothing is wrong with the header, and of the three gates of a file that has an index the clean one alone is odd; with two
-- journals the journal's gate may be either, since it names the live one
pub record IsQuick (image : List ℕ) : Type 0 where
  pub sound : header_reason image ≡ None
  pub indexed : INDEXED ≤ version_of image
  pub gate_even : version_of image ≢ PAIRED → gate image ≡ 0
  pub intent_even : intent_gate image ≡ 0
  pub clean_odd : clean_gate image ≡ 1

-- a fault of a quick opening: a place of the index, the disk's, or want of memory
abbrev pub IsQuickFault : OpenFault → Type 0
IsQuickFault (NotStore (Index place)) = Unit {0}
IsQuickFault Failed = Unit {0}
IsQuickFault Memory = Unit {0}
IsQuickFault _ = ⊥

-- the travel after a quick opening of a file of this layout and height: the header page, the nodes and the counts were read,
-- each from its start to its end, and no other byte
abbrev pub after_quick : Layout → ℕ → Travel → Travel
after_quick l h t = after_area l h (after_read 0 page_size t)

-- the travel where the file is opened by its region: the header page was read, or nothing of a file without one
abbrev pub IsPageRead : Travel → Travel → Type 0
IsPageRead before now = (now ≡ before) ⊎ (now ≡ after_read 0 page_size before)

-- a layout and a height that a file may have, and that the bytes name where they are told
abbrev pub IsFileOf : Layout → ℕ → View → Type 0
IsFileOf l h a = IsLayout l × (h ≤ height_limit l) × (Told a → (layout_in a.held ≡ l) × (height_of a.held ≡ h))

-- the travel where it wasn't opened: besides, a front of nodes and counts was read
abbrev pub IsQuickFront : View → Travel → Type 0
IsQuickFront a now = IsPageRead a.travel now ⊎ ((l : Layout) × (h : ℕ) × IsFileOf l h a × IsAreaFront l h (after_read 0 page_size a.travel) now)

-- the place of the index that is named is one that was read behind the header page, of a file with that layout and height
abbrev pub NamesRead : View → ℕ → Travel → Type 0
NamesRead a place now = (l : Layout) × (h : ℕ) × IsFileOf l h a × NamesPlace l h place (after_read 0 page_size a.travel) now

-- of the header of a file that may be opened so: the file has an index, and of the gates the clean one alone is odd, but that
-- the journal's may be either where there are two
abbrev pub is_quick : Header → Bool
is_quick header = nat_le INDEXED header.layout.version && (header.clean && (((header.layout.version == PAIRED) || not header.gate) && not header.intent))

-- the header of a file that is to be opened, where nothing is pending
pub record IsKnown (header : Header) (a : View) : Type 0 where
  pub layout : IsLayout header.layout
  pub live : header.live < 2
  pub height : header.height ≤ height_limit header.layout
  pub reach : file_length header.layout ≤ a.fixed.reach
  pub nothing : NothingPending a
  pub sound : Told a → IsSoundHeader a.held
  pub header_is : Told a → IsHeader header a.held

-- Parts of a store that was opened by its index: they agree with the file, which is at rest, no window is rested, no intent
-- waits, and of the index each byte was read once.
pub record IsOpenedQuickly (parts : Parts) (a b : View) : Type 0 where
  pub agrees : EachHeld (AgreesWith parts.place parts.tally parts.index) b
  pub fits : Fits parts.place parts.tally parts.index parts.frames.journal
  pub room : parts.index.hmax ≡ height_limit parts.place.layout
  pub reach : file_length parts.place.layout ≤ a.fixed.reach
  pub indexed : INDEXED ≤ parts.place.layout.version
  pub unrested : parts.tally.marks ≡ no_marks parts.tally.height
  pub no_intent : parts.intent ≡ None
  pub rests : RestsAt parts.place.layout parts.frames.turn b
  pub travel : b.travel ≡ after_area parts.place.layout parts.tally.height a.travel
  pub calls : b.calls ≤ a.calls + area_calls parts.tally.height

-- Why a store was not opened by the index in its file.
pub record StopsQuick (fault : OpenFault) (a b : View) : Type 0 where
  -- a place of the index is wrong, the disk failed, or memory was wanting
  pub causes : IsQuickFault fault
  -- no place is wrong if the station tells its bytes
  pub told : (r : Reason) → fault ≡ NotStore r → ¬ Told a
  -- `Failed` comes only if the count of disk faults rose
  pub failed : fault ≡ Failed → Rose a.disk_faults b.disk_faults
