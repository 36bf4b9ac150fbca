-- What the closing of an index changes of a file, what keeps one closed, and the outcome of the leaving of one.
use Rattle.std.specs.Prelude.{◌≡◌, ◌⊎◌, ℕ, ◌+◌, ◌*◌, ◌^◌, ◌≤◌, nat_le, if◌then◌else◌, List}
use Rattle.station.specs.Bytes.{Touched}
use Rattle.station.specs.Steps.{Steps, LeavesOnly}
use Rattle.station.specs.View.{View, Told, EachHeld, NothingPending, Rose}
use Rattle.header_gate.specs.Header.{clean_gate}
use Rattle.header_gate.specs.declared.layout.Layout.{Layout}
use Rattle.header_gate.specs.declared.layout.TheConstants.{INDEXED}
use Rattle.recovery.specs.Restores.{LeavesFile}
use Rattle.index_file.specs.Clean.{IsClean, IsCleanPlace, IsLeft, IsOpenIndex, IsShut, Leaves}
use Rattle.index_file.specs.IndexReading.{area_calls}
use Rattle.pma_store.specs.UpdateCalls.{clear_calls}
use Rattle.pma_store.specs.Readying.{clear_cost}
use Rattle.pma_store.specs.StoreView.{StoreView}
use Rattle.pma_engine.specs.declared.status.TheConstants.{DONE, DISK_FAULT}

-- The new image is the old one, but that the clean gate may have been closed: both come of a file, and without an open index of
-- that file no byte differs.
pub record IsButClosed (file old new : List ℕ) : Type 0 where
  pub touched : Touched IsCleanPlace old new
  pub kept : (IsOpenIndex file → ⊥) → new ≡ old

-- nothing was written but the clean gate, and that only where the file's index was open
pub record WritesGate (file : List ℕ) (before after : ℕ) : Type 0 where
  pub none : (IsOpenIndex file → ⊥) → after ≡ before
  pub most : after ≤ before + 1

-- at every moment no byte but the clean gate is touched, and that only where the file's index is open
pub record ClosesAtMost (a b : View) : Type 0 where
  pub steps : Steps (Touched IsCleanPlace) a b
  pub kept : Told a → (IsOpenIndex a.held → ⊥) → LeavesFile a b
  pub most : b.travel.written ≤ a.travel.written + 1

-- No byte but the clean gate is changed before that gate is even, whether the file was clean or not, and whatever is pending.
pub record ClosesFirst (a b : View) : Type 0 where
  -- the bytes held at the return are those at the entry but for the clean gate, or clean, if the station tells them
  pub held : Told a → Touched IsCleanPlace a.held b.held ⊎ IsClean b.held
  -- and whatever a crash leaves at any moment is clean, or an image that one might have left at the entry but for the clean gate
  pub moments : LeavesOnly (λ image said. (start : List ℕ) × a.may_leave start × (Touched IsCleanPlace start image ⊎ IsClean image)) a b

-- an index that means nothing means nothing at every moment, and after it
pub record StaysShut (a b : View) : Type 0 where
  pub after : EachHeld IsShut a → EachHeld IsShut b
  pub moments : EachHeld IsShut a → LeavesOnly (λ image said. IsShut image) a b

-- at most that many bytes are written by the closing of an index: files from version 3 on have one
unfoldable pub closing_cost : Layout → ℕ
closing_cost l = if nat_le INDEXED l.version then 1 else 0

-- and by the leaving of one of this height
unfoldable pub leaving_cost : Layout → ℕ → ℕ
leaving_cost l height = if nat_le INDEXED l.version then 68 * 2 ^ height + 1 else 0

-- the calls of the leaving: those of nodes and counts, and three
unfoldable pub leaving_calls : Layout → ℕ → ℕ
leaving_calls l height = if nat_le INDEXED l.version then area_calls height + 3 else 0

-- and by the end of a run that answered its whole script, in a store of this height: before version 4 by the leaving alone
abbrev pub ending_cost : Layout → ℕ → ℕ
ending_cost l height = clear_cost l + leaving_cost l height

-- with the calls
abbrev pub ending_calls : Layout → ℕ → ℕ
ending_calls l height = clear_calls l + leaving_calls l height

-- The index of an open store was left in its file, or its file has none.
pub record LeavesIndex (status : ℕ) (s : StoreView) (a b : View) : Type 0 where
  pub status_is : (status ≡ DONE) ⊎ (status ≡ DISK_FAULT)
  pub steps : Steps (Leaves s.place.layout) a b
  pub left : status ≡ DONE → Told a → INDEXED ≤ s.place.layout.version → IsLeft b.held × (clean_gate b.held ≡ 1)
  pub settled : status ≡ DONE → NothingPending b
  pub cost : b.travel.written ≤ a.travel.written + leaving_cost s.place.layout s.tally.height
  pub unread : b.travel.read ≡ a.travel.read
  pub calls : b.calls ≤ a.calls + leaving_calls s.place.layout s.tally.height
  pub disk : status ≡ DISK_FAULT → Rose a.disk_faults b.disk_faults
