-- The fences of a window that was spread, as they are set from what is read.
use Rattle.std.specs.Prelude.{◌≡◌, ◌⊎◌, ℕ, ◌+◌, ◌^◌, ◌<◌, ◌≤◌, List, length, All, Option, Result, OnOk, IsSome}
use Rattle.station.specs.Bytes.{Same}
use Rattle.station.specs.View.{View, Told, EachHeld}
use Rattle.station.specs.Steps.{Steps}
use Rattle.key_slot.specs.Record.{Bytes}
use Rattle.header_gate.specs.Places.{height_limit}
use Rattle.map_model.specs.Array.{segment_at}
use Rattle.map_model.specs.Image.{array_of}
use Rattle.redo_journal.specs.declared.place.Place.{Place}
use Rattle.redo_journal.specs.Frames.{Batch}
use Rattle.segment.specs.declared.fault.StoreFault.{StoreFault}
use Rattle.segment.specs.Rows.{key_at}
use Rattle.redistribute.specs.MoveCalls.{IsPlaceOn}
use Rattle.redistribute.specs.SpreadWindows.{HasWindow}

-- a window whose segments have these counts, none of them 0, in an index with that many segments
pub record IsFencing (place : Place) (first : ℕ) (counts : List ℕ) (segments : ℕ) (frames : Batch) (v : View) : Type 0 where
  pub on : IsPlaceOn place frames v
  pub inside : first + length counts ≤ 2 ^ height_limit place.layout
  pub filled : All (λ count. 0 < count) counts
  pub fences : first + length counts ≤ segments
  pub window : EachHeld (HasWindow place first counts) v

-- the fences of that many segments from `low` on were set to their first keys, but that of segment 0, and no other
pub record SetsFences {T : Type 0} (result : Result T StoreFault) (low count : ℕ) (f g : ℕ → Option Bytes) (a : View) : Type 0 where
  pub set : OnOk result ((i : ℕ) → i < count → 0 < low + i → IsSome (g (low + i)))
  pub agree : OnOk result (Told a → (i : ℕ) → i < count → 0 < low + i → g (low + i) ≡ key_at (segment_at (array_of a.held) (low + i)) 0)
  pub others : (i : ℕ) → (i < low) ⊎ (low + count ≤ i) → g i ≡ f i

-- at most that many bytes were read into frames, whose room stays, in at most that many pieces, each by one call; none was written or
-- changed
pub record ReadsOnly (most pieces : ℕ) (f g : Batch) (a b : View) : Type 0 where
  pub steps : Steps Same a b
  pub unwritten : b.travel.written ≡ a.travel.written
  pub reads : b.travel.read ≤ a.travel.read + most
  pub calls : b.calls ≤ a.calls + pieces
  pub journal : g.journal ≡ f.journal
  pub turn : g.turn ≡ f.turn
