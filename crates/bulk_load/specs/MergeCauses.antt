-- Why a merge text isn't merged.
use Rattle.resize_region.specs.Source.{Walks}
use Rattle.redo_journal.specs.declared.place.Place.{Place}
use Rattle.station.specs.declared.travel.Travel.{Travel}
use Rattle.std.specs.Prelude.{◌≡◌, ◌⊎◌, ℕ, ◌+◌, ◌^◌, ◌<◌, Bool, true, List, length, take, ◌≤◌}
use Rattle.std.specs.FinMap.{entries}
use Rattle.station.specs.View.{View}
use Rattle.line_source.specs.Lines.{raw_lines}
use Rattle.line_source.specs.Progress.{IsCutShort}
use Rattle.line_source.specs.LineReaderView.{ReaderView, rest}
use Rattle.line_source.specs.SourceView.{SourceView, SourceTold, SourceRose}
use Rattle.map_model.specs.Image.{map_of}
use Rattle.map_model.specs.Store.{Map, Update}
use Rattle.range_scan.specs.SegmentFaults.{IsDamageAt}
use Rattle.redo_journal.specs.Frames.{Batch}
use Rattle.segment.specs.declared.fault.StoreFault.TheVariants as store
use Rattle.window_tally.specs.TallyView.{TallyView}
use Rattle.bulk_load.specs.declared.fault.LoadFault.{LoadFault}
use Rattle.bulk_load.specs.declared.fault.LoadFault.TheVariants.{NotEmpty, Line, Full, Disk, Damaged, Script, Spent}
use Rattle.bulk_load.specs.MergeText.{BeginsMerge, IsFirstUnmerged, IsMergeUnfinished, binds_in, edits_in}
use Rattle.bulk_load.specs.MergeLines.{merging, reads, IsUnmergedLine, IsOverfull}
use Rattle.bulk_load.specs.Spreading.{ShowsPacked}

-- the complete lines among the bytes that were taken make no refusal due beside the records of a map
pub record IsMergeCut (format most : ℕ) (m : Map) (r0 : ReaderView) (s0 s : SourceView) : Type 0 where
  pub given : List (List ℕ)
  pub cut : IsCutShort (rest r0 s0) s.left given
  pub edits : List Update
  pub ended : Bool
  pub reading : merging format most (entries m) given ≡ reads edits ended

-- besides, all bytes were taken that may be
pub record IsMergeSpent (format most : ℕ) (m : Map) (r0 : ReaderView) (s0 s : SourceView) : Type 0 where
  pub read : IsMergeCut format most m r0 s0 s
  pub all : length s0.left ≡ length s.left + r0.room

-- Why a merge text isn't merged with the records of a map, if the source tells its bytes, and the station (`tells`) those of its
-- file, which has this map. `Full` comes only if what results has too many records: up to the key of some line, or in all.
-- `Script` comes only if a read failed, and `Spent` only if all bytes were taken that may be; and either only if the complete
-- lines among the bytes that were taken aren't at fault.
abbrev pub IsUpdatingFault : ℕ → ℕ → Bool → Map → ReaderView → SourceView → SourceView → LoadFault → Type 0
IsUpdatingFault format most tells m r0 s0 s (Line n) = SourceTold s0 → tells ≡ true →
    IsUnmergedLine format most (entries m) (raw_lines (rest r0 s0)) n
IsUpdatingFault format most tells m r0 s0 s (Full n) = (n ≡ most) × (SourceTold s0 → tells ≡ true →
    IsOverfull format most m (raw_lines (rest r0 s0)))
IsUpdatingFault format most tells m r0 s0 s Disk = Unit {0}
IsUpdatingFault format most tells m r0 s0 s (Damaged segment why) = tells ≡ true → ⊥
IsUpdatingFault format most tells m r0 s0 s Script = SourceRose s0 s × (SourceTold s0 → tells ≡ true →
    IsMergeCut format most m r0 s0 s)
IsUpdatingFault format most tells m r0 s0 s Spent = SourceTold s0 → tells ≡ true → IsMergeSpent format most m r0 s0 s
IsUpdatingFault format most tells m r0 s0 s (NotEmpty n) = ⊥

-- the complete lines among the bytes that were taken begin some merge text
pub record IsTextCut (format : ℕ) (r0 : ReaderView) (s0 s : SourceView) : Type 0 where
  pub given : List (List ℕ)
  pub cut : IsCutShort (rest r0 s0) s.left given
  pub begins : BeginsMerge format given

-- this line is the first that no merge text can have there, or the one behind the last if the lines end before the one with
-- the number of updates
abbrev pub IsLineRefused : ℕ → List (List ℕ) → ℕ → Type 0
IsLineRefused format lines n = IsFirstUnmerged format lines n ⊎ (IsMergeUnfinished format lines × (n ≡ length lines + 1))

-- some merge text begins with the first n lines, and more records than that many may result of them and of those that are kept:
-- these and the updates that bind a key are more
pub record IsTextOver (format most kept : ℕ) (lines : List (List ℕ)) : Type 0 where
  pub n : ℕ
  pub there : n ≤ length lines
  pub begins : BeginsMerge format (take n lines)
  pub many : most < kept + binds_in (edits_in format (take n lines))

-- Why a merge text isn't merged, by the text and the number of records that are kept, whatever the
-- station tells.
abbrev pub IsTextFault : ℕ → ℕ → ℕ → ReaderView → SourceView → SourceView → LoadFault → Type 0
IsTextFault format most kept r0 s0 s (Full n) = SourceTold s0 → IsTextOver format most kept (raw_lines (rest r0 s0))
IsTextFault format most kept r0 s0 s (Line n) = SourceTold s0 → IsLineRefused format (raw_lines (rest r0 s0)) n
IsTextFault format most kept r0 s0 s Script = SourceTold s0 → IsTextCut format r0 s0 s
IsTextFault format most kept r0 s0 s Spent = SourceTold s0 → IsTextCut format r0 s0 s × (length s0.left ≡ length s.left + r0.room)
IsTextFault format most kept r0 s0 s fault = Unit {0}

-- with those of the map of a station's file
abbrev pub IsMergeFault : ℕ → ℕ → View → ReaderView → SourceView → SourceView → LoadFault → Type 0
IsMergeFault format most a r0 s0 s fault = IsUpdatingFault format most a.fixed.tells_held (map_of a.held) r0 s0 s fault

-- on any station, a segment of the live region that is found damaged is the last one that was read, straight on from the first
abbrev pub IsLastSeen : Place → TallyView → Batch → Travel → Travel → LoadFault → Type 0
IsLastSeen place t b x y (Damaged segment why) = ((i : ℕ) × (i < 2 ^ t.height) × Walks place 0 (i + 1) x y
    × IsDamageAt i t.counts (store.Damaged segment why))
    ⊎ ((n : ℕ) × ShowsPacked place.layout.format n b (store.Damaged segment why))
IsLastSeen place t b x y fault = Unit {0}

-- on any station, a segment that is found damaged is one of the live region, by the counts that are kept, or a packed one, as a
-- frame shows it
abbrev pub IsMergeDamage : ℕ → TallyView → Batch → LoadFault → Type 0
IsMergeDamage format t b (Damaged segment why) = ((i : ℕ) × (i < 2 ^ t.height)
    × IsDamageAt i t.counts (store.Damaged segment why))
    ⊎ ((n : ℕ) × ShowsPacked format n b (store.Damaged segment why))
IsMergeDamage format t b fault = Unit {0}
