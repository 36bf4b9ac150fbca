-- What was read of a text, and what of it is packed.
use Rattle.std.specs.Prelude.{◌≡◌, ◌⊎◌, ℕ, ◌+◌, ◌-◌, ◌*◌, ◌^◌, ◌<◌, ◌≤◌, length, List, [], ◌∷◌, ◌++◌, T, Option, Some, None, Result, Ok, Err, OnOk, IfErr, IsErrOf}
use Rattle.station.specs.View as station
use Rattle.station.specs.Steps.{Steps}
use Rattle.header_gate.specs.declared.layout.Layout.{Layout}
use Rattle.header_gate.specs.Places.{height_limit, segment_size}
use Rattle.key_slot.specs.declared.sizes.TheConstants.{SEGMENT_SLOTS}
use Rattle.key_slot.specs.Record.{Record, is_record}
use Rattle.key_slot.specs.Row.{record_of}
use Rattle.map_model.specs.Regions.{Spares}
use Rattle.line_source.specs.SourceView.{SourceView, SourceTold, SourceRose, Went}
use Rattle.line_source.specs.LineReaderView.{ReaderView}
use Rattle.line_source.specs.Progress.{HasGiven, GivesAll}
use Rattle.line_source.specs.declared.reader.LineStep.TheVariants as step
use Rattle.command_text.specs.Load.{load_line_raw}
use Rattle.command_text.specs.declared.load.LoadLine.{LoadLine}
use Rattle.command_text.specs.declared.load.LoadLine.TheVariants as load
use Rattle.redo_journal.specs.declared.place.Place.{Place}
use Rattle.redo_journal.specs.Frames.{Batch}
use Rattle.bulk_load.specs.declared.fault.LoadFault.{LoadFault}
use Rattle.bulk_load.specs.declared.fault.LoadFault.TheVariants.{NotEmpty, Line, Full, Disk, Damaged, Script, Spent}
use Rattle.bulk_load.specs.declared.packing.Taken.{Taken}
use Rattle.bulk_load.specs.LoadFaults.{IsLineFault}
use Rattle.bulk_load.specs.LoadLines.{TakesAtMost, after_line, reads}
use Rattle.bulk_load.specs.Loads.{most_records, TextFor}
use Rattle.bulk_load.specs.Packing.{IsTaken, HasPlace, HasPacked, WritesRuns, room_in}

-- one line more was given, and it is this
pub record GivesEntry (format : ℕ) (r0 : ReaderView) (s0 : SourceView) (given : List (List ℕ)) (line : LoadLine) (r : ReaderView) (s : SourceView) : Type 0 where
  pub raw : List ℕ
  pub line_is : SourceTold s0 → line ≡ load_line_raw format raw
  pub more : HasGiven r0 s0 (given ++ raw ∷ []) r s

-- what the answer to the question for the next line says of all lines since r0 and s0
abbrev pub IsNextEntry : ℕ → Result (Option LoadLine) LoadFault → ReaderView → SourceView → List (List ℕ) → ReaderView → SourceView → Type 0
IsNextEntry format (Ok (Some line)) r0 s0 given r s = GivesEntry format r0 s0 given line r s
IsNextEntry format (Ok None) r0 s0 given r s = SourceTold s0 → GivesAll step.End r0 s0 given s
IsNextEntry format (Err Script) r0 s0 given r s = (SourceTold s0 → GivesAll step.ReadFailed r0 s0 given s) × SourceRose s0 s
IsNextEntry format (Err Spent) r0 s0 given r s = SourceTold s0 → GivesAll step.Spent r0 s0 given s
IsNextEntry format (Err (NotEmpty n)) r0 s0 given r s = ⊥
IsNextEntry format (Err (Line n)) r0 s0 given r s = ⊥
IsNextEntry format (Err (Full n)) r0 s0 given r s = ⊥
IsNextEntry format (Err Disk) r0 s0 given r s = ⊥
IsNextEntry format (Err (Damaged segment why)) r0 s0 given r s = ⊥

-- the record of a line fits a slot of the format
abbrev pub FitsLine : ℕ → LoadLine → Type 0
FitsLine format (load.Row row) = T (is_record format (record_of row))
FitsLine format load.Nothing = Unit {0}
FitsLine format (load.End n) = Unit {0}
FitsLine format load.Bad = Unit {0}

-- some records were taken, no more than a store may hold, and the next one has a place
pub record IsTaking (l : Layout) (t : Taken) (b : Batch) : Type 0 where
  pub rows : List Record
  pub taken : IsTaken l t b rows
  pub place : HasPlace l t
  pub few : t.records ≤ most_records l

-- the line of this number was taken: what comes of it, and that its record is packed
pub record TakesLine (place : Place) (number : ℕ) (rows : List Record) (line : LoadLine) (old : Taken) (a : station.View) (new : Taken) (b : Batch) (z : station.View) : Type 0 where
  pub now : List Record
  pub after : after_line (most_records place.layout) number rows old.ended line ≡ reads now new.ended
  pub taken : IsTaken place.layout new b now
  pub packed : station.Told a → HasPacked place rows old.written a.held → HasPacked place now new.written z.held

-- The outcome of the taking of the line of this number, whatever was answered.
pub record TakesOn {X : Type 0} (place : Place) (number : ℕ) (line : LoadLine) (result : Result X LoadFault) (old new : Taken) (f g : Batch) (a b : station.View) : Type 0 where
  pub takes : OnOk result ((rows : List Record) → IsTaken place.layout old f rows → TakesLine place number rows line old a new g b)
  pub taking : OnOk result (IsTaking place.layout new g)
  pub faulty : IfErr result (λ fault. (rows : List Record) → IsTaken place.layout old f rows →
      IsLineFault (most_records place.layout) (after_line (most_records place.layout) number rows old.ended line) fault)
  pub onward : OnOk result (old.written ≤ new.written)
  pub journal : g.journal ≡ f.journal
  pub turn : g.turn ≡ f.turn
  pub steps : Steps (Spares place.layout place.region) a b
  pub cost : OnOk result (b.travel.written ≤ a.travel.written + segment_size place.layout * (new.written - old.written))
  pub calls : OnOk result (WritesRuns (room_in place.layout) old.written new.written a.calls b.calls)
  -- and whatever was answered
  pub most_cost : b.travel.written ≤ a.travel.written + segment_size place.layout * (2 ^ height_limit place.layout - old.written)
  pub most_calls : (b.calls ≤ a.calls) ⊎ ((b.calls ≤ a.calls + 1) × (SEGMENT_SLOTS * (old.written + room_in place.layout) ≤ most_records place.layout))
  pub failed : IsErrOf result Disk → station.Rose a.disk_faults b.disk_faults

-- All lines were read and come to these records. Those that aren't written yet are in the frames.
pub record IsRead (place : Place) (r0 : ReaderView) (s0 : SourceView) (rows : List Record) (t : Taken) (b : Batch) (z : station.View) : Type 0 where
  pub text : TextFor place.layout r0 s0 rows
  pub taken : IsTaken place.layout t b rows
  pub few : length rows ≤ most_records place.layout
  pub behind : SEGMENT_SLOTS * t.written ≤ length rows
  pub packed : station.Told z → HasPacked place rows t.written z.held

-- What the reading of a whole text says of the source and of the disk, whatever comes of the text.
pub record ReadsText {X : Type 0} (r0 : ReaderView) (result : Result X LoadFault) (s0 s : SourceView) (a b : station.View) : Type 0 where
  -- the source is at its end, and gave fewer bytes than might be taken
  pub whole : OnOk result (SourceTold s0 → (s.left ≡ []) × (length s0.left < r0.room))
  -- and whatever was answered
  pub takes : SourceTold s0 → TakesAtMost r0.room s0 s
  pub failed : IsErrOf result Disk → station.Rose a.disk_faults b.disk_faults
  pub went : Went s0 s
