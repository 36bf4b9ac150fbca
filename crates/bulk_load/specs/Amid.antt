-- A merge amid the records of a store and the lines of a text: what results so far is packed into the region that isn't live.
use Rattle.station.specs.declared.travel.Travel.{Travel}
use Rattle.std.specs.Prelude.{◌≡◌, ℕ, ◌+◌, ◌-◌, ◌*◌, ◌^◌, ◌<◌, ◌≤◌, nat_lt, ◌&&◌, not, Bool, true, T, if◌then◌else◌, false}
use Rattle.std.specs.Prelude.{List, [], ◌∷◌, ◌++◌, length, map, Option, Some, IfSome, Result, OnOk, IfOk, IfErr, IsErrOf, sum}
use Rattle.std.specs.FinMap.{entries}
use Rattle.station.specs.View.{View, Told, Rose}
use Rattle.station.specs.Steps.{Steps}
use Rattle.header_gate.specs.Places.{height_limit, segment_size}
use Rattle.key_slot.specs.Record.{Bytes, Record, is_record}
use Rattle.key_slot.specs.Row.{record_of}
use Rattle.key_slot.specs.declared.sizes.TheConstants.{SEGMENT_SLOTS}
use Rattle.map_model.specs.Image.{array_of}
use Rattle.map_model.specs.ItemWords.{ItemCounts}
use Rattle.map_model.specs.FileReasons.{last_key, begins_above}
use Rattle.map_model.specs.Regions.{Spares}
use Rattle.map_model.specs.Store.{Map, Update}
use Rattle.range_scan.specs.SegmentFaults.{IsDamageAt}
use Rattle.redo_journal.specs.declared.place.Place.{Place}
use Rattle.redo_journal.specs.Frames.{Batch}
use Rattle.resize_region.specs.Source.{Walks}
use Rattle.segment.specs.declared.fault.StoreFault.TheVariants as store
use Rattle.window_tally.specs.TallyView.{TallyView}
use Rattle.command_text.specs.declared.merge.MergeLine.{MergeLine}
use Rattle.command_text.specs.declared.merge.MergeLine.TheVariants.{Nothing, Bind, Remove, End, Bad}
use Rattle.bulk_load.specs.declared.fault.LoadFault.{LoadFault}
use Rattle.bulk_load.specs.declared.fault.LoadFault.TheVariants as fault
use Rattle.bulk_load.specs.declared.run.Found.{Found}
use Rattle.bulk_load.specs.declared.run.MergeRun.{MergeRun}
use Rattle.bulk_load.specs.Ahead.{ReadsLive, IsAbove, StopsAt, left_in, begins_with, under, over, hand, read_by}
use Rattle.bulk_load.specs.Loads.{most_records}
use Rattle.bulk_load.specs.MergeText.{AreAscending, count_edits, front_rows, mark_of, rest_rows, above, binds_in}
use Rattle.bulk_load.specs.MergeLines.{Merging, reads, wrong, full, after_merge_line}
use Rattle.bulk_load.specs.Packing.{CanFill, IsTaken, HasPacked, room_in}
use Rattle.bulk_load.specs.TextReading.{IsTaking}

-- what updates found, as it is counted
abbrev pub counts_in : Found → ItemCounts
counts_in f = record { stored = f.stored; replaced = f.replaced; removed = f.removed; absent = f.absent }

-- The next record of the store may result: it is above all that do so far, on every station.
pub record IsAmid (place : Place) (s : MergeRun) (b : Batch) (v : View) : Type 0 where
  pub can : CanFill place b v
  pub live : ReadsLive place s.ahead v
  pub taking : IsTaking place.layout s.taken b
  pub above : IsAbove s.taken.last s.ahead

-- The next line may come: what is above the last update is above all that results, and each update is counted once.
pub record IsBetween (place : Place) (s : MergeRun) (b : Batch) (v : View) : Type 0 where
  pub amid : IsAmid place s b v
  pub behind : (r : Record) → begins_above s.last (r ∷ []) ≡ true → begins_above s.taken.last (r ∷ []) ≡ true
  pub counted : s.found.stored + s.found.replaced + s.found.removed + s.found.absent ≡ s.edits
  pub few : s.edits < 2 ^ 32
  -- each record of the segments that were read is at hand, was removed or replaced, or results
  pub balance : s.taken.records + s.found.removed + hand s.ahead ≡ read_by s.ahead + s.found.stored

-- beside the records of a map, these updates were made
pub record HasMerged (place : Place) (m : Map) (edits : List Update) (s : MergeRun) (b : Batch) (v : View) : Type 0 where
  pub taken : IsTaken place.layout s.taken b (front_rows edits (entries m))
  pub packed : HasPacked place (front_rows edits (entries m)) s.taken.written v.held
  pub left : left_in (array_of v.held) s.ahead ≡ rest_rows edits (entries m)
  pub found : counts_in s.found ≡ count_edits m edits
  pub edits_are : s.edits ≡ length edits
  pub last : s.last ≡ last_key (map mark_of edits)
  pub ascending : AreAscending edits

-- Between two moments, segments from one number to another were written packed, and live ones from one to another were read
-- straight on, each once.
pub record Goes (place : Place) (written w next n : ℕ) (f g : Batch) (a b : View) : Type 0 where
  pub journal : g.journal ≡ f.journal
  pub turn : g.turn ≡ f.turn
  pub steps : Steps (Spares place.layout place.region) a b
  pub onward : written ≤ w
  pub further : next ≤ n
  pub reads : Walks place next n a.travel b.travel
  pub cost : b.travel.written ≤ a.travel.written + segment_size place.layout * (w - written)
  pub calls : (made : ℕ) × (room_in place.layout * made ≤ w - written) × (b.calls ≤ a.calls + (made + (n - next)))

-- The same of what was tried, in a store of that many segments, whatever was answered.
pub record Tries (place : Place) (segments written next : ℕ) (f g : Batch) (a b : View) : Type 0 where
  pub journal : g.journal ≡ f.journal
  pub turn : g.turn ≡ f.turn
  pub steps : Steps (Spares place.layout place.region) a b
  pub reads : (n : ℕ) × (next ≤ n) × (n ≤ segments) × Walks place next n a.travel b.travel
  pub cost : b.travel.written ≤ a.travel.written + segment_size place.layout * (2 ^ height_limit place.layout - written)
  pub calls : (to : ℕ) × (made : ℕ) × (written ≤ to) × (SEGMENT_SLOTS * to ≤ most_records place.layout)
      × (room_in place.layout * made ≤ to - written)
      × (b.calls ≤ a.calls + (made + (segments - next)))

-- a live segment is damaged, by its number, the counts that are kept, and what is found: the last one that was read, straight on
-- from a first
abbrev pub IsLiveDamage : Place → ℕ → Travel → Travel → TallyView → LoadFault → Type 0
IsLiveDamage place from x y t (fault.Damaged segment why) = (i : ℕ) × (i < 2 ^ t.height) × (from ≤ i) × Walks place from (i + 1) x y
    × IsDamageAt i t.counts (store.Damaged segment why)
IsLiveDamage place from x y t fault = Unit {0}

-- Why records of the store aren't copied: those under a key are more than may be beside those that result, or a disk call
-- failed, or a segment is damaged, which none is if the station tells its bytes.
abbrev pub IsCopyFault : Place → Option Bytes → MergeRun → View → LoadFault → Type 0
IsCopyFault place key s a (fault.Full n) = (n ≡ most_records place.layout) × (Told a →
    most_records place.layout < s.taken.records + length (under key (left_in (array_of a.held) s.ahead)))
IsCopyFault place key s a fault.Disk = Unit {0}
IsCopyFault place key s a (fault.Damaged segment why) = Told a → ⊥
IsCopyFault place key s a (fault.NotEmpty n) = ⊥
IsCopyFault place key s a (fault.Line n) = ⊥
IsCopyFault place key s a fault.Script = ⊥
IsCopyFault place key s a fault.Spent = ⊥

-- if too many records result, they are more than those that did, those at hand, and those of segments that weren't read
abbrev pub IsOverKept : Place → MergeRun → LoadFault → Type 0
IsOverKept place s (fault.Full n) = most_records place.layout + read_by s.ahead < s.taken.records + hand s.ahead + sum s.ahead.tally.now.counts
IsOverKept place s fault = Unit {0}

-- The records of the store under a key are packed behind those that result, and then others may follow.
pub record CopiesUnder {X : Type 0} (place : Place) (key : Option Bytes) (result : Result X LoadFault) (old new : MergeRun) (f g : Batch) (a b : View) : Type 0 where
  pub amid : OnOk result (IsAmid place new g b)
  pub stops : OnOk result (StopsAt key new.ahead)
  pub upto : OnOk result (IfSome key (λ least. begins_above new.taken.last ((least, []) ∷ []) ≡ true))
  pub taken : OnOk result (Told a → (rows : List Record) → IsTaken place.layout old.taken f rows →
      IsTaken place.layout new.taken g (rows ++ under key (left_in (array_of a.held) old.ahead)))
  pub packed : OnOk result (Told a → (rows : List Record) → IsTaken place.layout old.taken f rows →
      HasPacked place rows old.taken.written a.held →
      HasPacked place (rows ++ under key (left_in (array_of a.held) old.ahead)) new.taken.written b.held)
  pub left : OnOk result (Told a → left_in (array_of a.held) new.ahead ≡ over key (left_in (array_of a.held) old.ahead))
  pub same : OnOk result (new ≡ record old { ahead = new.ahead; taken = new.taken })
  pub ended : OnOk result (new.taken.ended ≡ old.taken.ended)
  pub count : OnOk result (new.taken.records + hand new.ahead + read_by old.ahead
      ≡ old.taken.records + hand old.ahead + read_by new.ahead)
  pub over : IfErr result (IsOverKept place old)
  pub tally : new.ahead.tally.now ≡ old.ahead.tally.now
  pub goes : OnOk result (Goes place old.taken.written new.taken.written old.ahead.reader.next new.ahead.reader.next f g a b)
  pub tries : Tries place (2 ^ old.ahead.tally.now.height) old.taken.written old.ahead.reader.next f g a b
  pub faulty : IfErr result (IsCopyFault place key old a)
  pub damage : IfErr result (IsLiveDamage place old.ahead.reader.next a.travel b.travel old.ahead.tally.now)
  pub failed : IsErrOf result fault.Disk → Rose a.disk_faults b.disk_faults

-- The records of the store below a key are packed, and that of the key is passed, if there is one.
pub record MeetsKey (place : Place) (key : Bytes) (result : Result Bool LoadFault) (old new : MergeRun) (f g : Batch) (a b : View) : Type 0 where
  pub amid : OnOk result (IsAmid place new g b)
  pub passed : OnOk result (IsAbove (Some key) new.ahead)
  pub upto : OnOk result (begins_above new.taken.last ((key, []) ∷ []) ≡ true)
  pub met : IfOk result (λ met. Told a → met ≡ begins_with key (over (Some key) (left_in (array_of a.held) old.ahead)))
  pub taken : OnOk result (Told a → (rows : List Record) → IsTaken place.layout old.taken f rows →
      IsTaken place.layout new.taken g (rows ++ under (Some key) (left_in (array_of a.held) old.ahead)))
  pub packed : OnOk result (Told a → (rows : List Record) → IsTaken place.layout old.taken f rows →
      HasPacked place rows old.taken.written a.held →
      HasPacked place (rows ++ under (Some key) (left_in (array_of a.held) old.ahead)) new.taken.written b.held)
  pub left : OnOk result (Told a → left_in (array_of a.held) new.ahead ≡ above key (left_in (array_of a.held) old.ahead))
  pub same : OnOk result (new ≡ record old { ahead = new.ahead; taken = new.taken; last = Some key; edits = old.edits + 1 })
  pub ended : OnOk result (new.taken.ended ≡ old.taken.ended)
  pub count : IfOk result (λ met. new.taken.records + hand new.ahead + read_by old.ahead + (if met then 1 else 0)
      ≡ old.taken.records + hand old.ahead + read_by new.ahead)
  pub over : IfErr result (IsOverKept place old)
  pub tally : new.ahead.tally.now ≡ old.ahead.tally.now
  pub goes : OnOk result (Goes place old.taken.written new.taken.written old.ahead.reader.next new.ahead.reader.next f g a b)
  pub tries : Tries place (2 ^ old.ahead.tally.now.height) old.taken.written old.ahead.reader.next f g a b
  pub faulty : IfErr result (IsCopyFault place (Some key) old a)
  pub damage : IfErr result (IsLiveDamage place old.ahead.reader.next a.travel b.travel old.ahead.tally.now)
  pub failed : IsErrOf result fault.Disk → Rose a.disk_faults b.disk_faults

-- the record of a line fits a slot of the format
abbrev pub FitsMergeLine : ℕ → MergeLine → Type 0
FitsMergeLine format (Bind row) = T (is_record format (record_of row))
FitsMergeLine format Nothing = Unit {0}
FitsMergeLine format (Remove key) = Unit {0}
FitsMergeLine format (End n) = Unit {0}
FitsMergeLine format Bad = Unit {0}

-- whether an update of this key may follow
abbrev pub goes_behind : MergeRun → Bytes → Bool
goes_behind s key = not s.taken.ended && (nat_lt (s.edits + 1) (2 ^ 32) && begins_above s.last ((key, []) ∷ []))

-- a fault of one line, by what comes of the lines up to it, beside the records of a map that is told
abbrev pub IsUpdateFault : ℕ → Merging → LoadFault → Type 0
IsUpdateFault most s (fault.Line n) = s ≡ wrong n
IsUpdateFault most s (fault.Full n) = (s ≡ full) × (n ≡ most)
IsUpdateFault most s fault.Disk = Unit {0}
IsUpdateFault most s (fault.NotEmpty n) = ⊥
IsUpdateFault most s (fault.Damaged segment why) = ⊥
IsUpdateFault most s fault.Script = ⊥
IsUpdateFault most s fault.Spent = ⊥

-- the faults of one line on any station: it can't stand there, or as many records result as may be, or a call on the file failed
abbrev pub MayStop : ℕ → LoadFault → Type 0
MayStop most (fault.Line n) = Unit {0}
MayStop most (fault.Full n) = n ≡ most
MayStop most fault.Disk = Unit {0}
MayStop most (fault.Damaged segment why) = Unit {0}
MayStop most (fault.NotEmpty n) = ⊥
MayStop most fault.Script = ⊥
MayStop most fault.Spent = ⊥

-- that many updates were read, and this is the last of their keys
pub record HasKeys (edits : List Update) (s : MergeRun) : Type 0 where
  pub edits_are : s.edits ≡ length edits
  pub last : s.last ≡ last_key (map mark_of edits)

-- that many of them bind a key
pub record HasEdits (edits : List Update) (s : MergeRun) : Type 0 where
  pub keys : HasKeys edits s
  pub binds : s.found.stored + s.found.replaced ≡ binds_in edits

-- The line of this number was taken: what comes of it by itself, whatever the store has. No text has `2^32` updates, so none is
-- one too many.
pub record MergesAlone (number : ℕ) (edits : List Update) (ended : Bool) (line : MergeLine) (s : MergeRun) : Type 0 where
  pub now : List Update
  pub after : after_merge_line (2 ^ 32) [] number edits ended line ≡ reads now s.taken.ended
  pub has : HasEdits now s

-- more records than may be come of the line by itself, if each of those that are kept stays
pub record IsOverAlone (most kept number : ℕ) (edits : List Update) (ended : Bool) (line : MergeLine) : Type 0 where
  pub now : List Update
  pub after : after_merge_line (2 ^ 32) [] number edits ended line ≡ reads now false
  pub many : most < kept + binds_in now

-- no call is made for a line that is refused
abbrev pub StaysAtLine : View → View → LoadFault → Type 0
StaysAtLine a b (fault.Line n) = (b.calls ≡ a.calls) × (b.travel ≡ a.travel) × (b.held ≡ a.held)
StaysAtLine a b fault = Unit {0}

-- a line that is refused is wrong by itself, and of one that fills the store too many records may come
abbrev pub IsDueAlone : ℕ → ℕ → ℕ → List Update → Bool → MergeLine → LoadFault → Type 0
IsDueAlone most kept number edits ended line (fault.Line n) = after_merge_line (2 ^ 32) [] number edits ended line ≡ wrong n
IsDueAlone most kept number edits ended line (fault.Full n) = IsOverAlone most kept number edits ended line
IsDueAlone most kept number edits ended line fault = Unit {0}

-- the line of this number was taken: what comes of it
pub record MergesLine (place : Place) (number : ℕ) (m : Map) (edits : List Update) (ended : Bool) (line : MergeLine) (s : MergeRun) (b : Batch) (v : View) : Type 0 where
  pub now : List Update
  pub after : after_merge_line (most_records place.layout) (entries m) number edits ended line ≡ reads now s.taken.ended
  pub merged : HasMerged place m now s b v

-- The outcome of the taking of the line of this number.
pub record TakesUpdate {X : Type 0} (place : Place) (number : ℕ) (line : MergeLine) (result : Result X LoadFault) (old new : MergeRun) (f g : Batch) (a b : View) : Type 0 where
  pub between : OnOk result (IsBetween place new g b)
  pub takes : OnOk result (Told a → (m : Map) (edits : List Update) → HasMerged place m edits old f a →
      MergesLine place number m edits old.taken.ended line new g b)
  pub faulty : IfErr result (λ fault. Told a → (m : Map) (edits : List Update) → HasMerged place m edits old f a →
      IsUpdateFault (most_records place.layout) (after_merge_line (most_records place.layout)
      (entries m) number edits old.taken.ended line) fault)
  pub stops : IfErr result (MayStop (most_records place.layout))
  -- the same by itself, on any station
  pub alone : OnOk result ((edits : List Update) → HasEdits edits old → MergesAlone number edits old.taken.ended line new)
  pub due : IfErr result (λ fault. (edits : List Update) → HasEdits edits old →
      IsDueAlone (most_records place.layout) (sum old.ahead.tally.now.counts) number edits old.taken.ended line fault)
  pub stays : IfErr result (StaysAtLine a b)
  pub tally : new.ahead.tally.now ≡ old.ahead.tally.now
  pub goes : OnOk result (Goes place old.taken.written new.taken.written old.ahead.reader.next new.ahead.reader.next f g a b)
  pub tries : Tries place (2 ^ old.ahead.tally.now.height) old.taken.written old.ahead.reader.next f g a b
  pub damage : IfErr result (IsLiveDamage place old.ahead.reader.next a.travel b.travel old.ahead.tally.now)
  pub failed : IsErrOf result fault.Disk → Rose a.disk_faults b.disk_faults
