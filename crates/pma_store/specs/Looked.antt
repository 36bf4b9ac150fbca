-- What is known of a batch that is looked over, segment by segment in ascending order.
use Rattle.std.specs.Prelude.{◌≡◌, ◌⊎◌, ℕ, ◌+◌, ◌<◌, ◌≤◌, true, ◌^◌, T, List, [], ◌∷◌, ◌++◌, length, get_or, Result, Err, OnOk, IfErr, IsErrOf}
use Rattle.station.specs.Bytes.{Same}
use Rattle.station.specs.View.{View, Told, Rose, after_read}
use Rattle.station.specs.declared.travel.Travel.{Travel}
use Rattle.std.specs.List.{list_all}
use Rattle.batch_intent.specs.Spelling.{fits_item}
use Rattle.header_gate.specs.declared.layout.Layout.{Layout}
use Rattle.header_gate.specs.Places.{IsLayout, height_limit, segment_place, segment_size}
use Rattle.header_gate.specs.Recovered.{Ascends}
use Rattle.station.specs.Steps.{Steps}
use Rattle.key_slot.specs.Record.{Record, is_record}
use Rattle.key_slot.specs.Segment.{FitsSegment}
use Rattle.map_model.specs.Array.{Array, segment_at, segment_for}
use Rattle.map_model.specs.Batches.{IsNone}
use Rattle.map_model.specs.Image.{array_of}
use Rattle.map_model.specs.Store.{Update, key_of}
use Rattle.one_commit.specs.Editing.{edited_by, items_for}
use Rattle.redo_journal.specs.Frames.{Batch}
use Rattle.redo_journal.specs.declared.place.Place.{Place}
use Rattle.segment.specs.declared.fault.StoreFault.{StoreFault}
use Rattle.segment.specs.declared.fault.StoreFault.TheVariants.{Failed}
use Rattle.segment_frames.specs.Lists.{held_lists, most_segments, segments_in, IsHeld}
use Rattle.pma_store.specs.declared.batch_scan.BatchScan.{BatchScan}
use Rattle.pma_store.specs.BatchCalls.{LooksOnce}
use Rattle.pma_store.specs.Damaging.{IsMetLooking}
use Rattle.window_tally.specs.TallyView.{TallyView}
use Rattle.pma_store.specs.Own.{own_items, FillsAmid, FindsIn}
use Rattle.pma_store.specs.Once.{AreUsed}

-- a list tells the segment to which the key of each item belongs
abbrev pub BelongThere : Array → List ℕ → List Update → Type 0
BelongThere segments numbers items = (i : ℕ) (d : Update) → i < length items → get_or numbers i 0 ≡ segment_for segments (key_of (get_or items i d))

-- a batch in frames has the segments that a look tells, all below one. From segment 1 on each has a row for its fence
pub record AreLoaded (format : ℕ) (b : Batch) (look : BatchScan) (from : ℕ) : Type 0 where
  pub held : IsHeld format b
  pub count_is : look.count ≡ length (segments_in format b.numbers)
  pub few : look.count ≤ 16
  pub numbers_are : (i : ℕ) → i < look.count → get_or look.edited i 0 ≡ get_or (segments_in format b.numbers) i 0
  pub below : (i : ℕ) → i < look.count → get_or (segments_in format b.numbers) i 0 < from
  pub fits : (i : ℕ) → i < look.count → FitsSegment format (segment_at (held_lists format b) i)
  pub filled : (i : ℕ) → i < look.count → 0 < get_or (segments_in format b.numbers) i 0 → 0 < length (segment_at (held_lists format b) i)

-- the items of a segment may be made in its rows, and these be added to a batch
pub record MayLoad (l : Layout) (items : List Update) (numbers : List ℕ) (segment : ℕ) (b : Batch) (look : BatchScan) (rows : List Record) : Type 0 where
  pub sizes : length numbers ≡ length items
  pub layout : IsLayout l
  pub journal : b.journal ≡ l.journal
  pub within : segment < 2 ^ height_limit l
  pub loaded : AreLoaded l.format b look segment
  pub fits : T (list_all (is_record l.format) rows)
  -- the slots have room for what they put
  pub room : T (list_all (fits_item l.format) items)

-- why a segment isn't added to a batch: there is no frame or no row for it, its items would make more records than it has
-- slots, or they leave it without one, and it is from 1 on
abbrev pub LacksRoom : Layout → ℕ → List ℕ → List Update → List Record → ℕ → Type 0
LacksRoom l segment numbers items rows count =
    ((16 ≤ count) ⊎ (most_segments l ≤ count))
    ⊎ (FillsAmid segment numbers items rows ⊎ ((0 < segment) × (length (edited_by (own_items segment numbers items) rows) ≡ 0)))

-- the batch has one segment more, with these rows
pub record LoadsMore (format segment : ℕ) (rows : List Record) (b next : Batch) : Type 0 where
  pub numbers_are : segments_in format next.numbers ≡ segments_in format b.numbers ++ segment ∷ []
  pub lists_are : held_lists format next ≡ held_lists format b ++ rows ∷ []

-- the keys of the items of all segments below one were looked for in the segments of an array
abbrev pub HasFound : Array → List ℕ → List Update → List (Result ℕ ℕ) → ℕ → Type 0
HasFound segments numbers items found from = (i : ℕ) (d : Update) → i < length items → get_or numbers i 0 < from → FindsIn (key_of (get_or items i d)) (segment_at segments (get_or numbers i 0)) (get_or found i (Err 0))

-- the batch has each segment below one that an item edits, with all of its items made
pub record LoadsEdits (format : ℕ) (segments : Array) (items : List Update) (b : Batch) (from : ℕ) : Type 0 where
  pub named : (j : ℕ) → j < length (segments_in format b.numbers) → let i = get_or (segments_in format b.numbers) j 0 in
      segment_at (held_lists format b) j ≡ edited_by (items_for segments i items) (segment_at segments i)
  pub unnamed : (i : ℕ) → i < from → IsNone (segments_in format b.numbers) i → items_for segments i items ≡ []

-- both, as far as a look is whole
pub record HasLooked (format : ℕ) (segments : Array) (numbers : List ℕ) (items : List Update) (b : Batch) (look : BatchScan) (from : ℕ) : Type 0 where
  pub found : HasFound segments numbers items look.found from
  pub edits : look.whole ≡ true → LoadsEdits format segments items b from

-- the travel after reads of these segments, one after another
abbrev pub after_reads : Place → List ℕ → Travel → Travel
after_reads place [] t = t
after_reads place (n ∷ ns) t = after_reads place ns (after_read (segment_place place.layout place.region n) (segment_size place.layout) t)

-- Of the segments that a list tells, those below one were read in ascending order, each once by one call, and no other was.
pub record ReadsOnce (place : Place) (numbers : List ℕ) (from : ℕ) (a d : View) : Type 0 where
  pub read : List ℕ
  pub ascends : Ascends read
  pub below : (i : ℕ) → i < length read → get_or read i 0 < from
  pub told : (i : ℕ) → i < length read → (j : ℕ) × (j < length numbers) × (get_or numbers j 0 ≡ get_or read i 0)
  pub each : (j : ℕ) → j < length numbers → get_or numbers j 0 < from → (i : ℕ) × (i < length read) × (get_or read i 0 ≡ get_or numbers j 0)
  pub travel_is : d.travel ≡ after_reads place read a.travel
  pub calls : d.calls ≤ a.calls + length read

-- A batch was looked over, in a store with this tally: nothing was written.
pub record LooksOver (place : Place) (tally : TallyView) (numbers : List ℕ) (items : List Update)
    (result : Result (Unit {0}) StoreFault) (b : Batch) (look : BatchScan) (a d : View) : Type 0 where
  pub loaded : OnOk result (AreLoaded place.layout.format b look (2 ^ tally.height))
  pub looked : OnOk result (Told a → HasLooked place.layout.format (array_of a.held) numbers items b look (2 ^ tally.height))
  pub journal : b.journal ≡ place.layout.journal
  pub steps : Steps Same a d
  pub unwritten : d.travel.written ≡ a.travel.written
  pub reads : OnOk result (ReadsOnce place numbers (2 ^ tally.height) a d)
  pub looks : LooksOnce items tally.height a d
  pub few : OnOk result (look.count ≤ length looks.looked)
  pub used : OnOk result (Told a → AreUsed place.layout (array_of a.held) items b look.whole)
  pub damaged : IfErr result (λ fault. Told a → fault ≡ Failed)
  pub met : IfErr result (λ fault. IsMetLooking place tally fault d)
  pub failed : IsErrOf result Failed → Rose a.disk_faults d.disk_faults
