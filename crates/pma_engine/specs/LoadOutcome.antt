-- The outcome of the load of a text into a file.
use Rattle.std.specs.Prelude.{◌≡◌, ◌⊎◌, ℕ, ◌+◌, ◌*◌, ◌^◌, ◌<◌, ◌≤◌, List, [], ◌++◌, false, length, Option, Some, None, Result, Ok, Err}
use Rattle.std.specs.FinMap.{from_sorted, len}
use Rattle.station.specs.View.{View, Told, SaidTold, EachHeld, NothingPending, Rose, attached_by}
use Rattle.station.specs.Steps.{Run}
use Rattle.line_source.specs.Lines.{complete_lines, raw_lines}
use Rattle.line_source.specs.SourceView.{SourceView, SourceTold, SourceRose}
use Rattle.header_gate.specs.InPlace.{IsBare}
use Rattle.header_gate.specs.Header.{layout_in}
use Rattle.header_gate.specs.Places.{height_limit, segment_size}
use Rattle.header_gate.specs.Recovered.{recovered}
use Rattle.header_gate.specs.declared.layout.Layout.{Layout}
use Rattle.header_gate.specs.declared.reason.Reason.{Reason}
use Rattle.index_file.specs.Clean.{IsShut}
use Rattle.key_slot.specs.Record.{Record}
use Rattle.map_model.specs.Array.{spread_over}
use Rattle.map_model.specs.Holding.{IsBalancedArray}
use Rattle.map_model.specs.Image.{array_of, height_of}
use Rattle.map_model.specs.Store.{Map}
use Rattle.batch_intent.specs.Means.{Means, has_waiting, meant_map, opening_reason}
use Rattle.bulk_load.specs.LoadLines.{TakesAtMost}
use Rattle.bulk_load.specs.Loads.{IsLeastHeight, most_records}
use Rattle.bulk_load.specs.LoadText.{IsLoadText, IsOneTooMany, IsRefusedAt, MayGoOn}
use Rattle.bulk_load.specs.declared.fault.LoadFault.{LoadFault}
use Rattle.bulk_load.specs.declared.fault.LoadFault.TheVariants as load
use Rattle.bulk_load.specs.declared.fault.Loaded.{Loaded}
use Rattle.command_text.specs.declared.reply.Reply.{Reply}
use Rattle.command_text.specs.declared.reply.Reply.TheVariants as reply
use Rattle.pma_store.specs.Opens.{IsAllAtRest}
use Rattle.pma_store.specs.Readying.{clear_cost}
use Rattle.pma_engine.specs.Closing.{IsButClosed, WritesGate}
use Rattle.pma_engine.specs.RunOpening.{IsOutOfMemory, reopening_cost}
use Rattle.pma_engine.specs.Outcome.{IsRest, empty_map}
use Rattle.pma_engine.specs.Refusing.{IsRefusal, SaysLine}
use Rattle.pma_engine.specs.Upgrading.{KeepsMeaning}
use Rattle.pma_engine.specs.declared.status.TheConstants.{DONE, REFUSED, DISK_FAULT, SCRIPT_FAULT, OUT_OF_MEMORY, TOO_LONG}

-- the statuses with which a load may end
abbrev pub IsLoadStatus : ℕ → Type 0
IsLoadStatus status = IsRest status ⊎ ((status ≡ REFUSED) ⊎ ((status ≡ DISK_FAULT) ⊎ (status ≡ OUT_OF_MEMORY)))

-- the line that tells why a text isn't loaded into an open store
abbrev pub line_of_load : Result Loaded LoadFault → Option Reply
line_of_load (Ok loaded) = None
line_of_load (Err (load.NotEmpty records)) = Some (reply.NotEmpty records)
line_of_load (Err (load.Line number)) = Some (reply.LoadLine number)
line_of_load (Err (load.Full most)) = Some (reply.LoadFull most)
line_of_load (Err load.Disk) = None
line_of_load (Err (load.Damaged segment why)) = Some (reply.Damaged segment why)
line_of_load (Err load.Script) = None
line_of_load (Err load.Spent) = None

-- the status with which the job ends then
abbrev pub status_of_load : Result Loaded LoadFault → ℕ
status_of_load (Ok loaded) = DONE
status_of_load (Err (load.NotEmpty records)) = REFUSED
status_of_load (Err (load.Line number)) = REFUSED
status_of_load (Err (load.Full most)) = REFUSED
status_of_load (Err load.Disk) = DISK_FAULT
status_of_load (Err (load.Damaged segment why)) = REFUSED
status_of_load (Err load.Script) = SCRIPT_FAULT
status_of_load (Err load.Spent) = TOO_LONG

-- if the source tells it, all that it has left is a load text with these records, which a store of this layout admits: in its
-- slot format, and as many as it may hold
abbrev pub HasText : Layout → SourceView → List Record → Type 0
HasText l s rows = SourceTold s → IsLoadText l.format (raw_lines s.left) rows × (length rows ≤ most_records l)

-- the image has this layout, and means the map of the whole text, at the least height that holds its records
pub record MeansText (l : Layout) (s : SourceView) (image : List ℕ) : Type 0 where
  pub rows : List Record
  pub text : HasText l s rows
  pub means : Means l image (from_sorted rows)
  pub least : IsLeastHeight (length rows) means.height

-- the new image has the layout of the old one, and means each map that it does; or, if that has no records, the map of the
-- whole text
abbrev pub MayLoad : SourceView → List ℕ → List ℕ → Type 0
MayLoad s old new = (m : Map) → Means (layout_in old) old m → Means (layout_in old) new m ⊎ ((m ≡ empty_map) × MeansText (layout_in old) s new)

-- A text was loaded into a store of this layout: the file means its map, its array is the spread of the records over the segments of
-- the least height that holds them, every window within its bounds, and no items of an intent wait.
pub record IsFileLoaded (l : Layout) (s : SourceView) (new : List ℕ) : Type 0 where
  pub text : MeansText l s new
  pub no_intent : has_waiting new ≡ false
  pub array : array_of new ≡ spread_over (2 ^ text.means.height) text.rows
  pub balanced : IsBalancedArray text.means.height (array_of new)

-- the source was read to its end, and gave a load text of fewer bytes than may be taken
pub record IsReadWhole (most : ℕ) (s0 s1 : SourceView) : Type 0 where
  pub format : ℕ
  pub rows : List Record
  pub text : IsLoadText format (raw_lines s0.left) rows
  pub all : s1.left ≡ []
  pub short : length s0.left < most

-- if the source tells it, line n is the first that no load text can have there, or one more than there are, if the lines
-- end before the one with the number of records; and before it are no more records than a store of this layout may hold
abbrev pub IsWrongAt : Layout → SourceView → ℕ → Type 0
IsWrongAt l s n = SourceTold s → IsRefusedAt l.format (most_records l) (raw_lines s.left) n

-- if the source tells it, a record follows as many as a store of this layout may hold
abbrev pub IsTooLong : Layout → SourceView → Type 0
IsTooLong l s = SourceTold s → IsOneTooMany l.format (most_records l) (raw_lines s.left)

-- a text isn't loaded into a store of this layout with that many records, and this line says why: there are records, and nothing is
-- taken from the source; or a line of the text is wrong; or it has more records than the store may hold
abbrev pub AnswersLoad : Layout → ℕ → SourceView → SourceView → Reply → Type 0
AnswersLoad l records s0 s1 line = ((0 < records) × (line ≡ reply.NotEmpty records) × (s1 ≡ s0))
    ⊎ (((records ≡ 0) × ((n : ℕ) × (line ≡ reply.LoadLine n) × IsWrongAt l s0 n))
    ⊎ ((records ≡ 0) × (line ≡ reply.LoadFull (most_records l)) × IsTooLong l s0))

-- the same of the store of an image
abbrev pub IsLoadAnswer : List ℕ → SourceView → SourceView → Reply → Type 0
IsLoadAnswer old s0 s1 line = AnswersLoad (layout_in old) (len (meant_map old)) s0 s1 line

-- why a load is refused: the first reason against the file, or that answer
abbrev pub IsLoadRefusal : List ℕ → SourceView → SourceView → Reply → Type 0
IsLoadRefusal old s0 s1 line = ((r : Reason) × (opening_reason old ≡ Some r) × (line ≡ reply.NotStore r))
    ⊎ ((opening_reason old ≡ None) × IsLoadAnswer old s0 s1 line)

-- A load was refused.
pub record IsLoadRefused (s0 s1 : SourceView) (a b : View) : Type 0 where
  -- One line is said: whole, or a front of it if a saying failed.
  pub line : SaidTold a → (line : Reply) × IsRefusal line × SaysLine line a.said a b
  -- Over a station that tells its bytes the line tells the first reason against the file; or of a valid store that it has
  -- records, and how many, with nothing taken of the text; or, if it has none, the first line that no load text can have there,
  -- or one more than there are, if the text ends before the line with the number of records; or that a record follows as many as
  -- the store may hold.
  pub why : Told a → (line : Reply) × IsLoadRefusal a.held s0 s1 line × (SaidTold a → SaysLine line a.said a b)
  -- A file that is no store recovers to what it recovered to; and if no page is to be replayed over its region (below version 4: if
  -- its gate is even), every byte stays. But an odd clean gate may be closed besides, from version 3 on.
  pub recovers : Told a → (r : Reason) → opening_reason a.held ≡ Some r → IsButClosed a.held (recovered (layout_in a.held) a.held) (recovered (layout_in a.held) b.held)
  pub bare : Told a → (r : Reason) → opening_reason a.held ≡ Some r → IsBare (layout_in a.held) a.held → IsButClosed a.held a.held b.held
  -- A store with records to which nothing is to be done keeps every byte, and nothing is written, but that an odd clean gate may
  -- be closed.
  pub kept : Told a → IsAllAtRest a.held → 0 < len (meant_map a.held) → IsButClosed a.held a.held b.held × WritesGate a.held a.travel.written b.travel.written

-- at most that many bytes are written by the reading of a text into a file of this layout that then has this height
abbrev pub text_cost : Layout → ℕ → ℕ
text_cost l height = 2 * segment_size l * 2 ^ height + 9

-- and by a load behind the opening: at version 4 with what leaves nothing pending before it
abbrev pub load_cost : Layout → ℕ → ℕ
load_cost l height = clear_cost l + text_cost l height

-- it ends for the source's sake: a read failed, or all bytes were taken that may be
abbrev pub IsCutText : ℕ → Type 0
IsCutText status = (status ≡ SCRIPT_FAULT) ⊎ (status ≡ TOO_LONG)

-- the complete lines among the bytes that were taken make no refusal due in a store of this layout
pub record IsCutEarly (l : Layout) (s0 s1 : SourceView) : Type 0 where
  pub taken : List ℕ
  pub is : s0.left ≡ taken ++ s1.left
  pub lines : MayGoOn l.format (most_records l) (complete_lines taken)

-- `load`, of whose text at most that many bytes are taken
pub record LoadsFile (status most : ℕ) (s0 s1 : SourceView) (a b : View) : Type 0 where
  -- Of a valid store: if nothing is pending at the entry, a crash at any moment leaves a file that has the layout of the one at
  -- the entry and means its map, or, if that has no records, the map of the whole text, at the least height that holds them. And
  -- so do the held bytes at the return, whatever the status.
  pub steps : NothingPending a → Run (λ image said. MayLoad s0 a.held image) (attached_by false a) b
  pub held : Told a → MayLoad s0 a.held b.held
  -- It ends with 0 only for a valid store without records, and for a load text of fewer than `most` bytes that was read to its
  -- end. Then the file has the layout of before and means the map of the text, at the least height that holds its records; these
  -- are spread over the segments of that height, every window is within its bounds, no intent is to be applied, and nothing is
  -- pending.
  pub done : status ≡ DONE → Told a → (opening_reason a.held ≡ None) × (meant_map a.held ≡ empty_map) × IsFileLoaded (layout_in a.held) s0 b.held
  pub whole : status ≡ DONE → SourceTold s0 → IsReadWhole most s0 s1
  pub settled : status ≡ DONE → NothingPending b
  -- With 0, 5 and 8 a file of version 3 or 4 has an even clean gate.
  pub shut : IsRest status → Told a → IsShut b.held
  -- With 3, 5, 7 and 8, of a valid store with nothing pending at the entry: the held bytes, and each image that a crash leaves
  -- then, have the layout of the file at the entry and mean its map.
  pub kept : (status ≡ DONE → ⊥) → (status ≡ DISK_FAULT → ⊥) → NothingPending a → EachHeld (KeepsMeaning a.held) b
  -- With every status but 3 nothing is said.
  pub silent : (status ≡ REFUSED → ⊥) → b.said ≡ a.said
  -- With 3 it is refused, as `IsLoadRefused` says.
  pub refused : status ≡ REFUSED → IsLoadRefused s0 s1 a b
  -- With 7 it is as `IsOutOfMemory` says.
  pub memory : status ≡ OUT_OF_MEMORY → IsOutOfMemory (attached_by false a) b
  -- At every status what was taken is a front of what was left, of at most `most` bytes; with 8 of exactly as many.
  pub takes : SourceTold s0 → TakesAtMost most s0 s1
  pub too_long : status ≡ TOO_LONG → SourceTold s0 → length s0.left ≡ length s1.left + most
  -- With 5 and 8 the complete lines among the bytes that were taken make no refusal due: some load text begins with them, and
  -- they have no more records than the store may hold.
  pub early : IsCutText status → SourceTold s0 → Told a → IsCutEarly (layout_in a.held) s0 s1
  -- A valid store, if the count of disk faults didn't rise, ends with 0 or 7; or with 3 and an answer that is due; or, if it has
  -- no records, with 5 or 8.
  pub complete : Told a → (m : Map) → Means (layout_in a.held) a.held m → (Rose a.disk_faults b.disk_faults → ⊥) →
      (status ≡ DONE) ⊎ ((status ≡ OUT_OF_MEMORY)
      ⊎ (((status ≡ REFUSED) × ((line : Reply) × IsLoadAnswer a.held s0 s1 line)) ⊎ ((m ≡ empty_map) × IsCutText status)))
  -- A load text of fewer than `most` bytes that a store without records admits ends with 0 or 7, if the counts of disk faults and
  -- of failed reads didn't rise.
  pub admitted : SourceTold s0 → Told a → Means (layout_in a.held) a.held empty_map →
      (rows : List Record) → HasText (layout_in a.held) s0 rows → length s0.left < most →
      (Rose a.disk_faults b.disk_faults → ⊥) → (SourceRose s0 s1 → ⊥) → (status ≡ DONE) ⊎ (status ≡ OUT_OF_MEMORY)
  -- With 0 no more is written than an opening may, and `8192 * F * 2^h + 9` bytes, at version 4 5 more, with F pages a segment
  -- and h the height after it; at every status no more than with the greatest height in place of h.
  pub written : status ≡ DONE → Told a → b.travel.written ≤ a.travel.written + (reopening_cost a.held + load_cost (layout_in a.held) (height_of b.held))
  pub most_written : Told a → b.travel.written ≤ a.travel.written + (reopening_cost a.held + load_cost (layout_in a.held) (height_limit (layout_in a.held)))

-- the outcome of a load into an open store of this layout with that many records, on whose station nothing is pending, if that many
-- bytes may be written before the text is read; its file has no intent that is to be applied
pub record LoadsOpened (status most : ℕ) (l : Layout) (records before : ℕ) (s0 s1 : SourceView) (a b : View) : Type 0 where
  pub status_is : IsRest status ⊎ ((status ≡ REFUSED) ⊎ (status ≡ DISK_FAULT))
  pub run : Run (λ image said. MayLoad s0 a.held image) a b
  pub held : Told a → MayLoad s0 a.held b.held
  pub empty : status ≡ DONE → records ≡ 0
  pub loaded : status ≡ DONE → Told a → IsFileLoaded l s0 b.held
  pub whole : status ≡ DONE → SourceTold s0 → IsReadWhole most s0 s1
  pub settled : status ≡ DONE → NothingPending b
  pub kept : (status ≡ DONE → ⊥) → (status ≡ DISK_FAULT → ⊥) → EachHeld (KeepsMeaning a.held) b
  pub silent : (status ≡ REFUSED → ⊥) → b.said ≡ a.said
  pub line : status ≡ REFUSED → SaidTold a → (line : Reply) × IsRefusal line × SaysLine line a.said a b
  pub why : status ≡ REFUSED → Told a → (line : Reply) × AnswersLoad l records s0 s1 line × (SaidTold a → SaysLine line a.said a b)
  pub left : 0 < records → (b.held ≡ a.held) × (b.travel.written ≡ a.travel.written)
  pub takes : SourceTold s0 → TakesAtMost most s0 s1
  pub too_long : status ≡ TOO_LONG → SourceTold s0 → length s0.left ≡ length s1.left + most
  pub cut : IsCutText status → records ≡ 0
  pub early : IsCutText status → SourceTold s0 → IsCutEarly l s0 s1
  pub admitted : SourceTold s0 → Told a → records ≡ 0 → (rows : List Record) → HasText l s0 rows → length s0.left < most →
      (Rose a.disk_faults b.disk_faults → ⊥) → (SourceRose s0 s1 → ⊥) → status ≡ DONE
  pub written : status ≡ DONE → Told a → b.travel.written ≤ a.travel.written + (before + text_cost l (height_of b.held))
  pub most_written : b.travel.written ≤ a.travel.written + (before + text_cost l (height_limit l))
  pub disk : status ≡ DISK_FAULT → Rose a.disk_faults b.disk_faults
  pub script : status ≡ SCRIPT_FAULT → SourceRose s0 s1
