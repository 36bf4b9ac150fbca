-- The outcome of the merge of a text into the store of a file.
use Rattle.std.specs.Prelude.{◌≡◌, ◌⊎◌, ℕ, ◌+◌, ◌-◌, ◌*◌, ◌^◌, ◌<◌, ◌≤◌, List, [], ◌++◌, false, length, take, Option, Some, None, Result, Ok, Err}
use Rattle.std.specs.FinMap.{entries, len}
use Rattle.station.specs.View.{View, Told, SaidTold, EachHeld, NothingPending, Rose, attached_by}
use Rattle.station.specs.Steps.{Run}
use Rattle.line_source.specs.Lines.{complete_lines, raw_lines}
use Rattle.line_source.specs.SourceView.{SourceView, SourceTold, SourceRose}
use Rattle.header_gate.specs.InPlace.{IsBare}
use Rattle.header_gate.specs.Header.{layout_in}
use Rattle.header_gate.specs.Places.{height_limit, page_size, segment_size}
use Rattle.header_gate.specs.Recovered.{recovered}
use Rattle.header_gate.specs.declared.layout.Layout.{Layout}
use Rattle.header_gate.specs.declared.reason.Reason.{Reason}
use Rattle.index_file.specs.Clean.{IsShut}
use Rattle.map_model.specs.Array.{spread_over}
use Rattle.map_model.specs.Holding.{IsBalancedArray}
use Rattle.map_model.specs.Image.{array_of, height_of, map_of}
use Rattle.map_model.specs.ItemWords.{ItemCounts}
use Rattle.map_model.specs.Store.{Map, Update}
use Rattle.batch_intent.specs.Means.{Means, has_waiting, meant_map, opening_reason}
use Rattle.bulk_load.specs.LoadLines.{TakesAtMost}
use Rattle.bulk_load.specs.Loads.{IsLeastHeight, most_records}
use Rattle.bulk_load.specs.MergeText.{BeginsMerge, IsFirstUnmerged, IsMergeText, IsMergeUnfinished, IsMergedFull, count_edits, edits_in, front_rows, map_after_edits}
use Rattle.bulk_load.specs.Spreading.{load_calls, used_by}
use Rattle.bulk_load.specs.MergeUpdates.{CountsText, counts_by}
use Rattle.bulk_load.specs.declared.fault.LoadFault.{LoadFault}
use Rattle.bulk_load.specs.declared.merged.Merged.{Merged}
use Rattle.command_text.specs.Reply.{reply_text}
use Rattle.command_text.specs.declared.reply.Reply.{Reply}
use Rattle.command_text.specs.declared.reply.Reply.TheVariants as reply
use Rattle.recovery.specs.OpeningCosts.{opening_reads}
use Rattle.pma_store.specs.UpdateCalls.{clear_calls}
use Rattle.pma_store.specs.Opens.{CallsOpening, IsAllAtRest}
use Rattle.pma_engine.specs.Closing.{IsButClosed}
use Rattle.pma_engine.specs.Dumping.{SaidFront}
use Rattle.pma_engine.specs.LoadOutcome.{IsCutText, line_of_load, load_cost, status_of_load, text_cost}
use Rattle.pma_engine.specs.RunOpening.{IsOutOfMemory, reopening_calls, reopening_cost}
use Rattle.pma_engine.specs.Outcome.{IsRest}
use Rattle.pma_engine.specs.Refusing.{IsRefusal, SaysLine}
use Rattle.pma_engine.specs.Headline.{IsPartSaid}
use Rattle.pma_engine.specs.Upgrading.{KeepsMeaning, opened_height}
use Rattle.pma_engine.specs.declared.status.TheConstants.{DONE, REFUSED, DISK_FAULT, SCRIPT_FAULT, REPLY_FAULT, OUT_OF_MEMORY, TOO_LONG}

-- the line that says what the updates of a merge found
abbrev pub merged_line : ItemCounts → Reply
merged_line counts = reply.Merged counts.stored counts.replaced counts.removed counts.absent

-- the line with which a merge into an open store ends
abbrev pub line_of_merge : Result Merged LoadFault → Option Reply
line_of_merge (Ok merged) = Some (merged_line (counts_by merged))
line_of_merge (Err fault) = line_of_load (Err fault)

-- the updates of the text were made: with 0 the line was said whole, with 6 it wasn't
abbrev pub IsMergeDone : ℕ → Type 0
IsMergeDone status = (status ≡ DONE) ⊎ (status ≡ REPLY_FAULT)

-- the status with which the job ends then
abbrev pub EndsMerge : Result Merged LoadFault → ℕ → Type 0
EndsMerge (Ok merged) status = IsMergeDone status
EndsMerge (Err fault) status = status ≡ status_of_load (Err fault)

-- where the source tells it, all that it has left is a merge text with these updates, in the slot format of a store of this
-- layout, and this map has no more records after them than the store may hold
abbrev pub HasEdits : Layout → Map → SourceView → List Update → Type 0
HasEdits l m s edits = SourceTold s → IsMergeText l.format (raw_lines s.left) edits
    × (len (map_after_edits m edits) ≤ most_records l)

-- the image has this layout, and means this map after all updates of the text, which found that much, at the least height that
-- holds its records
pub record MeansMerged (l : Layout) (m : Map) (s : SourceView) (found : ItemCounts) (image : List ℕ) : Type 0 where
  pub edits : List Update
  pub text : HasEdits l m s edits
  pub found_is : found ≡ count_edits m edits
  pub means : Means l image (map_after_edits m edits)
  pub least : IsLeastHeight (len (map_after_edits m edits)) means.height

-- The new image has the layout of the old one, and means each map that it does, and of what was said it is at most a refusal;
-- or the map after all updates of the text, and of what was said it is the line with what they found.
abbrev pub MayMerge : SourceView → (Reply → Type 0) → List ℕ → List ℕ → Type 0
MayMerge s IsSaid old new = (m : Map) → Means (layout_in old) old m →
    (Means (layout_in old) new m × ((line : Reply) × IsRefusal line × IsSaid line))
    ⊎ ((found : ItemCounts) × MeansMerged (layout_in old) m s found new × IsSaid (merged_line found))

-- a front of a line, none of it maybe, was said behind what was said before
abbrev pub BeginsLine : List ℕ → List ℕ → Reply → Type 0
BeginsLine said_before said line = SaidFront (reply_text line) said_before said

-- A text was merged into a store of this layout that meant this map: the file means the map after all its updates, which found
-- that much, its array is the spread of the records over the segments of the least height that holds them, every window within
-- its bounds, and no items of an intent wait.
pub record IsFileMerged (l : Layout) (m : Map) (s : SourceView) (found : ItemCounts) (new : List ℕ) : Type 0 where
  pub text : MeansMerged l m s found new
  pub no_intent : has_waiting new ≡ false
  pub array : array_of new ≡ spread_over (2 ^ text.means.height) (entries (map_after_edits m text.edits))
  pub balanced : IsBalancedArray text.means.height (array_of new)

-- a text was merged so into the store of a file, and of what was said it is the line with what its updates found
abbrev pub IsMerged : SourceView → (Reply → Type 0) → List ℕ → List ℕ → Type 0
IsMerged s IsSaid old new = (opening_reason old ≡ None) × ((found : ItemCounts)
    × IsFileMerged (layout_in old) (meant_map old) s found new × IsSaid (merged_line found))

-- the source was read to its end, and gave a merge text of fewer bytes than may be taken
pub record IsMergeWhole (most : ℕ) (s0 s1 : SourceView) : Type 0 where
  pub format : ℕ
  pub edits : List Update
  pub text : IsMergeText format (raw_lines s0.left) edits
  pub all : s1.left ≡ []
  pub short : length s0.left < most

-- Line n is refused by a store that may hold that many records, beside this map: it is the first that no merge text can have
-- there, or one more than there are, where the lines end before the one with the number of updates; and up to the key of the
-- last update before it no more records result than that.
pub record IsUpdateRefusedAt (format most : ℕ) (m : Map) (lines : List (List ℕ)) (n : ℕ) : Type 0 where
  pub why : IsFirstUnmerged format lines n ⊎ (IsMergeUnfinished format lines × (n ≡ length lines + 1))
  pub few : length (front_rows (edits_in format (take (n - 1) lines)) (entries m)) ≤ most

-- more records result than that many: some merge text begins with a front of the lines, up to the key of whose last update more
-- result, whatever lines follow; or they are a merge text, after which this map has more
abbrev pub ResultsInMore : ℕ → ℕ → Map → List (List ℕ) → Type 0
ResultsInMore format most m lines = IsMergedFull format most m lines
    ⊎ ((edits : List Update) × IsMergeText format lines edits × (most < len (map_after_edits m edits)))

-- these lines make no refusal due in a store that may hold that many records, beside this map: some merge text begins with
-- them, and up to the key of their last update no more records result
pub record MayMergeOn (format most : ℕ) (m : Map) (lines : List (List ℕ)) : Type 0 where
  pub begins : BeginsMerge format lines
  pub few : length (front_rows (edits_in format lines) (entries m)) ≤ most

-- the complete lines among the bytes that were taken make no refusal due in a store of this layout with this map
pub record IsMergeCutEarly (l : Layout) (m : Map) (s0 s1 : SourceView) : Type 0 where
  pub taken : List ℕ
  pub is : s0.left ≡ taken ++ s1.left
  pub lines : MayMergeOn l.format (most_records l) m (complete_lines taken)

-- a text isn't merged into a store of this layout with this map, and this line says why, where the source tells its bytes: a
-- line of it is wrong, or more records result than the store may hold
abbrev pub AnswersMerge : Layout → Map → SourceView → Reply → Type 0
AnswersMerge l m s line = ((n : ℕ) × (line ≡ reply.LoadLine n)
    × (SourceTold s → IsUpdateRefusedAt l.format (most_records l) m (raw_lines s.left) n))
    ⊎ ((line ≡ reply.LoadFull (most_records l)) × (SourceTold s → ResultsInMore l.format (most_records l) m (raw_lines s.left)))

-- the same of the store of an image
abbrev pub IsMergeAnswer : List ℕ → SourceView → Reply → Type 0
IsMergeAnswer old s line = AnswersMerge (layout_in old) (meant_map old) s line

-- why a merge is refused: the first reason against the file, or that answer
abbrev pub IsMergeRefusal : List ℕ → SourceView → Reply → Type 0
IsMergeRefusal old s line = ((r : Reason) × (opening_reason old ≡ Some r) × (line ≡ reply.NotStore r))
    ⊎ ((opening_reason old ≡ None) × IsMergeAnswer old s line)

-- A merge was refused.
pub record IsMergeRefused (s : SourceView) (a b : View) : Type 0 where
  -- One line is said: whole, or a front of it if a saying failed.
  pub line : SaidTold a → (line : Reply) × IsRefusal line × SaysLine line a.said a b
  -- Over a station that tells its bytes the line tells the first reason against the file; or of a valid store the first line
  -- that no merge text can have there, or one more than there are, if the text ends before the line with the number of updates;
  -- or that more records result than the store may hold, and how many it may.
  pub why : Told a → (line : Reply) × IsMergeRefusal a.held s line × (SaidTold a → SaysLine line a.said a b)
  -- A file that is no store recovers to what it recovered to; and if no page is to be replayed over its region (below version
  -- 4: if its gate is even), every byte stays. But an odd clean gate may be closed besides, from version 3 on.
  pub recovers : Told a → (r : Reason) → opening_reason a.held ≡ Some r →
      IsButClosed a.held (recovered (layout_in a.held) a.held) (recovered (layout_in a.held) b.held)
  pub bare : Told a → (r : Reason) → opening_reason a.held ≡ Some r → IsBare (layout_in a.held) a.held →
      IsButClosed a.held a.held b.held

-- the bytes that a merge reads of a store of this layout and height, in the most segments that may be packed
abbrev pub merge_reads : Layout → ℕ → ℕ
merge_reads l height = segment_size l * 2 ^ height + segment_size l * used_by (most_records l)

-- the calls of a merge into an open store of this layout and height: one for each live segment, those of a load of the most
-- records, and one for each byte of a line
abbrev pub merge_calls : Layout → ℕ → ℕ
merge_calls l height = 2 ^ height + load_calls l (most_records l) (2 ^ height_limit l) + 512

-- of what was said the line is all, with 0, and a part, with 6
pub record SaysMerged (status : ℕ) (said_before said : List ℕ) (line : Reply) : Type 0 where
  pub done : status ≡ DONE → said ≡ said_before ++ reply_text line
  pub cut : status ≡ REPLY_FAULT → IsPartSaid (reply_text line) said_before said

-- the source gave a merge text, whose updates a line counts once each, and those that bind a key as stored or replaced; and this
-- line was said
pub record CountsMerged (status : ℕ) (s : SourceView) (said_before said : List ℕ) : Type 0 where
  pub format : ℕ
  pub found : ItemCounts
  pub text : CountsText format (raw_lines s.left) found
  pub line : SaysMerged status said_before said (merged_line found)

-- `merge`, of whose text at most that many bytes are taken
pub record MergesFile (status most : ℕ) (s0 s1 : SourceView) (a b : View) : Type 0 where
  -- Of a valid store: if nothing is pending at the entry, a crash at any moment leaves a file that has the layout of the one at
  -- the entry and means its map, and at most a refusal is begun; or the map after all updates of the whole text, at the least
  -- height that holds it, and at most the line with what they found is begun. And so do the held bytes at the return, whatever
  -- the status.
  pub steps : NothingPending a → Run (λ image said. MayMerge s0 (BeginsLine a.said said) a.held image) (attached_by false a) b
  pub held : Told a → MayMerge s0 (λ line. SaidTold a → BeginsLine a.said b.said line) a.held b.held
  -- It ends with 0 and 6 only for a valid store, and for a merge text of fewer than `most` bytes that was read to its end. Then
  -- the file has the layout of before and means its map after all updates of the text, at the least height that holds it; the
  -- records are spread over the segments of that height, every window is within its bounds, no intent is to be
  -- applied, and nothing is pending. With 0 the line with what the updates found was said, and with 6 one byte of it or more
  -- was not.
  pub done : status ≡ DONE → Told a → IsMerged s0 (λ line. SaidTold a → b.said ≡ a.said ++ reply_text line) a.held b.held
  pub cut : status ≡ REPLY_FAULT → Told a →
      IsMerged s0 (λ line. SaidTold a → IsPartSaid (reply_text line) a.said b.said) a.held b.held
  pub whole : IsMergeDone status → SourceTold s0 → IsMergeWhole most s0 s1
  pub settled : IsMergeDone status → NothingPending b
  -- With 0 and 6 the line counts the updates of the text, as `CountsMerged` says, whatever the station tells of its file.
  pub counted : IsMergeDone status → SourceTold s0 → SaidTold a → CountsMerged status s0 a.said b.said
  -- With 0, 5, 6 and 8 a file of version 3 or 4 has an even clean gate.
  pub shut : IsRest status ⊎ (status ≡ REPLY_FAULT) → Told a → IsShut b.held
  -- With 3, 5, 7 and 8, of a valid store with nothing pending at the entry: the held bytes, and each image that a crash leaves
  -- then, have the layout of the file at the entry and mean its map.
  pub kept : (IsMergeDone status → ⊥) → (status ≡ DISK_FAULT → ⊥) → NothingPending a → EachHeld (KeepsMeaning a.held) b
  -- With every status but 0, 3 and 6 nothing is said.
  pub silent : (IsMergeDone status → ⊥) → (status ≡ REFUSED → ⊥) → b.said ≡ a.said
  -- With 3 it is refused, as `IsMergeRefusal` says.
  pub refused : status ≡ REFUSED → IsMergeRefused s0 a b
  -- With 7 it is as `IsOutOfMemory` says.
  pub memory : status ≡ OUT_OF_MEMORY → IsOutOfMemory (attached_by false a) b
  -- At every status what was taken is a front of what was left, of at most `most` bytes; with 8 of exactly as many.
  pub takes : SourceTold s0 → TakesAtMost most s0 s1
  pub too_long : status ≡ TOO_LONG → SourceTold s0 → length s0.left ≡ length s1.left + most
  -- With 5 and 8 the complete lines among the bytes that were taken make no refusal due: some merge text begins with them, and up
  -- to the key of their last update no more records result than the store may hold.
  pub early : IsCutText status → SourceTold s0 → Told a → IsMergeCutEarly (layout_in a.held) (meant_map a.held) s0 s1
  -- A valid store, if the counts of disk faults and of failed sayings didn't rise, ends with 0 or 7; or with 3 and an answer that
  -- is due; or with 5 or 8.
  pub complete : Told a → (m : Map) → Means (layout_in a.held) a.held m → (Rose a.disk_faults b.disk_faults → ⊥) →
      (Rose a.say_faults b.say_faults → ⊥) → (status ≡ DONE) ⊎ ((status ≡ OUT_OF_MEMORY)
      ⊎ (((status ≡ REFUSED) × ((line : Reply) × IsMergeAnswer a.held s0 line)) ⊎ IsCutText status))
  -- A merge text of fewer than `most` bytes after which the map of a valid store has no more records than it may hold ends with 0
  -- or 7, if no count of faults rose, the station's two and the source's.
  pub admitted : SourceTold s0 → Told a → (m : Map) → Means (layout_in a.held) a.held m →
      (edits : List Update) → HasEdits (layout_in a.held) m s0 edits → length s0.left < most →
      (Rose a.disk_faults b.disk_faults → ⊥) → (Rose a.say_faults b.say_faults → ⊥) → (SourceRose s0 s1 → ⊥) →
      (status ≡ DONE) ⊎ (status ≡ OUT_OF_MEMORY)
  -- With 0 and 6 no more is written than an opening may, and `8192 * F * 2^h + 9` bytes, at version 4 5 more, with F pages a
  -- segment and h the height after it; at every status no more than with the greatest height in place of h.
  pub written : IsMergeDone status → Told a → b.travel.written ≤ a.travel.written
      + (reopening_cost a.held + load_cost (layout_in a.held) (height_of b.held))
  pub most_written : Told a → b.travel.written ≤ a.travel.written
      + (reopening_cost a.held + load_cost (layout_in a.held) (height_limit (layout_in a.held)))
  -- Over a file to which nothing is to be done, whatever the status, no more is read than the opening reads, the header page once
  -- more, each segment once more, and each segment that was packed.
  pub read : Told a → IsAllAtRest a.held → b.travel.read ≤ a.travel.read
      + (page_size + opening_reads a.held + merge_reads (layout_in a.held) (opened_height a.held))
  -- Whatever the status, it makes no more calls than an opening may, those of a load of the most records that the store may hold,
  -- at version 4 four more, one for each segment of the opened store, and 512; besides the calls of the items of an intent.
  pub calls : Told a → CallsOpening (reopening_calls a.held + (clear_calls (layout_in a.held)
      + merge_calls (layout_in a.held) (opened_height a.held))) (attached_by false a) b

-- the outcome of a merge into an open store of this layout and height, on whose station nothing is pending, where that many
-- bytes may be written and that many calls be made before the text is read; its file has no intent that is to be applied
pub record MergesOpened (status most : ℕ) (l : Layout) (height before asked : ℕ) (s0 s1 : SourceView) (a b : View) : Type 0 where
  pub status_is : (IsRest status ⊎ (status ≡ REPLY_FAULT)) ⊎ ((status ≡ REFUSED) ⊎ (status ≡ DISK_FAULT))
  pub run : Run (λ image said. MayMerge s0 (BeginsLine a.said said) a.held image) a b
  pub held : Told a → MayMerge s0 (λ line. SaidTold a → BeginsLine a.said b.said line) a.held b.held
  pub merged : IsMergeDone status → Told a → (found : ItemCounts) × IsFileMerged l (map_of a.held) s0 found b.held
      × (SaidTold a → SaysMerged status a.said b.said (merged_line found))
  pub whole : IsMergeDone status → SourceTold s0 → IsMergeWhole most s0 s1
  pub counted : IsMergeDone status → SourceTold s0 → SaidTold a → CountsMerged status s0 a.said b.said
  pub settled : IsMergeDone status → NothingPending b
  pub kept : (IsMergeDone status → ⊥) → (status ≡ DISK_FAULT → ⊥) → EachHeld (KeepsMeaning a.held) b
  pub silent : (IsMergeDone status → ⊥) → (status ≡ REFUSED → ⊥) → b.said ≡ a.said
  pub line : status ≡ REFUSED → SaidTold a → (line : Reply) × IsRefusal line × SaysLine line a.said a b
  pub why : status ≡ REFUSED → Told a →
      (line : Reply) × AnswersMerge l (map_of a.held) s0 line × (SaidTold a → SaysLine line a.said a b)
  pub takes : SourceTold s0 → TakesAtMost most s0 s1
  pub too_long : status ≡ TOO_LONG → SourceTold s0 → length s0.left ≡ length s1.left + most
  pub early : IsCutText status → SourceTold s0 → Told a → IsMergeCutEarly l (map_of a.held) s0 s1
  pub admitted : SourceTold s0 → Told a → (edits : List Update) → HasEdits l (map_of a.held) s0 edits → length s0.left < most →
      (Rose a.disk_faults b.disk_faults → ⊥) → (Rose a.say_faults b.say_faults → ⊥) → (SourceRose s0 s1 → ⊥) → status ≡ DONE
  pub written : IsMergeDone status → Told a → b.travel.written ≤ a.travel.written + (before + text_cost l (height_of b.held))
  pub most_written : b.travel.written ≤ a.travel.written + (before + text_cost l (height_limit l))
  pub read : b.travel.read ≤ a.travel.read + merge_reads l height
  pub calls : b.calls ≤ a.calls + (asked + merge_calls l height)
  pub disk : status ≡ DISK_FAULT → Rose a.disk_faults b.disk_faults
  pub script : status ≡ SCRIPT_FAULT → SourceRose s0 s1
  pub reply : status ≡ REPLY_FAULT → Rose a.say_faults b.say_faults
